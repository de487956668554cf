-- The lines of a job's placements, written one by one. Assumes nothing.
use Rattle.std.proofs.Common.{◌≡◌, ℕ, ◌+◌, ◌<◌, ◌≤◌, Bool, true, false, cond, ltb, List, [], ◌++◌, length, get_or, take, codes, None, Option, sym, refl, ap, ◌∙◌, subst, ap₂, inl, inr, arith}
use Rattle.std.proofs.lemmas.List.{get_or_past, take_all}
use Rattle.std.proofs.lemmas.Bool.{cases_lt, lt-ltb, le-ltb}
use Rattle.jobs.specs.Form.{JobForm, JobLawful}
use Rattle.plans.specs.declared.plan.Plan.{Plan}
use Rattle.text.specs.declared.Text.{Text}
use Rattle.text.specs.Put.{Wrote}
use Rattle.listings.specs.Text.{line, lines, listing_text, Writes}
use Rattle.listings.specs.Suited.{Suited}
use Rattle.listings.specs.JobText.{Listed, WritesListing}
use Rattle.listings.proofs.Writing.{wrote_nothing, then, then_wrote, unfit, writes_same, line_short, lines_more, listing_front, listing_length}
use Rattle.listings.proofs.Going.{all, all_lists, At}

-- the first k placements are written, and the search stands at the next
pub record Written (j : JobForm) (before : Text) (k : ℕ) (more : Bool) (text : Text) (bays : List ℕ) (plan : Plan) : Type 0 where
  pub stands : At j k more bays plan
  pub wrote : Wrote (lines (take k (all j))) before text

pub written_none : {j : JobForm} {before : Text} {more : Bool} {bays : List ℕ} {plan : Plan} → At j 0 more bays plan → Written j before 0 more before bays plan
written_none a = record { stands = a; wrote = wrote_nothing _ }

module _ {j : JobForm} {before : Text} {k : ℕ} {more : Bool} {text : Text} {bays : List ℕ} {plan : Plan} (g : Written j before k more text bays plan) where
  -- the line of the placement that the search stands at
  one_more : more ≡ true → lines (take k (all j)) ++ line (take (length j.struck.rows) bays) ≡ lines (take (k + 1) (all j))
  one_more t = ap (λ b. lines (take k (all j)) ++ line b) (g.stands.here t) ∙ sym (lines_more (all j) k (g.stands.listed t))

  pub written_more : {text' : Text} {bays' : List ℕ} {more' : Bool} {plan' : Plan} → more ≡ true
      → Wrote (line (take (length j.struck.rows) bays)) text text' → At j (k + 1) more' bays' plan' → Written j before (k + 1) more' text' bays' plan'
  written_more {text'} t w a = record { stands = a; wrote = subst (λ (x : List ℕ). Wrote x before text') (one_more t) (then_wrote g.wrote w) }

  -- a line that does not fit
  pub written_unfit : {text' : Text} → more ≡ true → k < 20 → Writes (line (take (length j.struck.rows) bays)) text text' None → WritesListing j before text' None
  written_unfit t h w =
      record {
        text = listing_text (all j);
        listed = record { all = all j; lists = all_lists j; is = refl };
        writes = unfit (listing_front (all j) (k + 1) (omega arith)) (writes_same (one_more t) (then g.wrote None w));
      }

  -- no further placement, or twenty written
  pub written_all : {text' : Text} {r : Option (Unit {0})} → k ≤ 20 → (more ≡ true → 20 ≤ k) → Writes (cond more (codes "more\n") (codes "end\n")) text text' r → WritesListing j before text' r
  written_all {text'} {r} few full w = by more refl
    where
      front : 20 ≤ k → take k (all j) ≡ take 20 (all j)
      front l = ap (λ n. take n (all j)) (let z : k ≡ 20 = omega arith in z)

      whole : length (all j) ≤ k → take k (all j) ≡ take 20 (all j)
      whole l = take_all k (all j) l ∙ sym (take_all 20 (all j) (omega arith))

      ends : take k (all j) ≡ take 20 (all j) → more ≡ ltb 20 (length (all j)) → WritesListing j before text' r
      ends f t =
          record {
            text = listing_text (all j);
            listed = record { all = all j; lists = all_lists j; is = refl };
            writes = writes_same (ap₂ (λ ws b. lines ws ++ cond b (codes "more\n") (codes "end\n")) f t) (then g.wrote _ w);
          }

      by : (b : Bool) → more ≡ b → WritesListing j before text' r
      by true t = ends (front (full t)) (t ∙ sym (lt-ltb 20 (length (all j)) (omega (arith, g.stands.listed t, full t))))
      by false f = ends (whole (g.stands.past f)) (f ∙ sym (le-ltb 20 (length (all j)) (omega (arith, g.stands.past f))))

-- ---- how long the text of a job is

-- a placement has as many bays as the plan has units, all below 64
module _ (j : JobForm) (law : JobLawful j) where
  few_bays : (w : List ℕ) → Suited j w → length w ≤ 24
  few_bays w h = omega (arith, h.placed.whole, law.struck.units_same, law.struck.plan.few_units)

  low_bays : (w : List ℕ) → Suited j w → (u : ℕ) → get_or w u 0 < 100
  low_bays w h u =
      elim (cases_lt u (length j.arrangement.rows)) [
        | inl l ↦ omega (arith, h.placed.on_bays u l, law.struck.bays_same, law.struck.plan.table.few_columns)
        | inr g ↦ subst (λ (x : ℕ). x < 100) (sym (get_or_past w u 0 (omega (arith, h.placed.whole)))) (omega arith)
      ]

  pub listing_short : (text : List ℕ) → Listed j text → length text ≤ 1536
  listing_short text h = omega (arith, ap length h.is, listing_length h.all short)
    where
      short : (i : ℕ) → i < length h.all → length (line (get_or h.all i [])) ≤ 73
      short i l = line_short (get_or h.all i []) (low_bays (get_or h.all i []) (h.lists.sound i l)) (few_bays (get_or h.all i []) (h.lists.sound i l))
