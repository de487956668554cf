-- Every run goes on with every call. Assumes nothing.
use Rattle.std.proofs.Common.{◌≡◌, ℕ, ◌<◌, ◌≤◌, not, List, [], length, get_or, Some, None, Option, sym, refl, ap, ◌∙◌, inl, inr, arith, take_all, pow_pos}
use mathlib.Core.Bool.{false≢true}
use Rattle.std.proofs.lemmas.List.{get_or_past, length-take}
use Rattle.refusals.specs.declared.Reason.TheVariants as R
use Rattle.graphs.specs.Rows.{Pairs, pairs, rows_of}
use Rattle.graphs.proofs.PairSets.{rows_length, rows_low, pairs_back, none_past, none_beyond}
use Rattle.placements.specs.Order.{Answers}
use Rattle.tables.specs.Shape.{Inside, Blank}
use Rattle.search.specs.Walk.{Setting}
use Rattle.ledgers.specs.Calls.{Call, begin, «open», strike, free, fit, fit_further, seek, further, what_if, tally, save, Answer, done, number, found, yes, none, refused, buffer_of}
use Rattle.ledgers.specs.Wanted.{Wanted, held_to, wanted}
use Rattle.ledgers.specs.Ledger.{Ledger, Fitting, unfitted, fits, Verdict, accepted, declined, verdict, made, with_find, open_pairs, find_in, form_of}
use Rattle.ledgers.specs.Answered.{over, how_many, tries_in, Open, Finds, Answered}
use Rattle.ledgers.specs.Ranged.{Ranged}
use Rattle.placements.specs.Listing.{find}
use Rattle.ledgers.proofs.Finding.{find_wanted, wanted_in, wanted_of}
use Rattle.ledgers.proofs.Verdicts.{keeps_rule, pair_in, rooms_match, arrangements_match}
use Rattle.ledgers.proofs.Good.{FitsIn, AnswersIn, Good, Readable, good_made}
use Rattle.plans.specs.Bounds.{Low, numbers_in}
use Rattle.plans.specs.Step.{fitting, shortened, view, turn, Step, Shows}
use Rattle.plans.specs.declared.plan.Plan.{Plan}
use Rattle.plans.proofs.Steps.{declined_step, accepted_step, done_step, same_self, of, low_take}

-- ---- what a plan holds is a good ledger

good_view : (p : Plan) → Good (view p)
good_view p =
    record {
      ranged = record {
        some_units = p.some_units;
        few_units = p.few_units;
        some_bays = p.some_bays;
        few_bays = p.few_bays;
        units = none_past p.units p.struck p.blank;
        bays = none_beyond p.bays p.struck p.inside;
      };
      fitted = fit_in p.fitted p.fitted_inside p.fitted_blank;
      last = last_in p.last p.last_low;
    }
  where
    fit_in : (o : Option (List ℕ)) → Inside p.bays (numbers_in o) → Blank p.units (numbers_in o) → FitsIn p.units p.bays (fitting o)
    fit_in None low blank = tt
    fit_in (Some rows) low blank = (none_past p.units rows blank, none_beyond p.bays rows low)

    last_in : (o : Option (List ℕ)) → Low p.bays (numbers_in o) → AnswersIn p.units p.bays (shortened p.units o)
    last_in None low = tt
    last_in (Some w) low = (let s = length-take p.units w in omega arith, low_take p.units p.bays w p.some_bays low)

-- ---- a plan that holds a given ledger

make : (m n : ℕ) (s : Pairs) (f : Fitting) (o : Option (List ℕ)) → Ranged m n s → FitsIn m n f → AnswersIn m n o → (q : Plan) × (view q ≡ of m n s f o)
make m n s f o r fi an = (plan, λ i. of m n (strikes i) (fit_is f fi i) (last_is o an i))
  where
    table_of : Fitting → Option (List ℕ)
    table_of unfitted = None
    table_of (fits g) = Some (rows_of m n g)

    strikes : pairs (rows_of m n s) ≡ s
    strikes = pairs_back m n s r.units r.bays

    fit_is : (f : Fitting) → FitsIn m n f → fitting (table_of f) ≡ f
    fit_is unfitted x = refl
    fit_is (fits g) x = ap fits (pairs_back m n g x.0 x.1)

    last_is : (o : Option (List ℕ)) → AnswersIn m n o → shortened m o ≡ o
    last_is None x = refl
    last_is (Some w) x = ap Some (take_all m w x.0)

    past : (s : Pairs) (u : ℕ) → m ≤ u → get_or (rows_of m n s) u 0 ≡ 0
    past s u le = get_or_past (rows_of m n s) u 0 (let e = rows_length m n s in omega arith)

    table_low : (f : Fitting) → Inside n (numbers_in (table_of f))
    table_low unfitted u = pow_pos n
    table_low (fits g) u = rows_low m n g u

    table_blank : (f : Fitting) → Blank m (numbers_in (table_of f))
    table_blank unfitted u le = refl
    table_blank (fits g) u le = past g u le

    last_low : (o : Option (List ℕ)) → AnswersIn m n o → Low n (numbers_in o)
    last_low None x u = r.some_bays
    last_low (Some w) x u = x.1 u

    last_blank : (o : Option (List ℕ)) → AnswersIn m n o → Blank m (numbers_in o)
    last_blank None x u le = refl
    last_blank (Some w) x u le = get_or_past w u 0 (let e = x.0 in omega arith)

    plan : Plan
    plan = record {
      units = m;
      bays = n;
      struck = rows_of m n s;
      fitted = table_of f;
      last = o;
      some_units = r.some_units;
      few_units = r.few_units;
      some_bays = r.some_bays;
      few_bays = r.few_bays;
      inside = rows_low m n s;
      blank = past s;
      fitted_inside = table_low f;
      fitted_blank = table_blank f;
      last_low = last_low o an;
      last_blank = last_blank o an;
    }

plan_of : (l : Ledger) → Good l → (q : Plan) × (view q ≡ l)
plan_of l g = make l.units l.bays l.struck l.fitted l.last g.ranged g.fitted g.last

readable : (c : Call) → Shows c → Readable c
readable (begin m n) sh = tt
readable («open» bs) sh = sh
readable (strike u b) sh = tt
readable (free u b) sh = tt
readable (fit c) sh = tt
readable (fit_further c) sh = tt
readable (seek s out) sh = tt
readable (further s out) sh = tt
readable (what_if u b s) sh = tt
readable tally sh = tt
readable (save out) sh = tt

made_plan : (p : Plan) (c : Call) → Shows c → verdict (view p) c ≡ accepted → (q : Plan) × (view q ≡ made (view p) c)
made_plan p c sh v = plan_of (made (view p) c) (good_made (view p) c (good_view p) (readable c sh) v)

-- ---- a step of every call

abbrev On : Plan → Call → Type 0
On p c = (a : Answer) × (b : List ℕ) × (q : Plan) × Step p (turn c a b) q

idle_on : (p : Plan) (c : Call) (a : Answer) (b : List ℕ) → verdict (view p) c ≡ accepted → view p ≡ made (view p) c → Answered (view p) c a b → On p c
idle_on p c a b v e r = (a, b, p, accepted_step p p c a b v e r (λ _. same_self p))

doing_on : (p : Plan) (c : Call) → Shows c → verdict (view p) c ≡ accepted → Answered (view p) c done [] → On p c
doing_on p c sh v r = let q = made_plan p c sh v in (done, [], q.0, done_step p q.0 c v q.1 r)

finding_on :
    (p : Plan) (c : Call) (s : Setting) (o : Option (List ℕ)) (out : List ℕ) → Shows c → verdict (view p) c ≡ accepted → s.arrangement.count ≡ p.units → s.room.count ≡ p.bays
    → made (view p) c ≡ with_find (view p) (find_in (view p) s o) → ((a : Answer) (b : List ℕ) → Finds (view p) s o out a b → Answered (view p) c a b) → On p c
finding_on p c s o out sh v ea er em answers = go (find_in (view p) s o) refl (find_wanted s (open_pairs (view p)) o p.units p.bays ea er)
  where
    t : ℕ
    t = tries_in (view p) s (open_pairs (view p)) o

    go : (f : Option (List ℕ)) → find_in (view p) s o ≡ f → Answers (Open (view p) s o) f → On p c
    go None e x = idle_on p c (none t) out v (sym (em ∙ ap (with_find (view p)) e)) (answers (none t) out (inr (x, refl, refl)))
    go (Some w) e x =
        let q = made_plan p c sh v in
        (found t, over w out, q.0, accepted_step p q.0 c (found t) (over w out) v q.1 (answers (found t) (over w out) (inl (w, x, refl, refl))) (λ z. absurd (false≢true z)))

asking_on : (p : Plan) (u b : ℕ) (s : Setting) → verdict (view p) (what_if u b s) ≡ accepted → u < p.units → s.arrangement.count ≡ p.units → s.room.count ≡ p.bays → On p (what_if u b s)
asking_on p u b s v hu ea er = go (find p.units p.bays (wanted s (held_to r u b) None)) (find_wanted s (held_to r u b) None p.units p.bays ea er)
  where
    r : Pairs
    r = open_pairs (view p)

    t : ℕ
    t = tries_in (view p) s (held_to r u b) None

    go : (f : Option (List ℕ)) → Answers (Wanted s (held_to r u b) None) f → On p (what_if u b s)
    go None x = idle_on p (what_if u b s) (none t) [] v refl (inr (λ h. x h.0 (wanted_of s r u b h.0 h.1 h.2), refl), refl)
    go (Some w) x =
        let k = wanted_in s r u b w (let e = ea in omega arith) x.holds in
        idle_on p (what_if u b s) (yes t) [] v refl (inl ((w, k.0, k.1), refl), refl)

accepted_on : (p : Plan) (c : Call) → Shows c → verdict (view p) c ≡ accepted → On p c
accepted_on p (begin m n) sh v = doing_on p (begin m n) sh v (refl, refl)
accepted_on p («open» bs) sh v = doing_on p («open» bs) sh v (refl, refl)
accepted_on p (strike u b) sh v = doing_on p (strike u b) sh v (refl, refl)
accepted_on p (free u b) sh v = doing_on p (free u b) sh v (refl, refl)
accepted_on p (fit k) sh v = doing_on p (fit k) sh v (refl, refl)
accepted_on p (fit_further k) sh v = doing_on p (fit_further k) sh v (refl, refl)
accepted_on p (seek s out) sh v =
    let e = (keeps_rule R.OtherCount _ _ (keeps_rule R.NoFit _ _ v).1).0 in
    finding_on p (seek s out) s None out sh v (arrangements_match (view p) s e) (rooms_match (view p) s e) refl (λ a b f. f)
accepted_on p (further s out) sh v =
    let e = (keeps_rule R.OtherCount _ _ (keeps_rule R.NoFit _ _ v).1).0 in
    finding_on p (further s out) s (shortened p.units p.last) out sh v (arrangements_match (view p) s e) (rooms_match (view p) s e) refl (λ a b f. f)
accepted_on p (what_if u b s) sh v =
    let i = pair_in (view p) u b _ v in
    let e = (keeps_rule R.OtherCount _ _ (keeps_rule R.NoFit _ _ i.2).1).0 in
    asking_on p u b s v i.0 (arrangements_match (view p) s e) (rooms_match (view p) s e)
accepted_on p tally sh v = idle_on p tally (number (how_many p.units p.bays (λ u b. not (pairs p.struck u b)))) [] v refl (refl, refl)
accepted_on p (save out) sh v = idle_on p (save out) (number (length (form_of (view p)))) (over (form_of (view p)) out) v refl (refl, refl)

pub goes_on : (p : Plan) (c : Call) → Shows c → On p c
goes_on p c sh =
    let P : Verdict → Type 0 = λ v. verdict (view p) c ≡ v → On p c in
    let go : (v : Verdict) → P v = λ v. elim v as P [
      | accepted ↦ λ e. accepted_on p c sh e
      | declined x ↦ λ e. (refused x, buffer_of c, p, declined_step p c x (refused x) (buffer_of c) e refl refl)
    ] in
    go (verdict (view p) c) refl

-- what a plan holds is in range
pub plan_ranged : (p : Plan) → Ranged (view p).units (view p).bays (view p).struck
plan_ranged p = (good_view p).ranged
