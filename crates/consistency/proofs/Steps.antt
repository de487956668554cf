-- What the turns of the sweep keep. Assumes nothing.
use Rattle.std.proofs.Common.{◌≡◌, ℕ, zero, suc, ◌+◌, ◌<◌, ◌≤◌, Bool, true, List, [], ◌∷◌, length, get_or, set, replicate, sym, refl, ap, ◌∙◌, subst, inl, inr, arith}
use lib.Count.{ones}
use lib.ListN.{length-replicate, get_or-replicate}
use Rattle.std.proofs.lemmas.List.{get_or_past}
use Rattle.std.proofs.lemmas.Bool.{both_ways, cases_lt, cases_eq}
use Rattle.graphs.specs.Rows.{bit}
use Rattle.graphs.specs.Graph.{Graph}
use Rattle.graphs.proofs.Bits.{bit_none}
use Rattle.filters.specs.Filter.{shaped, pair_count, Inside}
use Rattle.filters.specs.Counting.{pair_count_mono}
use Rattle.filters.specs.Shapes.{shape_of}
use Rattle.consistency.specs.Cut.{SomeEmpty}
use Rattle.consistency.specs.Support.{Supported, Greatest}

pub pair_count_set : (xs : List ℕ) (i x : ℕ) → i < length xs → pair_count (set xs i x) + ones (get_or xs i 0) ≡ pair_count xs + ones x
pair_count_set [] i x l = absurd (omega arith)
pair_count_set (y ∷ ys) zero x l = omega arith
pair_count_set (y ∷ ys) (suc i) x l = let h = pair_count_set ys i x (omega arith) in omega arith

get_or_none : (n u : ℕ) → ◌≡◌ {A = ℕ} (get_or (replicate n 0) u 0) 0
get_or_none n u =
    elim (cases_lt u n) [
      | inl l ↦ get_or-replicate n u 0 0 l
      | inr l ↦ get_or_past (replicate n 0) u 0 (omega (arith, length-replicate {A = ℕ} n 0))
    ]

-- From some rows to others: only pairs that no supported rows hold were taken away
pub record Thinned (a r : Graph) (k : Bool) (from to : List ℕ) : Type 0 where
  pub shape : shaped a r to ≡ true
  pub many : length to ≡ length from
  pub inside : Inside to from
  pub most : (other : List ℕ) → Supported a r k other → Inside other from → Inside other to

module _ (a r : Graph) (k : Bool) where
  pub thin_none : (xs : List ℕ) → shaped a r xs ≡ true → Thinned a r k xs xs
  thin_none xs e = record { shape = e; many = refl; inside = λ u b t. t; most = λ o s i. i }

  pub thin_both : (xs ys zs : List ℕ) → Thinned a r k xs ys → Thinned a r k ys zs → Thinned a r k xs zs
  thin_both xs ys zs h i = record {
    shape = i.shape;
    many = i.many ∙ h.many;
    inside = λ u b t. h.inside u b (i.inside u b t);
    most = λ o s w. i.most o s (h.most o s w);
  }

  pub thin_fewer : (xs ys : List ℕ) → Thinned a r k xs ys → pair_count ys ≤ pair_count xs
  thin_fewer xs ys h = pair_count_mono ys xs h.many h.inside

  -- where a row is empty, no supported rows hold a pair
  pub none_left : (shown zs : List ℕ) (u : ℕ) → shaped a r shown ≡ true → Thinned a r k shown zs → u < a.count → get_or zs u 0 ≡ 0
      → Greatest a r k shown (replicate (length zs) 0)
  none_left shown zs u s t lu e =
      let N : List ℕ = replicate (length zs) 0 in
      let none : (w b : ℕ) → bit (get_or N w 0) b ≡ true → ⊥ = λ w b o. both_ways (bit (get_or N w 0) b) (ap (λ (c : ℕ). bit c b) (get_or_none (length zs) w) ∙ bit_none b) o in
      let empty : (b : ℕ) → bit (get_or zs u 0) b ≡ true → ⊥ = λ b o. both_ways (bit (get_or zs u 0) b) (ap (λ (c : ℕ). bit c b) e ∙ bit_none b) o in
      record {
        as_many = length-replicate {A = ℕ} (length zs) 0 ∙ t.many;
        inside = λ w b o. absurd (none w b o);
        supported = λ w v lw lv ne b o. absurd (none w b o);
        most = λ other i h w b o. absurd (
            elim (cases_eq w u) [
              | inl j ↦ empty b (t.most other h i u b (subst (λ (c : ℕ). bit (get_or other c 0) b ≡ true) j o))
              | inr nj ↦
                  let g = h w u ((shape_of a r shown s).unit w b (i w b o)) lu nj b o in
                  empty g.bay (t.most other h i u g.bay g.held)
            ]);
      }

  -- left at an empty row, and all rows cleared
  pub cleared : (shown zs last : List ℕ) → shaped a r shown ≡ true → Thinned a r k shown zs → SomeEmpty zs
      → last ≡ replicate (length zs) 0 → Greatest a r k shown last
  cleared shown zs last s t e la =
      subst (Greatest a r k shown) (sym la)
      (none_left shown zs e.unit s t (omega (arith, (shape_of a r shown s).many, t.many, e.below)) e.empty)
