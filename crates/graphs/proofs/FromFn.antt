-- What `array::from_fn` makes where its closure changes nothing. Assumes nothing.
use Rattle.std.proofs.Common.{◌≡◌, ℕ, zero, suc, ◌+◌, ◌<◌, ◌≤◌, List, get_or, ◌∙◌, subst, inl, inr, arith}
use denote.Param.Members.{Mut}
use Rattle.std.specs.Fn.{Called}
use Rattle.std.specs.Array.{IsFromFnResult, IsFromFnResultFrom}
use Rattle.std.proofs.lemmas.Bool.{cases_eq}

module _ {F : Type 0} (g : Mut F (ℕ × Unit {0}) ℕ) (f : F) (row : ℕ → ℕ)
    (says : (i y : ℕ) (q : F) → Called g f (i, tt) y q → (q ≡ f) × (y ≡ row i)) where
  made_from : (ys : List ℕ) (n j i : ℕ) → IsFromFnResultFrom g f ys j n → j ≤ i → i < j + n → get_or ys i 0 ≡ row i
  made_from ys zero j i h l u = absurd (omega arith)
  made_from ys (suc n) j i (q, y, at, called, later) l u =
      let said = says j y q called in
      elim (cases_eq j i) [
        | inl z ↦ subst (λ (k : ℕ). get_or ys k 0 ≡ row k) z (at.1 0 ∙ said.1)
        | inr z ↦ made_from ys n (j + 1) i (subst (λ (p : F). IsFromFnResultFrom g p ys (j + 1) n) said.0 later) (omega arith) (omega arith)
      ]

  pub made_by : (ys : List ℕ) (n : ℕ) → IsFromFnResult g f ys n → (i : ℕ) → i < n → get_or ys i 0 ≡ row i
  made_by ys n h i l = made_from ys n 0 i h.each (omega arith) (omega arith)
