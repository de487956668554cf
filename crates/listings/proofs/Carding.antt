-- Arrays of cards, made by calls of a closure. Assumes nothing.
use Rattle.std.proofs.Common.{◌≡◌, ℕ, zero, suc, ◌+◌, ◌<◌, ◌≤◌, List, map, length, get_or, take, slice_index_or, sym, ◌∙◌, subst, inl, inr, arith}
use Rattle.std.proofs.lemmas.Bool.{cases_lt}
use Rattle.std.proofs.lemmas.List.{same_lists, get_or-take, get_or-map, length-map, length-take-le}
use Rattle.std.specs.Fn.{Called}
use Rattle.std.specs.Array.{IsFromFnResult, IsFromFnResultFrom}
use denote.Param.Members.{Mut}

-- a call of a closure that keeps what it captures and answers the card of a number
abbrev pub Cards : {F C : Type 0} → Mut F (ℕ × Unit {0}) C → F → (ℕ → C) → List ℕ → Type 0
Cards {F} {C} g f card numbers = (i : ℕ) (y : C) (q : F) → Called g f (i, tt) y q → (i < length numbers → y ≡ card (get_or numbers i 0)) × (q ≡ f)

module _ {F C : Type 0} {g : Mut F (ℕ × Unit {0}) C} {f : F} where
  each : (card : ℕ → C) (numbers : List ℕ) → Cards g f card numbers → (ys : List C) (i n : ℕ) → IsFromFnResultFrom g f ys i n
      → (k : ℕ) (e : C) → i ≤ k → k < i + n → k < length numbers → slice_index_or ys k e ≡ card (get_or numbers k 0)
  each card numbers call ys i zero r k e l h m = absurd (omega arith)
  each card numbers call ys i (suc n) r k e l h m =
      let c = call i r.1 r.0 r.3 in
      elim (cases_lt i k) [
        | inl less ↦ each card numbers call ys (i + 1) n (subst (λ (q : F). IsFromFnResultFrom g q ys (i + 1) n) c.1 r.4) k e (omega arith) (omega arith) m
        | inr here ↦
            let same : i ≡ k = omega arith in
            subst (λ (j : ℕ). slice_index_or ys j e ≡ card (get_or numbers j 0)) same (r.2.1 e ∙ c.0 (omega arith))
      ]

  pub carded : (ys : List C) → IsFromFnResult g f ys 64 → (card : ℕ → C) (numbers : List ℕ) → length numbers ≤ 64 → Cards g f card numbers → take (length numbers) ys ≡ map card numbers
  carded ys r card numbers few call =
      let long : length (take (length numbers) ys) ≡ length numbers = length-take-le _ ys (omega (arith, r.long)) in
      same_lists _ _ (long ∙ sym (length-map numbers card))
      (λ k d h.
      let m : k < length numbers = omega (arith, long) in
      get_or-take (length numbers) ys k d (omega arith) ∙ each card numbers call ys 0 64 r.each k d (omega arith) (omega arith) m ∙ sym (get_or-map card numbers k 0 d m))
