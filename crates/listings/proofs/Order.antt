-- Where the first placement, and the first after another, stand in the list of all. Assumes nothing.
use Rattle.std.proofs.Common.{◌≡◌, ℕ, ◌+◌, ◌<◌, ◌≤◌, List, [], length, get_or, sym, ap, ◌∙◌, subst, inl, inr, arith}
use Rattle.std.proofs.lemmas.Bool.{cases_lt, cases_order}
use Rattle.placements.specs.Order.{Before, IsFirst, Lists}
use Rattle.placements.proofs.Orders.{before_irreflexive, before_asymmetric}

module _ (P : List ℕ → Type 0) (all : List (List ℕ)) (l : Lists P all) where
  pub none_listed : ((w : List ℕ) → P w → ⊥) → length all ≤ 0
  none_listed none = elim (cases_lt 0 (length all)) [ inl h ↦ absurd (none (get_or all 0 []) (l.sound 0 h)) | inr h ↦ h ]

  pub first_listed : (w : List ℕ) → IsFirst P w → (0 < length all) × (w ≡ get_or all 0 [])
  first_listed w f =
      let at = l.complete w f.holds in
      let some : 0 < length all = omega (arith, at.1) in (
        some,
        elim (f.least (get_or all 0 []) (l.sound 0 some)) [
          | inl e ↦ e
          | inr b ↦ elim (cases_order 0 at.0) [
            | inl z ↦ sym at.2 ∙ ap (λ i. get_or all i []) (sym z)
            | inr (inl h) ↦ absurd (before_asymmetric w (get_or all 0 []) b (subst (Before (get_or all 0 [])) at.2 (l.rising 0 at.0 h at.1)))
            | inr (inr h) ↦ absurd (omega arith)
          ]
        ],
      )

  module _ (k : ℕ) (h : k < length all) where
    abbrev Later : List ℕ → Type 0
    Later v = P v × Before (get_or all k []) v

    later : k + 1 < length all → Later (get_or all (k + 1) [])
    later more = (l.sound (k + 1) more, l.rising k (k + 1) (omega arith) more)

    pub none_later : ((w : List ℕ) → Later w → ⊥) → length all ≤ k + 1
    none_later none = elim (cases_lt (k + 1) (length all)) [ inl more ↦ absurd (none (get_or all (k + 1) []) (later more)) | inr over ↦ over ]

    -- what comes after the one at k stands behind it
    behind : (i : ℕ) → i < length all → Before (get_or all k []) (get_or all i []) → k < i
    behind i li b =
        elim (cases_order k i) [
          | inl z ↦ absurd (before_irreflexive (get_or all k []) (subst (λ (j : ℕ). Before (get_or all k []) (get_or all j [])) (sym z) b))
          | inr (inl less) ↦ less
          | inr (inr more) ↦ absurd (before_asymmetric (get_or all k []) (get_or all i []) b (l.rising i k more h))
        ]

    pub next_listed : (w : List ℕ) → IsFirst Later w → (k + 1 < length all) × (w ≡ get_or all (k + 1) [])
    next_listed w f =
        let at = l.complete w f.holds.0 in
        let past : k < at.0 = behind at.0 at.1 (subst (Before (get_or all k [])) (sym at.2) f.holds.1) in
        let more : k + 1 < length all = omega (arith, at.1) in (
          more,
          elim (f.least (get_or all (k + 1) []) (later more)) [
            | inl e ↦ e
            | inr b ↦ elim (cases_order (k + 1) at.0) [
              | inl z ↦ sym at.2 ∙ ap (λ i. get_or all i []) (sym z)
              | inr (inl less) ↦ absurd (before_asymmetric w (get_or all (k + 1) []) b (subst (Before (get_or all (k + 1) [])) at.2 (l.rising (k + 1) at.0 less at.1)))
              | inr (inr not_so) ↦ absurd (omega arith)
            ]
          ],
        )
