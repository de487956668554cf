-- All needed bits are there where taking the common bits leaves the needs. Assumes nothing.
use Rattle.std.proofs.Common.{◌≡◌, ℕ, zero, suc, ◌^◌, ◌<◌, Bool, true, false, not, ◌&&◌, ◌||◌, eqb, sym, refl, ap, ◌∙◌, inl, inr, arith}
use lib.Bits.{bit_and, and_le_l}
use Rattle.std.proofs.lemmas.Bool.{cases_eq, cases_lt, eq-eqb, eqb-true, and_parts, and_from}
use Rattle.graphs.specs.Rows.{bit}
use Rattle.graphs.proofs.Bits.{bit_of_and, bit_past, same_rows}
use Rattle.graphs.proofs.Bools.{bool_ext}
use Rattle.books.specs.Services.{served}

kept : (n s : Bool) → (not n || s) ≡ true → (n && s) ≡ n
kept true s e = e
kept false s e = refl

there : (n s : Bool) → (n && s) ≡ n → (not n || s) ≡ true
there true s e = e
there false s e = refl

served_at : (k needs services : ℕ) → served k needs services ≡ true → (b : ℕ) → b < k → (not (bit needs b) || bit services b) ≡ true
served_at zero needs services e b lt = absurd (omega arith)
served_at (suc k) needs services e b lt =
    let parts = and_parts (not (bit needs k) || bit services k) (served k needs services) e in
    elim (cases_eq k b) [
      | inl same ↦ ap (λ (c : ℕ). not (bit needs c) || bit services c) (sym same) ∙ parts.0
      | inr other ↦ served_at k needs services parts.1 b (omega (arith, other))
    ]

served_by : (k needs services : ℕ) → ((b : ℕ) → (not (bit needs b) || bit services b) ≡ true) → served k needs services ≡ true
served_by zero needs services h = refl
served_by (suc k) needs services h = and_from (not (bit needs k) || bit services k) (served k needs services) (h k) (served_by k needs services h)

pub served_common : (k needs services : ℕ) → needs < 2 ^ k → eqb (bit_and needs services) needs ≡ served k needs services
served_common k needs services lt =
    bool_ext (eqb (bit_and needs services) needs) (served k needs services)
    (λ e. served_by k needs services (λ b.
    there (bit needs b) (bit services b) (sym (bit_of_and needs services b) ∙ ap (λ (x : ℕ). bit x b) (eqb-true (bit_and needs services) needs e))))
    (λ e. eq-eqb (bit_and needs services) needs (same_rows k (bit_and needs services) needs (omega (arith, and_le_l needs services)) lt (λ b.
    bit_of_and needs services b ∙ elim (cases_lt b k) [
      | inl below ↦ kept (bit needs b) (bit services b) (served_at k needs services e b below)
      | inr past ↦ let none : bit needs b ≡ false = bit_past needs b k lt past in ap (λ (t : Bool). t && bit services b) none ∙ sym none
    ])))
