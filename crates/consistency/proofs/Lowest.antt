-- What a row leaves of another, bay for bay. Assumes nothing.
use Rattle.std.proofs.Common.{◌≡◌, ℕ, ◌-◌, ◌/◌, ◌^◌, ◌<◌, ◌≤◌, Bool, true, false, not, ◌&&◌, ◌||◌, eqb, ltb, sym, refl, ap, ◌∙◌, subst, inl, inr}
use lib.Bits.{bit_and, bit_or}
use Rattle.std.proofs.Math.Bool.{and-true}
use Rattle.std.proofs.lemmas.Bool.{both_ways, false≢true, ne_eqb, lt-ltb, ltb-true, cases_eq, cases_Bool, and_parts, and_from, or_cases, or_left, or_right, not_from_false}
use Rattle.graphs.specs.Rows.{bit, row_of}
use Rattle.graphs.specs.Graph.{Graph}
use Rattle.graphs.proofs.Bits.{bit_none, bit_of_and, bit_of_or}
use Rattle.graphs.proofs.Lowest.{Turn}
use Rattle.graphs.proofs.Rows.{bit_all, bit_row_of, row_is}
use Rattle.placements.specs.Agreement.{agrees_if}
use Rattle.consistency.specs.Support.{any_of, revised}
use Rattle.consistency.specs.Theory.{bool_ext, any_has, any_some}

any_eq : (x y n : ℕ) (p : ℕ → Bool) → ((c : ℕ) → c < n → bit x c ≡ bit y c) → any_of x n p ≡ any_of y n p
any_eq x y n p e =
    bool_ext (any_of x n p) (any_of y n p)
    (λ t. let q = any_some x n p t in any_has y n p q.at q.under (sym (e q.at q.under) ∙ q.held) q.passes)
    (λ t. let q = any_some y n p t in any_has x n p q.at q.under (e q.at q.under ∙ q.held) q.passes)

any_none : (n : ℕ) (p : ℕ → Bool) → any_of 0 n p ≡ false
any_none n p =
    elim (cases_Bool (any_of 0 n p)) [
      | inl t ↦ absurd (let q = any_some 0 n p t in both_ways (bit 0 q.at) (bit_none q.at) q.held)
      | inr f ↦ f
    ]

abbrev mask : ℕ → ℕ
mask n = 18446744073709551615 / 2 ^ (64 - n)

pub bit_mask : (n row c : ℕ) → n ≤ 64 → bit (bit_and row (mask n)) c ≡ (bit row c && ltb c n)
bit_mask n row c few = bit_of_and row (mask n) c ∙ ap (λ (t : Bool). bit row c && t) (bit_all n c few)

-- what is left of the other row, and what was found in the row: the two together are what the other row leaves of it
pub record Apart (r : Graph) (out back k : Bool) (row other rest found : ℕ) : Type 0 where
  pub under : (c : ℕ) → bit rest c ≡ true → c < r.count
  pub sum : (b : ℕ) → (ltb b r.count && (bit row b && any_of other r.count (agrees_if r out back k b)))
      ≡ (bit found b || (ltb b r.count && (bit row b && any_of rest r.count (agrees_if r out back k b))))

module _ (r : Graph) (few : r.count ≤ 64) (out back k : Bool) (row other : ℕ) where
  abbrev agree : ℕ → ℕ → Bool
  agree = agrees_if r out back k

  abbrev below : ℕ → Bool
  below b = ltb b r.count

  pub apart_start : (n : ℕ) → n ≡ r.count → Apart r out back k row other (bit_and other (18446744073709551615 / 2 ^ (64 - n))) 0
  apart_start n is =
      subst (λ (m : ℕ). Apart r out back k row other (bit_and other (mask m)) 0) (sym is)
      (record {
        under = λ c e. ltb-true c r.count (and_parts (bit other c) (below c) (sym (bit_mask r.count other c few) ∙ e)).1;
        sum = λ b. ap (λ (t : Bool). below b && (bit row b && t)) (any_eq other (bit_and other (mask r.count)) r.count (agree b)
            (λ c l. sym (bit_mask r.count other c few ∙ ap (λ (t : Bool). bit other c && t) (lt-ltb c r.count l) ∙ and-true (bit other c))))
            ∙ sym (ap (λ (t : Bool). t || (below b && (bit row b && any_of (bit_and other (mask r.count)) r.count (agree b)))) (bit_none b));
      })

  regroup : (o l w p x : Bool) → (o || (l && (w && (p || x)))) ≡ ((o || (w && (l && p))) || (l && (w && x)))
  regroup true l w p x = refl
  regroup false false false p x = refl
  regroup false false true p x = refl
  regroup false true false p x = refl
  regroup false true true true x = refl
  regroup false true true false x = refl

  pub apart_more : {rest c next found x : ℕ} → Turn rest c next → Apart r out back k row other rest found
      → x ≡ row_of r.count (λ b. agree b c) → Apart r out back k row other next (bit_or found (bit_and row x))
  apart_more {rest} {c} {next} {found} {x} n h is =
      let inn : (d : ℕ) → bit next d ≡ true → bit rest d ≡ true = λ d t. (and_parts (bit rest d) (not (eqb d c)) (sym (n.but d) ∙ t)).0 in
      let split : (p : ℕ → Bool) → any_of rest r.count p ≡ (p c || any_of next r.count p) = λ p.
      bool_ext (any_of rest r.count p) (p c || any_of next r.count p)
      (λ t. let q = any_some rest r.count p t in
      elim (cases_eq q.at c) [
        | inl z ↦ or_left (p c) (any_of next r.count p) (subst (λ (d : ℕ). p d ≡ true) z q.passes)
        | inr nz ↦ or_right (p c) (any_of next r.count p) (any_has next r.count p q.at q.under
            (n.but q.at ∙ and_from (bit rest q.at) (not (eqb q.at c)) q.held (not_from_false (eqb q.at c) (ne_eqb q.at c nz))) q.passes)
      ])
      (λ t. elim (or_cases (p c) (any_of next r.count p) t) [
        | inl y ↦ any_has rest r.count p c (h.under c n.held) n.held y
        | inr y ↦ let q = any_some next r.count p y in any_has rest r.count p q.at q.under (inn q.at q.held) q.passes
      ]) in
      record {
        under = λ d t. h.under d (inn d t);
        sum = λ b. h.sum b
            ∙ ap (λ (t : Bool). bit found b || (below b && (bit row b && t))) (split (agree b))
            ∙ regroup (bit found b) (below b) (bit row b) (agree b c) (any_of next r.count (agree b))
            ∙ ap (λ (t : Bool). (bit found b || t) || (below b && (bit row b && any_of next r.count (agree b))))
            (sym (bit_of_and row x b ∙ ap (λ (t : Bool). bit row b && t) (ap (λ (y : ℕ). bit y b) is ∙ bit_row_of r.count (λ d. agree d c) b)))
            ∙ ap (λ (t : Bool). t || (below b && (bit row b && any_of next r.count (agree b)))) (sym (bit_of_or found (bit_and row x) b));
      }

  or_none : (t : Bool) → (t || false) ≡ t
  or_none true = refl
  or_none false = refl

  and_none : (s w : Bool) → (s && (w && false)) ≡ false
  and_none true true = refl
  and_none true false = refl
  and_none false w = refl

  -- nothing is left of the other row
  pub apart_end : (rest found : ℕ) → Apart r out back k row other rest found → rest ≡ 0 → found ≡ revised r out back k row other
  apart_end rest found h z =
      row_is r.count found (λ b. bit row b && any_of other r.count (agree b))
      (λ b. sym (h.sum b
      ∙ ap (λ (t : ℕ). bit found b || (below b && (bit row b && any_of t r.count (agree b)))) z
      ∙ ap (λ (t : Bool). bit found b || (below b && (bit row b && t))) (any_none r.count (agree b))
      ∙ ap (λ (t : Bool). bit found b || t) (and_none (below b) (bit row b))
      ∙ or_none (bit found b)))

  full : (l w p f : Bool) → f ≡ (w && l) → (f || (l && (w && p))) ≡ f
  full l w p true e = refl
  full true true p false e = absurd (false≢true e)
  full true false p false e = refl
  full false w p false e = refl

  -- all of the row was found
  pub apart_full : (rest found : ℕ) → Apart r out back k row other rest found → found ≡ bit_and row (18446744073709551615 / 2 ^ (64 - r.count))
      → found ≡ revised r out back k row other
  apart_full rest found h z =
      row_is r.count found (λ b. bit row b && any_of other r.count (agree b))
      (λ b. sym (h.sum b ∙ full (below b) (bit row b) (any_of rest r.count (agree b)) (bit found b) (ap (λ (x : ℕ). bit x b) z ∙ bit_mask r.count row b few)))

  shuffle : (l w p : Bool) → (w && (l && p)) ≡ (l && (w && p))
  shuffle true w p = refl
  shuffle false true p = refl
  shuffle false false p = refl

  -- of a row, the bays that the whole other row leaves
  pub and_revised : (x : ℕ) → x ≡ row_of r.count (λ b. any_of other r.count (agree b)) → bit_and row x ≡ revised r out back k row other
  and_revised x is =
      row_is r.count (bit_and row x) (λ b. bit row b && any_of other r.count (agree b))
      (λ b. bit_of_and row x b
      ∙ ap (λ (t : Bool). bit row b && t) (ap (λ (y : ℕ). bit y b) is ∙ bit_row_of r.count (λ c. any_of other r.count (agree c)) b)
      ∙ shuffle (below b) (bit row b) (any_of other r.count (agree b)))

-- two different units that are not joined, in open use
pub differing_revised : (r : Graph) (few : r.count ≤ 64) (out back k : Bool) (row other x : ℕ) → ((out || back) || k) ≡ false
    → x ≡ row_of r.count (λ b. any_of other r.count (agrees_if r false false false b)) → bit_and row x ≡ revised r out back k row other
differing_revised r few true back k row other x e is = absurd (false≢true (sym e))
differing_revised r few false true k row other x e is = absurd (false≢true (sym e))
differing_revised r few false false true row other x e is = absurd (false≢true (sym e))
differing_revised r few false false false row other x e is = and_revised r few false false false row other x is
