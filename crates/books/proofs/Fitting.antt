-- The rows of the pairs whose cards suit: one bay more, one unit more, and what a caller reads off them. Assumes nothing.
use Rattle.std.proofs.Common.{◌≡◌, ℕ, zero, suc, ◌+◌, ◌^◌, ◌<◌, ◌≤◌, min, Bool, false, ◌&&◌, ltb, List, [], ◌∷◌, length, get_or, take, set, replicate, sym, refl, ap, ◌∙◌, subst, inl, inr, arith}
use Rattle.std.proofs.lemmas.List.{get_or-set_same, get_or-set_other, length-set}
use Rattle.std.proofs.lemmas.Bool.{cases_eq, cases_lt, lt-ltb, le-ltb, and_right, both_ways}
use Rattle.std.proofs.lemmas.Bool.Decides.{nat_tests}
use Rattle.graphs.specs.Rows.{bit, Pairs, pairs}
use Rattle.graphs.proofs.Bits.{bit_none, bits_below}
use Rattle.graphs.proofs.Rows.{Upto}
use Rattle.books.specs.Fit.{passes_at, handed}

-- ---- cards at a place

pub passes_here : {X : Type 0} (test : X → Bool) (xs : List X) (i : ℕ) (x : X) → i < length xs → x ≡ get_or xs i x → passes_at test xs i ≡ test x
passes_here test [] i x lt e = absurd (omega arith)
passes_here test (y ∷ ys) zero x lt e = ap test (sym e)
passes_here test (y ∷ ys) (suc i) x lt e = passes_here test ys i x (omega arith) e

pub passes_past : {X : Type 0} (test : X → Bool) (xs : List X) (i : ℕ) → length xs ≤ i → passes_at test xs i ≡ false
passes_past test [] i le = refl
passes_past test (y ∷ ys) zero le = absurd (omega arith)
passes_past test (y ∷ ys) (suc i) le = passes_past test ys i (omega arith)

passes_same : {X : Type 0} (test other : X → Bool) (xs : List X) (i : ℕ) → ((x : X) → test x ≡ other x) → passes_at test xs i ≡ passes_at other xs i
passes_same test other [] i e = refl
passes_same test other (y ∷ ys) zero e = e y
passes_same test other (y ∷ ys) (suc i) e = passes_same test other ys i e

passes_if : {X : Type 0} (t : Bool) (test : X → Bool) (xs : List X) (i : ℕ) → passes_at (λ x. t && test x) xs i ≡ (t && passes_at test xs i)
passes_if t test [] i = sym (and_right t false refl)
passes_if t test (y ∷ ys) zero = refl
passes_if t test (y ∷ ys) (suc i) = passes_if t test ys i

passes_take : {X : Type 0} (test : X → Bool) (n : ℕ) (xs : List X) (i : ℕ) → passes_at test (take n xs) i ≡ (ltb i n && passes_at test xs i)
passes_take test zero xs i = sym (ap (λ (t : Bool). t && passes_at test xs i) (le-ltb i 0 (omega arith)))
passes_take test (suc n) [] i = sym (and_right (ltb i (suc n)) false refl)
passes_take test (suc n) (y ∷ ys) zero = sym (ap (λ (t : Bool). t && test y) (lt-ltb 0 (suc n) (omega arith)))
passes_take test (suc n) (y ∷ ys) (suc i) =
    passes_take test n ys i ∙ ap (λ (t : Bool). t && passes_at test ys i) (let e : ltb i n ≡ ltb (suc i) (suc n) = grind (arith, nat_tests) in e)

-- the first k cards, where there are as many
passes_first : {X : Type 0} (test : X → Bool) (k n : ℕ) (xs : List X) (i : ℕ) → n ≡ min (length xs) k → passes_at test (take n xs) i ≡ (ltb i k && passes_at test xs i)
passes_first test k n xs i e =
    passes_take test n xs i
    ∙ elim (cases_lt i (length xs)) [
      | inl lt ↦ ap (λ (t : Bool). t && passes_at test xs i) (let s : ltb i n ≡ ltb i k = grind (arith, nat_tests) in s)
      | inr le ↦ let none = passes_past test xs i le in and_right (ltb i n) (passes_at test xs i) none ∙ sym (and_right (ltb i k) (passes_at test xs i) none)
    ]

-- ---- handed cards

module _ {U V : Type 0} (test : U → V → Bool) (units : List U) (bays : List V) where
  pub handed_past_units : (u b : ℕ) → length units ≤ u → (handed test units bays).suits u b ≡ false
  handed_past_units u b le = passes_past (λ unit. passes_at (test unit) bays b) units u le

  pub handed_past_bays : (u b : ℕ) → length bays ≤ b → (handed test units bays).suits u b ≡ false
  handed_past_bays u b le =
      passes_same (λ unit. passes_at (test unit) bays b) (λ unit. false && passes_at (test unit) bays b) units u (λ unit. passes_past (test unit) bays b le)
      ∙ passes_if false (λ unit. passes_at (test unit) bays b) units u

  -- the first m unit cards with the first n bay cards
  pub handed_first :
      (m n i j u b : ℕ) → i ≡ min (length units) m → j ≡ min (length bays) n
      → (handed test (take i units) (take j bays)).suits u b ≡ (ltb u m && (ltb b n && (handed test units bays).suits u b))
  handed_first m n i j u b ei ej =
      passes_first (λ unit. passes_at (test unit) (take j bays) b) m i units u ei
      ∙ ap (λ (t : Bool). ltb u m && t)
      (passes_same (λ unit. passes_at (test unit) (take j bays) b) (λ unit. ltb b n && passes_at (test unit) bays b) units u (λ unit. passes_first (test unit) n j bays b ej)
      ∙ passes_if (ltb b n) (λ unit. passes_at (test unit) bays b) units u)

-- ---- rows as they are built

-- a row that holds what passes below n holds all that passes, where nothing passes from n on
pub upto_all : (n x : ℕ) (p : ℕ → Bool) → Upto n p x → ((c : ℕ) → n ≤ c → p c ≡ false) → (c : ℕ) → bit x c ≡ p c
upto_all n x p h none c =
    h c
    ∙ elim (cases_lt c n) [
      | inl lt ↦ ap (λ (t : Bool). t && p c) (lt-ltb c n lt)
      | inr le ↦ and_right (ltb c n) (p c) (none c le) ∙ sym (none c le)
    ]

-- the table holds what passes of the units below i
pub record Built (rows : List ℕ) (i : ℕ) (suits : Pairs) : Type 0 where
  pub full : length rows ≡ 24
  pub holds : (u b : ℕ) → pairs rows u b ≡ (ltb u i && suits u b)

get_or_zeros : (n u : ℕ) → ◌≡◌ {A = ℕ} (get_or (replicate n 0) u 0) 0
get_or_zeros zero u = refl
get_or_zeros (suc n) zero = refl
get_or_zeros (suc n) (suc u) = get_or_zeros n u

pub built_none : (suits : Pairs) → Built (replicate 24 0) 0 suits
built_none suits = record {
  full = refl;
  holds = λ u b. ap (λ (x : ℕ). bit x b) (get_or_zeros 24 u) ∙ bit_none b ∙ sym (ap (λ (t : Bool). t && suits u b) (le-ltb u 0 (omega arith)));
}

pub built_more : (rows : List ℕ) (i row : ℕ) (suits : Pairs) → i < 24 → Built rows i suits → ((b : ℕ) → bit row b ≡ suits i b) → Built (set rows i row) (i + 1) suits
built_more rows i row suits lt built at =
    let inside : i < length rows = omega arith in
    record {
      full = length-set rows i row ∙ built.full;
      holds = λ u b. elim (cases_eq u i) [
        | inl same ↦
            let P : ℕ → Type 0 = λ v. pairs (set rows i row) v b ≡ (ltb v (i + 1) && suits v b) in
            subst P (sym same)
            (ap (λ (x : ℕ). bit x b) (get_or-set_same rows i row 0 inside) ∙ at b ∙ sym (ap (λ (t : Bool). t && suits i b) (lt-ltb i (i + 1) (omega arith))))
        | inr other ↦
            ap (λ (x : ℕ). bit x b) (get_or-set_other rows i u row 0 other) ∙ built.holds u b
            ∙ ap (λ (t : Bool). t && suits u b) (let s : ltb u i ≡ ltb u (i + 1) = grind (arith, nat_tests) in s)
      ];
    }

pub built_all : (rows : List ℕ) (i : ℕ) (suits : Pairs) → Built rows i suits → ((u b : ℕ) → i ≤ u → suits u b ≡ false) → (u b : ℕ) → pairs rows u b ≡ suits u b
built_all rows i suits built none u b =
    built.holds u b
    ∙ elim (cases_lt u i) [
      | inl lt ↦ ap (λ (t : Bool). t && suits u b) (lt-ltb u i lt)
      | inr le ↦ and_right (ltb u i) (suits u b) (none u b le) ∙ sym (none u b le)
    ]

-- ---- what a caller reads off suited rows

module _ {U V : Type 0} (test : U → V → Bool) (units : List U) (bays : List V) (rows : List ℕ)
    (suited : (u b : ℕ) → pairs rows u b ≡ (ltb u 24 && (ltb b 64 && (handed test units bays).suits u b))) where
  pairs_none : (u b : ℕ) → (handed test units bays).suits u b ≡ false → pairs rows u b ≡ false
  pairs_none u b e = suited u b ∙ and_right (ltb u 24) (ltb b 64 && (handed test units bays).suits u b) (and_right (ltb b 64) ((handed test units bays).suits u b) e)

  -- at most 24 and 64 cards: none is cut off
  pub suited_all : length units ≤ 24 → length bays ≤ 64 → (u b : ℕ) → pairs rows u b ≡ (handed test units bays).suits u b
  suited_all few_units few_bays u b =
      elim (cases_lt u 24) [
        | inl lu ↦ elim (cases_lt b 64) [
          | inl lb ↦
              suited u b ∙ ap (λ (t : Bool). t && (ltb b 64 && (handed test units bays).suits u b)) (lt-ltb u 24 lu)
              ∙ ap (λ (t : Bool). t && (handed test units bays).suits u b) (lt-ltb b 64 lb)
          | inr gb ↦ let none = handed_past_bays test units bays u b (omega arith) in pairs_none u b none ∙ sym none
        ]
        | inr gu ↦ let none = handed_past_units test units bays u b (omega arith) in pairs_none u b none ∙ sym none
      ]

  -- no row holds a bay past the bay cards
  pub suited_below : (u : ℕ) → get_or rows u 0 < 2 ^ length bays
  suited_below u = bits_below (length bays) (get_or rows u 0) (λ b t. elim (cases_lt b (length bays)) [
    | inl lt ↦ lt
    | inr le ↦ absurd (both_ways (pairs rows u b) (pairs_none u b (handed_past_bays test units bays u b le)) t)
  ])

  -- a row past the unit cards is empty
  pub suited_past : (u : ℕ) → length units ≤ u → get_or rows u 0 ≡ 0
  suited_past u le =
      let lt : get_or rows u 0 < 2 ^ 0 = bits_below 0 (get_or rows u 0) (λ b t. absurd (both_ways (pairs rows u b) (pairs_none u b (handed_past_units test units bays u b le)) t)) in
      omega arith
