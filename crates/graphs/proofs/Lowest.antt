-- A row's nodes taken from the lowest on. Assumes nothing.
use Rattle.std.proofs.Common.{◌≡◌, ℕ, zero, suc, ◌+◌, ◌-◌, ◌/◌, ◌%◌, ◌^◌, ◌<◌, ◌≤◌, Bool, true, false, not, ◌&&◌, eqb, List, [], ◌∷◌, filter, length, get_or, drop, subst, sym, refl, ap, ◌∙◌, inl, inr, arith}
use native.Mathlib.Nat.{pow-succ'}
use lib.Bits.{bit_and, and_le_l}
use lib.Count.{count_trailing_zeros, under}
use Rattle.std.specs.List.{range_with_len, Contains}
use Rattle.std.specs.List.Sorted.{IsStrictlyIncreasing}
use Rattle.std.proofs.lemmas.List.Elements.{filter_passes}
use Rattle.std.proofs.lemmas.List.Filters.{length-filter_both}
use Rattle.std.proofs.lemmas.List.FromFn.{length-range_with_len, get_or-range_with_len}
use Rattle.std.proofs.lemmas.List.Kept.{IsStrictlyIncreasing-filter}
use Rattle.std.proofs.lemmas.Bool.{both_ways, eq-eqb, ne_eqb, cases_Bool, cases_eq, cases_lt, and_left, and_right}
use Rattle.std.proofs.lemmas.Bool.Decides.{nat_tests}
use Rattle.graphs.specs.Rows.{bit}
use Rattle.graphs.specs.Nodes.{nodes_of}
use Rattle.graphs.specs.declared.RowNodes.{RowNodes}
use Rattle.std.proofs.Math.Bool.{and-true}
use Rattle.graphs.proofs.Bits.{digit_cases, bit_none, bit_zero, bit_suc, bit_of_and, bit_lowest, bit_past, same_rows}

-- no node is below the lowest
pub below_lowest : (k x c : ℕ) → c < count_trailing_zeros k x → bit x c ≡ false
unfolding count_trailing_zeros
below_lowest zero x c l = absurd (omega arith)
below_lowest (suc k) x c l =
    elim (digit_cases (x % 2) (omega arith)) [
      | inr z ↦ absurd (let e : count_trailing_zeros (suc k) x ≡ 0 = ap (λ (d : ℕ). under d (count_trailing_zeros k (x / 2))) z in omega arith)
      | inl z ↦ let e : count_trailing_zeros (suc k) x ≡ suc (count_trailing_zeros k (x / 2)) = ap (λ (d : ℕ). under d (count_trailing_zeros k (x / 2))) z in
          even z (λ d. below_lowest k (x / 2) d) c (omega arith)
    ]
  where
    even : x % 2 ≡ 0 → ((d : ℕ) → d < count_trailing_zeros k (x / 2) → bit (x / 2) d ≡ false) → (c : ℕ) → c < suc (count_trailing_zeros k (x / 2)) → bit x c ≡ false
    even z ih zero l = bit_zero x ∙ ne_eqb (x % 2) 1 (λ e. omega arith)
    even z ih (suc c) l = bit_suc x c ∙ ih c (omega arith)

-- x & (x - 1) is x without its lowest node
pub lowest_off : (k x : ℕ) → 0 < x → x < 2 ^ k → (c : ℕ) → bit (bit_and x (x - 1)) c ≡ (bit x c && not (eqb c (count_trailing_zeros k x)))
unfolding count_trailing_zeros
lowest_off zero x l h c = absurd (omega arith)
lowest_off (suc k) x l h c =
    bit_of_and x (x - 1) c
    ∙ elim (digit_cases (x % 2) (omega arith)) [
      | inr z ↦ odd z c ∙ sym (ap (λ (d : ℕ). bit x c && not (eqb c (under d (count_trailing_zeros k (x / 2))))) z)
      | inl z ↦ even z (λ d. lowest_off k (x / 2) (omega arith) (omega (arith, pow-succ' 2 k)) d) c ∙ sym (ap (λ (d : ℕ). bit x c && not (eqb c (under d (count_trailing_zeros k (x / 2))))) z)
    ]
  where
    odd : x % 2 ≡ 1 → (c : ℕ) → (bit x c && bit (x - 1) c) ≡ (bit x c && not (eqb c 0))
    odd z zero = grind (arith, nat_tests, bit_zero (x - 1))
    odd z (suc d) =
        let half : (x - 1) / 2 ≡ x / 2 = omega arith in
        grind (arith, nat_tests, bit_suc (x - 1) d, ap (λ (y : ℕ). bit y d) half, bit_suc x d)

    even : x % 2 ≡ 0 → ((d : ℕ) → bit (bit_and (x / 2) (x / 2 - 1)) d ≡ (bit (x / 2) d && not (eqb d (count_trailing_zeros k (x / 2))))) → (c : ℕ) → (bit x c && bit (x - 1) c) ≡ (bit x c && not (eqb c (suc (count_trailing_zeros k (x / 2)))))
    even z ih zero = grind (arith, nat_tests, bit_zero x)
    even z ih (suc d) =
        let half : (x - 1) / 2 ≡ x / 2 - 1 = omega arith in
        grind (arith, nat_tests, bit_suc x d, bit_suc (x - 1) d, ap (λ (y : ℕ). bit y d) half, bit_of_and (x / 2) (x / 2 - 1) d, ih d)

-- ---- those of the n numbers from a on that pass a test

same_passed : (p q : ℕ → Bool) (n a : ℕ) → ((c : ℕ) → a ≤ c → p c ≡ q c) → filter p (range_with_len a n) ≡ filter q (range_with_len a n)
same_passed p q zero a e = refl
same_passed p q (suc n) a e =
    let i = same_passed p q n (a + 1) (λ c l. e c (omega arith)) in
    rw (e a (omega arith), i) refl

-- the first of them, m, and the others, of which q says which they are
first_passed : (p q : ℕ → Bool) (m n a : ℕ) → a ≤ m → m < a + n → p m ≡ true → ((c : ℕ) → c < m → p c ≡ false) → ((c : ℕ) → q c ≡ (p c && not (eqb c m)))
    → filter p (range_with_len a n) ≡ m ∷ filter q (range_with_len a n)
first_passed p q m zero a l h here none but = absurd (omega arith)
first_passed p q m (suc n) a l h here none but =
    elim (cases_eq a m) [
      | inl z ↦
          let pa : p a ≡ true = ap p z ∙ here in
          let qa : q a ≡ false = but a ∙ ap (λ (t : Bool). p a && not t) (eq-eqb a m z) ∙ and_right (p a) (not true) refl in
          let i : filter q (range_with_len (a + 1) n) ≡ filter p (range_with_len (a + 1) n) = same_passed q p n (a + 1)
          (λ c g. but c ∙ ap (λ (t : Bool). p c && not t) (ne_eqb c m (λ e. omega arith)) ∙ and-true (p c)) in
          rw (pa, qa, i) (ap (λ (y : ℕ). y ∷ filter p (range_with_len (a + 1) n)) z)
      | inr z ↦
          let pa : p a ≡ false = none a (omega arith) in
          let qa : q a ≡ false = but a ∙ and_left (p a) (not (eqb a m)) pa in
          rw (pa, qa) (first_passed p q m n (a + 1) (omega arith) (omega arith) here none but)
    ]

none_passed : (p : ℕ → Bool) (n a : ℕ) → ((c : ℕ) → p c ≡ false) → filter p (range_with_len a n) ≡ []
none_passed p zero a e = refl
none_passed p (suc n) a e = rw (e a) (none_passed p n (a + 1) e)

-- ---- the nodes of a row

pub nodes_none : nodes_of 0 ≡ []
unfolding nodes_of
nodes_none = none_passed (bit 0) 64 0 bit_none

-- the lowest node, and then those of the row without it
pub nodes_first : (x : ℕ) → 0 < x → x < 2 ^ 64 → nodes_of x ≡ count_trailing_zeros 64 x ∷ nodes_of (bit_and x (x - 1))
unfolding nodes_of
nodes_first x l h =
    let held = bit_lowest 64 x l h in
    first_passed (bit x) (bit (bit_and x (x - 1))) (count_trailing_zeros 64 x) 64 0 (omega arith)
    (elim (cases_lt (count_trailing_zeros 64 x) 64) [ inl b ↦ b | inr g ↦ absurd (both_ways _ (bit_past x (count_trailing_zeros 64 x) 64 h g) held) ])
    held (λ c b. below_lowest 64 x c b) (λ c. lowest_off 64 x l h c)

takes : (p : ℕ → Bool) (n a : ℕ) → p a ≡ true → filter p (range_with_len a (suc n)) ≡ a ∷ filter p (range_with_len (a + 1) n)
takes p n a e = rw e refl

leaves : (p : ℕ → Bool) (n a : ℕ) → p a ≡ false → filter p (range_with_len a (suc n)) ≡ filter p (range_with_len (a + 1) n)
leaves p n a e = rw e refl

heads : {x y : ℕ} {xs ys : List ℕ} → x ∷ xs ≡ y ∷ ys → x ≡ y
heads {x} e = ap (λ (l : List ℕ). get_or l 0 x) e

tails : {x y : ℕ} {xs ys : List ℕ} → x ∷ xs ≡ y ∷ ys → xs ≡ ys
tails e = ap (λ (l : List ℕ). drop 1 l) e

-- each number of the list is b or more
passed_from : (q : ℕ → Bool) (n b x : ℕ) (xs : List ℕ) → filter q (range_with_len b n) ≡ x ∷ xs → b ≤ x
passed_from q zero b x xs e = absurd (let l = ap length e in omega arith)
passed_from q (suc n) b x xs e =
    elim (cases_Bool (q b)) [
      | inl t ↦ let h = heads (sym (takes q n b t) ∙ e) in omega arith
      | inr f ↦ let l = passed_from q n (b + 1) x xs (sym (leaves q n b f) ∙ e) in omega arith
    ]

-- tests that the same numbers pass are the same there
passed_same : (p q : ℕ → Bool) (n a : ℕ) → filter p (range_with_len a n) ≡ filter q (range_with_len a n) → (c : ℕ) → a ≤ c → c < a + n → p c ≡ q c
passed_same p q zero a e c l h = absurd (omega arith)
passed_same p q (suc n) a e c l h =
    elim (cases_Bool (p a)) [
      | inl t ↦ elim (cases_Bool (q a)) [
        | inl u ↦ on (t ∙ sym u) (passed_same p q n (a + 1) (tails (sym (takes p n a t) ∙ e ∙ takes q n a u)) c)
        | inr g ↦ absurd (let b = passed_from q n (a + 1) a _ (sym (leaves q n a g) ∙ sym e ∙ takes p n a t) in omega arith)
      ]
      | inr f ↦ elim (cases_Bool (q a)) [
        | inl u ↦ absurd (let b = passed_from p n (a + 1) a _ (sym (leaves p n a f) ∙ e ∙ takes q n a u) in omega arith)
        | inr g ↦ on (f ∙ sym g) (passed_same p q n (a + 1) (sym (leaves p n a f) ∙ e ∙ leaves q n a g) c)
      ]
    ]
  where
    on : p a ≡ q a → (a + 1 ≤ c → c < (a + 1) + n → p c ≡ q c) → p c ≡ q c
    on here k = elim (cases_eq a c) [
      | inl z ↦ subst (λ (d : ℕ). p d ≡ q d) z here
      | inr z ↦ k (omega arith) (omega arith)
    ]

-- rows with the same nodes are one row
pub nodes_same : (x y : ℕ) → x < 2 ^ 64 → y < 2 ^ 64 → nodes_of x ≡ nodes_of y → x ≡ y
unfolding nodes_of
nodes_same x y hx hy e =
    same_rows 64 x y hx hy (λ c. elim (cases_lt c 64) [
      | inl l ↦ passed_same (bit x) (bit y) 64 0 e c (omega arith) l
      | inr g ↦ bit_past x c 64 hx g ∙ sym (bit_past y c 64 hy g)
    ])

-- one turn of a loop over a row's nodes: x is the lowest node of s, and t is s without it
pub record Turn (s x t : ℕ) : Type 0 where
  pub some : 0 < s
  pub lowest : x ≡ count_trailing_zeros 64 s
  pub rest : t ≡ bit_and s (s - 1)
  pub under : x < 64
  pub held : bit s x ≡ true
  pub none_before : (c : ℕ) → c < x → bit s c ≡ false
  pub but : (c : ℕ) → bit t c ≡ (bit s c && not (eqb c x))

turn_of : (s x t : ℕ) → s < 2 ^ 64 → t < 2 ^ 64 → nodes_of s ≡ x ∷ nodes_of t → Turn s x t
turn_of s x t hs ht e =
    let some : 0 < s = elim (cases_lt 0 s) [
      | inl l ↦ l
      | inr g ↦ absurd (let z : s ≡ 0 = omega arith in let l : 0 ≡ suc (length (nodes_of t)) = ap length (sym nodes_none ∙ ap nodes_of (sym z) ∙ e) in omega arith)
    ] in
    let first : count_trailing_zeros 64 s ∷ nodes_of (bit_and s (s - 1)) ≡ x ∷ nodes_of t = sym (nodes_first s some hs) ∙ e in
    let lowest : x ≡ count_trailing_zeros 64 s = sym (heads first) in
    let rest : t ≡ bit_and s (s - 1) = nodes_same t (bit_and s (s - 1)) ht (let a = and_le_l s (s - 1) in omega arith) (sym (tails first)) in
    let held : bit s (count_trailing_zeros 64 s) ≡ true = bit_lowest 64 s some hs in
    record {
      some = some;
      lowest = lowest;
      rest = rest;
      under = elim (cases_lt x 64) [
        | inl l ↦ l
        | inr g ↦ absurd (both_ways _ (bit_past s x 64 hs g) (ap (bit s) lowest ∙ held))
      ];
      held = ap (bit s) lowest ∙ held;
      none_before = λ c l. below_lowest 64 s c (omega arith);
      but = λ c. ap (λ (y : ℕ). bit y c) rest ∙ lowest_off 64 s some hs c ∙ ap (λ (y : ℕ). bit s c && not (eqb c y)) (sym lowest);
    }

-- in a `for b in nodes(row)`: what `next` says at `Some b`, where it found s and left t, and what it says at `None`
pub turn : (s t : RowNodes) {x : ℕ} → nodes_of s.rest ≡ x ∷ nodes_of t.rest → Turn s.rest x t.rest
turn s t {x} e = turn_of s.rest x t.rest s.fits t.fits e

pub no_more : (s : RowNodes) → nodes_of s.rest ≡ [] → s.rest ≡ 0
no_more s e = nodes_same s.rest 0 s.fits (omega arith) (e ∙ sym nodes_none)

-- ---- which nodes come, and in which order

pub come_held : (row c : ℕ) → Contains (nodes_of row) c → bit row c ≡ true
unfolding nodes_of
come_held row c (k, l, e) = subst (λ (d : ℕ). bit row d ≡ true) e (filter_passes (bit row) (range_with_len 0 64) k c l)

later : (x c : ℕ) (xs : List ℕ) → Contains xs c → Contains (x ∷ xs) c
later x c xs (k, l, e) = (suc k, omega (arith, l), e)

passed_come : (p : ℕ → Bool) (n a c : ℕ) → a ≤ c → c < a + n → p c ≡ true → Contains (filter p (range_with_len a n)) c
passed_come p zero a c l h e = absurd (omega arith)
passed_come p (suc n) a c l h e =
    elim (cases_eq a c) [
      | inl z ↦ subst (λ (ys : List ℕ). Contains ys c) (sym (takes p n a (ap p z ∙ e))) (0, omega arith, z)
      | inr z ↦
          let i = passed_come p n (a + 1) c (omega arith) (omega arith) e in
          elim (cases_Bool (p a)) [
            | inl t ↦ subst (λ (ys : List ℕ). Contains ys c) (sym (takes p n a t)) (later a c _ i)
            | inr f ↦ subst (λ (ys : List ℕ). Contains ys c) (sym (leaves p n a f)) i
          ]
    ]

pub held_come : (row c : ℕ) → row < 2 ^ 64 → bit row c ≡ true → Contains (nodes_of row) c
unfolding nodes_of
held_come row c h e =
    passed_come (bit row) 64 0 c (omega arith)
    (elim (cases_lt c 64) [ inl l ↦ l | inr g ↦ absurd (both_ways _ (bit_past row c 64 h g) e) ]) e

pub nodes_rise : (row : ℕ) → IsStrictlyIncreasing (nodes_of row)
unfolding nodes_of
nodes_rise row = IsStrictlyIncreasing-filter (bit row) (range_with_len 0 64) (λ k l.
    let long = length-range_with_len 0 64 in
    omega (arith, get_or-range_with_len 0 64 k 0 (omega (arith, l, long)), get_or-range_with_len 0 64 (k + 1) 0 (omega (arith, l, long))))

pub nodes_few : (row : ℕ) → length (nodes_of row) ≤ 64
unfolding nodes_of
nodes_few row = omega (arith, length-filter_both (bit row) (λ c. not (bit row c)) (λ c. refl) (range_with_len 0 64), length-range_with_len 0 64)
