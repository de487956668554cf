-- Heights as bytes, and heights and kinds in their arrays. Assumes nothing.
use Rattle.std.specs.Simd.{first_chunks}
use Rattle.std.proofs.Common.{map, ◌≡◌, ℕ, zero, suc, ◌+◌, ◌*◌, ◌/◌, ◌^◌, ◌<◌, ◌≤◌, List, [], ◌∷◌, ◌++◌, length, get_or, take, drop, set, sym, refl, ap, ◌∙◌, subst, ap₂, inl, inr, arith, length-append, length-drop, length-set}
use Rattle.std.proofs.lemmas.List.{map_more, take_all, take_more_set, drop_at, get_or_append_left, get_or-append_right, length-take-le, take-append-drop, take_at}
use Rattle.std.proofs.lemmas.Bool.{cases_lt}
use Rattle.tables.specs.Bytes.{Bytes, bytes_of, from_bytes}
use Rattle.tables.proofs.Accepted.{length_bytes_of, bytes_of_value, value_of_bytes}
use Rattle.tables.proofs.Parts.{bytes_drop}
use Rattle.jobs.specs.Form.{HeightsLawful, heights_bytes, heights_of}

pub byte_below : (n x i : ℕ) → get_or (bytes_of n x) i 0 < 256
unfolding bytes_of
byte_below zero x i = omega arith
byte_below (suc n) x zero = omega arith
byte_below (suc n) x (suc i) = byte_below n _ i

two_bytes : (bs : List ℕ) → 2 ≤ length bs → Bytes bs → from_bytes (take 2 bs) < 2 ^ 16
two_bytes [] h B = absurd (omega arith)
two_bytes (a ∷ []) h B = absurd (omega arith)
two_bytes (a ∷ b ∷ bs) h B = omega (arith, B 0, B 1)

-- ---- reading what was written

pub length_heights_bytes : (hs : List ℕ) → length (heights_bytes hs) ≡ 2 * length hs
unfolding heights_bytes
length_heights_bytes [] = refl
length_heights_bytes (h ∷ hs) = omega (arith, length-append (bytes_of 2 h) (heights_bytes hs), length_bytes_of 2 h, length_heights_bytes hs)

pub heights_bytes_below : (hs : List ℕ) → Bytes (heights_bytes hs)
unfolding heights_bytes
heights_bytes_below [] i = omega arith
heights_bytes_below (h ∷ hs) i =
    elim (cases_lt i 2) [
      | inl l ↦ subst (λ (x : ℕ). x < 256) (sym (get_or_append_left (bytes_of 2 h) (heights_bytes hs) 0 i (omega (arith, length_bytes_of 2 h)))) (byte_below 2 h i)
      | inr g ↦ subst (λ (x : ℕ). x < 256) (sym (get_or-append_right (bytes_of 2 h) (heights_bytes hs) 2 i 0 (length_bytes_of 2 h) g)) (heights_bytes_below hs _)
    ]

pub heights_back : (n : ℕ) (hs : List ℕ) → HeightsLawful n hs → heights_of n (heights_bytes hs) ≡ hs
unfolding heights_of heights_bytes
heights_back zero [] l = refl
heights_back zero (h ∷ hs) l = absurd (omega (arith, l.count))
heights_back (suc n) [] l = absurd (omega (arith, l.count))
heights_back (suc n) (h ∷ hs) l =
    ap₂ (λ x xs. x ∷ xs)
    (ap from_bytes (take_at (bytes_of 2 h) (heights_bytes hs) 2 (length_bytes_of 2 h)) ∙ value_of_bytes 2 h (omega (arith, l.words 0)))
    (ap (heights_of n) (drop_at (bytes_of 2 h) (heights_bytes hs) 2 (length_bytes_of 2 h))
    ∙ heights_back n hs (record { count = omega (arith, l.count); words = λ b. l.words (suc b) }))

-- ---- writing what was read

pub length_heights_of : (n : ℕ) (bs : List ℕ) → length (heights_of n bs) ≡ n
unfolding heights_of
length_heights_of zero bs = refl
length_heights_of (suc n) bs = ap suc (length_heights_of n (drop 2 bs))

pub heights_kept : (n : ℕ) (bs : List ℕ) → length bs ≡ 2 * n → Bytes bs → heights_bytes (heights_of n bs) ≡ bs
unfolding heights_of heights_bytes
heights_kept zero [] l B = refl
heights_kept zero (b ∷ bs) l B = absurd (omega arith)
heights_kept (suc n) bs l B =
    ap₂ ◌++◌ (bytes_of_value 2 bs (omega arith) B) (heights_kept n (drop 2 bs) (omega (arith, length-drop 2 bs)) (bytes_drop 2 bs B))
    ∙ take-append-drop 2 bs

pub heights_words : (n : ℕ) (bs : List ℕ) → length bs ≡ 2 * n → Bytes bs → (b : ℕ) → get_or (heights_of n bs) b 0 < 2 ^ 16
unfolding heights_of
heights_words zero bs l B b = omega arith
heights_words (suc n) bs l B zero = two_bytes bs (omega arith) B
heights_words (suc n) bs l B (suc b) = heights_words n (drop 2 bs) (omega (arith, length-drop 2 bs)) (bytes_drop 2 bs B) b

-- ---- the loop that reads them

-- the number that two bytes write
abbrev pub pair_word : List ℕ → ℕ
pair_word pair = get_or pair 0 0 + 256 * get_or pair 1 0

from_two : (bs : List ℕ) → pair_word (take 2 bs) ≡ from_bytes (take 2 bs)
from_two [] = refl
from_two (a ∷ []) = omega arith
from_two (a ∷ b ∷ bs) = omega arith

pub pair_heights : (n : ℕ) (bs : List ℕ) → map pair_word (first_chunks 2 n bs) ≡ heights_of n bs
unfolding heights_of
pair_heights zero bs = refl
pair_heights (suc n) bs = ap₂ (λ x xs. x ∷ xs) (from_two bs) (pair_heights n (drop 2 bs))

-- the first k places of an array of 64 hold the numbers of the first k pairs
pub record Filled (pairs : List (List ℕ)) (k : ℕ) (array : List ℕ) : Type 0 where
  pub long : length array ≡ 64
  pub front : take k array ≡ map pair_word (take k pairs)

pub filled_more : (pairs : List (List ℕ)) (k x : ℕ) (array : List ℕ) → Filled pairs k array → k < length pairs → k < 64 → x ≡ pair_word (get_or pairs k []) → Filled pairs (k + 1) (set array k x)
filled_more pairs k x array g h l e =
    record {
      long = length-set array k x ∙ g.long;
      front = take_more_set array k x (omega (arith, g.long)) ∙ ap₂ (λ t y. t ++ y ∷ []) g.front e ∙ sym (map_more pair_word pairs k [] h);
    }

-- as many pairs as bays stand in their bytes
module _ (pairs : List (List ℕ)) (n : ℕ) (bs : List ℕ) (long : 2 * n ≤ length bs) (count : length pairs ≡ length (take (2 * n) bs) / 2) where
  pub pairs_count : length pairs ≡ n
  pairs_count = omega (arith, count, length-take-le (2 * n) bs long)

  pub filled_all : (k : ℕ) (array : List ℕ) → pairs ≡ first_chunks 2 (length (take (2 * n) bs) / 2) (take (2 * n) bs) → Filled pairs k array → length pairs ≤ k → k ≤ length pairs
      → take n array ≡ heights_of n (take (2 * n) bs)
  filled_all k array e g l u =
      let same : n ≡ k = omega (arith, pairs_count) in
      let half : length (take (2 * n) bs) / 2 ≡ n = sym count ∙ pairs_count in
      ap (λ m. take m array) same ∙ g.front ∙ ap (map pair_word) (take_all k pairs l ∙ e ∙ ap (λ m. first_chunks 2 m (take (2 * n) bs)) half) ∙ pair_heights n (take (2 * n) bs)
