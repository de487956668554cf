-- Writing a table, step by step: a word, the rows, the map, the head. Assumes nothing.
use Rattle.std.specs.Int.{bytes_low_first, byte_at, to_le_bytes, w64}
use borrow.Rule.Slice.PartMut.{put_mid}
use Rattle.std.proofs.Common.{length-set, ap₂, zero, Bool, true, false, cond, not, eqb, count_by, take, ◌≡◌, ℕ, suc, ◌+◌, ◌*◌, ◌/◌, ◌%◌, ◌^◌, ◌<◌, ◌≤◌, List, [], ◌∷◌, ◌++◌, length, get_or, drop, set, sym, refl, ap, ◌∙◌, pow-suc, arith, length-append, eq-eqb, ne_eqb}
use Rattle.std.proofs.Math.Nat.{div-div-eq-div-mul}
use Rattle.std.proofs.lemmas.List.Sums.{sum_by-cons}
use Rattle.std.proofs.lemmas.List.{drop-drop, drop_more, drop_all, length-take-le, take_more}
use Rattle.text.specs.Lay.{lay}
use Rattle.text.proofs.Lay.{lay_append, lay_is, lay_nil, length_lay}
use Rattle.tables.specs.Bytes.{bytes_of}
use Rattle.tables.specs.Written.{map_of, rows_bytes}
use Rattle.tables.proofs.Accepted.{length_bytes_of}

-- ---- one word

low_first : (i k n : ℕ) → bytes_low_first i k n ≡ bytes_of k (n / 256 ^ i)
unfolding bytes_of
low_first i zero n = refl
low_first i (suc k) n = rw (low_first (suc i) k n, byte_is i, up) refl
  where
    up : n / 256 ^ suc i ≡ n / 256 ^ i / 256
    up = ap (λ d. n / d) (pow-suc 256 i) ∙ sym (div-div-eq-div-mul n (256 ^ i) 256)

    byte_is : (i : ℕ) → byte_at i n ≡ n / 256 ^ i % 256
    byte_is zero = omega arith
    byte_is (suc i) = refl

-- the library's bytes of a word are those of the form
pub word_bytes : (x : ℕ) → to_le_bytes w64 x ≡ bytes_of 8 x
word_bytes x = let whole : x / 256 ^ 0 ≡ x = omega arith in low_first 0 8 x ∙ ap (bytes_of 8) whole

-- eight bytes written to a part of the buffer
pub word_laid : (out : List ℕ) (at n x : ℕ) (bytes : List ℕ) → at + 8 ≤ length out → n ≡ 8 → bytes ≡ to_le_bytes w64 x → put_mid at n out bytes ≡ lay out at (bytes_of 8 x)
word_laid out at n x bytes h eight e =
    let l : length (bytes_of 8 x) ≡ 8 = length_bytes_of 8 x in
    ap₂ (λ k bs. put_mid at k out bs) (eight ∙ sym l) (e ∙ word_bytes x)
    ∙ ap (λ t. take at out ++ (bytes_of 8 x ++ t)) (drop-drop (length (bytes_of 8 x)) at out) ∙ sym (lay_is out at (bytes_of 8 x) (omega arith))

-- ---- the rows

module _ (rows : List ℕ) (k : ℕ) (h : k < length rows) where
  pub rows_zero : get_or rows k 0 ≡ 0 → rows_bytes (drop k rows) ≡ rows_bytes (drop (k + 1) rows)
  unfolding rows_bytes
  rows_zero z = rw (drop_more rows k 0 h, eq-eqb (get_or rows k 0) 0 z)

  pub rows_some : (get_or rows k 0 ≡ 0 → ⊥) → rows_bytes (drop k rows) ≡ bytes_of 8 (get_or rows k 0) ++ rows_bytes (drop (k + 1) rows)
  unfolding rows_bytes
  rows_some nz = rw (drop_more rows k 0 h, ne_eqb (get_or rows k 0) 0 nz)

pub rows_end : (rows : List ℕ) (k : ℕ) → length rows ≤ k → rows_bytes (drop k rows) ≡ []
unfolding rows_bytes
rows_end rows k h = rw (drop_all k rows h)

module _ (rows : List ℕ) (k : ℕ) (h : k < length rows) (nz : get_or rows k 0 ≡ 0 → ⊥) where
  length_some : length (rows_bytes (drop k rows)) ≡ 8 + length (rows_bytes (drop (k + 1) rows))
  length_some =
      ap length (rows_some rows k h nz)
      ∙ omega (arith, length-append (bytes_of 8 (get_or rows k 0)) (rows_bytes (drop (k + 1) rows)), length_bytes_of 8 (get_or rows k 0))

-- what is still to be written, written from `next` on, makes the whole
pub record Putting (out₀ : List ℕ) (at : ℕ) (rows : List ℕ) (k next : ℕ) (out : List ℕ) : Type 0 where
  pub long : length out ≡ length out₀
  pub place : next + length (rows_bytes (drop k rows)) ≡ at + length (rows_bytes rows)
  pub whole : lay out next (rows_bytes (drop k rows)) ≡ lay out₀ at (rows_bytes rows)

module _ {out₀ : List ℕ} {at : ℕ} {rows : List ℕ} {k next : ℕ} {out : List ℕ} (g : Putting out₀ at rows k next out) where
  pub putting_zero : k < length rows → get_or rows k 0 ≡ 0 → Putting out₀ at rows (k + 1) next out
  putting_zero h z =
      let e = rows_zero rows k h z in
      record { long = g.long; place = rw (← e) g.place; whole = rw (← e) g.whole }

  pub putting_some : k < length rows → (get_or rows k 0 ≡ 0 → ⊥) → Putting out₀ at rows (k + 1) (next + 8) (lay out next (bytes_of 8 (get_or rows k 0)))
  putting_some h nz =
      let l : length (bytes_of 8 (get_or rows k 0)) ≡ 8 = length_bytes_of 8 (get_or rows k 0) in
      record {
        long = length_lay out next (bytes_of 8 (get_or rows k 0)) ∙ g.long;
        place = omega (arith, g.place, length_some rows k h nz);
        whole = ap (λ n. lay (lay out next (bytes_of 8 (get_or rows k 0))) (next + n) (rows_bytes (drop (k + 1) rows))) (sym l)
            ∙ sym (lay_append out next (bytes_of 8 (get_or rows k 0)) (rows_bytes (drop (k + 1) rows))) ∙ ap (lay out next) (sym (rows_some rows k h nz)) ∙ g.whole;
      }

  pub putting_room : k < length rows → (get_or rows k 0 ≡ 0 → ⊥) → at + length (rows_bytes rows) ≤ length out₀ → next + 8 ≤ length out
  putting_room h nz room = omega (arith, g.place, g.long, length_some rows k h nz)

  pub putting_done : length rows ≤ k → (next ≡ at + length (rows_bytes rows)) × (out ≡ lay out₀ at (rows_bytes rows))
  putting_done h =
      let e = rows_end rows k h in
      (omega (arith, g.place, ap length e), sym (lay_nil out next) ∙ ap (lay out next) (sym e) ∙ g.whole)

-- ---- the length

pub rows_count : (rows : List ℕ) → length (rows_bytes rows) ≡ 8 * count_by (λ row. not (eqb row 0)) rows
unfolding rows_bytes
rows_count [] = refl
rows_count (r ∷ rs) = one (eqb r 0) (rows_count rs) ∙ ap (λ n. 8 * n) (sym (sum_by-cons (λ row. cond (not (eqb row 0)) 1 0) r rs))
  where
    one : (t : Bool) → length (rows_bytes rs) ≡ 8 * count_by (λ row. not (eqb row 0)) rs
        → length (cond t (rows_bytes rs) (bytes_of 8 r ++ rows_bytes rs)) ≡ 8 * (cond (not t) 1 0 + count_by (λ row. not (eqb row 0)) rs)
    one true h = omega (arith, h)
    one false h = omega (arith, h, length-append (bytes_of 8 r) (rows_bytes rs), length_bytes_of 8 r)

-- ---- the map

map_push_zero : (rows : List ℕ) → map_of (rows ++ 0 ∷ []) ≡ map_of rows
unfolding map_of
map_push_zero [] = refl
map_push_zero (r ∷ rs) = ap (λ m. cond (eqb r 0) 0 1 + 2 * m) (map_push_zero rs)

map_push_some : (rows : List ℕ) (row : ℕ) → (row ≡ 0 → ⊥) → map_of (rows ++ row ∷ []) ≡ map_of rows + 2 ^ length rows
unfolding map_of
map_push_some [] row nz = rw (ne_eqb row 0 nz) refl
map_push_some (r ∷ rs) row nz = rw (pow-suc 2 (length rs)) (omega (arith, map_push_some rs row nz))

-- the map of the first k rows, which fits in as many bits
abbrev pub Mapping : (rows : List ℕ) (k map : ℕ) → Type 0
Mapping rows k map = (map ≡ map_of (take k rows)) × (map < 2 ^ k)

pub map_none : (rows : List ℕ) → Mapping rows 0 0
unfolding map_of
map_none rows = (refl, omega arith)

module _ (rows : List ℕ) (k map : ℕ) (h : k < length rows) (g : Mapping rows k map) where
  twice : 2 ^ (k + 1) ≡ 2 ^ k * 2
  twice = let up : k + 1 ≡ suc k = omega arith in ap (λ n. 2 ^ n) up ∙ pow-suc 2 k

  pub map_zero : get_or rows k 0 ≡ 0 → Mapping rows (k + 1) map
  map_zero z = (g.0 ∙ sym (rw (take_more rows k 0 h, z) (map_push_zero (take k rows))), omega (arith, g.1, twice))

  pub map_some : (get_or rows k 0 ≡ 0 → ⊥) → Mapping rows (k + 1) (map + 2 ^ k)
  map_some nz =
      let l : length (take k rows) ≡ k = length-take-le k rows (omega arith) in
      let m = map_push_some (take k rows) (get_or rows k 0) nz in
      (omega (arith, ap map_of (take_more rows k 0 h), m, ap (λ n. 2 ^ n) l, g.0), omega (arith, g.1, twice))

-- ---- the head of a table

-- the two counts and the map, as they are written
pub head_laid : (out : List ℕ) (a b x : ℕ) (bytes : List ℕ) → 10 ≤ length out → bytes ≡ to_le_bytes w64 x
    → put_mid 2 8 (set (set out 0 a) 1 b) bytes ≡ lay out 0 (a ∷ (b ∷ bytes_of 8 x))
unfolding lay
head_laid out a b x bytes h e =
    word_laid (set (set out 0 a) 1 b) 2 8 x bytes (omega (arith, length-set (set out 0 a) 1 b, length-set out 0 a, h)) refl e
