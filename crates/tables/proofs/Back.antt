-- Reading what was written gives it back. Assumes nothing.
use Rattle.std.proofs.Common.{◌≡◌, ℕ, suc, ◌+◌, ◌*◌, ◌/◌, ◌%◌, ◌^◌, ◌<◌, ◌≤◌, Bool, true, false, cond, eqb, ltb, List, [], ◌∷◌, ◌++◌, length, get_or, take, drop, Ok, ap, ◌∙◌, ⊎_elim, append_assoc, pow-suc, arith, length-append, pow_mono, le-ltb, ne_eqb}
use native.Mathlib.Nat.{div-eq_of_lt}
use Rattle.std.proofs.lemmas.List.{take_at, drop_at}
use Rattle.std.proofs.lemmas.Bool.{cases_eq}
use Rattle.tables.specs.Bytes.{from_bytes, bytes_of}
use Rattle.tables.specs.Shape.{Inside}
use Rattle.tables.specs.Form.{Form, Lawful}
use Rattle.tables.specs.Written.{map_of, rows_bytes, table_bytes}
use Rattle.tables.specs.Read.{read_rows, behind, read_row, read_map, checked_map, table_from, checked_row}
use Rattle.tables.proofs.Accepted.{length_bytes_of, value_of_bytes}

-- eight bytes in front
module _ (x : ℕ) (small : x < 2 ^ 64) (rest : List ℕ) where
  long : 8 ≤ length (bytes_of 8 x ++ rest)
  long = omega (arith, length-append (bytes_of 8 x) rest, length_bytes_of 8 x)

  word : from_bytes (take 8 (bytes_of 8 x ++ rest)) ≡ x
  word = ap from_bytes (take_at (bytes_of 8 x) rest 8 (length_bytes_of 8 x)) ∙ value_of_bytes 8 x small

  after : drop 8 (bytes_of 8 x ++ rest) ≡ rest
  after = drop_at (bytes_of 8 x) rest 8 (length_bytes_of 8 x)

checked_back : (r at columns : ℕ) → r < 2 ^ columns → (r ≡ 0 → ⊥) → checked_row r at columns ≡ Ok r
checked_back r at columns h nz = rw (ne_eqb r 0 nz, div-eq_of_lt {n = r} {m = 2 ^ columns} h)

row_back : (end at columns r : ℕ) (rest : List ℕ) → columns ≤ 64 → r < 2 ^ columns → (r ≡ 0 → ⊥) → read_row end at columns (bytes_of 8 r ++ rest) ≡ Ok r
row_back end at columns r rest few h nz =
    let top : 2 ^ columns ≤ 2 ^ 64 = pow_mono few in
    let small : r < 2 ^ 64 = omega arith in
    rw (le-ltb (length (bytes_of 8 r ++ rest)) 8 (long r small rest))
    (ap (λ w. checked_row w at columns) (word r small rest) ∙ checked_back r at columns h nz)

module _ (n columns end at : ℕ) (bs : List ℕ) where
  rows_even : (m : ℕ) → read_rows (suc n) (0 + 2 * m) columns end at bs ≡ behind 0 (read_rows n m columns end at bs)
  unfolding read_rows
  rows_even m =
      let even : (0 + 2 * m) % 2 ≡ 0 = omega arith in
      let half : (0 + 2 * m) / 2 ≡ m = omega arith in
      rw (even, half)

  rows_odd : (m row : ℕ) → read_row end at columns bs ≡ Ok row → read_rows (suc n) (1 + 2 * m) columns end at bs ≡ behind row (read_rows n m columns end (at + 8) (drop 8 bs))
  unfolding read_rows
  rows_odd m row o =
      let odd : (1 + 2 * m) % 2 ≡ 1 = omega arith in
      let half : (1 + 2 * m) / 2 ≡ m = omega arith in
      rw (odd, half, o)

module _ (columns end : ℕ) (few : columns ≤ 64) (rest : List ℕ) where
  back_skip : (at r : ℕ) (rs : List ℕ) → read_rows (length rs) (map_of rs) columns end at (rows_bytes rs ++ rest) ≡ Ok (rs, at + length (rows_bytes rs)) → r ≡ 0 → read_rows (length (r ∷ rs)) (map_of (r ∷ rs)) columns end at (rows_bytes (r ∷ rs) ++ rest) ≡ Ok (r ∷ rs, at + length (rows_bytes (r ∷ rs)))
  unfolding map_of rows_bytes
  back_skip at r rs g z = rw (z, rows_even (length rs) columns end at (rows_bytes rs ++ rest) (map_of rs), g)

  back_stored : (at r : ℕ) (rs : List ℕ) → read_rows (length rs) (map_of rs) columns end (at + 8) (rows_bytes rs ++ rest) ≡ Ok (rs, at + 8 + length (rows_bytes rs)) → r < 2 ^ columns → (r ≡ 0 → ⊥) → read_rows (length (r ∷ rs)) (map_of (r ∷ rs)) columns end at (rows_bytes (r ∷ rs) ++ rest) ≡ Ok (r ∷ rs, at + length (rows_bytes (r ∷ rs)))
  unfolding map_of rows_bytes
  back_stored at r rs g h nz =
      let top : 2 ^ columns ≤ 2 ^ 64 = pow_mono few in
      let small : r < 2 ^ 64 = omega arith in
      let place : at + length (bytes_of 8 r ++ rows_bytes rs) ≡ at + 8 + length (rows_bytes rs) = omega (arith, length-append (bytes_of 8 r) (rows_bytes rs), length_bytes_of 8 r) in
      let step = rows_odd (length rs) columns end at (bytes_of 8 r ++ (rows_bytes rs ++ rest)) (map_of rs) r (row_back end at columns r (rows_bytes rs ++ rest) few h nz) in
      rw (ne_eqb r 0 nz, append_assoc (bytes_of 8 r) (rows_bytes rs) rest, place, step, after r small (rows_bytes rs ++ rest), g)

  pub rows_back : (at : ℕ) (rs : List ℕ) → ((k : ℕ) → get_or rs k 0 < 2 ^ columns) → read_rows (length rs) (map_of rs) columns end at (rows_bytes rs ++ rest) ≡ Ok (rs, at + length (rows_bytes rs))
  unfolding read_rows map_of rows_bytes
  rows_back at [] f = let e : at + 0 ≡ at = omega arith in rw e
  rows_back at (r ∷ rs) f =
      ⊎_elim (back_skip at r rs (rows_back at rs (λ k. f (suc k))))
      (back_stored at r rs (rows_back (at + 8) rs (λ k. f (suc k))) (f 0)) (cases_eq r 0)

map_small : (rows : List ℕ) → map_of rows < 2 ^ length rows
unfolding map_of
map_small [] = omega arith
map_small (r ∷ rs) = rw (pow-suc 2 (length rs)) (omega (arith, map_small rs, digit (eqb r 0)))
  where
    digit : (t : Bool) → cond t 0 1 < 2
    digit true = omega arith
    digit false = omega arith

map_checked : (count columns map end at : ℕ) (bs : List ℕ) → map < 2 ^ count → (p : List ℕ × ℕ) → read_rows count map columns end (at + 8) bs ≡ Ok p
    → checked_map count columns map end at bs ≡ Ok (record { columns = columns; rows = p.0 }, p.1)
map_checked count columns map end at bs h p g = rw (div-eq_of_lt {n = map} {m = 2 ^ count} h, g, checked_map)

map_back : (columns end at : ℕ) (rows rest : List ℕ) → length rows ≤ 64 → columns ≤ 64 → Inside columns rows
    → read_map (length rows) columns end at (bytes_of 8 (map_of rows) ++ (rows_bytes rows ++ rest)) ≡ Ok (record { columns = columns; rows = rows }, at + 8 + length (rows_bytes rows))
map_back columns end at rows rest few_rows few_columns narrow =
    let top : 2 ^ length rows ≤ 2 ^ 64 = pow_mono few_rows in
    let within = map_small rows in
    let small : map_of rows < 2 ^ 64 = omega arith in
    let g = rows_back columns end few_columns rest (at + 8) rows narrow in
    rw (le-ltb (length (bytes_of 8 (map_of rows) ++ (rows_bytes rows ++ rest))) 8 (long (map_of rows) small (rows_bytes rows ++ rest)), word (map_of rows) small (rows_bytes rows ++ rest), after (map_of rows) small (rows_bytes rows ++ rest))
    (map_checked (length rows) columns (map_of rows) end at (rows_bytes rows ++ rest) within (rows, at + 8 + length (rows_bytes rows)) g)

pub length_form : (f : Form) → length (table_bytes f) ≡ 10 + length (rows_bytes f.rows)
length_form f = omega (arith, length-append (bytes_of 8 (map_of f.rows)) (rows_bytes f.rows), length_bytes_of 8 (map_of f.rows))

pub table_back : (f : Form) (end at : ℕ) (rest : List ℕ) → Lawful f → table_from end at (table_bytes f ++ rest) ≡ Ok (f, at + length (table_bytes f))
unfolding table_from
table_back f end at rest s =
    let body : List ℕ = (bytes_of 8 (map_of f.rows) ++ rows_bytes f.rows) ++ rest in
    let one : ltb (length (length f.rows ∷ (f.columns ∷ body))) 1 ≡ false = le-ltb _ _ (omega arith) in
    let two : ltb (length (f.columns ∷ body)) 1 ≡ false = le-ltb _ _ (omega arith) in
    let few : ltb 64 (length f.rows) ≡ false = le-ltb 64 (length f.rows) s.few_rows in
    let few' : ltb 64 f.columns ≡ false = le-ltb 64 f.columns s.few_columns in
    let place : at + length (table_bytes f) ≡ at + 2 + 8 + length (rows_bytes f.rows) = omega (arith, length_form f) in
    rw (one, few, two, few', append_assoc (bytes_of 8 (map_of f.rows)) (rows_bytes f.rows) rest, place)
    (map_back f.columns end (at + 2) f.rows rest s.few_rows s.few_columns s.inside)
