-- What reading accepts is what writing writes. Assumes nothing.
use Rattle.std.proofs.Common.{◌≡◌, ℕ, zero, suc, ◌+◌, ◌*◌, ◌/◌, ◌%◌, ◌^◌, ◌<◌, ◌≤◌, false, eqb, ltb, List, [], ◌∷◌, ◌++◌, length, get_or, take, drop, IfOk, Some, None, Ok, Err, Option, Result, sym, refl, ap, ◌∙◌, append_assoc, pow-suc, add-one, arith, length-append, ltb-false, ne_eqb, eqb-true}
use borrow.Author.Tests.{eqb-false}
use Rattle.std.proofs.lemmas.Nat.{div_below, pow_pos, shr_below}
use Rattle.std.proofs.lemmas.List.{take-append-drop}
use Rattle.std.proofs.lemmas.Result.{IfOk-weaker}
use Rattle.std.proofs.lemmas.Bool.{cond_both}
use Rattle.graphs.proofs.Bits.{below_none}
use Rattle.tables.specs.declared.fault.TableFault.{TableFault}
use Rattle.tables.specs.declared.fault.TableCause.TheVariants.{MapBit, RowBit}
use Rattle.tables.specs.Bytes.{Bytes, from_bytes, bytes_of}
use Rattle.tables.specs.Shape.{Inside}
use Rattle.tables.specs.Form.{Form, Lawful}
use Rattle.tables.specs.Written.{map_of, rows_bytes, table_bytes}
use Rattle.tables.specs.Parts.{and_then}
use Rattle.tables.proofs.Parts.{bytes_drop}
use Rattle.tables.specs.Read.{read_rows, behind, read_row, read_map, read_count, table_from, ill, held}

-- ---- numbers and their bytes

pub length_bytes_of : (n x : ℕ) → length (bytes_of n x) ≡ n
unfolding bytes_of
length_bytes_of zero x = refl
length_bytes_of (suc n) x = ap suc (length_bytes_of n (x / 256))

pub bytes_of_value : (n : ℕ) (bs : List ℕ) → n ≤ length bs → Bytes bs → bytes_of n (from_bytes (take n bs)) ≡ take n bs
unfolding bytes_of
bytes_of_value zero bs h B = refl
bytes_of_value (suc n) [] h B = absurd (omega arith)
bytes_of_value (suc n) (b ∷ bs) h B =
    let x : ℕ = from_bytes (take n bs) in
    let low : (b + 256 * from_bytes (take n bs)) % 256 ≡ b = omega (arith, B 0) in
    let high : (b + 256 * from_bytes (take n bs)) / 256 ≡ from_bytes (take n bs) = omega (arith, B 0) in
    rw (low, high, bytes_of_value n bs (omega arith) (λ i. B (suc i)))

pub value_of_bytes : (n x : ℕ) → x < 256 ^ n → from_bytes (bytes_of n x) ≡ x
unfolding bytes_of
value_of_bytes zero x h = omega arith
value_of_bytes (suc n) x h =
    let p : 256 ^ suc n ≡ 256 ^ n * 256 = pow-suc 256 n in
    let q : x / 256 < 256 ^ n = div_below x 256 (256 ^ n) (omega arith) (omega arith) in
    rw (value_of_bytes n (x / 256) q) (omega arith)

-- ---- what is known of a value that was read

and_then_made : {X Y E : Type 0} (r : Result X E) (f : X → Result Y E) (P : X → Type 0) (Q : Y → Type 0) → IfOk r P → ((x : X) → P x → IfOk (f x) Q) → IfOk (and_then r f) Q
and_then_made (Ok x) f P Q p g = g x p
and_then_made (Err e) f P Q p g = tt

-- a stored row
pub record Row (columns : ℕ) (bs : List ℕ) (row : ℕ) : Type 0 where
  pub long : 8 ≤ length bs
  pub value : row ≡ from_bytes (take 8 bs)
  pub some : row ≡ 0 → ⊥
  pub narrow : row < 2 ^ columns

pub row_accepted : (end at columns : ℕ) (bs : List ℕ) → IfOk (read_row end at columns bs) (Row columns bs)
row_accepted end at columns bs =
    let w : ℕ = from_bytes (take 8 bs) in
    cond_both (ltb (length bs) 8) _ _ (λ r. IfOk r (Row columns bs)) (λ _. tt)
    (λ long. cond_both (eqb w 0) _ _ (λ r. IfOk r (Row columns bs)) (λ _. tt)
    (λ some. cond_both {A = Option ℕ} (eqb (w / 2 ^ columns) 0) _ _
    (λ o. IfOk (elim o [ Some b ↦ ill RowBit (at + b / 8) | None ↦ Ok w ]) (Row columns bs))
    (λ narrow. record { long = ltb-false (length bs) 8 long; value = refl; some = eqb-false w 0 some; narrow = below_none w columns (eqb-true (w / 2 ^ columns) 0 narrow) })
    (λ _. tt)))

-- ---- the rows

pub record Rows (n map columns at : ℕ) (bs rs : List ℕ) (next : ℕ) : Type 0 where
  pub count : length rs ≡ n
  pub named : map_of rs ≡ map
  pub narrow : (k : ℕ) → get_or rs k 0 < 2 ^ columns
  pub rest : List ℕ
  pub form : bs ≡ rows_bytes rs ++ rest
  pub place : next ≡ at + length (rows_bytes rs)

narrow_cons : (columns r : ℕ) (rs : List ℕ) → r < 2 ^ columns → ((k : ℕ) → get_or rs k 0 < 2 ^ columns) → (k : ℕ) → get_or (r ∷ rs) k 0 < 2 ^ columns
narrow_cons columns r rs h f zero = h
narrow_cons columns r rs h f (suc k) = f k

module _ (map columns at : ℕ) (bs : List ℕ) where
  rows_none : map < 2 ^ 0 → Rows 0 map columns at bs [] at
  unfolding map_of rows_bytes
  rows_none h = record { count = refl; named = omega arith; narrow = λ k. pow_pos columns; rest = bs; form = refl; place = omega arith }

  rows_skip : (n : ℕ) (rs : List ℕ) (next : ℕ) → map % 2 ≡ 0 → Rows n (map / 2) columns at bs rs next → Rows (suc n) map columns at bs (0 ∷ rs) next
  unfolding map_of rows_bytes
  rows_skip n rs next e g =
      record {
        count = ap suc g.count;
        named = omega (arith, g.named);
        narrow = narrow_cons columns 0 rs (pow_pos columns) g.narrow;
        rest = g.rest;
        form = g.form;
        place = g.place;
      }

  rows_stored : (n row : ℕ) (rs : List ℕ) (next : ℕ) → map % 2 ≡ 1 → Bytes bs → Row columns bs row → Rows n (map / 2) columns (at + 8) (drop 8 bs) rs next → Rows (suc n) map columns at bs (row ∷ rs) next
  unfolding map_of rows_bytes
  rows_stored n row rs next e B w g =
      let eight : bytes_of 8 row ≡ take 8 bs = ap (bytes_of 8) w.value ∙ bytes_of_value 8 bs w.long B in
      let nz : eqb row 0 ≡ false = ne_eqb row 0 w.some in
      record {
        count = ap suc g.count;
        named = rw nz (omega (arith, g.named));
        narrow = narrow_cons columns row rs w.narrow g.narrow;
        rest = g.rest;
        form = rw (nz, eight) (sym (take-append-drop 8 bs) ∙ ap (λ t. take 8 bs ++ t) g.form ∙ sym (append_assoc (take 8 bs) (rows_bytes rs) g.rest));
        place = rw nz (omega (arith, g.place, length-append (bytes_of 8 row) (rows_bytes rs), length_bytes_of 8 row));
      }

abbrev Good : (n map columns at : ℕ) (bs : List ℕ) → Result (List ℕ × ℕ) TableFault → Type 0
Good n map columns at bs r = IfOk r (λ p. Rows n map columns at bs p.0 p.1)

behind_made : (row : ℕ) (r : Result (List ℕ × ℕ) TableFault) (P Q : List ℕ → ℕ → Type 0) → IfOk r (λ p. P p.0 p.1) → ((rs : List ℕ) (next : ℕ) → P rs next → Q (row ∷ rs) next) → IfOk (behind row r) (λ p. Q p.0 p.1)
behind_made row (Ok p) P Q g f = f p.0 p.1 g
behind_made row (Err e) P Q g f = tt

not_zero : (n : ℕ) → (n % 2 ≡ 0 → ⊥) → n % 2 ≡ 1
not_zero n h = omega arith

pub rows_accepted : (n map columns end at : ℕ) (bs : List ℕ) → map < 2 ^ n → Bytes bs → Good n map columns at bs (read_rows n map columns end at bs)
unfolding read_rows
rows_accepted zero map columns end at bs h B = rows_none map columns at bs h
rows_accepted (suc n) map columns end at bs h B =
    let half : map / 2 < 2 ^ n = shr_below map n 1 (rw add-one h) in
    cond_both (eqb (map % 2) 0) _ _ (Good (suc n) map columns at bs)
    (λ z. behind_made 0 (read_rows n (map / 2) columns end at bs) (Rows n (map / 2) columns at bs) (Rows (suc n) map columns at bs)
    (rows_accepted n (map / 2) columns end at bs half B)
    (λ rs next g. rows_skip map columns at bs n rs next (eqb-true (map % 2) 0 z) g))
    (λ o. and_then_made (read_row end at columns bs) _ (Row columns bs) (λ p. Rows (suc n) map columns at bs p.0 p.1) (row_accepted end at columns bs)
    (λ row w. behind_made row (read_rows n (map / 2) columns end (at + 8) (drop 8 bs)) (Rows n (map / 2) columns (at + 8) (drop 8 bs)) (Rows (suc n) map columns at bs)
    (rows_accepted n (map / 2) columns end (at + 8) (drop 8 bs) half (bytes_drop 8 bs B))
    (λ rs next g. rows_stored map columns at bs n row rs next (not_zero map (eqb-false (map % 2) 0 o)) B w g)))

-- ---- the map and the rows behind it

pub record Tail (count columns at : ℕ) (bs : List ℕ) (f : Form) (next : ℕ) : Type 0 where
  pub columns_is : f.columns ≡ columns
  pub count_is : length f.rows ≡ count
  pub narrow : Inside columns f.rows
  pub rest : List ℕ
  pub form : bs ≡ (bytes_of 8 (map_of f.rows) ++ rows_bytes f.rows) ++ rest
  pub place : next ≡ at + 8 + length (rows_bytes f.rows)

tail_of : (count columns at : ℕ) (bs : List ℕ) (rows : List ℕ) (next : ℕ) → 8 ≤ length bs → Bytes bs
    → Rows count (from_bytes (take 8 bs)) columns (at + 8) (drop 8 bs) rows next → Tail count columns at bs (record { columns = columns; rows = rows }) next
tail_of count columns at bs rows next long B g =
    let eight : bytes_of 8 (map_of rows) ≡ take 8 bs = ap (bytes_of 8) g.named ∙ bytes_of_value 8 bs long B in
    record {
      columns_is = refl;
      count_is = g.count;
      narrow = g.narrow;
      rest = g.rest;
      form = rw eight (sym (take-append-drop 8 bs) ∙ ap (λ t. take 8 bs ++ t) g.form ∙ sym (append_assoc (take 8 bs) (rows_bytes rows) g.rest));
      place = g.place;
    }

map_accepted : (count columns end at : ℕ) (bs : List ℕ) → Bytes bs → IfOk (read_map count columns end at bs) (λ p. Tail count columns at bs p.0 p.1)
map_accepted count columns end at bs B =
    let w : ℕ = from_bytes (take 8 bs) in
    cond_both (ltb (length bs) 8) _ _ (λ r. IfOk r (λ p. Tail count columns at bs p.0 p.1)) (λ _. tt)
    (λ long. cond_both {A = Option ℕ} (eqb (w / 2 ^ count) 0) _ _
    (λ o. IfOk (elim o [ Some b ↦ ill MapBit (at + b / 8) | None ↦ held columns (read_rows count w columns end (at + 8) (drop 8 bs)) ]) (λ p. Tail count columns at bs p.0 p.1))
    (λ z.
    and_then_made (read_rows count w columns end (at + 8) (drop 8 bs)) _ (λ p. Rows count w columns (at + 8) (drop 8 bs) p.0 p.1) (λ p. Tail count columns at bs p.0 p.1)
    (rows_accepted count w columns end (at + 8) (drop 8 bs) (below_none w count (eqb-true (w / 2 ^ count) 0 z)) (bytes_drop 8 bs B))
    (λ p g. tail_of count columns at bs p.0 p.1 (ltb-false (length bs) 8 long) B g))
    (λ _. tt))

-- ---- the whole table

pub record Count (bs : List ℕ) (n : ℕ) : Type 0 where
  pub some : 1 ≤ length bs
  pub value : n ≡ get_or bs 0 0
  pub few : n ≤ 64

pub count_accepted : (end at : ℕ) (bs : List ℕ) → IfOk (read_count end at bs) (Count bs)
count_accepted end at bs =
    cond_both (ltb (length bs) 1) _ _ (λ r. IfOk r (Count bs)) (λ _. tt)
    (λ some. cond_both (ltb 64 (get_or bs 0 0)) _ _ (λ r. IfOk r (Count bs)) (λ _. tt)
    (λ few. record { some = ltb-false (length bs) 1 some; value = refl; few = ltb-false 64 (get_or bs 0 0) few }))

two_bytes : (bs : List ℕ) → 1 ≤ length bs → 1 ≤ length (drop 1 bs) → bs ≡ get_or bs 0 0 ∷ (get_or (drop 1 bs) 0 0 ∷ drop 2 bs)
two_bytes [] h k = absurd (omega arith)
two_bytes (a ∷ []) h k = absurd (omega arith)
two_bytes (a ∷ b ∷ bs) h k = refl

-- what an accepted part is: the saved form of what was read, and then what is left
pub record Accepted (at : ℕ) (bs : List ℕ) (f : Form) (next : ℕ) : Type 0 where
  pub lawful : Lawful f
  pub rest : List ℕ
  pub form : bs ≡ table_bytes f ++ rest
  pub place : next ≡ at + length (table_bytes f)

accepted_of : (at : ℕ) (bs : List ℕ) (count columns : ℕ) (f : Form) (next : ℕ) → Count bs count → Count (drop 1 bs) columns → Tail count columns (at + 2) (drop 2 bs) f next → Accepted at bs f next
accepted_of at bs count columns f next r c g =
    record {
      lawful = record {
        few_rows = rw g.count_is r.few;
        few_columns = rw g.columns_is c.few;
        inside = rw g.columns_is g.narrow;
      };
      rest = g.rest;
      form = two_bytes bs r.some c.some ∙ rw (g.count_is, g.columns_is, r.value, c.value) (ap (λ s. get_or bs 0 0 ∷ (get_or (drop 1 bs) 0 0 ∷ s)) g.form);
      place = omega (arith, g.place, length-append (bytes_of 8 (map_of f.rows)) (rows_bytes f.rows), length_bytes_of 8 (map_of f.rows));
    }

pub table_accepted : (end at : ℕ) (bs : List ℕ) → Bytes bs → IfOk (table_from end at bs) (λ p. Accepted at bs p.0 p.1)
unfolding table_from
table_accepted end at bs B =
    and_then_made (read_count end at bs) _ (Count bs) (λ p. Accepted at bs p.0 p.1) (count_accepted end at bs)
    (λ count r. and_then_made (read_count end (at + 1) (drop 1 bs)) _ (Count (drop 1 bs)) (λ p. Accepted at bs p.0 p.1) (count_accepted end (at + 1) (drop 1 bs))
    (λ columns c. IfOk-weaker (read_map count columns end (at + 2) (drop 2 bs)) (λ p. Tail count columns (at + 2) (drop 2 bs) p.0 p.1) (λ p. Accepted at bs p.0 p.1)
    (λ p g. accepted_of at bs count columns p.0 p.1 r c g)
    (map_accepted count columns end (at + 2) (drop 2 bs) (bytes_drop 2 bs B))))
