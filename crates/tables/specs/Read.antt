-- What reading a table answers, for every input. Assumes nothing.
use Rattle.std.specs.Prelude.{ℕ, zero, suc, ◌+◌, ◌/◌, ◌%◌, ◌^◌, cond, List, [], ◌∷◌, length, take, drop, Some, None, Ok, Err, Option, Result, ◌==◌, nat_lt, slice_index}
use Rattle.std.specs.Int.Count.{count_trailing_zeros}
use Rattle.tables.specs.declared.fault.TableCause.{TableCause}
use Rattle.tables.specs.declared.fault.TableCause.TheVariants.{Ended, TooMany, MapBit, ZeroRow, RowBit}
use Rattle.tables.specs.declared.fault.TableFault.{TableFault}
use Rattle.tables.specs.declared.table.Table.{Table}
use Rattle.tables.specs.Bytes.{from_bytes}
use Rattle.tables.specs.Form.{Form, view}
use Rattle.tables.specs.Parts.{and_then, Reader}

-- In what follows `end` is the length of the whole input, and `bs` what it holds from the place `at` on.

abbrev pub ill : {X : Type 0} → TableCause → ℕ → Result X TableFault
ill c p = Err (record { cause = c; place = p })

-- the lowest set bit at or past the limit of a number of 64 bits
abbrev pub lowest_past : (n limit : ℕ) → Option ℕ
lowest_past n limit = cond (n / 2 ^ limit == 0) None (Some (limit + count_trailing_zeros 64 (n / 2 ^ limit)))

-- a stored row is not zero and has no bit at or past the column count
abbrev pub checked_row : (row at columns : ℕ) → Result ℕ TableFault
checked_row row at columns =
    cond (row == 0) (ill ZeroRow at)
    (elim (lowest_past row columns) [ Some b ↦ ill RowBit (at + b / 8) | None ↦ Ok row ])

abbrev pub read_row : (end at columns : ℕ) → List ℕ → Result ℕ TableFault
read_row end at columns bs = cond (nat_lt (length bs) 8) (ill Ended end) (checked_row (from_bytes (take 8 bs)) at columns)

-- what was read with one row in front
abbrev pub behind : ℕ → Result (List ℕ × ℕ) TableFault → Result (List ℕ × ℕ) TableFault
behind row (Ok p) = Ok (row ∷ p.0, p.1)
behind row (Err e) = Err e

-- the next n rows, of which the lowest bit of the map says whether the first is stored, and the place behind them
unfoldable pub read_rows : (n map columns end at : ℕ) → List ℕ → Result (List ℕ × ℕ) TableFault
read_rows zero map columns end at bs = Ok ([], at)
read_rows (suc n) map columns end at bs =
    cond (map % 2 == 0)
    (behind 0 (read_rows n (map / 2) columns end at bs))
    (and_then (read_row end at columns bs) (λ row. behind row (read_rows n (map / 2) columns end (at + 8) (drop 8 bs))))

abbrev pub held : ℕ → Result (List ℕ × ℕ) TableFault → Result (Form × ℕ) TableFault
held columns r = and_then r (λ p. Ok (record { columns = columns; rows = p.0 }, p.1))

-- the map has no bit at or past the row count
abbrev pub checked_map : (count columns map end at : ℕ) → List ℕ → Result (Form × ℕ) TableFault
checked_map count columns map end at bs =
    elim (lowest_past map count) [
      | Some b ↦ ill MapBit (at + b / 8)
      | None ↦ held columns (read_rows count map columns end (at + 8) bs)
    ]

abbrev pub read_map : (count columns end at : ℕ) → List ℕ → Result (Form × ℕ) TableFault
read_map count columns end at bs =
    cond (nat_lt (length bs) 8) (ill Ended end) (checked_map count columns (from_bytes (take 8 bs)) end at (drop 8 bs))

-- a count of rows or columns is at most 64
abbrev pub checked_count : (byte at : ℕ) → Result ℕ TableFault
checked_count byte at = cond (nat_lt 64 byte) (ill TooMany at) (Ok byte)

abbrev pub read_count : (end at : ℕ) → List ℕ → Result ℕ TableFault
read_count end at bs = cond (nat_lt (length bs) 1) (ill Ended end) (checked_count (slice_index bs 0) at)

unfoldable pub table_from : (end at : ℕ) → List ℕ → Result (Form × ℕ) TableFault
table_from end at bs =
    and_then (read_count end at bs) (λ count.
    and_then (read_count end (at + 1) (drop 1 bs)) (λ columns.
    read_map count columns end (at + 2) (drop 2 bs)))

-- a table from the place `at` of the input on, and the place behind it
abbrev pub read_table : Reader Form TableFault
read_table input at = table_from (length input) at (drop at input)

-- what was read, by what the table holds
abbrev pub seen : {E : Type 0} → Result (Table × ℕ) E → Result (Form × ℕ) E
seen (Ok p) = Ok (view p.0, p.1)
seen (Err e) = Err e
