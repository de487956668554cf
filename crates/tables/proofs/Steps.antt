-- Reading a table, step by step: the loop over the rows, the map, the counts. Assumes nothing.
use Rattle.std.proofs.Common.{◌≡◌, ℕ, zero, suc, ◌+◌, ◌-◌, ◌/◌, ◌%◌, ◌^◌, ◌<◌, ◌≤◌, ◌≢◌, List, [], ◌∷◌, ◌++◌, length, get_or, take, drop, set, replicate, Bool, true, false, cond, ltb, None, Ok, Err, Result, sym, refl, ap, ◌∙◌, subst, ⊎_elim, append_assoc, append-nil, arith, length-drop, length-set, lt-ltb}
use Rattle.std.proofs.lemmas.Nat.{pow_pos}
use Rattle.std.proofs.lemmas.List.{drop-drop, get_or-set_same, get_or-set_other, set_past, take_more, take_more_set}
use Rattle.std.proofs.lemmas.Result.{IfOk-at_ok}
use Rattle.std.proofs.lemmas.Bool.{cases_eq, cases_lt}
use Rattle.tables.specs.declared.fault.TableFault.{TableFault}
use Rattle.tables.specs.declared.fault.TableCause.TheVariants.{Ended}
use Rattle.tables.specs.Bytes.{from_bytes}
use Rattle.tables.specs.declared.part.Part.{Part}
use Rattle.tables.specs.Taking.{end_of, ended, next_byte, next_word, Past}
use Rattle.tables.specs.Shape.{Inside, Blank}
use Rattle.tables.specs.Parts.{and_then}
use Rattle.tables.specs.Read.{read_rows, behind, read_row, read_count, read_map, checked_map, lowest_past, table_from, checked_count, ill, held}
use Rattle.tables.proofs.Accepted.{Row, row_accepted}

-- what was read with rows in front
abbrev pub resumed : List ℕ → Result (List ℕ × ℕ) TableFault → Result (List ℕ × ℕ) TableFault
resumed xs (Ok p) = Ok (xs ++ p.0, p.1)
resumed xs (Err e) = Err e

resumed_behind : (xs : List ℕ) (row : ℕ) (r : Result (List ℕ × ℕ) TableFault) → resumed (xs ++ row ∷ []) r ≡ resumed xs (behind row r)
resumed_behind xs row (Ok p) = rw append_assoc
resumed_behind xs row (Err e) = refl

module _ (map columns end at : ℕ) (bs : List ℕ) where
  skip : (n : ℕ) (xs : List ℕ) → map % 2 ≡ 0 → resumed (xs ++ 0 ∷ []) (read_rows n (map / 2) columns end at bs) ≡ resumed xs (read_rows (suc n) map columns end at bs)
  unfolding read_rows
  skip n xs e = rw e (resumed_behind xs 0 (read_rows n (map / 2) columns end at bs))

  stored : (n row : ℕ) (xs : List ℕ) → map % 2 ≡ 1 → read_row end at columns bs ≡ Ok row → resumed (xs ++ row ∷ []) (read_rows n (map / 2) columns end (at + 8) (drop 8 bs)) ≡ resumed xs (read_rows (suc n) map columns end at bs)
  unfolding read_rows
  stored n row xs e o = rw (e, o) (resumed_behind xs row (read_rows n (map / 2) columns end (at + 8) (drop 8 bs)))

  done : (xs : List ℕ) → resumed xs (read_rows 0 map columns end at bs) ≡ Ok (xs, at)
  unfolding read_rows
  done xs = rw append-nil

  refused : (n : ℕ) (e : TableFault) (xs : List ℕ) → map % 2 ≡ 1 → read_row end at columns bs ≡ Err e → Err e ≡ resumed xs (read_rows (suc n) map columns end at bs)
  unfolding read_rows
  refused n e xs one o = rw (one, o)

  -- a turn that reads no row
  skip_at : (count k : ℕ) (bits : List ℕ) → k < count → k < length bits → get_or bits k 0 ≡ 0 → map % 2 ≡ 0
      → resumed (take (k + 1) bits) (read_rows (count - (k + 1)) (map / 2) columns end at bs) ≡ resumed (take k bits) (read_rows (count - k) map columns end at bs)
  skip_at count k bits l h z e =
      let n : count - k ≡ suc (count - (k + 1)) = omega arith in
      rw (take_more bits k 0 h, z, n) (skip (count - (k + 1)) (take k bits) e)

  -- a turn that reads the row `row`
  stored_at : (count k row : ℕ) (bits : List ℕ) → k < count → k < length bits → map % 2 ≡ 1 → read_row end at columns bs ≡ Ok row
      → resumed (take (k + 1) (set bits k row)) (read_rows (count - (k + 1)) (map / 2) columns end (at + 8) (drop 8 bs)) ≡ resumed (take k bits) (read_rows (count - k) map columns end at bs)
  stored_at count k row bits l h e o =
      let n : count - k ≡ suc (count - (k + 1)) = omega arith in
      rw (take_more_set bits k row h, n) (stored (count - (k + 1)) row (take k bits) e o)

  -- a turn that finds a fault
  refused_at : (count k : ℕ) (e : TableFault) (bits : List ℕ) → k < count → map % 2 ≡ 1 → read_row end at columns bs ≡ Err e
      → Err e ≡ resumed (take k bits) (read_rows (count - k) map columns end at bs)
  refused_at count k e bits l one o =
      let n : count - k ≡ suc (count - (k + 1)) = omega arith in
      rw n (refused (count - (k + 1)) e (take k bits) one o)

-- what is left after some bytes ends where it ended
pub past_ends : (n : ℕ) (part part' : Part) → Past n part part' → end_of part' ≡ end_of part
past_ends n part part' p = omega (arith, p.place, ap length p.bytes, length-drop n part.bytes.now, p.enough)

pub resumed_none : (r : Result (List ℕ × ℕ) TableFault) → resumed [] r ≡ r
resumed_none (Ok p) = refl
resumed_none (Err e) = refl

pub zeros : (n j : ℕ) → get_or {A = ℕ} (replicate n 0) j 0 ≡ 0
zeros zero j = refl
zeros (suc n) zero = refl
zeros (suc n) (suc j) = zeros n j

-- no row is set yet
pub zeros_inside : (columns n k : ℕ) → get_or {A = ℕ} (replicate n 0) k 0 < 2 ^ columns
zeros_inside columns n k = rw (zeros n k) (pow_pos columns)

-- one row more is set
pub set_inside : (columns k row : ℕ) (bits : List ℕ) → Inside columns bits → row < 2 ^ columns → Inside columns (set bits k row)
set_inside columns k row bits f h j =
    ⊎_elim
    (λ e. ⊎_elim
    (λ l. subst (λ (x : ℕ). get_or (set bits k row) x 0 < 2 ^ columns) (sym e) (subst (λ (x : ℕ). x < 2 ^ columns) (sym (get_or-set_same bits k row 0 l)) h))
    (λ g. rw (set_past bits k row (omega arith)) (f j))
    (cases_lt k (length bits)))
    (λ ne. rw (get_or-set_other bits k j row 0 ne) (f j))
    (cases_eq j k)

-- ---- the rows

-- before the row k: what is left of the bytes ends where they ended, what was read and what is still to be read make
-- up the whole answer, the rows from k on are still zero, and those before have no bit past the columns
pub record Going (start part : Part) (map columns count k left : ℕ) (rows : List ℕ) : Type 0 where
  pub ends : end_of part ≡ end_of start
  pub few : count ≤ 64
  pub long : length rows ≡ 64
  pub whole : resumed (take k rows) (read_rows (count - k) left columns (end_of start) part.at part.bytes.now) ≡ read_rows count map columns (end_of start) start.at start.bytes.now
  pub blank : Blank k rows
  pub inside : Inside columns rows

pub going_none : (start : Part) (map columns count : ℕ) → count ≤ 64 → Going start start map columns count 0 map (replicate 64 0)
going_none start map columns count few =
    record {
      ends = refl;
      few = few;
      long = refl;
      whole = let all : count - 0 ≡ count = omega arith in rw all (resumed_none _);
      blank = λ j h. zeros 64 j;
      inside = zeros_inside columns 64;
    }

module _ {start part : Part} {map columns count k left : ℕ} {rows : List ℕ} (g : Going start part map columns count k left rows) where
  pub going_skip : k < count → left % 2 ≡ 0 → Going start part map columns count (k + 1) (left / 2) rows
  going_skip l e =
      record {
        ends = g.ends;
        few = g.few;
        long = g.long;
        whole = skip_at left columns (end_of start) part.at part.bytes.now count k rows l (omega (arith, g.long, g.few)) (g.blank k (omega arith)) e ∙ g.whole;
        blank = λ j h. g.blank j (omega arith);
        inside = g.inside;
      }

  pub going_stored : (row : ℕ) (part' : Part) → k < count → left % 2 ≡ 1 → Past 8 part part' → read_row (end_of part) part.at columns part.bytes.now ≡ Ok row
      → Going start part' map columns count (k + 1) (left / 2) (set rows k row)
  going_stored row part' l e past o =
      let here : read_row (end_of start) part.at columns part.bytes.now ≡ Ok row = rw (← g.ends) o in
      let w : Row columns part.bytes.now row = IfOk-at_ok (Row columns part.bytes.now) here (row_accepted (end_of start) part.at columns part.bytes.now) in
      record {
        ends = past_ends 8 part part' past ∙ g.ends;
        few = g.few;
        long = length-set rows k row ∙ g.long;
        whole = rw (past.place, past.bytes) (stored_at left columns (end_of start) part.at part.bytes.now count k row rows l (omega (arith, g.long, g.few)) e here ∙ g.whole);
        blank = λ j h. let ne : j ≢ k = omega arith in rw get_or-set_other (g.blank j (omega arith));
        inside = set_inside columns k row rows g.inside w.narrow;
      }

  pub going_refused : (e : TableFault) → k < count → left % 2 ≡ 1 → read_row (end_of part) part.at columns part.bytes.now ≡ Err e
      → Err e ≡ read_rows count map columns (end_of start) start.at start.bytes.now
  going_refused e l one o =
      let here : read_row (end_of start) part.at columns part.bytes.now ≡ Err e = rw (← g.ends) o in
      refused_at left columns (end_of start) part.at part.bytes.now count k e rows l one here ∙ g.whole

pub going_done : {start part : Part} {map columns count left : ℕ} {rows : List ℕ} → Going start part map columns count count left rows
    → Ok (take count rows, part.at) ≡ read_rows count map columns (end_of start) start.at start.bytes.now
going_done {start} {part} {map} {columns} {count} {left} {rows} g =
    let none : count - count ≡ 0 = omega arith in
    let w = rw none at g.whole in
    sym (done left columns (end_of start) part.at part.bytes.now (take count rows)) ∙ w

-- ---- what is read next, and what then

next_then : {X Y E : Type 0} (t : Bool) (e : E) (x : X) (f : X → Result Y E) → cond t (Err e) (f x) ≡ and_then (cond t (Err e) (Ok x)) f
next_then true e x f = refl
next_then false e x f = refl

-- ---- the map

module _ (count columns : ℕ) (part : Part) where
  map_next : read_map count columns (end_of part) part.at part.bytes.now
      ≡ and_then (next_word (end_of part) part.bytes.now) (λ map. checked_map count columns map (end_of part) part.at (drop 8 part.bytes.now))
  map_next = next_then (ltb (length part.bytes.now) 8) (ended (end_of part)) (from_bytes (take 8 part.bytes.now)) (λ map. checked_map count columns map (end_of part) part.at (drop 8 part.bytes.now))

  module _ (map : ℕ) (o : Ok map ≡ next_word (end_of part) part.bytes.now) where
    pub map_held : None ≡ lowest_past map count → (part' : Part) → Past 8 part part'
        → held columns (read_rows count map columns (end_of part') part'.at part'.bytes.now) ≡ read_map count columns (end_of part) part.at part.bytes.now
    map_held l part' p = rw (map_next, ← o, checked_map, ← l, past_ends 8 part part' p, p.place, p.bytes)

-- ---- the whole table

module _ (end at : ℕ) where
  count_next : (bs : List ℕ) → read_count end at bs ≡ and_then (next_byte end bs) (λ b. checked_count b at)
  count_next bs = next_then (ltb (length bs) 1) (ended end) (get_or bs 0 0) (λ b. checked_count b at)

pub table_none : (end at : ℕ) (bs : List ℕ) → length bs < 1 → ill Ended end ≡ table_from end at bs
unfolding table_from
table_none end at bs short = rw (lt-ltb (length bs) 1 short)

module _ (part : Part) where
  pub table_ended : (e : TableFault) → Err e ≡ next_byte (end_of part) part.bytes.now → Err e ≡ table_from (end_of part) part.at part.bytes.now
  unfolding table_from
  table_ended e o = rw (count_next (end_of part) part.at part.bytes.now, ← o)

  module _ (b : ℕ) (o : Ok b ≡ next_byte (end_of part) part.bytes.now) where
    pub table_rows : (e : TableFault) → Err e ≡ checked_count b part.at → Err e ≡ table_from (end_of part) part.at part.bytes.now
    unfolding table_from
    table_rows e r = rw (count_next (end_of part) part.at part.bytes.now, ← o, ← r)

    module _ (rows : ℕ) (r : Ok rows ≡ checked_count b part.at) (behind : Part) (p : Past 1 part behind) where
      pub table_short : (e : TableFault) → Err e ≡ next_byte (end_of behind) behind.bytes.now → Err e ≡ table_from (end_of part) part.at part.bytes.now
      unfolding table_from
      table_short e o' =
          let next : Err e ≡ next_byte (end_of part) (drop 1 part.bytes.now) = rw (past_ends 1 part behind p, p.bytes) at o' in
          rw (count_next (end_of part) part.at part.bytes.now, ← o, ← r, count_next (end_of part) (part.at + 1) (drop 1 part.bytes.now), ← next)

      module _ (b' : ℕ) (o' : Ok b' ≡ next_byte (end_of behind) behind.bytes.now) where
        next : Ok b' ≡ next_byte (end_of part) (drop 1 part.bytes.now)
        next = rw (past_ends 1 part behind p, p.bytes) at o'

        pub table_columns : (e : TableFault) → Err e ≡ checked_count b' (part.at + 1) → Err e ≡ table_from (end_of part) part.at part.bytes.now
        unfolding table_from
        table_columns e l = rw (count_next (end_of part) part.at part.bytes.now, ← o, ← r, count_next (end_of part) (part.at + 1) (drop 1 part.bytes.now), ← next, ← l)

        pub table_map : (columns : ℕ) → Ok columns ≡ checked_count b' (part.at + 1) → (rest : Part) → Past 1 behind rest
            → read_map rows columns (end_of rest) rest.at rest.bytes.now ≡ table_from (end_of part) part.at part.bytes.now
        unfolding table_from
        table_map columns l rest q =
            let ends : end_of rest ≡ end_of part = past_ends 1 behind rest q ∙ past_ends 1 part behind p in
            let place : rest.at ≡ part.at + 2 = omega (arith, p.place, q.place) in
            let bytes : rest.bytes.now ≡ drop 2 part.bytes.now = q.bytes ∙ ap (drop 1) p.bytes ∙ drop-drop 1 1 part.bytes.now in
            rw (count_next (end_of part) part.at part.bytes.now, ← o, ← r, count_next (end_of part) (part.at + 1) (drop 1 part.bytes.now), ← next, ← l, ends, place, bytes)
