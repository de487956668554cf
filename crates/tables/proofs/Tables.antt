-- Tables are an exact part, as long as their stored rows make them, and every table is lawful. Assumes nothing.
use Rattle.std.proofs.Common.{◌≡◌, ℕ, suc, ◌+◌, ◌*◌, ◌%◌, ◌^◌, ◌<◌, ◌≤◌, min, Bool, true, false, cond, eqb, List, [], ◌∷◌, ◌++◌, map, length, take, drop, IfOk, Ok, Err, Result, sym, refl, ap, ◌∙◌, subst, ap₂, inl, inr, mod-eq_of_lt, arith, length-append, length-drop}
use Rattle.std.proofs.lemmas.Nat.{pow_pos}
use Rattle.std.proofs.lemmas.List.{drop_at, drop-drop, get_or_past, get_or-take, length-take, take_all}
use Rattle.std.proofs.lemmas.Result.{IfOk-at_ok, IfOk-weaker}
use Rattle.std.proofs.lemmas.Bool.{cases_lt}
use Rattle.tables.specs.declared.table.Table.{Table}
use Rattle.tables.specs.Bytes.{Bytes, bytes_of}
use Rattle.tables.specs.Form.{Form, Lawful, form_of, view}
use Rattle.tables.specs.Shape.{Inside}
use Rattle.tables.specs.Parts.{Anything, Holds, Exact}
use Rattle.tables.specs.Read.{read_table, table_from, seen}
use Rattle.tables.specs.Written.{rows_bytes, table_bytes, stored}
use Rattle.tables.proofs.Accepted.{Accepted, length_bytes_of, table_accepted}
use Rattle.tables.proofs.Back.{length_form, table_back}
use Rattle.tables.proofs.Parts.{bytes_drop, exact_of}

holds_of : (input : List ℕ) (at : ℕ) (f : Form) (next : ℕ) → Accepted at (drop at input) f next → Holds Lawful Anything table_bytes input at f next
holds_of input at f next a =
    let rest : drop next input ≡ a.rest =
    ap (λ n. drop n input) a.place ∙ sym (drop-drop (length (table_bytes f)) at input)
    ∙ ap (drop (length (table_bytes f))) a.form ∙ drop_at (table_bytes f) a.rest (length (table_bytes f)) refl in
    record { lawful = a.lawful; place = a.place; form = a.form ∙ ap (λ t. table_bytes f ++ t) (sym rest); follows = tt }

pub table_exact : Exact Lawful Anything read_table table_bytes
table_exact = exact_of table_bytes
    (λ f l input at rest _ e. ap (table_from (length input) at) e ∙ table_back f (length input) at rest l)
    (λ input at B f next h. holds_of input at f next (IfOk-at_ok (λ p. Accepted at (drop at input) p.0 p.1) h (table_accepted (length input) at (drop at input) (bytes_drop at input B))))

-- an accepted table ends within the input
pub table_within : (input : List ℕ) (at : ℕ) → Bytes input → IfOk (read_table input at) (λ p. p.1 ≤ length input)
table_within input at B =
    IfOk-weaker (read_table input at) (λ p. Accepted at (drop at input) p.0 p.1) (λ p. p.1 ≤ length input)
    (λ p a. omega (arith, a.place, length-append (table_bytes p.0) a.rest, ap length a.form, length_form p.0, length-drop at input))
    (table_accepted (length input) at (drop at input) (bytes_drop at input B))

-- the same of what the program answered
pub seen_within : {E : Type 0} (r : Result (Table × ℕ) E) (v : Result (Form × ℕ) E) (end : ℕ) → seen r ≡ v → IfOk v (λ p. p.1 ≤ end) → IfOk r (λ p. p.1 ≤ end)
seen_within {E} (Ok p) v end e h = IfOk-at_ok {T = Form × ℕ} {E = E} (λ q. q.1 ≤ end) (sym e) h
seen_within (Err x) v end e h = tt

rows_length : (rows : List ℕ) → length (rows_bytes rows) ≡ 8 * stored rows
unfolding rows_bytes stored
rows_length [] = refl
rows_length (r ∷ rs) = one (eqb r 0) (rows_length rs)
  where
    one : (t : Bool) → length (rows_bytes rs) ≡ 8 * stored rs → length (cond t (rows_bytes rs) (bytes_of 8 r ++ rows_bytes rs)) ≡ 8 * (cond t 0 1 + stored rs)
    one true h = omega (arith, h)
    one false h = omega (arith, h, length-append (bytes_of 8 r) (rows_bytes rs), length_bytes_of 8 r)

pub table_length : (f : Form) → length (table_bytes f) ≡ 10 + 8 * stored f.rows
table_length f = omega (arith, length_form f, rows_length f.rows)

-- what a table holds is lawful
pub view_lawful : (t : Table) → Lawful (view t)
view_lawful t =
    record {
      few_rows = omega (arith, length-take t.count t.bits, t.few_rows);
      few_columns = t.few_columns;
      inside = λ k. elim (cases_lt k t.count) [
        | inl l ↦ subst (λ (x : ℕ). x < 2 ^ t.columns) (sym (get_or-take t.count t.bits k 0 l)) (t.inside k)
        | inr g ↦ subst (λ (x : ℕ). x < 2 ^ t.columns) (sym (get_or_past (take t.count t.bits) k 0 (omega (arith, length-take t.count t.bits)))) (pow_pos t.columns)
      ];
    }

all_kept : (columns : ℕ) (rows : List ℕ) → Inside columns rows → map (λ row. row % 2 ^ columns) rows ≡ rows
all_kept columns [] h = refl
all_kept columns (r ∷ rs) h = ap₂ (λ x xs. x ∷ xs) (mod-eq_of_lt {n = r} {m = 2 ^ columns} (h 0)) (all_kept columns rs (λ k. h (suc k)))

-- a table made of lawful rows holds just those
pub form_kept : (columns : ℕ) (rows : List ℕ) → Lawful (record { columns = columns; rows = rows }) → form_of columns rows ≡ record { columns = columns; rows = rows }
form_kept columns rows l =
    let wide : min columns 64 ≡ columns = omega (arith, l.few_columns) in
    ap (λ n. record { columns = n; rows = map (λ row. row % 2 ^ n) (take 64 rows) }) wide
    ∙ ap (λ rs. record { columns = columns; rows = map (λ row. row % 2 ^ columns) rs }) (take_all 64 rows l.few_rows)
    ∙ ap (λ rs. record { columns = columns; rows = rs }) (all_kept columns rows l.inside)
