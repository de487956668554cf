-- The graph of a joint table is sound and symmetric where the table is lawful. Assumes nothing.
use Rattle.std.proofs.Common.{◌≡◌, ℕ, ◌<◌, ◌≤◌, Bool, false, ◌&&◌, List, length, get_or, sym, ap, ◌∙◌, inl, inr, ⊎_elim, arith}
use Rattle.std.proofs.lemmas.List.{get_or_past}
use Rattle.std.proofs.lemmas.Bool.{cases_lt, le-ltb, lt-ltb}
use Rattle.graphs.specs.Rows.{bit, row_of}
use Rattle.graphs.specs.Graph.{Sound, Symmetric}
use Rattle.graphs.specs.JointTable.{table_graph, TableLawful}
use Rattle.graphs.proofs.Bits.{bit_past, bit_none}
use Rattle.graphs.proofs.Rows.{is_row_of}

-- past the last row nothing is joined
pub table_out : (rows : List ℕ) (a b : ℕ) → length rows ≤ a → bit (get_or rows a 0) b ≡ false
table_out rows a b h = rw (get_or_past rows a 0 h) (bit_none b)

pub table_irr : (rows : List ℕ) (n : ℕ) → TableLawful rows n → (a : ℕ) → bit (get_or rows a 0) a ≡ false
table_irr rows n v a =
    ⊎_elim
    (λ lt. (v.each a lt).irreflexive)
    (λ ge. table_out rows a a (omega (arith, v.square)))
    (cases_lt a n)

-- row a of a valid table holds nothing at or past the count
pub table_past : (rows : List ℕ) (n : ℕ) → TableLawful rows n → (a b : ℕ) → n ≤ b → bit (get_or rows a 0) b ≡ false
table_past rows n v a b h =
    ⊎_elim
    (λ lt. bit_past (get_or rows a 0) b n (v.each a lt).inside h)
    (λ ge. table_out rows a b (omega (arith, v.square)))
    (cases_lt a n)

pub table_sym : (rows : List ℕ) (n : ℕ) → TableLawful rows n → (a b : ℕ) → bit (get_or rows a 0) b ≡ bit (get_or rows b 0) a
table_sym rows n v a b =
    ⊎_elim
    (λ la. ⊎_elim
    (λ lb. (v.each a la).symmetric b lb)
    (λ gb. table_past rows n v a b gb ∙ sym (table_out rows b a (omega (arith, v.square))))
    (cases_lt b n))
    (λ ga. table_out rows a b (omega (arith, v.square)) ∙ sym (table_past rows n v b a ga))
    (cases_lt a n)

pub table_sound : (rows : List ℕ) → 1 ≤ length rows → length rows ≤ 64
    → ((a : ℕ) → bit (get_or rows a 0) a ≡ false)
    → ((a b : ℕ) → bit (get_or rows a 0) b ≡ bit (get_or rows b 0) a)
    → Sound (table_graph rows)
table_sound rows s f i y = record {
  some = s;
  few = f;
  irreflexive = i;
  outside_from = λ a b h. table_out rows a b h;
  outside_to = λ a b h. y a b ∙ table_out rows b a h;
}

pub table_symmetric : (rows : List ℕ) → ((a b : ℕ) → bit (get_or rows a 0) b ≡ bit (get_or rows b 0) a) → Symmetric (table_graph rows)
table_symmetric rows y = record { both = y }

-- a row of a symmetric table holds nothing past the last row
pub table_row : (rows : List ℕ) (a : ℕ) → length rows ≤ 64 → get_or rows a 0 < 18446744073709551616
    → ((x y : ℕ) → bit (get_or rows x 0) y ≡ bit (get_or rows y 0) x)
    → get_or rows a 0 ≡ row_of (length rows) (λ b. bit (get_or rows a 0) b)
table_row rows a l h y =
    is_row_of (length rows) (get_or rows a 0) (λ b. bit (get_or rows a 0) b) l h
    (λ c. elim (cases_lt c (length rows)) [
      | inl z ↦ sym (ap (λ (t : Bool). t && bit (get_or rows a 0) c) (lt-ltb c (length rows) z))
      | inr z ↦ y a c ∙ table_out rows c a z ∙ sym (ap (λ (t : Bool). t && bit (get_or rows a 0) c) (le-ltb c (length rows) z))
    ])
