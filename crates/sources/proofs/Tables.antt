-- A table is lawful exactly where each of its set bits is, and a column is a row. Assumes nothing.
use Rattle.std.proofs.Common.{◌≡◌, ℕ, zero, suc, ◌<◌, ◌≤◌, Bool, false, List, [], ◌∷◌, length, get_or, sym, refl, ap, ◌∙◌, inl, inr, arith}
use mathlib.Core.Path.{fun_ext}
use Rattle.std.proofs.lemmas.Bool.{both_ways, cases_Bool}
use Rattle.graphs.specs.Rows.{bit, row_of}
use Rattle.graphs.specs.JointTable.{RowLawful, TableLawful}
use Rattle.graphs.proofs.Bools.{bool_ext}
use Rattle.graphs.proofs.Bits.{bit_none, bit_below, bits_below}
use Rattle.graphs.proofs.JointTables.{table_irr, table_sym, table_row}
use Rattle.sources.specs.Pairs.{PairsLawful}

pub table_lawful : (rows : List ℕ) (n : ℕ) → length rows ≡ n → 1 ≤ n → n ≤ 64 → ((a : ℕ) → a < n → PairsLawful rows a) → TableLawful rows n
table_lawful rows n s l f p = record {
  square = s;
  some = l;
  few = f;
  each = λ a la. record {
    inside = bits_below n (get_or rows a 0) (λ b e. omega (arith, (p a la b e).inside));
    irreflexive = elim (cases_Bool (bit (get_or rows a 0) a)) [
      | inl t ↦ absurd ((p a la a t).other refl)
      | inr e ↦ e
    ];
    symmetric = λ b lb. bool_ext (bit (get_or rows a 0) b) (bit (get_or rows b 0) a) (λ e. (p a la b e).back) (λ e. (p b lb a e).back);
  };
}

pub pairs_lawful : (rows : List ℕ) (n : ℕ) → TableLawful rows n → (a : ℕ) → a < n → PairsLawful rows a
pairs_lawful rows n v a la b e =
    let r : RowLawful rows n a = v.each a la in
    let lb : b < n = bit_below (get_or rows a 0) n b r.inside e in
    record {
      inside = omega (arith, v.square);
      other = λ z. both_ways (bit (get_or rows a 0) a) r.irreflexive (ap (λ (y : ℕ). bit (get_or rows a 0) y) (sym z) ∙ e);
      back = sym (r.symmetric b lb) ∙ e;
    }

pub table_column : (rows : List ℕ) (b : ℕ) → length rows ≤ 64 → get_or rows b 0 < 18446744073709551616
    → ((x y : ℕ) → bit (get_or rows x 0) y ≡ bit (get_or rows y 0) x)
    → get_or rows b 0 ≡ row_of (length rows) (λ a. bit (get_or rows a 0) b)
table_column rows b l h y = table_row rows b l h y ∙ ap (λ (p : ℕ → Bool). row_of (length rows) p) (fun_ext (λ a. y b a))

-- what a table that is taken keeps
pub record Kept (rows : List ℕ) : Type 0 where
  pub some : 1 ≤ length rows
  pub few : length rows ≤ 64
  pub irreflexive : (a : ℕ) → bit (get_or rows a 0) a ≡ false
  pub both : (a b : ℕ) → bit (get_or rows a 0) b ≡ bit (get_or rows b 0) a

pub kept_lawful : (rows : List ℕ) (n : ℕ) → TableLawful rows n → Kept rows
kept_lawful rows n v = record {
  some = omega (arith, v.square, v.some);
  few = omega (arith, v.square, v.few);
  irreflexive = table_irr rows n v;
  both = table_sym rows n v;
}

-- the one row of one node without joints
pub kept_lone : Kept (0 ∷ [])
kept_lone = record { some = omega arith; few = omega arith; irreflexive = λ a. none a a; both = λ a b. none a b ∙ sym (none b a) }
  where
    none : (a b : ℕ) → bit (get_or (0 ∷ []) a 0) b ≡ false
    none zero b = bit_none b
    none (suc a) b = bit_none b
