-- The loop over the nodes of the map: the rows between two nodes are not stored. Assumes nothing.
use Rattle.std.proofs.Common.{◌≡◌, ℕ, zero, suc, ◌+◌, ◌-◌, ◌/◌, ◌%◌, ◌^◌, ◌<◌, ◌≤◌, Bool, true, false, not, ◌&&◌, eqb, List, set, replicate, Ok, Err, sym, refl, ap, ◌∙◌, subst, inl, inr, arith}
use Rattle.std.proofs.lemmas.Bool.{both_ways, eq-eqb, ne_eqb, cases_lt, cases_Bool, and_left, and_right}
use Rattle.graphs.specs.Rows.{bit}
use Rattle.graphs.proofs.Bits.{bit_zero, bit_suc, bit_none, bit_past, below_none}
use Rattle.std.proofs.Math.Bool.{and-true}
use Rattle.graphs.proofs.Lowest.{Turn}
use Rattle.tables.specs.declared.fault.TableFault.{TableFault}
use Rattle.tables.specs.declared.part.Part.{Part}
use Rattle.tables.specs.Taking.{end_of, Past}
use Rattle.tables.specs.Read.{read_rows, read_row}
use Rattle.tables.proofs.Steps.{Going, going_none, going_skip, going_stored, going_refused}

-- `rest` holds the nodes from k on that `left` holds, k lower
record From (k left rest : ℕ) : Type 0 where
  none : (c : ℕ) → c < k → bit rest c ≡ false
  some : (c : ℕ) → bit rest (k + c) ≡ bit left c

here : (k left rest : ℕ) → From k left rest → bit rest k ≡ bit left 0
here k left rest f = let e : k ≡ k + 0 = omega arith in ap (bit rest) e ∙ f.some 0

up : (k left rest : ℕ) → From k left rest → (c : ℕ) → bit rest ((k + 1) + c) ≡ bit (left / 2) c
up k left rest f c = let e : (k + 1) + c ≡ k + suc c = omega arith in ap (bit rest) e ∙ f.some (suc c) ∙ bit_suc left c

even : (left : ℕ) → bit left 0 ≡ false → left % 2 ≡ 0
even left e = elim (cases_lt (left % 2) 1) [
  | inl l ↦ omega arith
  | inr g ↦ absurd (let one : left % 2 ≡ 1 = omega arith in both_ways (bit left 0) e (bit_zero left ∙ ap (λ d. eqb d 1) one))
]

odd : (left : ℕ) → bit left 0 ≡ true → left % 2 ≡ 1
odd left e = elim (cases_lt (left % 2) 1) [
  | inl l ↦ absurd (let zero' : left % 2 ≡ 0 = omega arith in both_ways (bit left 0) (bit_zero left ∙ ap (λ d. eqb d 1) zero') e)
  | inr g ↦ omega arith
]

-- what the loop keeps, where `rest` holds the nodes that are still to come
pub record Coming (start part : Part) (map columns count rest : ℕ) (rows : List ℕ) : Type 0 where
  k : ℕ
  left : ℕ
  from : From k left rest
  under : (c : ℕ) → bit rest c ≡ true → c < count
  within : k ≤ count
  going : Going start part map columns count k left rows

pub coming_none : (start : Part) (map columns count rest : ℕ) → count ≤ 64 → map / 2 ^ count ≡ 0 → rest ≡ map → Coming start start map columns count rest (replicate 64 0)
coming_none start map columns count rest few low e =
    subst (λ (r : ℕ). Coming start start map columns count r (replicate 64 0)) (sym e)
    (record {
      k = 0;
      left = map;
      from = record { none = λ c h. absurd (omega arith); some = λ c. let same : 0 + c ≡ c = omega arith in ap (bit map) same };
      under = λ c b. elim (cases_lt c count) [ inl l ↦ l | inr g ↦ absurd (both_ways (bit map c) (bit_past map c count (below_none map count low) g) b) ];
      within = omega arith;
      going = going_none start map columns count few;
    })

module _ {start part : Part} {map columns count : ℕ} {rows : List ℕ} where
  -- on to a row x that no node of `rest` stands below
  onward : (d k left rest x : ℕ) → k + d ≡ x → x ≤ count → ((c : ℕ) → c < x → bit rest c ≡ false) → From k left rest → Going start part map columns count k left rows
      → (left' : ℕ) × From x left' rest × Going start part map columns count x left' rows
  onward zero k left rest x e h none f g =
      let same : k ≡ x = omega arith in
      subst (λ (y : ℕ). (left' : ℕ) × From y left' rest × Going start part map columns count y left' rows) same (left, f, g)
  onward (suc d) k left rest x e h none f g =
      onward d (k + 1) (left / 2) rest x (omega arith) h none
      (record { none = λ c l. none c (omega arith); some = up k left rest f })
      (going_skip g (omega arith) (even left (sym (here k left rest f) ∙ none k (omega arith))))

  module _ {rest x next : ℕ} (t : Turn rest x next) (w : Coming start part map columns count rest rows) where
    ahead : w.k ≤ x
    ahead = elim (cases_lt x w.k) [ inl l ↦ absurd (both_ways (bit rest x) (w.from.none x l) t.held) | inr g ↦ g ]

    pub near : x < count
    near = w.under x t.held

    reached : (left' : ℕ) × From x left' rest × Going start part map columns count x left' rows
    reached = onward (x - w.k) w.k w.left rest x (let a = ahead in omega arith) (let n = near in omega arith) t.none_before w.from w.going

    marked : reached.0 % 2 ≡ 1
    marked = odd reached.0 (sym (here x reached.0 rest reached.1) ∙ t.held)

    same_but : (c : ℕ) → (c ≡ x → ⊥) → bit next c ≡ bit rest c
    same_but c ne = t.but c ∙ ap (λ (b : Bool). bit rest c && not b) (ne_eqb c x ne) ∙ and-true (bit rest c)

    still : (c : ℕ) → bit next c ≡ true → bit rest c ≡ true
    still c b = elim (cases_Bool (bit rest c)) [
      | inl y ↦ y
      | inr n ↦ absurd (both_ways (bit next c) (t.but c ∙ and_left (bit rest c) (not (eqb c x)) n) b)
    ]

    gone : bit next x ≡ false
    gone = t.but x ∙ and_right (bit rest x) (not (eqb x x)) (ap not (eq-eqb x x refl))

    pub coming_stored : (row : ℕ) (part' : Part) → Past 8 part part' → read_row (end_of part) part.at columns part.bytes.now ≡ Ok row
        → Coming start part' map columns count next (set rows x row)
    coming_stored row part' past o =
        record {
          k = x + 1;
          left = reached.0 / 2;
          from = record {
            none = λ c l. elim (cases_lt c x) [
              | inl b ↦ same_but c (λ e. omega arith) ∙ t.none_before c b
              | inr g ↦ let e : x ≡ c = omega arith in subst (λ (d : ℕ). bit next d ≡ false) e gone
            ];
            some = λ c. same_but ((x + 1) + c) (λ e. omega arith) ∙ up x reached.0 rest reached.1 c;
          };
          under = λ c b. w.under c (still c b);
          within = let n = near in omega arith;
          going = going_stored reached.2 row part' near marked past o;
        }

    pub coming_refused : (e : TableFault) → read_row (end_of part) part.at columns part.bytes.now ≡ Err e
        → Err e ≡ read_rows count map columns (end_of start) start.at start.bytes.now
    coming_refused e o = going_refused reached.2 e near marked o

  -- no node is to come
  pub coming_all : {rest : ℕ} → rest ≡ 0 → Coming start part map columns count rest rows → (left : ℕ) × Going start part map columns count count left rows
  coming_all {rest} z w =
      let r = onward (count - w.k) w.k w.left rest count (let l = w.within in omega arith) (omega arith) (λ c l. ap (λ (y : ℕ). bit y c) z ∙ bit_none c) w.from w.going in
      (r.0, r.2)
