-- The saved form of a table in a buffer. Assumes nothing.
use Rattle.std.proofs.Common.{◌≡◌, ℕ, ◌+◌, ◌<◌, ◌≤◌, true, false, ltb, List, [], ◌∷◌, ◌++◌, length, take, drop, IfOk, Ok, Err, Result, sym, refl, ap, ◌∙◌, inl, inr, append-nil, arith, le-ltb, lt-ltb}
use Rattle.std.proofs.lemmas.List.{take_at}
use Rattle.std.proofs.lemmas.Bool.{cases_lt}
use Rattle.text.specs.Lay.{lay}
use Rattle.text.proofs.Lay.{lay_append, lay_front}
use Rattle.tables.specs.declared.fault.SaveFault.{SaveFault}
use Rattle.tables.specs.declared.fault.SaveFault.TheVariants.{Short}
use Rattle.tables.specs.Bytes.{bytes_of}
use Rattle.tables.specs.Form.{Form}
use Rattle.tables.specs.Parts.{Reader, Exact}
use Rattle.tables.specs.Saved.{Saved}
use Rattle.tables.specs.Written.{map_of, rows_bytes, table_bytes}
use Rattle.tables.proofs.Accepted.{length_bytes_of}
use Rattle.tables.proofs.Back.{length_form}

pub saved_short : (f : Form) (out : List ℕ) → length out < 10 + length (rows_bytes f.rows) → Saved (table_bytes f) out out (Err Short)
saved_short f out h =
    let s : ltb (length out) (length (table_bytes f)) ≡ true = lt-ltb (length out) (length (table_bytes f)) (omega (arith, length_form f)) in
    record { answer = rw s; buffer = rw s }

pub saved_whole : (f : Form) (out out₁ out₂ : List ℕ) (r : ℕ) → 10 + length (rows_bytes f.rows) ≤ length out
    → out₁ ≡ lay out 0 (length f.rows ∷ (f.columns ∷ bytes_of 8 (map_of f.rows))) → out₂ ≡ lay out₁ 10 (rows_bytes f.rows) → r ≡ 10 + length (rows_bytes f.rows)
    → Saved (table_bytes f) out out₂ (Ok r)
saved_whole f out out₁ out₂ r h e₁ e₂ n =
    let head : List ℕ = length f.rows ∷ (f.columns ∷ bytes_of 8 (map_of f.rows)) in
    let s : ltb (length out) (length (table_bytes f)) ≡ false = le-ltb (length out) (length (table_bytes f)) (omega (arith, length_form f)) in
    let l : 0 + length head ≡ 10 = omega (arith, length_bytes_of 8 (map_of f.rows)) in
    let a = lay_append out 0 head (rows_bytes f.rows) in
    record {
      answer = rw s (ap Ok (n ∙ sym (length_form f)));
      buffer = rw s (e₂ ∙ ap (λ o. lay o 10 (rows_bytes f.rows)) e₁ ∙ sym (rw l at a));
    }

saved_ok : (form out out' : List ℕ) (n : ℕ) → Saved form out out' (Ok n) → (length form ≤ length out) × (n ≡ length form) × (out' ≡ lay out 0 form)
saved_ok form out out' n g =
    elim (cases_lt (length out) (length form)) [
      | inl short ↦ let a = rw (lt-ltb (length out) (length form) short) at g.answer in let z : ◌≡◌ {A = ℕ} 0 1 = cc in absurd (omega arith)
      | inr room ↦
          let s = le-ltb (length out) (length form) room in
          let a = rw s at g.answer in
          let b = rw s at g.buffer in
          (room, same n (length form) a, b)
    ]
  where
    same : (m n : ℕ) → ◌≡◌ {A = Result ℕ SaveFault} (Ok m) (Ok n) → m ≡ n
    same m n e = cc

-- what was saved of an exact part reads back
pub saved_back : {X E : Type 0} {Lawful : X → Type 0} {Follows : List ℕ → Type 0} {read : Reader X E} (write : X → List ℕ)
    → Exact Lawful Follows read write → Follows [] → (x : X) → Lawful x → (out out' : List ℕ) (r : Result ℕ SaveFault) → Saved (write x) out out' r
    → IfOk r (λ n. read (take n out') 0 ≡ Ok (x, n))
saved_back write g end x l out out' (Err e) s = tt
saved_back {read = read} write g end x l out out' (Ok n) s =
    let o = saved_ok (write x) out out' n s in
    let front : out' ≡ write x ++ drop (length (write x)) out = o.2 ∙ lay_front out (write x) o.0 in
    let is : take n out' ≡ write x ++ [] = ap (λ k. take k out') o.1 ∙ ap (take (length (write x))) front ∙ take_at (write x) (drop (length (write x)) out) (length (write x)) refl ∙ sym (append-nil (write x)) in
    g.back x l (take n out') 0 [] end is ∙ ap (λ k. Ok (x, k)) (let e : 0 + length (write x) ≡ n = omega (arith, o.1) in e)
