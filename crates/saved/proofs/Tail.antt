-- A form saved behind the form byte. Assumes nothing.
use Rattle.std.proofs.Common.{◌≡◌, ℕ, suc, ◌+◌, ◌-◌, ◌<◌, ◌≤◌, true, false, ltb, List, [], ◌∷◌, length, take, drop, set, Ok, Err, sym, refl, ap, ◌∙◌, ⊎_elim, append-nil, arith, le-ltb, lt-ltb}
use borrow.Rule.Slice.PartMut.{put_mid}
use Rattle.std.proofs.lemmas.List.{drop_all, take_all}
use Rattle.std.proofs.lemmas.Bool.{cases_lt}
use Rattle.tables.specs.declared.fault.SaveFault.{SaveFault}
use Rattle.tables.specs.declared.fault.SaveFault.TheVariants.{Short}
use Rattle.text.specs.Lay.{lay}
use Rattle.tables.specs.Saved.{Saved}
use Rattle.tables.proofs.Parts.{ok_same, err_not_ok}

lay_suc : (x : ℕ) (xs : List ℕ) (at : ℕ) (bs : List ℕ) → lay (x ∷ xs) (suc at) bs ≡ x ∷ lay xs at bs
unfolding lay
lay_suc x xs at [] = refl
lay_suc x xs at (b ∷ bs) = let e : suc at + 1 ≡ suc (at + 1) = omega arith in rw e (lay_suc x (set xs at b) (at + 1) bs)

lay_tail : (x y : ℕ) (xs bs : List ℕ) → lay (x ∷ xs) 0 (y ∷ bs) ≡ y ∷ lay xs 0 bs
unfolding lay
lay_tail x y xs bs = lay_suc y xs 0 bs

put_tail : (o : ℕ) (os part : List ℕ) → put_mid 1 (length (o ∷ os) - 1) (o ∷ os) part ≡ o ∷ part
put_tail o os part =
    let e : length (o ∷ os) - 1 ≡ length os = omega arith in
    rw (e, drop_all (length os) os (omega arith), append-nil)

front_tail : (o : ℕ) (os : List ℕ) → take (length (o ∷ os) - 1) (drop 1 (o ∷ os)) ≡ os
front_tail o os = let e : length (o ∷ os) - 1 ≡ length os = omega arith in rw e (take_all (length os) os (omega arith))

pub tail_none : (form out : List ℕ) → length out < 1 → Saved (2 ∷ form) out out (Err Short)
tail_none form out h =
    let s : ltb (length out) (length (2 ∷ form)) ≡ true = lt-ltb (length out) (length (2 ∷ form)) (omega arith) in
    record { answer = rw s; buffer = rw s }

pub tail_err : (form out part : List ℕ) (e : SaveFault) → 1 ≤ length out → Saved form (take (length out - 1) (drop 1 out)) part (Err e) → Saved (2 ∷ form) out (put_mid 1 (length out - 1) out part) (Err e)
tail_err form [] part e h g = absurd (omega arith)
tail_err form (o ∷ os) part e h g =
    let a = rw (front_tail o os) at g.answer in
    let b = rw (front_tail o os) at g.buffer in
    ⊎_elim
    (λ short.
    let s : ltb (length os) (length form) ≡ true = lt-ltb (length os) (length form) short in
    let s' : ltb (length (o ∷ os)) (length (2 ∷ form)) ≡ true = lt-ltb (length (o ∷ os)) (length (2 ∷ form)) (omega arith) in
    record { answer = rw s' (rw s at a); buffer = rw s' (put_tail o os part ∙ ap (λ t. o ∷ t) (rw s at b)) })
    (λ room. err_not_ok (rw (le-ltb (length os) (length form) room) at a))
    (cases_lt (length os) (length form))

pub tail_ok : (form out part : List ℕ) (n : ℕ) → 1 ≤ length out → Saved form (take (length out - 1) (drop 1 out)) part (Ok n) → Saved (2 ∷ form) out (set (put_mid 1 (length out - 1) out part) 0 2) (Ok (n + 1))
tail_ok form [] part n h g = absurd (omega arith)
tail_ok form (o ∷ os) part n h g =
    let a = rw (front_tail o os) at g.answer in
    let b = rw (front_tail o os) at g.buffer in
    ⊎_elim
    (λ short. err_not_ok (sym (rw (lt-ltb (length os) (length form) short) at a)))
    (λ room.
    let s : ltb (length os) (length form) ≡ false = le-ltb (length os) (length form) room in
    let s' : ltb (length (o ∷ os)) (length (2 ∷ form)) ≡ false = le-ltb (length (o ∷ os)) (length (2 ∷ form)) (omega arith) in
    let same : n ≡ length form = ok_same (rw s at a) in
    let more : n + 1 ≡ length (2 ∷ form) = omega (arith, same) in
    record {
      answer = rw s' (ap Ok more);
      buffer = rw s' (ap (λ t. set t 0 2) (put_tail o os part) ∙ ap (λ t. 2 ∷ t) (rw s at b) ∙ sym (lay_tail o 2 os form));
    })
    (cases_lt (length os) (length form))
