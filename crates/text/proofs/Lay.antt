-- Laws of bytes written into a buffer. Assumes nothing.
use Rattle.std.proofs.Common.{◌≡◌, ℕ, ◌+◌, ◌-◌, ◌≤◌, List, [], ◌∷◌, ◌++◌, length, take, drop, set, sym, refl, ◌∙◌, append_assoc, arith, length-set}
use borrow.Rule.Slice.PartMut.{put_mid}
use Rattle.text.specs.Lay.{lay}
use Rattle.std.proofs.lemmas.List.{take_more_set, drop-set-lt, drop-drop, take-append-drop}

pub lay_nil : (out : List ℕ) (at : ℕ) → lay out at [] ≡ out
unfolding lay
lay_nil out at = refl

pub lay_cons : (out : List ℕ) (at b : ℕ) (bs : List ℕ) → lay out at (b ∷ bs) ≡ lay (set out at b) (at + 1) bs
unfolding lay
lay_cons out at b bs = refl

pub length_lay : (out : List ℕ) (at : ℕ) (bs : List ℕ) → length (lay out at bs) ≡ length out
unfolding lay
length_lay out at [] = refl
length_lay out at (b ∷ bs) = length_lay (set out at b) (at + 1) bs ∙ length-set out at b

pub lay_append : (out : List ℕ) (at : ℕ) (a b : List ℕ) → lay out at (a ++ b) ≡ lay (lay out at a) (at + length a) b
unfolding lay
lay_append out at [] b = let e : at + 0 ≡ at = omega arith in rw e
lay_append out at (x ∷ a) b =
    let e : at + 1 + length a ≡ at + length (x ∷ a) = omega arith in
    rw (← e) (lay_append (set out at x) (at + 1) a b)

-- what a buffer holds once a text that fits is written to it
pub lay_is : (out : List ℕ) (at : ℕ) (bs : List ℕ) → at + length bs ≤ length out → lay out at bs ≡ take at out ++ (bs ++ drop (at + length bs) out)
unfolding lay
lay_is out at [] h = let e : at + 0 ≡ at = omega arith in rw e (sym (take-append-drop at out))
lay_is out at (b ∷ bs) h =
    let e : at + length (b ∷ bs) ≡ at + 1 + length bs = omega arith in
    let room : at + 1 + length bs ≤ length (set out at b) = rw length-set (omega arith) in
    let front : take (at + 1) (set out at b) ≡ take at out ++ b ∷ [] = take_more_set out at b (omega arith) in
    let back : drop (at + 1 + length bs) (set out at b) ≡ drop (at + 1 + length bs) out = drop-set-lt (at + 1 + length bs) out at b (omega arith) in
    lay_is (set out at b) (at + 1) bs room ∙ rw (front, back, e, append_assoc (take at out) (b ∷ []) (bs ++ drop (at + 1 + length bs) out))

pub lay_front : (out bs : List ℕ) → length bs ≤ length out → lay out 0 bs ≡ bs ++ drop (length bs) out
lay_front out bs h = let e : 0 + length bs ≡ length bs = omega arith in let w = lay_is out 0 bs (omega arith) in rw e at w

-- what a write to the part from `at` on leaves
pub lay_part : (out : List ℕ) (at : ℕ) (bs ys : List ℕ) → at + length bs ≤ length out → ys ≡ bs → put_mid at (at + length bs - at) out ys ≡ lay out at bs
lay_part out at bs ys h e =
    let k : at + length bs - at ≡ length bs = omega arith in
    rw (e, k, drop-drop) (sym (lay_is out at bs h))
