-- Readers that are put together, where their parts fail and where they are done. Assumes nothing.
use Rattle.std.proofs.Common.{◌≡◌, ℕ, ◌+◌, ◌-◌, ◌≤◌, Bool, true, false, cond, ltb, List, length, take, drop, Ok, Err, ap, ◌∙◌, arith, length-drop}
use Rattle.std.proofs.lemmas.List.{take_rest}
use Rattle.std.proofs.lemmas.Bool.{cond-false, cond-true, le-ltb}
use Rattle.tables.specs.Parts.{and_then, Reader, some_bytes, after, checked, inside, turned}

module _ {X Y E : Type 0} (first : Reader X E) (second : X → Reader Y E) (input : List ℕ) (at : ℕ) where
  pub after_fails : {e : E} → first input at ≡ Err e → after first second input at ≡ Err e
  after_fails h = ap (λ r. and_then r (λ p. and_then (second p.0 input p.1) (λ q. Ok ((p.0, q.0), q.1)))) h

  module _ {x : X} {mid : ℕ} (h : first input at ≡ Ok (x, mid)) where
    pub then_fails : {e : E} → second x input mid ≡ Err e → after first second input at ≡ Err e
    then_fails g =
        ap (λ r. and_then r (λ p. and_then (second p.0 input p.1) (λ q. Ok ((p.0, q.0), q.1)))) h
        ∙ ap (λ r. and_then r (λ q. Ok ((x, q.0), q.1))) g

    pub then_done : {y : Y} {next : ℕ} → second x input mid ≡ Ok (y, next) → after first second input at ≡ Ok ((x, y), next)
    then_done g =
        ap (λ r. and_then r (λ p. and_then (second p.0 input p.1) (λ q. Ok ((p.0, q.0), q.1)))) h
        ∙ ap (λ r. and_then r (λ q. Ok ((x, q.0), q.1))) g

module _ {X E : Type 0} (read : Reader X E) (input : List ℕ) (at : ℕ) where
  module _ (passes : X → Bool) (fault : ℕ → E) where
    pub checked_fails : {e : E} → read input at ≡ Err e → checked read passes fault input at ≡ Err e
    checked_fails h = ap (λ r. and_then r (λ p. cond (passes p.0) (Ok p) (Err (fault at)))) h

    module _ {x : X} {next : ℕ} (h : read input at ≡ Ok (x, next)) where
      pub checked_not : passes x ≡ false → checked read passes fault input at ≡ Err (fault at)
      checked_not t = ap (λ r. and_then r (λ p. cond (passes p.0) (Ok p) (Err (fault at)))) h ∙ cond-false (passes x) _ _ t

      pub checked_done : passes x ≡ true → checked read passes fault input at ≡ Ok (x, next)
      checked_done t = ap (λ r. and_then r (λ p. cond (passes p.0) (Ok p) (Err (fault at)))) h ∙ cond-true (passes x) _ _ t

  module _ {F : Type 0} (carried : E → F) where
    pub inside_fails : {e : E} → read input at ≡ Err e → inside read carried input at ≡ Err (carried e)
    inside_fails h = ap (λ r. elim r [ Ok p ↦ Ok p | Err e ↦ Err (carried e) ]) h

    pub inside_done : {p : X × ℕ} → read input at ≡ Ok p → inside read carried input at ≡ Ok p
    inside_done h = ap (λ r. elim r [ Ok p ↦ Ok p | Err e ↦ Err (carried e) ]) h

  module _ {Z : Type 0} (tell : X → Z) where
    pub turned_fails : {e : E} → read input at ≡ Err e → turned read tell input at ≡ Err e
    turned_fails h = ap (λ r. and_then r (λ p. Ok (tell p.0, p.1))) h

    pub turned_done : {x : X} {next : ℕ} → read input at ≡ Ok (x, next) → turned read tell input at ≡ Ok (tell x, next)
    turned_done h = ap (λ r. and_then r (λ p. Ok (tell p.0, p.1))) h

module _ {E : Type 0} (n : ℕ) (ended : ℕ → E) (input : List ℕ) (at : ℕ) where
  pub bytes_done : at + n ≤ length input → some_bytes n ended input at ≡ Ok (take n (drop at input), at + n)
  bytes_done h = cond-false (ltb (length (drop at input)) n) _ _ (le-ltb (length (drop at input)) n (omega (arith, length-drop at input)))

-- what stands from a place on is as long as the input is from there
pub length_part : (input : List ℕ) (at : ℕ) → length (take (length input - at) (drop at input)) ≡ length input - at
length_part input at = ap length (take_rest input at) ∙ length-drop at input
