-- A part of a saved form: a reader and a writer, how parts are put together, and when they are exact. Assumes nothing.
use Rattle.std.specs.Prelude.{◌≡◌, ℕ, ◌+◌, Bool, cond, List, [], ◌∷◌, ◌++◌, length, take, drop, Ok, Err, Result, ◌≢◌, nat_lt}
use Rattle.tables.specs.Bytes.{Bytes}

-- ---- readers, and how they are put together

abbrev pub and_then : {X Y E : Type 0} → Result X E → (X → Result Y E) → Result Y E
and_then (Ok x) f = f x
and_then (Err e) f = Err e

-- reading the input from a place on answers what the part holds and the place behind it, or a fault
abbrev pub Reader : Type 0 → Type 0 → Type 0
Reader X E = (input : List ℕ) (at : ℕ) → Result (X × ℕ) E

-- the next n bytes
abbrev pub some_bytes : {E : Type 0} → ℕ → (ended : ℕ → E) → Reader (List ℕ) E
some_bytes n ended input at =
    cond (nat_lt (length (drop at input)) n) (Err (ended (length input))) (Ok (take n (drop at input), at + n))

-- a part, and behind it another that may depend on it
abbrev pub after : {X Y E : Type 0} → Reader X E → (X → Reader Y E) → Reader (X × Y) E
after first second input at =
    and_then (first input at) (λ p. and_then (second p.0 input p.1) (λ q. Ok ((p.0, q.0), q.1)))

-- what is written of two parts, one behind the other
abbrev pub both : {X Y : Type 0} → (X → List ℕ) → (X → Y → List ℕ) → X × Y → List ℕ
both first second p = first p.0 ++ second p.0 p.1

-- a part that has to pass a test; the fault is told of the place where the part begins
abbrev pub checked : {X E : Type 0} → Reader X E → (X → Bool) → (fault : ℕ → E) → Reader X E
checked read passes fault input at = and_then (read input at) (λ p. cond (passes p.0) (Ok p) (Err (fault at)))

-- a part behind which no byte may be left; the fault is told of the first one left
abbrev pub alone : {X E : Type 0} → Reader X E → (left : ℕ → E) → Reader X E
alone read left input at = and_then (read input at) (λ p. cond (nat_lt p.1 (length input)) (Err (left p.1)) (Ok p))

-- a part whose fault travels inside another
abbrev pub inside : {X E F : Type 0} → Reader X E → (E → F) → Reader X F
inside read carried input at = elim (read input at) [ Ok p ↦ Ok p | Err e ↦ Err (carried e) ]

-- what a part holds, told in another way
abbrev pub turned : {X Z E : Type 0} → Reader X E → (X → Z) → Reader Z E
turned read tell input at = and_then (read input at) (λ p. Ok (tell p.0, p.1))

-- ---- exactness

-- what may stand behind a part: anything, or no byte
abbrev pub Anything : List ℕ → Type 0
Anything rest = Unit {0}

abbrev pub Nothing : List ℕ → Type 0
Nothing rest = rest ≡ []

-- from the place `at` on the input holds what x is written as, and behind it, from `next` on, what may follow
pub record Holds {X : Type 0} (Lawful : X → Type 0) (Follows : List ℕ → Type 0) (write : X → List ℕ) (input : List ℕ) (at : ℕ) (x : X) (next : ℕ) : Type 0 where
  pub lawful : Lawful x
  pub place : next ≡ at + length (write x)
  pub form : drop at input ≡ write x ++ drop next input
  pub follows : Follows (drop next input)

-- a reader and a writer of what is lawful fit each other exactly
pub record Exact {X E : Type 0} (Lawful : X → Type 0) (Follows : List ℕ → Type 0) (read : Reader X E) (write : X → List ℕ) : Type 0 where
  -- reading what was written, with anything behind it that may follow, gives it back, and the place behind it
  pub back : (x : X) → Lawful x → (input : List ℕ) (at : ℕ) (rest : List ℕ) → Follows rest
      → drop at input ≡ write x ++ rest → read input at ≡ Ok (x, at + length (write x))
  -- accepted bytes are the written bytes of what they mean, and then the rest
  pub only : (input : List ℕ) (at : ℕ) → Bytes input → (x : X) (next : ℕ)
      → read input at ≡ Ok (x, next) → Holds Lawful Follows write input at x next
  -- what was written and then cut short is never accepted
  pub whole : (x : X) → Lawful x → (input : List ℕ) (at : ℕ) → Bytes input → (b : ℕ) (more : List ℕ)
      → write x ≡ drop at input ++ b ∷ more → (p : X × ℕ) → read input at ≢ Ok p
