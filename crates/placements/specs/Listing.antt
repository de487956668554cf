-- All lists of numbers that pass a test, by brute force in dictionary order. Assumes nothing.
use Rattle.std.specs.Prelude.{◌≡◌, ℕ, zero, suc, ◌<◌, Bool, true, cond, List, [], ◌∷◌, ◌++◌, map, length, Some, None, Option, slice_index}
use Rattle.placements.specs.Order.{Answers, Lists}

-- w is a list of m numbers below n that passes
pub record Passes (m n : ℕ) (test : List ℕ → Bool) (w : List ℕ) : Type 0 where
  pub whole : length w ≡ m
  pub below : (u : ℕ) → u < m → slice_index w u < n
  pub passes : test w ≡ true

-- the lists that f gives at the k numbers from b up, each behind its number
unfoldable pub headed : (ℕ → List (List ℕ)) → ℕ → ℕ → List (List ℕ)
headed f b zero = []
headed f b (suc k) = map (λ w. b ∷ w) (f b) ++ headed f (suc b) k

-- the lists of m numbers below n that pass
unfoldable pub listing : ℕ → ℕ → (List ℕ → Bool) → List (List ℕ)
listing zero n test = cond (test []) ([] ∷ []) []
listing (suc m) n test = headed (λ b. listing m n (λ w. test (b ∷ w))) 0 n

-- the head of the list, where it has one
abbrev pub first_of : List (List ℕ) → Option (List ℕ)
first_of [] = None
first_of (w ∷ ws) = Some w

-- the first list of m numbers below n that passes
abbrev pub find : ℕ → ℕ → (List ℕ → Bool) → Option (List ℕ)
find m n test = first_of (listing m n test)

-- theorem: the listing is all lists that pass, in dictionary order
abbrev pub ListingIsAll : Type 0
ListingIsAll = (m n : ℕ) (test : List ℕ → Bool) → Lists (Passes m n test) (listing m n test)

-- theorem: the find is the first of them, and none exactly where there is none
abbrev pub FindIsFirst : Type 0
FindIsFirst = (m n : ℕ) (test : List ℕ → Bool) → Answers (Passes m n test) (find m n test)
