-- What the tries of a search count. Assumes nothing.
use Rattle.std.specs.Prelude.{◌≡◌, ℕ, zero, suc, ◌+◌, Bool, true, false, cond, not, ◌&&◌, ◌||◌, List, [], ◌∷◌, Some, None, Option, ◌==◌, nat_lt, slice_index}
use Rattle.graphs.specs.Graph.{Sound}
use Rattle.filters.specs.Filter.{Lawful, shaped}
use Rattle.search.specs.Walk.{Setting, filtered, any_empty, after_try, offered, walk_from}

-- the sum of f over the next `left` bays from b on
abbrev pub sum_of : ℕ → ℕ → (ℕ → ℕ) → ℕ
sum_of b zero f = 0
sum_of b (suc left) f = f b + sum_of (suc b) left f

-- how many lists of one to k bays below n pass the test
abbrev pub list_count : ℕ → ℕ → (List ℕ → Bool) → ℕ
list_count zero n p = 0
list_count (suc k) n p = sum_of 0 n (λ b. cond (p (b ∷ [])) 1 0 + list_count k n (λ rest. p (b ∷ rest)))

-- the bays of the list are offered one after another to the units from u on, and before each of them no row is empty
abbrev pub reached : Setting → List ℕ → Bool → ℕ → List ℕ → List ℕ → Bool
reached w last tied u rows [] = true
reached w last tied u rows (b ∷ p) =
    not (any_empty rows)
    && (offered (slice_index rows u) tied (slice_index last u) (suc u == w.arrangement.count) b
    && reached w last (tied && b == slice_index last u) (suc u) (after_try w u b rows) p)

-- the list p is a beginning of w, or stands before it
abbrev pub not_past : List ℕ → List ℕ → Bool
not_past [] w = true
not_past (b ∷ p) [] = false
not_past (b ∷ p) (c ∷ w) = nat_lt b c || (b == c && not_past p w)

-- the list is not past the find, where there is one
abbrev pub up_to : Option (List ℕ) → List ℕ → Bool
up_to (Some w) p = not_past p w
up_to None p = true

-- The tries made are the beginnings of placements that the walk reaches, up to and including its find.
abbrev pub CountsTries : Type 0
CountsTries =
    (w : Setting) (last : List ℕ) (tied : Bool) (rows : List ℕ) → Lawful w.filter → Sound w.arrangement → Sound w.room
    → shaped w.arrangement w.room rows ≡ true
    → (walk_from w last tied rows).tries
    ≡ list_count w.arrangement.count w.room.count (λ p. reached w last tied 0 (filtered w rows) p && up_to (walk_from w last tied rows).found p)
