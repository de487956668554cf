-- What the calls of a plan answer, by its ledger. Assumes nothing.
use Rattle.std.specs.Prelude.{◌≡◌, ℕ, zero, suc, ◌+◌, Bool, cond, not, ◌⊎◌, List, [], ◌++◌, length, drop, None, Option, slice_index}
use Rattle.graphs.specs.Rows.{Pairs, rows_of}
use Rattle.placements.specs.Order.{IsFirst}
use Rattle.search.specs.Walk.{Setting, walk}
use Rattle.search.specs.Found.{told}
use Rattle.ledgers.specs.Calls.{Call, begin, «open», strike, free, fit, fit_further, seek, further, what_if, tally, save, Refusal, Answer, done, number, found, yes, none, refused, buffer_of}
use Rattle.ledgers.specs.Wanted.{Wanted, held_to}
use Rattle.ledgers.specs.Ledger.{Ledger, open_pairs, form_of, Verdict, accepted, declined, verdict}

-- bytes at the front of a buffer, and what stood behind
abbrev pub over : List ℕ → List ℕ → List ℕ
over w out = w ++ drop (length w) out

-- how many of the numbers below n pass
abbrev pub count : ℕ → (ℕ → Bool) → ℕ
count zero f = 0
count (suc n) f = cond (f 0) 1 0 + count n (λ b. f (suc b))

-- how many pairs of the units below m and the bays below n are in the set
abbrev pub how_many : ℕ → ℕ → Pairs → ℕ
how_many zero n r = 0
how_many (suc m) n r = count n (r 0) + how_many m n (λ u. r (suc u))

-- the tries of the search within these pairs, as they are told
abbrev pub tries_in : Ledger → Setting → Pairs → Option (List ℕ) → ℕ
tries_in l s r o = told (walk s o (rows_of l.units l.bays r)).tries

-- a placement within the open pairs, after o where there is one
abbrev pub Open : Ledger → Setting → Option (List ℕ) → List ℕ → Type 0
Open l s o = Wanted s (open_pairs l) o

-- the first of them goes to the buffer; or there is none, and the buffer stays
abbrev pub Finds : Ledger → Setting → Option (List ℕ) → List ℕ → Answer → List ℕ → Type 0
Finds l s o out a b =
    let t = tries_in l s (open_pairs l) o in
    ((w : List ℕ) × IsFirst (Open l s o) w × (a ≡ found t) × (b ≡ over w out))
    ⊎ (((w : List ℕ) → Open l s o w → ⊥) × (a ≡ none t) × (b ≡ out))

-- some placement within the open pairs has the unit u on the bay v
abbrev pub SomeHas : Ledger → Setting → ℕ → ℕ → Type 0
SomeHas l s u v = (w : List ℕ) × Open l s None w × (slice_index w u ≡ v)

-- a yes exactly where some placement has the pair
abbrev pub Asks : Ledger → Setting → ℕ → ℕ → Answer → Type 0
Asks l s u v a =
    let t = tries_in l s (held_to (open_pairs l) u v) None in
    (SomeHas l s u v × (a ≡ yes t)) ⊎ ((SomeHas l s u v → ⊥) × (a ≡ none t))

-- what an accepted call answers, and what is in the buffer then
abbrev pub Answered : Ledger → Call → Answer → List ℕ → Type 0
Answered l (begin m n) a b = (a ≡ done) × (b ≡ [])
Answered l («open» bs) a b = (a ≡ done) × (b ≡ [])
Answered l (strike u v) a b = (a ≡ done) × (b ≡ [])
Answered l (free u v) a b = (a ≡ done) × (b ≡ [])
Answered l (fit c) a b = (a ≡ done) × (b ≡ [])
Answered l (fit_further c) a b = (a ≡ done) × (b ≡ [])
Answered l (seek s out) a b = Finds l s None out a b
Answered l (further s out) a b = Finds l s l.last out a b
Answered l (what_if u v s) a b = Asks l s u v a × (b ≡ [])
Answered l tally a b = (a ≡ number (how_many l.units l.bays (λ u v. not (l.struck u v)))) × (b ≡ [])
Answered l (save out) a b = (a ≡ number (length (form_of l))) × (b ≡ over (form_of l) out)

abbrev pub Judged : Verdict → (Refusal → Type 0) → Type 0 → Type 0
Judged accepted D P = P
Judged (declined e) D P = D e

-- what a call answers, declined or not
abbrev pub Right : Ledger → Call → Answer → List ℕ → Type 0
Right l c a b = Judged (verdict l c) (λ e. (a ≡ refused e) × (b ≡ buffer_of c)) (Answered l c a b)
