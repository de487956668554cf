-- The calls of a plan, and what they answer. Assumes nothing.
use Rattle.std.specs.Prelude.{ℕ, List, []}
use Rattle.refusals.specs.declared.Reason.{Reason}
use Rattle.refusals.specs.declared.Told.{Told}
use Rattle.books.specs.Fit.{Cards}
use Rattle.search.specs.Walk.{Setting}

-- a call with what it is handed: bytes and buffers whole, sources, books and filters by their meaning
pub data Call : Type 0 where
  begin : ℕ → ℕ → Call
  «open» : List ℕ → Call
  strike : ℕ → ℕ → Call
  free : ℕ → ℕ → Call
  fit : Cards → Call
  fit_further : Cards → Call
  seek : Setting → List ℕ → Call
  further : Setting → List ℕ → Call
  what_if : ℕ → ℕ → Setting → Call
  tally : Call
  save : List ℕ → Call

-- why a call declines: by a reason alone or, of bytes, with layer and place
pub data Refusal : Type 0 where
  rule : Reason → Refusal
  ill : Told → Refusal

-- what a call answers: that it is done; a number; the tries of a find, of a yes and of a search without one (reason 9); a refusal
pub data Answer : Type 0 where
  done : Answer
  number : ℕ → Answer
  found : ℕ → Answer
  yes : ℕ → Answer
  none : ℕ → Answer
  refused : Refusal → Answer

-- the buffer that a call is handed; where there is none, the empty one
abbrev pub buffer_of : Call → List ℕ
buffer_of (begin m n) = []
buffer_of («open» bs) = []
buffer_of (strike u b) = []
buffer_of (free u b) = []
buffer_of (fit c) = []
buffer_of (fit_further c) = []
buffer_of (seek s out) = out
buffer_of (further s out) = out
buffer_of (what_if u b s) = []
buffer_of tally = []
buffer_of (save out) = out
