-- What the exported job call answers and writes. Assumes nothing.
use Rattle.std.specs.Prelude.{◌≡◌, ℕ, List, length, Ok, Err, Result}
use Rattle.refusals.specs.Numbers.{number_of}
use Rattle.refusals.specs.declared.Reason.{Reason}
use Rattle.refusals.specs.declared.Reason.TheVariants.{NoRoom}
use Rattle.text.specs.Lay.{lay}
use Rattle.listings.specs.JobText.{JobText}
use Rattle.listings_c.specs.declared.JobAnswer.{JobAnswer}

-- an answer of the library, as a program in C gets it
abbrev pub in_c : Result ℕ Reason → JobAnswer
in_c (Ok n) = record { declined = 0; written = n }
in_c (Err e) = record { declined = number_of e; written = 0 }

-- a buffer under 1536 bytes is declined and keeps what it held
pub record Declined (out out' : List ℕ) (r : JobAnswer) : Type 0 where
  pub number : r.declined ≡ number_of NoRoom
  pub length_none : r.written ≡ 0
  pub buffer : out' ≡ out

-- else the job's text stands at the front of the buffer, its length is answered, and the bytes beyond stay
pub record Answered (input out out' : List ℕ) (r : JobAnswer) : Type 0 where
  pub text : List ℕ
  pub of_job : JobText input text
  pub number : r.declined ≡ 0
  pub length_is : r.written ≡ length text
  pub buffer : out' ≡ lay out 0 text
