-- What the job call answers and writes. Assumes nothing.
use Rattle.std.specs.Prelude.{◌≡◌, ℕ, ◌≤◌, List, length, Ok, Err, Option, Result, MatchResult}
use Rattle.refusals.specs.declared.Reason.{Reason}
use Rattle.refusals.specs.declared.Reason.TheVariants.{NoRoom}
use Rattle.placements.specs.Order.{Lists}
use Rattle.text.specs.declared.Text.{Text}
use Rattle.text.specs.Lay.{lay}
use Rattle.jobs.specs.Form.{JobForm}
use Rattle.jobs.specs.Read.{read_job}
use Rattle.jobs.specs.Told.{job_told}
use Rattle.listings.specs.Suited.{Suited}
use Rattle.listings.specs.Text.{listing_text, refusal_text, Writes}

-- the text lists the suited placements of the job, all of them in dictionary order
pub record Listed (j : JobForm) (text : List ℕ) : Type 0 where
  pub all : List (List ℕ)
  pub lists : Lists (Suited j) all
  pub is : text ≡ listing_text all

-- a call that writes the listing
pub record WritesListing (j : JobForm) (t t' : Text) (r : Option (Unit {0})) : Type 0 where
  pub text : List ℕ
  pub listed : Listed j text
  pub writes : Writes text t t' r

-- the text of a job's bytes: the listing, or why they are no job
abbrev pub JobText : List ℕ → List ℕ → Type 0
JobText input text = MatchResult (read_job input) (λ j. Listed j text) (λ e. text ≡ refusal_text (job_told e))

-- a call that writes that text
pub record WritesJob (input : List ℕ) (t t' : Text) (r : Option (Unit {0})) : Type 0 where
  pub text : List ℕ
  pub of_job : JobText input text
  pub few : length text ≤ 1536
  pub writes : Writes text t t' r

-- theorem: bytes have one text
abbrev pub OneText : Type 0
OneText = (input s t : List ℕ) → JobText input s → JobText input t → s ≡ t

-- a buffer under 1536 bytes is declined and keeps what it held
pub record Declined (out out' : List ℕ) (r : Result ℕ Reason) : Type 0 where
  pub answer : r ≡ Err NoRoom
  pub buffer : out' ≡ out

-- else the job's text stands at the front of the buffer, its length is answered, and the bytes beyond stay
pub record Answered (input out out' : List ℕ) (r : Result ℕ Reason) : Type 0 where
  pub text : List ℕ
  pub of_job : JobText input text
  pub answer : r ≡ Ok (length text)
  pub buffer : out' ≡ lay out 0 text
