-- What saving a form answers and leaves in the buffer. Assumes nothing.
use Rattle.std.specs.Prelude.{◌≡◌, ℕ, cond, List, length, Ok, Err, Result, nat_lt}
use Rattle.tables.specs.declared.fault.SaveFault.{SaveFault}
use Rattle.tables.specs.declared.fault.SaveFault.TheVariants.{Short}
use Rattle.text.specs.Lay.{lay}

-- a buffer that is shorter than the form is declined and keeps what it held; else the form stands at its front, its
-- length is answered, and the bytes beyond stay
pub record Saved (form out out' : List ℕ) (r : Result ℕ SaveFault) : Type 0 where
  pub answer : r ≡ cond (nat_lt (length out) (length form)) (Err Short) (Ok (length form))
  pub buffer : out' ≡ cond (nat_lt (length out) (length form)) out (lay out 0 form)
