-- What is taken from the front of the bytes that are not read yet. Assumes nothing.
use Rattle.std.specs.Prelude.{◌≡◌, ℕ, ◌+◌, ◌≤◌, cond, List, length, take, drop, Ok, Err, Result, nat_lt, slice_index}
use Rattle.tables.specs.declared.fault.TableCause.TheVariants.{Ended}
use Rattle.tables.specs.declared.fault.TableFault.{TableFault}
use Rattle.tables.specs.declared.part.Part.{Part}
use Rattle.tables.specs.Bytes.{from_bytes}

-- where the whole input ends
abbrev pub end_of : Part → ℕ
end_of part = part.at + length part.bytes.now

-- bytes that end too early are told of the end of the input
abbrev pub ended : ℕ → TableFault
ended end = record { cause = Ended; place = end }

abbrev pub next_byte : (end : ℕ) → List ℕ → Result ℕ TableFault
next_byte end bs = cond (nat_lt (length bs) 1) (Err (ended end)) (Ok (slice_index bs 0))

abbrev pub next_word : (end : ℕ) → List ℕ → Result ℕ TableFault
next_word end bs = cond (nat_lt (length bs) 8) (Err (ended end)) (Ok (from_bytes (take 8 bs)))

-- n bytes more are read, which the part had
pub record Past (n : ℕ) (part part' : Part) : Type 0 where
  pub enough : n ≤ length part.bytes.now
  pub bytes : part'.bytes.now ≡ drop n part.bytes.now
  pub place : part'.at ≡ part.at + n
