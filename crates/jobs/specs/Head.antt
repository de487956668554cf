-- What opens a job, as bytes. Assumes nothing.
use Rattle.std.specs.Prelude.{◌≡◌, ℕ, Bool, true, false, cond, Result, MatchResult, ◌&&◌, ◌==◌, nat_le}
use Rattle.jobs.specs.declared.head.Mode.{Mode}
use Rattle.jobs.specs.declared.head.Mode.TheVariants.{Open, Strict}
use Rattle.jobs.specs.declared.head.Edition.{Edition}
use Rattle.jobs.specs.declared.head.Unknown.{Unknown}
use Rattle.jobs.specs.declared.head.Edition.TheVariants.{One, Two}

-- whether units that are not joined must stand on bays that are not joined
abbrev pub is_strict : Mode → Bool
is_strict Open = false
is_strict Strict = true

-- the strictness byte
abbrev pub mode_byte : Mode → ℕ
mode_byte Open = 0
mode_byte Strict = 1

abbrev pub known_mode : ℕ → Bool
known_mode byte = nat_le byte 1

abbrev pub mode_of : ℕ → Mode
mode_of byte = cond (byte == 0) Open Strict

-- the edition's number, which stands in two bytes
abbrev pub edition_number : Edition → ℕ
edition_number One = 1
edition_number Two = 2

abbrev pub known_edition : ℕ → Bool
known_edition number = nat_le 1 number && nat_le number 2

abbrev pub edition_of : ℕ → Edition
edition_of number = cond (number == 1) One Two

-- what a byte stands for, or that it stands for nothing
abbrev pub ModeOf : ℕ → Result Mode Unknown → Type 0
ModeOf byte r = MatchResult r (λ mode. (known_mode byte ≡ true) × (mode ≡ mode_of byte)) (λ _. known_mode byte ≡ false)

-- what a number stands for, or that it stands for nothing
abbrev pub EditionOf : ℕ → Result Edition Unknown → Type 0
EditionOf number r =
    MatchResult r (λ edition. (known_edition number ≡ true) × (edition ≡ edition_of number)) (λ _. known_edition number ≡ false)
