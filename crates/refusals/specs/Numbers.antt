-- The number of each reason and of each layer. Assumes nothing.
use Rattle.std.specs.Prelude.{ℕ}
use Rattle.refusals.specs.declared.Reason.{Reason}
use Rattle.refusals.specs.declared.Reason.TheVariants as R
use Rattle.refusals.specs.declared.Layer.{Layer}
use Rattle.refusals.specs.declared.Layer.TheVariants as L
use Rattle.refusals.specs.declared.Told.{Told}

abbrev pub number_of : Reason → ℕ
number_of R.Sizes = 1
number_of R.OutOfRange = 2
number_of R.Standing = 3
number_of R.CardCount = 4
number_of R.NoFit = 5
number_of R.OtherCount = 6
number_of R.NoLastAnswer = 7
number_of R.ShortBuffer = 8
number_of R.NoPlacement = 9
number_of R.IllJoints = 10
number_of R.Ended = 11
number_of R.Unknown = 12
number_of R.TooMany = 13
number_of R.MapBit = 14
number_of R.ZeroRow = 15
number_of R.RowBit = 16
number_of R.BytesLeft = 17
number_of R.NoRoom = 18

abbrev pub layer_of : Layer → ℕ
layer_of L.Table = 1
layer_of L.Plan = 2
layer_of L.Job = 3

-- a refusal by its reason, its layer and its place
abbrev pub told : Reason → Layer → ℕ → Told
told reason layer place = record { reason = reason; layer = layer; place = place }
