use Rattle.std.proofs.Common.{◌∙◌}
use Rattle.tables.proofs.Steps.{map_held}
use Rattle.tables.proofs.read.read_map.Goals as goal

pub returns : goal.returns
returns c = c.read_rows.ensures ∙ map_held _ _ c.args.part _ c.in_ok-map.ensures.value c.in_default.ensures.value c.word.new.self c.in_ok-map.ensures.past
