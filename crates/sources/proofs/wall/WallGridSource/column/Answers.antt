use Rattle.std.proofs.Common.{◌*◌, ◌∙◌}
use Rattle.sources.proofs.Grids.{wall_column}
use Rattle.sources.proofs.wall.WallGridSource.column.Goals as goal

pub returns : goal.returns
returns c =
    let s = c.args.self.now in
    c.row_at.ensures ∙ s.drawn c.args.b ∙ wall_column s.extent.columns (s.extent.columns * s.extent.levels) c.args.b
