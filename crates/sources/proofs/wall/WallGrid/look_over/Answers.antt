use Rattle.std.proofs.Common.{refl, arith}
use Rattle.graphs.proofs.Walls.{wall_pos}
use Rattle.sources.proofs.wall.WallGrid.look_over.Goals as goal

pub returns-in_default : goal.returns-in_default
returns-in_default c = (λ v. omega (arith, wall_pos c.args.columns c.args.levels v.columns v.levels, c.in_default.ensures), refl)
