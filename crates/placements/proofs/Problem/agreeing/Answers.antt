use Rattle.std.proofs.Common.{ℕ, ◌-◌, ◌*◌, ◌/◌, ◌%◌, ◌^◌, ◌≤◌, ap, ◌∙◌}
use lib.Bits.{bit_and}
use Rattle.graphs.specs.Rows.{bit}
use Rattle.graphs.specs.Graph.{Graph}
use Rattle.placements.specs.Agreement.{half}
use Rattle.placements.proofs.Masks.{others_low, others_high, agreeing_row}
use Rattle.placements.proofs.Problem.agreeing.Goals as goal
use Rattle.placements.proofs.Problem.agreeing.Goals.{then-c-lt64, else-c-lt64}

pub returns : goal.returns
returns g c =
    let G : Graph = g.R.Source.graph c.args.self.now.room.now in
    let few : G.count ≤ 64 = (g.R.Source.sound c.args.self.now.room.now).few in
    agreeing_row G few c.args.joined.out c.args.joined.back c.args.self.now.strict c.args.c
    c.if-c-lt64.others c.one_way-out.result c.one_way-back.result
    (λ k. elim c.if-c-lt64.branch [
      | then-c-lt64 w ↦
          ap (λ (x : ℕ). bit x k) w.others-is
          ∙ ap (λ (n : ℕ). bit (bit_and (18446744073709551615 / 2 ^ (64 - n)) (18446744073709551615 - (1 * 2 ^ c.args.c) % 18446744073709551616)) k) c.count.ensures
          ∙ others_low G.count c.args.c few w.if-c-lt64.true k
      | else-c-lt64 w ↦
          ap (λ (x : ℕ). bit x k) w.others-is
          ∙ ap (λ (n : ℕ). bit (18446744073709551615 / 2 ^ (64 - n)) k) c.count.ensures
          ∙ others_high G.count c.args.c few w.if-c-lt64.false k
    ])
    (λ k l. c.one_way-out.ensures k l ∙ ap (λ (x : ℕ). half c.args.self.now.strict c.args.joined.out (bit x k)) c.column.ensures)
    (λ k l. c.one_way-back.ensures k l ∙ ap (λ (x : ℕ). half c.args.self.now.strict c.args.joined.back (bit x k)) c.row.ensures)
