use Rattle.std.proofs.Common.{◌≡◌, ℕ, ◌-◌, ◌/◌, ◌^◌, ◌<◌, false, sym, subst, arith}
use lib.Bits.{bit_and}
use Rattle.graphs.specs.Graph.{Graph}
use Rattle.graphs.specs.Rows.{row_of}
use Rattle.placements.specs.Agreement.{agrees_if}
use Rattle.consistency.specs.Support.{any_of}
use Rattle.consistency.proofs.Lone.{lone_none, lone_one, lone_more}
use Rattle.consistency.proofs.differing.Goals as goal

-- all bays, where there are n
abbrev all : ℕ → ℕ
all n = 18446744073709551615 / 2 ^ (64 - n)

-- the row without its lowest bay
abbrev others : ℕ → ℕ
others held = bit_and held (held - 1)

pub returns-then-held-eq0 : goal.returns-then-held-eq0
returns-then-held-eq0 g c =
    let r : Graph = g.R.Source.graph c.args.problem.now.room.now in
    let row : ℕ = c.args.row in
    let few = (g.R.Source.sound c.args.problem.now.room.now).few in
    subst (λ (n : ℕ). bit_and row (all n) ≡ 0 → 0 ≡ row_of r.count (λ b. any_of row r.count (agrees_if r false false false b))) (sym c.count.ensures)
    (lone_none r few row) c.if-held-eq0.true

pub returns-then-held-eq0-2 : goal.returns-then-held-eq0-2
returns-then-held-eq0-2 g c =
    let r : Graph = g.R.Source.graph c.args.problem.now.room.now in
    let row : ℕ = c.args.row in
    let few = (g.R.Source.sound c.args.problem.now.room.now).few in
    subst (λ (n : ℕ). 0 < bit_and row (all n) → others (bit_and row (all n)) ≡ 0 → bit_and (all n) (18446744073709551615 - bit_and row (all n)) ≡ row_of r.count (λ b. any_of row r.count (agrees_if r false false false b))) (sym c.count.ensures)
    (lone_one r few row) (omega arith) c.if-held-eq0-2.true

pub returns-else-held-eq0-2 : goal.returns-else-held-eq0-2
returns-else-held-eq0-2 g c =
    let r : Graph = g.R.Source.graph c.args.problem.now.room.now in
    let row : ℕ = c.args.row in
    let few = (g.R.Source.sound c.args.problem.now.room.now).few in
    subst (λ (n : ℕ). 0 < bit_and row (all n) → 0 < others (bit_and row (all n)) → all n ≡ row_of r.count (λ b. any_of row r.count (agrees_if r false false false b))) (sym c.count.ensures)
    (lone_more r few row) (omega arith) (omega arith)
