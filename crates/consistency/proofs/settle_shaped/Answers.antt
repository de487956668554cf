use Rattle.std.proofs.Common.{length, sym, ap, ◌∙◌, arith}
use Rattle.filters.specs.Filter.{pair_count, empty_count}
use Rattle.filters.specs.Counting.{pair_count_mono}
use Rattle.consistency.proofs.Counts.{pair_count_none, empty_count_all}
use Rattle.consistency.proofs.settle_shaped.Goals as goal

pub returns-then-settle-clause-counts : goal.returns-then-settle-clause-counts
returns-then-settle-clause-counts g c =
    let e = c.settle.ensures.all c.if-settle.true in
    let none = pair_count_none (length c.args.rows.now) in
    record {
      taken = omega (arith, c.count_pairs-before.ensures, ap pair_count e, none);
      empty = c.settle.auto.rows ∙ sym (ap empty_count e ∙ empty_count_all (length c.args.rows.now));
    }

pub overflow_sub-result : goal.overflow_sub-result
overflow_sub-result g c =
    omega (arith, c.count_pairs-before.ensures, c.count_pairs.ensures, pair_count_mono c.settle.new.rows c.args.rows.now c.settle.auto.rows c.settle.ensures.inside)

pub returns-clause-counts : goal.returns-clause-counts
returns-clause-counts g c =
    record {
      taken = omega (arith, c.count_pairs-before.ensures, c.count_pairs.ensures, pair_count_mono c.settle.new.rows c.args.rows.now c.settle.auto.rows c.settle.ensures.inside);
      empty = c.empty_rows.ensures;
    }
