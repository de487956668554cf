use Rattle.std.proofs.Common.{◌≡◌, [], length, get_or, is_some, unwrap_or, option_map, option_copied, sym, refl, ◌∙◌, rules}
use Rattle.graphs.proofs.Lowest.{turn, no_more}
use Rattle.search.specs.Walk.{Setting, asked, LeftBy}
use Rattle.search.proofs.Going.{going_none, going_start, bay_held, going_fails, going_back, going_there, going_end}
use Rattle.search.proofs.Narrowing.{left_next, few_left}
use Rattle.search.proofs.Steps.{as_long}
use Rattle.search.proofs.Ties.{bound_is, Handed, handed_long, settled_down}
use Rattle.search.proofs.Walk.+settle_from.Goals as goal

pub returns-then-u-rows : goal.returns-then-u-rows
returns-then-u-rows g t c =
    let w : Setting = asked g.A.Source.graph g.R.Source.graph g.F.Filter.left c.args.self.now in
    going_none w (unwrap_or (option_copied c.args.last) []) (is_some (option_copied c.args.last)) c.args.u c.args.rows.now c.args.tries c.lowest_bays.result c.if-u-rows.true c.ranges.tries.fits c.lowest_bays.ensures

pub loop-b-init : goal.loop-b-init
loop-b-init g t c =
    let w : Setting = asked g.A.Source.graph g.R.Source.graph g.F.Filter.left c.args.self.now in
    let lawful = g.met.F.Filter.lawful c.args.self.now.filter.now in
    let bound : c.map-bound.result ≡ option_map (λ l. get_or l.now c.args.u 0) c.args.last = search rules in
    let row : c.into_iter-b-iterator.result.rest ≡ c.offers.result = search rules in
    going_start w (unwrap_or (option_copied c.args.last) []) (is_some (option_copied c.args.last)) c.args.u c.args.rows.now lawful c.requires.left
    c.args.tries c.into_iter-b-iterator.result.rest _ c.if-u-rows.false
    (λ b. rw row (c.offers.ensures b ∙ bound_is c.args.last c.map-bound.result (get_or c.args.rows.now c.args.u 0) c.args.u _ b bound)) c.ranges.tries.fits refl

pub attempt-requires-clause-held : goal.attempt-requires-clause-held
attempt-requires-clause-held g t c =
    let w : Setting = asked g.A.Source.graph g.R.Source.graph g.F.Filter.left c.args.self.now in
    let lawful = g.met.F.Filter.lawful c.args.self.now.filter.now in
    bay_held w (unwrap_or (option_copied c.args.last) []) (is_some (option_copied c.args.last)) c.args.u c.args.rows.now lawful c.requires.left
    c.args.tries c.loop-b.so_far c.loop-b.b-iterator.rest c.loop-b.next c.loop-b.invariant (turn c.loop-b.b-iterator c.next.new.self c.in-Some.ensures.steps)

pub settle_from-requires : goal.settle_from-requires
settle_from-requires g t c κs within =
    let w : Setting = asked g.A.Source.graph g.R.Source.graph g.F.Filter.left c.args.self.now in
    let lawful = g.met.F.Filter.lawful c.args.self.now.filter.now in
    let same : Handed c.args.last c.args.u c.in-Some.b c.filter-same.result = search rules in
    let long : length c.args.rows.now ≡ length c.attempt.new.next = as_long w (unwrap_or (option_copied c.args.last) []) (is_some (option_copied c.args.last)) c.args.u c.in-Some.b c.args.rows.now c.attempt.new.next c.attempt.ensures.left lawful in
    let held = bay_held w (unwrap_or (option_copied c.args.last) []) (is_some (option_copied c.args.last)) c.args.u c.args.rows.now lawful c.requires.left
    c.args.tries c.loop-b.so_far c.loop-b.b-iterator.rest c.loop-b.next c.loop-b.invariant (turn c.loop-b.b-iterator c.next.new.self c.in-Some.ensures.steps) in
    let left : LeftBy w c.attempt.new.next = left_next w c.args.rows.now lawful c.requires.left c.args.u c.in-Some.b held c.attempt.new.next c.attempt.ensures.left in
    let lasting = handed_long c.args.last c.filter-same.result c.args.u c.in-Some.b (length c.attempt.new.next) same (rw long at c.requires.lasting) in
    search rules

pub returns-in-Ok : goal.returns-in-Ok
returns-in-Ok g t c =
    let w : Setting = asked g.A.Source.graph g.R.Source.graph g.F.Filter.left c.args.self.now in
    let lawful = g.met.F.Filter.lawful c.args.self.now.filter.now in
    let same : Handed c.args.last c.args.u c.in-Some.b c.filter-same.result = search rules in
    going_there w (unwrap_or (option_copied c.args.last) []) (is_some (option_copied c.args.last)) c.args.u c.args.rows.now lawful c.requires.left
    c.args.tries c.loop-b.so_far c.loop-b.b-iterator.rest c.loop-b.next c.loop-b.invariant (turn c.loop-b.b-iterator c.next.new.self c.in-Some.ensures.steps)
    c.attempt.new.next c.attempt.ensures.left (few_left w c.args.rows.now lawful c.requires.left) c.saturating_add-so_far.result c.saturating_add-so_far.ensures
    (sym c.attempt.ensures.empty ∙ c.if-not-attempt.true) c.settle_from.result
    (settled_down c.args.last c.filter-same.result c.args.u c.in-Some.b same w c.attempt.new.next c.saturating_add-so_far.result c.settle_from.result c.settle_from.ensures)
    c.in-Ok.find c.in-Ok.is

pub loop-b-preserved-in-Err : goal.loop-b-preserved-in-Err
loop-b-preserved-in-Err g t c =
    let w : Setting = asked g.A.Source.graph g.R.Source.graph g.F.Filter.left c.args.self.now in
    let lawful = g.met.F.Filter.lawful c.args.self.now.filter.now in
    let same : Handed c.args.last c.args.u c.in-Some.b c.filter-same.result = search rules in
    going_back w (unwrap_or (option_copied c.args.last) []) (is_some (option_copied c.args.last)) c.args.u c.args.rows.now lawful c.requires.left
    c.args.tries c.loop-b.so_far c.loop-b.b-iterator.rest c.loop-b.next c.loop-b.invariant (turn c.loop-b.b-iterator c.next.new.self c.in-Some.ensures.steps)
    c.attempt.new.next c.attempt.ensures.left (few_left w c.args.rows.now lawful c.requires.left) c.saturating_add-so_far.result c.saturating_add-so_far.ensures
    (sym c.attempt.ensures.empty ∙ c.if-not-attempt.true) c.settle_from.result
    (settled_down c.args.last c.filter-same.result c.args.u c.in-Some.b same w c.attempt.new.next c.saturating_add-so_far.result c.settle_from.result c.settle_from.ensures)
    c.in-Err.made c.in-Err.is

pub loop-b-preserved : goal.loop-b-preserved
loop-b-preserved g t c =
    let w : Setting = asked g.A.Source.graph g.R.Source.graph g.F.Filter.left c.args.self.now in
    let lawful = g.met.F.Filter.lawful c.args.self.now.filter.now in
    going_fails w (unwrap_or (option_copied c.args.last) []) (is_some (option_copied c.args.last)) c.args.u c.args.rows.now lawful c.requires.left
    c.args.tries c.loop-b.so_far c.loop-b.b-iterator.rest c.loop-b.next c.loop-b.invariant (turn c.loop-b.b-iterator c.next.new.self c.in-Some.ensures.steps)
    c.attempt.new.next c.attempt.ensures.left (few_left w c.args.rows.now lawful c.requires.left) c.saturating_add-so_far.result c.saturating_add-so_far.ensures
    (sym c.attempt.ensures.empty ∙ c.if-not-attempt.false)

pub returns : goal.returns
returns g t c =
    let w : Setting = asked g.A.Source.graph g.R.Source.graph g.F.Filter.left c.args.self.now in
    let lawful = g.met.F.Filter.lawful c.args.self.now.filter.now in
    going_end w (unwrap_or (option_copied c.args.last) []) (is_some (option_copied c.args.last)) c.args.u c.args.rows.now lawful c.requires.left
    c.args.tries c.loop-b.so_far c.loop-b.b-iterator.rest c.loop-b.next c.loop-b.invariant (no_more c.loop-b.b-iterator c.in-None.ensures.steps.0)
