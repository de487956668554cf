use Rattle.std.proofs.Common.{◌≡◌, true, sym, ◌∙◌, inl, inr}
use Rattle.std.proofs.lemmas.Bool.{cases_Bool}
use Rattle.graphs.specs.Graph.{Graph}
use Rattle.filters.specs.Filter.{shaped}
use Rattle.consistency.specs.Support.{Greatest}
use Rattle.consistency.specs.Theory.{support_lawful, meaning_is, all_or_none, all_changed}
use Rattle.consistency.proofs.keep_supported.Goals as goal

pub returns : goal.returns
returns g c =
    let a : Graph = g.A.Source.graph c.args.problem.now.arrangement.now in
    let r : Graph = g.R.Source.graph c.args.problem.now.room.now in
    let shown = c.args.rows.now in
    let last = c.settle_shaped.new.rows in
    let most : shaped a r shown ≡ true → Greatest a r c.args.problem.now.strict shown last = λ e.
    c.settle_shaped.ensures.greatest e (all_changed a r c.args.problem.now.strict shown (g.A.Source.sound c.args.problem.now.arrangement.now).few) in
    record {
      rows = elim (cases_Bool (shaped a r shown)) [
        | inl e ↦ meaning_is a r c.args.problem.now.strict shown last e (most e)
        | inr e ↦ c.settle_shaped.ensures.ill e ∙ sym (support_lawful.leaves a r c.args.problem.now.strict shown e)
      ];
      counts = c.settle_shaped.ensures.counts;
      greatest = most;
      emptied = λ e. all_or_none a r c.args.problem.now.strict shown last e (most e);
      ill = c.settle_shaped.ensures.ill;
    }
