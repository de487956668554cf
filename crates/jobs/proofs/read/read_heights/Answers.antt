use Rattle.std.proofs.Common.{ℕ, ◌+◌, ◌-◌, ◌*◌, ◌≤◌, List, length, take, drop, Ok, sym, ap, ◌∙◌, arith}
use Rattle.std.proofs.lemmas.List.{take_rest}
use Rattle.tables.specs.Parts.{some_bytes}
use Rattle.jobs.specs.declared.fault.JobFault.TheVariants.{Ended}
use Rattle.jobs.specs.Form.{heights_of}
use Rattle.jobs.proofs.Heights.{filled_more, filled_all, pairs_count}
use Rattle.jobs.proofs.Reading.{bytes_done, turned_done, length_part}
use Rattle.jobs.proofs.read.read_heights.Goals as goal

pub loop-k-preserved : goal.loop-k-preserved
loop-k-preserved c =
    let few = pairs_count _ c.args.bays (take (length c.args.input.now - c.args.at) (drop c.args.at c.args.input.now)) c.if-part-bays.false c.as_chunks.ensures.front_len in
    filled_more _ _ _ _ c.loop-k.invariant c.loop-k-test.true (omega (arith, few)) (omega (arith, c.from_le_bytes.ensures))

pub returns : goal.returns
returns c =
    let long : c.args.at + 2 * c.args.bays ≤ length c.args.input.now = omega (arith, length_part c.args.input.now c.args.at) in
    record {
      value = ap (λ (t : List ℕ). Ok (t, c.args.at + 2 * c.args.bays))
          (filled_all _ c.args.bays (take (length c.args.input.now - c.args.at) (drop c.args.at c.args.input.now)) c.if-part-bays.false c.as_chunks.ensures.front_len _ _ c.as_chunks.ensures.front c.loop-k.invariant c.loop-k-test.false c.loop-k.auto.k-end
          ∙ ap (λ (t : List ℕ). heights_of c.args.bays (take (2 * c.args.bays) t)) (take_rest c.args.input.now c.args.at))
          ∙ sym (turned_done (some_bytes (2 * c.args.bays) Ended) c.args.input.now c.args.at (heights_of c.args.bays)
          (bytes_done (2 * c.args.bays) Ended c.args.input.now c.args.at long));
      within = long;
    }
