use Rattle.std.proofs.Common.{◌≡◌, Bool, true, false, rules}
use Rattle.search.proofs.Agreement.{row_flip}
use Rattle.graphs.specs.Rows.{row_of}
use Rattle.graphs.specs.Graph.{Graph}
use Rattle.placements.specs.Agreement.{agrees_if}
use Rattle.search.specs.declared.Masks.{Masks}
use Rattle.search.specs.Masks.{picked}
use Rattle.search.proofs.Masks.new.Goals as goal

pub returns : goal.returns
returns g c out back =
    let r : Graph = g.R.Source.graph c.args.problem.now.room.now in
    let s = c.args.problem.now.strict in
    let b = c.args.b in
    let m : Masks = record { both = c.mask.result; out = c.mask-2.result; back = c.mask-3.result; apart = c.mask-4.result } in
    let both : c.mask.result ≡ row_of r.count (λ x. agrees_if r true true s x b) = search rules in
    let only_back : c.mask-2.result ≡ row_of r.count (λ x. agrees_if r false true s x b) = search rules in
    let only_out : c.mask-3.result ≡ row_of r.count (λ x. agrees_if r true false s x b) = search rules in
    let apart : c.mask-4.result ≡ row_of r.count (λ x. agrees_if r false false s x b) = search rules in
    let P : Bool → Bool → Type 0 = λ o k. picked m o k ≡ row_of r.count (λ x. agrees_if r o k s b x) in
    elim out as (λ o. P o back) [
      | true ↦ elim back as (λ k. P true k) [ true ↦ row_flip r true true s b _ both | false ↦ row_flip r true false s b _ only_back ]
      | false ↦ elim back as (λ k. P false k) [ true ↦ row_flip r false true s b _ only_out | false ↦ row_flip r false false s b _ apart ]
    ]
