use Rattle.jobs.specs.Form.{view}
use Rattle.listings.proofs.Listing.{Written}
use Rattle.listings.proofs.list.write_listing.Given as goal

abbrev pub invariant-loop-listed : goal.invariant-loop-listed
invariant-loop-listed l = Written (view l.lawful.job.now) l.initial.text l._listed l.found l.text l.bays l.plan
