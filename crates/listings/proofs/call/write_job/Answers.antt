use Rattle.jobs.specs.Told.{job_told}
use Rattle.listings.specs.Text.{refusal_text}
use Rattle.listings.proofs.Listing.{listing_short}
use Rattle.listings.proofs.Answering.{text_listed, text_refused, refusal_short}
use Rattle.listings.proofs.call.write_job.Goals as goal

pub returns-in-Ok-clause-job : goal.returns-in-Ok-clause-job
returns-in-Ok-clause-job c =
    let w = c.write_listing.ensures in
    record {
      text = w.text;
      of_job = text_listed c.args.input.now _ _ c.in-Ok.ensures.value w.listed;
      few = listing_short _ c.in-Ok.ensures.lawful _ w.listed;
      writes = w.writes;
    }

pub returns-in-Err-clause-job : goal.returns-in-Err-clause-job
returns-in-Err-clause-job c =
    record {
      text = refusal_text (job_told c.in-Err.fault);
      of_job = text_refused c.args.input.now _ c.in-Err.ensures.value;
      few = refusal_short _;
      writes = rw (← c.into.ensures) c.write_refusal.ensures;
    }
