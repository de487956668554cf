use Rattle.listings.proofs.Answering.{one_text}
use Rattle.listings.proofs.call.planbench_job.Goals as goal

pub returns-then-output-lt-ROOM-clause-one_text : goal.returns-then-output-lt-ROOM-clause-one_text
returns-then-output-lt-ROOM-clause-one_text c = one_text

pub returns-clause-one_text : goal.returns-clause-one_text
returns-clause-one_text c = one_text
