use Rattle.commit_laws.proofs.Causes.{cause_once}
use Rattle.commit_laws.proofs.cause_is_determined.Goals as goal

pub returns : goal.returns
returns c = cause_once
