use Rattle.resource_set_r.proofs.OneSet.{read_again}
use Rattle.resource_set_r.proofs.reading.read_r.Goals as goal

pub returns-clause-again : goal.returns-clause-again
returns-clause-again c = read_again c.args.bytes.now c.read.result c.read.ensures.set c.read.ensures.fault
