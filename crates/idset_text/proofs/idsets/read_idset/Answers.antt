use Rattle.idset_text.proofs.IdsetTexts.{found_by, only_by, rising_by}
use Rattle.idset_text.proofs.idsets.read_idset.Goals as goal

pub returns-clause-found : goal.returns-clause-found
returns-clause-found c = found_by c.args.text.now c.read.result c.read.ensures

pub returns-clause-only : goal.returns-clause-only
returns-clause-only c = λ ranges is. only_by c.args.text.now c.read.result ranges c.read.ensures is

pub returns-clause-rising : goal.returns-clause-rising
returns-clause-rising c = rising_by c.args.text.now c.read.result c.read.ensures
