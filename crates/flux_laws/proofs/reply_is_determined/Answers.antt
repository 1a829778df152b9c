use Rattle.flux_laws.proofs.Determined.{replies_once}
use Rattle.flux_laws.proofs.reply_is_determined.Goals as goal

pub returns : goal.returns
returns c = λ g s command. (replies_once g s command).once
