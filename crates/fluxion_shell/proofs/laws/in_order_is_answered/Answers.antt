use Rattle.flux_io.specs.Counts.{Rose}
use Rattle.fluxion_shell.proofs.Shown.{completes}
use Rattle.fluxion_shell.proofs.laws.in_order_is_answered.Goals as goal

pub returns : goal.returns
returns c = λ call told left f f' r r' i i' o o' s. completes (Rose f f') (Rose r r') (Rose i i')
    (Rose o o') call told left s
