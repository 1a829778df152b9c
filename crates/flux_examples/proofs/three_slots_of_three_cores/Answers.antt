use Rattle.flux_examples.proofs.Slots.{three_slots}
use Rattle.flux_examples.proofs.three_slots_of_three_cores.Goals as goal

pub returns : goal.returns
returns c = three_slots
