use Rattle.flux_examples.proofs.Slots.{two_slots}
use Rattle.flux_examples.proofs.two_slots_of_three_cores.Goals as goal

pub returns : goal.returns
returns c = two_slots
