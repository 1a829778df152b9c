use Rattle.sound_laws.proofs.Legal.{accepted_keeps}
use Rattle.sound_laws.proofs.accepting_keeps_sound.Goals as goal

pub returns : goal.returns
returns c = accepted_keeps
