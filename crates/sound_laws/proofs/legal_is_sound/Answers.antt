use Rattle.sound_laws.proofs.Legal.{legal_keeps}
use Rattle.sound_laws.proofs.legal_is_sound.Goals as goal

pub returns : goal.returns
returns c = legal_keeps
