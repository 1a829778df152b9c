use Rattle.sound_laws.proofs.Sounds.{sound_filter}
use Rattle.sound_laws.proofs.cancelling_keeps_sound.Goals as goal

pub returns : goal.returns
returns c = λ vertices jobs id. sound_filter _ vertices jobs
