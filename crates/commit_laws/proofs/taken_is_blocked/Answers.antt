use Rattle.commit_laws.proofs.Stretch.{first_block}
use Rattle.commit_laws.proofs.taken_is_blocked.Goals as goal

pub returns : goal.returns
returns c = λ vertices history place w claim. first_block history place vertices w claim
