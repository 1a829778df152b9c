use Rattle.flux_defs.specs.Available.{IsAvailable}
use Rattle.flux_laws.proofs.Aside.{groups_aside}
use Rattle.flux_laws.proofs.groups_are_aside.Goals as goal

pub returns : goal.returns
returns c = λ g names valid needs vs i j a b ne ea eb s w.
    groups_aside g names valid needs vs i j a b ne ea eb (IsAvailable s w)
