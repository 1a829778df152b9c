use Rattle.fluxion_shell.specs.Outputs.{IsSummary}
use Rattle.fluxion_shell.proofs.Shown.{front_of}
use Rattle.fluxion_shell.proofs.running.print_summary.Goals as goal

pub returns-clause-front : goal.returns-clause-front
returns-clause-front g c = λ same.
    front_of _ _ _ _ c.in-Ok.text (IsSummary c.args.commands) c.write_all.ensures.front c.in-Ok.ensures
