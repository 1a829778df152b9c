use Rattle.std.proofs.Common.{rules, ap}
use Rattle.turn_table.proofs.Ends.{opens}
use Rattle.turn_table.proofs.Views.{first_rises}
use Rattle.turn_table.proofs.turn.Turn.new.Goals as goal

pub new-requires : goal.new-requires
new-requires g c =
    opens g.V.Logged.history g.V.Logged.setting _ c.args.value _ _ (search rules) (search rules) (search rules)

pub returns-in-Ok-new-clause-own : goal.returns-in-Ok-new-clause-own
returns-in-Ok-new-clause-own g c =
    ((search rules, first_rises _ _ _ (ap (λ m. m.0) c.in-Ok-new.ensures.ok.4)), search rules)
