use Rattle.std.proofs.Common.{rules}
use Rattle.turn_table.proofs.Ends.{closes, closes_with}
use Rattle.turn_table.proofs.turn.Turn.close.Goals as goal

pub unreachable-requires : goal.unreachable-requires
unreachable-requires g c =
    let h = closes g.V.Logged.history g.V.Logged.setting _ _ _ _ _ c.take-slot.result
    c.close_with-closed.ensures.values.2 (search rules) (search rules) c.take-slot.ensures.value in
    c.in_default.not-Some h.0 h.1

pub returns-clause-later : goal.returns-clause-later
returns-clause-later g c =
    (closes_with g.V.Logged.history g.V.Logged.setting _ _ _ _ _ c.take-slot.result c.in-Some.value
    c.close_with-closed.ensures.values.2 (search rules) (search rules) c.take-slot.ensures.value c.in-Some.is).later

pub returns-clause-mine : goal.returns-clause-mine
returns-clause-mine g c =
    (closes_with g.V.Logged.history g.V.Logged.setting _ _ _ _ _ c.take-slot.result c.in-Some.value
    c.close_with-closed.ensures.values.2 (search rules) (search rules) c.take-slot.ensures.value c.in-Some.is).mine

pub returns-clause-setting : goal.returns-clause-setting
returns-clause-setting g c =
    (closes_with g.V.Logged.history g.V.Logged.setting _ _ _ _ _ c.take-slot.result c.in-Some.value
    c.close_with-closed.ensures.values.2 (search rules) (search rules) c.take-slot.ensures.value
    c.in-Some.is).setting_is
