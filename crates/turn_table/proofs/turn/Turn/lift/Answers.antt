use Rattle.std.proofs.Common.{ℕ, List, ◌∷◌, Option, Some, rules, sym, ap, ◌∙◌}
use Rattle.atomic_table.specs.Table.{rest}
use Rattle.turn_table.proofs.turn.Turn.lift.Goals as goal

pub exchange-requires : goal.exchange-requires
exchange-requires g c =
    let h = c.requires.hand in (
      search rules,
      (
        Some h.0,
        h.1 ∙ ap (λ (left : List (ℕ × Option g.row.V.Denot)). (0, Some h.0) ∷ left) (sym (ap rest h.1)),
      ),
    )
