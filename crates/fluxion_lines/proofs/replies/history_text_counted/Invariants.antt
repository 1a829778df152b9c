use Rattle.std.proofs.Common.{◌≡◌, ◌++◌, drop}
use Rattle.fluxion_lines.specs.Texts.{history_text_from}
use Rattle.fluxion_lines.proofs.replies.history_text_counted.Given as goal

-- the text of the entries that are left completes it
abbrev pub invariant-loop-at : goal.invariant-loop-at
invariant-loop-at g l =
    history_text_from l.graph l.clients 0 l.history
    ≡ l.text.items ++ history_text_from l.graph l.clients l.at (drop l.at l.history)
