use Rattle.std.proofs.Common.{◌≡◌, ◌<◌, ◌≤◌, ◌*◌, map}
use Rattle.std.specs.List.{concat, range_with_len}
use Rattle.load_script.specs.Draws.{drawn, second_at}
use Rattle.load_script.specs.Lines.{ended_line}
use Rattle.load_script.proofs.lines.load_text.Given as goal

-- the lines of the commands so far, their last number, and the second that they lead to
abbrev pub invariant-loop-k : goal.invariant-loop-k
invariant-loop-k l =
    (l.text.items ≡ concat (map (ended_line l.commands) (range_with_len 1 l.k)))
    × (l.number ≡ drawn l.commands l.k) × (l.number < 2147483648)
    × (l.second ≡ second_at l.commands l.k) × (l.second ≤ 120 * l.k)
