use Rattle.std.proofs.Common.{◌≡◌, ◌+◌, cond, drop, ◌∙◌, ap, arith}
use Rattle.load_script.specs.Counts.{replies_called}
use Rattle.load_script.proofs.Tallies.{called_here}
use Rattle.load_script.proofs.counts.replies_called.Goals as goal
use Rattle.load_script.proofs.counts.replies_called.Goals.{then-is_called, else-is_called}

pub loop-at-preserved : goal.loop-at-preserved
loop-at-preserved g c =
    let word = c.args.word.now in
    let history = c.args.history.now in
    let at = c.loop-at.at in
    let here = c.is_called.ensures in
    let step = called_here word history at here.0 c.is_called.result here.1 here.2 in
    elim c.if-is_called.branch [
      | then-is_called w ↦
          let one : replies_called word (drop at history) ≡ 1 + replies_called word (drop (at + 1) history) =
          step ∙ ap (λ t. cond t 1 0 + replies_called word (drop (at + 1) history)) w.if-is_called.true in
          (omega arith, omega arith)
      | else-is_called w ↦
          let none : replies_called word (drop at history) ≡ 0 + replies_called word (drop (at + 1) history) =
          step ∙ ap (λ t. cond t 1 0 + replies_called word (drop (at + 1) history)) w.if-is_called.false in
          (omega arith, omega arith)
    ]
