use Rattle.std.specs.List.{remove}
use Rattle.dfu_match.proofs.LeavingLaws.{set_others, left_others}
use Rattle.dfu_match.proofs.leaving.Left.renewed.Goals as goal

pub returns-clause-left : goal.returns-clause-left
returns-clause-left c = λ rows i was at before is t lo hi some.
    let need = c.args.need.now in
    let row = c.args.row.now in
    let others = left_others need rows i was at c.args.self c.without.result before c.without.ensures.from
    c.without.ensures.until c.without.ensures.room c.without.ensures.most is in
    rw (set_others need rows i was at t row) (c.with.ensures.left (remove rows i) others t lo hi some)
