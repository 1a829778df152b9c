use Rattle.std.proofs.Common.{◌+◌, arith}
use Rattle.vertex_accounts.proofs.changing.width_of.Goals as goal

pub returns-clause-no_narrower : goal.returns-clause-no_narrower
returns-clause-no_narrower c = λ (n, lt, near).
    let within = c.past.ensures.within in
    let far = near n (omega (arith, lt, within)) (c.past.ensures.covered (c.args.vertex + n) (omega arith)
    (omega (arith, lt))) in
    omega (arith, far)
