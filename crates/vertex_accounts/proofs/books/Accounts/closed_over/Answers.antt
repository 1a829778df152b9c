use Rattle.std.proofs.Common.{ap, arith, ℕ, ◌+◌, ◌*◌}
use Rattle.flux_defs.specs.Digits.{dig}
use Rattle.vertex_accounts.proofs.LittleLaws.{closed_told}
use Rattle.vertex_accounts.proofs.books.Accounts.closed_over.Goals as goal

pub returns-clause-work : goal.returns-clause-work
returns-clause-work g c = λ n looks.
    let up = c.at-item.ensures.work in
    let len = ap (λ (k : ℕ). 2 * dig (k + 1)) c.requires.graph.len in
    let rest = c.closed_moment.ensures.work n looks in
    omega (arith, up, len, rest)

pub returns-clause-answer : goal.returns-clause-answer
returns-clause-answer g c = λ jobs is.
    closed_told c.args.graph.now.resources.vertices jobs c.args.window c.args.vertex c.closed_moment.result
    c.is_some.result c.is_some.ensures (c.closed_moment.ensures.answer jobs is)
