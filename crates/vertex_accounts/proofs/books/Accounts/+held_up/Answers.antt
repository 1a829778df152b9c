use Rattle.std.proofs.Common.{ℕ, Option, None, length, refl, sym, subst}
use Rattle.graph_laws.proofs.Preorder.{parents_first}
use Rattle.flux_defs.specs.Graph.{parent_of}
use Rattle.vertex_accounts.specs.Costs.{look_most}
use Rattle.vertex_accounts.specs.Moments.{IsMomentOrNone}
use Rattle.vertex_accounts.proofs.AskingLaws.{held_none, held_zero, chain_longer, one_work, two_work, none_of}
use Rattle.vertex_accounts.proofs.LittleLaws.{above_along, along_at, here_along, wide_none}
use Rattle.vertex_accounts.proofs.books.Accounts.+held_up.Goals as goal

pub returns-in_default-clause-answer : goal.returns-in_default-clause-answer
returns-in_default-clause-answer g t c = λ jobs is h.
    let vertices = c.args.graph.now.resources.vertices in
    held_none jobs c.args.window vertices c.args.most c.args.from
    (none_of c.args.from (λ x e. c.in_default.not-Some x e)) h

pub returns-then-most-eq0-clause-answer : goal.returns-then-most-eq0-clause-answer
returns-then-most-eq0-clause-answer g t c = λ jobs is h.
    let vertices = c.args.graph.now.resources.vertices in
    held_zero jobs c.args.window vertices c.args.most c.args.from c.if-most-eq0.true h

pub returns-in-Some-held_over-clause-answer : goal.returns-in-Some-held_over-clause-answer
returns-in-Some-held_over-clause-answer g t c = λ jobs is.
    let vertices = c.args.graph.now.resources.vertices in
    here_along jobs c.args.window vertices c.args.most c.in-Some.vertex c.args.from c.if-most-eq0.false
    c.in-Some.is c.in-Some-held_over.moment (c.in-Some-held_over.ensures.answer jobs is)

pub returns-in-Some-held_over-clause-work : goal.returns-in-Some-held_over-clause-work
returns-in-Some-held_over-clause-work g t c = λ n looks.
    let vertices = c.args.graph.now.resources.vertices in
    one_work _ _ (look_most (length vertices) n) _ _ (c.held_over.ensures.work n looks)
    (chain_longer vertices c.args.most c.in-Some.vertex c.args.from (parent_of vertices
    c.in-Some.vertex) (look_most (length vertices) n) c.if-most-eq0.false c.in-Some.is refl)

pub returns-in-None-clause-answer : goal.returns-in-None-clause-answer
returns-in-None-clause-answer g t c = λ jobs is.
    let vertices = c.args.graph.now.resources.vertices in
    above_along jobs c.args.window vertices c.args.most c.in-Some.vertex c.args.from c.if-most-eq0.false
    c.in-Some.is c.upper-upper.result c.held_up.result c.upper-upper.ensures.value (c.in-None.ensures.answer jobs is)
    (c.held_up.ensures.answer jobs is)

pub returns-in-None-clause-work : goal.returns-in-None-clause-work
returns-in-None-clause-work g t c = λ n looks.
    let vertices = c.args.graph.now.resources.vertices in
    two_work _ _ _ (look_most (length vertices) n) _ _
    (c.held_over.ensures.work n looks) (c.held_up.ensures.work n looks)
    (chain_longer vertices c.args.most c.in-Some.vertex c.args.from c.upper-upper.result
    (look_most (length vertices) n) c.if-most-eq0.false c.in-Some.is c.upper-upper.ensures.value)

pub returns-then-is_wider-clause-answer : goal.returns-then-is_wider-clause-answer
returns-then-is_wider-clause-answer g t c = λ jobs is.
    let graph = c.args.graph.now.resources in
    let vertices = graph.vertices in
    subst (λ (o : Option ℕ). IsMomentOrNone c.args.window (along_at jobs vertices c.args.most o) None)
    (sym c.in-Some.is)
    (wide_none vertices (parents_first graph c.is_valid.ensures.valid.preorder) c.args.self.now.widest jobs
    c.args.window c.in-Some.vertex c.args.most is.widths (c.is_wider.ensures c.if-is_wider.true))
