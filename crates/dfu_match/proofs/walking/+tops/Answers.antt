use Rattle.std.proofs.Common.{◌≡◌, ℕ, ◌+◌, ◌*◌, ◌≤◌, length, Option, Some, None, rules, arith, sym, subst, IsTrue}
use Rattle.std.specs.Prelude.{IfSome}
use Rattle.flux_defs.specs.Graph.{is_at_or_below}
use Rattle.graph_laws.proofs.Containment.{below_self, below_parent, below_trans, below_le}
use Rattle.graph_laws.proofs.Preorder.{parents_first}
use Rattle.dfu_match.specs.Pairs.{asked_totals}
use Rattle.dfu_match.specs.Tables.{all_of, needs_all}
use Rattle.dfu_match.proofs.OpenLaws.{clear_alone, clear_child, clear_parent, clear_upto, open_here}
use Rattle.dfu_match.proofs.PairLaws.{takes_none, takes_upto, takes_within}
use Rattle.dfu_match.proofs.StepLaws.{own_clear, own_takes}
use Rattle.dfu_match.proofs.TableLaws.{none_past}
use Rattle.dfu_match.proofs.walking.+tops.Goals as goal

some_along : (P Q : ℕ → Type 0) → ((x : ℕ) → P x → Q x) → (o : Option ℕ) → IfSome o P → IfSome o Q
some_along P Q along None h = tt
some_along P Q along (Some x) h = along x h

pub top_short-requires : goal.top_short-requires
top_short-requires g t c κs within =
    let graph = c.args.s.now.graph.now in
    let lt = parents_first graph.resources c.is_valid.ensures.valid.preorder c.args.vertex c.in-Some.parent
    c.in-Some.ensures.0 in (
      omega (arith, lt, c.decreases),
      (
        search rules,
        (search rules, (c.requires.stands, (omega (arith, lt, c.requires.vertex), c.in-Some.ensures.1))),
      ),
    )

pub returns-then-s-index-clause-clear : goal.returns-then-s-index-clause-clear
returns-then-s-index-clause-clear g t c = λ present stands u low high above is.
    let s = c.args.s.now in
    is.1.0.0 (none_past (needs_all s.needs.now) s.wanted.now c.args.index c.args.need.now c.if-s-index.true s.whole
    c.requires.stands)

pub returns-then-s-index-clause-work : goal.returns-then-s-index-clause-work
returns-then-s-index-clause-work g t c = λ present stands place at before.
    let s = c.args.s.now in
    takes_none _ (length (all_of c.args.need.now) * g.F.FreeView.cost s.view.now) c.args.steps.now place (place + 1)
    c.args.low (c.args.vertex + 1)

pub returns-in-None-clause-above : goal.returns-in-None-clause-above
returns-in-None-clause-above g t c =
    let graph = c.args.s.now.graph.now in
    let first = parents_first graph.resources c.is_valid.ensures.valid.preorder in
    some_along (λ top. top ≡ c.args.vertex)
    (λ top. (c.args.low ≤ top) × IsTrue (is_at_or_below graph.resources.vertices c.args.vertex top))
    (λ x e. (
      (let lo = c.requires.low in omega (arith, e, lo)),
      subst (λ (y : ℕ). IsTrue (is_at_or_below graph.resources.vertices c.args.vertex y)) (sym e)
          (below_self graph.resources.vertices first c.args.vertex c.requires.vertex),
    )) c.own_short.result c.own_short.ensures.same

pub returns-in-Some-top_short-clause-above : goal.returns-in-Some-top_short-clause-above
returns-in-Some-top_short-clause-above g t c =
    let graph = c.args.s.now.graph.now in
    let first = parents_first graph.resources c.is_valid.ensures.valid.preorder in
    let found = c.in-Some-top_short.ensures.above in (
      found.0,
      below_trans graph.resources.vertices first c.args.vertex c.in-Some.parent c.in-Some-top_short.top
          c.requires.vertex
          (below_parent graph.resources.vertices first c.args.vertex c.in-Some.parent c.requires.vertex
          c.in-Some.ensures.0)
          found.1,
    )

pub returns-in-None-top_short-clause-above : goal.returns-in-None-top_short-clause-above
returns-in-None-top_short-clause-above g t c =
    let graph = c.args.s.now.graph.now in
    let first = parents_first graph.resources c.is_valid.ensures.valid.preorder in
    some_along (λ top. top ≡ c.args.vertex)
    (λ top. (c.args.low ≤ top) × IsTrue (is_at_or_below graph.resources.vertices c.args.vertex top))
    (λ x e. (
      (let lo = c.requires.low in omega (arith, e, lo)),
      subst (λ (y : ℕ). IsTrue (is_at_or_below graph.resources.vertices c.args.vertex y)) (sym e)
          (below_self graph.resources.vertices first c.args.vertex c.requires.vertex),
    )) c.own_short-in-None-top_short.result c.own_short-in-None-top_short.ensures.same

pub returns-in-None-clause-clear : goal.returns-in-None-clause-clear
returns-in-None-clause-clear g t c = λ present stands.
    let s = c.args.s.now in
    let graph = s.graph.now in
    let keeps = asked_totals s.wanted.now (g.F.FreeView.keeps s.view.now) in
    let alone = clear_alone graph.resources graph.names c.is_valid.ensures.valid present s.window keeps c.args.need.now
    c.args.vertex c.args.low c.requires.vertex c.in-None.ensures in
    own_clear graph.resources.vertices present s.window keeps c.args.need.now c.args.vertex c.args.low
    c.own_short.result
    c.own_short.ensures.same alone (c.own_short.ensures.enough present stands)

pub returns-in-None-clause-work : goal.returns-in-None-clause-work
returns-in-None-clause-work g t c = λ present stands place at before.
    let s = c.args.s.now in
    let graph = s.graph.now in
    let keeps = asked_totals s.wanted.now (g.F.FreeView.keeps s.view.now) in
    let alone = clear_alone graph.resources graph.names c.is_valid.ensures.valid present s.window keeps c.args.need.now
    c.args.vertex c.args.low c.requires.vertex c.in-None.ensures in
    let opens = open_here graph.resources graph.names c.is_valid.ensures.valid present s.window keeps c.args.need.now
    c.args.vertex c.args.low before alone in
    own_takes graph.resources.vertices present s.window keeps (needs_all s.needs.now) c.args.need.now
    (length (all_of c.args.need.now) * g.F.FreeView.cost s.view.now) c.args.steps.now c.own_short.new.steps place
    c.args.vertex c.args.low c.own_short.ensures.work c.requires.low at c.requires.vertex opens

pub returns-in-Some-top_short-clause-clear : goal.returns-in-Some-top_short-clause-clear
returns-in-Some-top_short-clause-clear g t c = λ present stands.
    let s = c.args.s.now in
    let graph = s.graph.now in
    let first = parents_first graph.resources c.is_valid.ensures.valid.preorder in
    let lt = first c.args.vertex c.in-Some.parent c.in-Some.ensures.0 in
    let le = below_le graph.resources.vertices first c.in-Some.parent c.in-Some-top_short.top
    c.in-Some-top_short.ensures.above.1 in
    clear_child graph.resources graph.names c.is_valid.ensures.valid present s.window
    (asked_totals s.wanted.now (g.F.FreeView.keeps s.view.now)) c.args.need.now c.args.vertex c.in-Some.parent
    c.args.low
    c.in-Some-top_short.top c.requires.vertex c.in-Some.ensures.0 (omega (arith, lt, le))
    (c.in-Some-top_short.ensures.clear present stands)

pub returns-in-Some-top_short-clause-work : goal.returns-in-Some-top_short-clause-work
returns-in-Some-top_short-clause-work g t c = λ present stands place at before.
    let s = c.args.s.now in
    let graph = s.graph.now in
    let lt = parents_first graph.resources c.is_valid.ensures.valid.preorder c.args.vertex c.in-Some.parent
    c.in-Some.ensures.0 in
    let steps = length (all_of c.args.need.now) * g.F.FreeView.cost s.view.now in
    takes_within _ steps steps c.args.steps.now c.top_short.new.steps place (place + 1) c.args.low
    (c.in-Some.parent + 1)
    place (place + 1) c.args.low (c.args.vertex + 1) (omega arith) (omega arith) (omega arith) (omega arith)
    (omega (arith, lt))
    (c.top_short.ensures.work present stands place at
    (clear_parent graph.resources graph.names c.is_valid.ensures.valid present s.window
    (asked_totals s.wanted.now (g.F.FreeView.keeps s.view.now)) c.args.need.now c.args.vertex c.in-Some.parent
    c.args.low
    c.requires.vertex c.in-Some.ensures.0 before))

pub returns-in-None-top_short-clause-clear : goal.returns-in-None-top_short-clause-clear
returns-in-None-top_short-clause-clear g t c = λ present stands.
    let s = c.args.s.now in
    let graph = s.graph.now in
    let keeps = asked_totals s.wanted.now (g.F.FreeView.keeps s.view.now) in
    let above = clear_upto graph.resources graph.names c.is_valid.ensures.valid present s.window keeps c.args.need.now
    c.args.vertex c.in-Some.parent c.args.low c.requires.vertex c.in-Some.ensures.0
    (c.in-None-top_short.ensures.clear present stands) in
    own_clear graph.resources.vertices present s.window keeps c.args.need.now c.args.vertex c.args.low
    c.own_short-in-None-top_short.result c.own_short-in-None-top_short.ensures.same above
    (c.own_short-in-None-top_short.ensures.enough present stands)

pub returns-in-None-top_short-clause-work : goal.returns-in-None-top_short-clause-work
returns-in-None-top_short-clause-work g t c = λ present stands place at before.
    let s = c.args.s.now in
    let graph = s.graph.now in
    let keeps = asked_totals s.wanted.now (g.F.FreeView.keeps s.view.now) in
    let lt = parents_first graph.resources c.is_valid.ensures.valid.preorder c.args.vertex c.in-Some.parent
    c.in-Some.ensures.0 in
    let steps = length (all_of c.args.need.now) * g.F.FreeView.cost s.view.now in
    let above = clear_upto graph.resources graph.names c.is_valid.ensures.valid present s.window keeps c.args.need.now
    c.args.vertex c.in-Some.parent c.args.low c.requires.vertex c.in-Some.ensures.0
    (c.in-None-top_short.ensures.clear present stands) in
    let opens = open_here graph.resources graph.names c.is_valid.ensures.valid present s.window keeps c.args.need.now
    c.args.vertex c.args.low before above in
    takes_upto _ steps c.args.steps.now c.top_short.new.steps c.own_short-in-None-top_short.new.steps place (place + 1)
    c.args.low (c.in-Some.parent + 1) (c.args.vertex + 1)
    (let lo = c.in-Some.ensures.1 in omega (arith, lo)) (omega (arith, lt))
    (c.top_short.ensures.work present stands place at
    (clear_parent graph.resources graph.names c.is_valid.ensures.valid present s.window keeps c.args.need.now
    c.args.vertex c.in-Some.parent c.args.low c.requires.vertex c.in-Some.ensures.0 before))
    (own_takes graph.resources.vertices present s.window keeps (needs_all s.needs.now) c.args.need.now steps
    c.top_short.new.steps c.own_short-in-None-top_short.new.steps place c.args.vertex (c.in-Some.parent + 1)
    c.own_short-in-None-top_short.ensures.work (omega (arith, lt)) at c.requires.vertex opens)
