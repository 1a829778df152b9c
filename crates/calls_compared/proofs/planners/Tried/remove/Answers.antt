use Rattle.std.proofs.Common.{◌<◌, ◌∙◌, length, subst, sym, arith}
use Rattle.planner_points.specs.Lists.{AreSame}
use Rattle.planner_min_tree.specs.Plans.{StandsFor}
use Rattle.calls_compared.proofs.Places.{split}
use Rattle.calls_compared.proofs.planners.Tried.remove.Goals as goal

pub remove_span-requires-clause-span : goal.remove_span-requires-clause-span
remove_span-requires-clause-span g c =
    let items = c.self.inside.spans.items in
    let inside : c.args.at < length items = let f = c.if-at-len.false in let n = c.len.ensures in omega arith in
    let s = split items c.args.at c.remove-span.result inside c.remove-span.ensures.value in
    (s.0, s.1, subst (StandsFor c.self.inside.tree) s.2 c.self.invariant.0)

pub remove_span-requires-2-clause-span : goal.remove_span-requires-2-clause-span
remove_span-requires-2-clause-span g c =
    let items = c.self.inside.spans.items in
    let inside : c.args.at < length items = let f = c.if-at-len.false in let n = c.len.ensures in omega arith in
    let s = split items c.args.at c.remove-span.result inside c.remove-span.ensures.value in
    (s.0, s.1, subst (AreSame c.self.inside.plain.spans) s.2 c.self.invariant.1)

pub invariant_of-result : goal.invariant_of-result
invariant_of-result g c =
    let items = c.self.inside.spans.items in
    let inside : c.args.at < length items = let f = c.if-at-len.false in let n = c.len.ensures in omega arith in
    let s = split items c.args.at c.remove-span.result inside c.remove-span.ensures.value in
    let tree = c.in_ok-remove_span.ensures.spans s.0 s.1
    (subst (StandsFor c.self.inside.tree) s.2 c.self.invariant.0) in
    let plain = c.in_ok-remove_span-2.ensures.spans s.0 s.1
    (subst (AreSame c.self.inside.plain.spans) s.2 c.self.invariant.1) in
    let e = sym (c.remove-span.ensures.items ∙ s.3) in
    (subst (StandsFor c.remove_span.new.self) e tree, subst (AreSame c.remove_span-2.new.self.spans) e plain)
