use Rattle.std.proofs.Common.{ℕ, List, sym, ◌∙◌, ap, arith, slice_index_or}
use Rattle.vertex_accounts.proofs.Ranges.{capacity_between, capacity_past}
use Rattle.vertex_accounts.proofs.capacities.Capacities.at.Goals as goal

pub returns-then-vertex-len : goal.returns-then-vertex-len
returns-then-vertex-len c =
    let g = c.args.graph.now.resources in
    let over = c.if-vertex-len.true in
    let len = c.len.ensures in
    sym (capacity_past g c.is_valid.ensures.valid.preorder c.args.self.now.kind c.args.vertex (omega arith))

pub overflow_sub-result : goal.overflow_sub-result
overflow_sub-result c =
    let g = c.args.graph.now.resources in
    let kind = c.args.self.now.kind in
    let v = c.args.vertex in
    let past = c.past-past.result in
    let within = c.past-past.ensures.within in
    let inside = c.if-vertex-len.false in
    let len = c.len.ensures in
    let a = ap (λ (xs : List ℕ). slice_index_or xs past 0) c.items-sums.ensures ∙ c.requires.sums.each past within in
    let b = ap (λ (xs : List ℕ). slice_index_or xs v 0) c.items-sums.ensures ∙ c.requires.sums.each v (omega arith) in
    let e = capacity_between g c.is_valid.ensures.valid.preorder kind v past c.past-past.ensures in
    omega arith

pub returns : goal.returns
returns c =
    let g = c.args.graph.now.resources in
    let kind = c.args.self.now.kind in
    let v = c.args.vertex in
    let past = c.past-past.result in
    let within = c.past-past.ensures.within in
    let inside = c.if-vertex-len.false in
    let len = c.len.ensures in
    let a = ap (λ (xs : List ℕ). slice_index_or xs past 0) c.items-sums.ensures ∙ c.requires.sums.each past within in
    let b = ap (λ (xs : List ℕ). slice_index_or xs v 0) c.items-sums.ensures ∙ c.requires.sums.each v (omega arith) in
    let e = capacity_between g c.is_valid.ensures.valid.preorder kind v past c.past-past.ensures in
    omega arith
