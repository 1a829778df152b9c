use Rattle.std.proofs.Common.{◌≡◌, ◌+◌, ◌*◌, ◌<◌, false, length, get_or, sym, ◌∙◌, ap, arith}
use Rattle.std.proofs.lemmas.List.{get_or_read}
use Rattle.std.proofs.lemmas.Nat.{mul-add-lt}
use Rattle.resource_graph.proofs.NestLaws.{nests_is, none_past}
use Rattle.resource_graph.proofs.graph.Graph.nests.Goals as goal
use Rattle.resource_graph.proofs.graph.Graph.nests.Goals.{then-upper-kinds-via-then-upper-kinds}
use Rattle.resource_graph.proofs.graph.Graph.nests.Goals.{then-upper-kinds-via-else-upper-kinds+then-lower-kinds}

pub returns : goal.returns
returns c =
    let table = c.self.inside.nested.items in
    let kinds = length c.self.inside.kinds in
    let upper_in : c.args.upper < kinds = omega (arith, c.len-kinds.ensures) in
    let lower_in : c.args.lower < kinds = omega (arith, c.len-kinds.ensures) in
    let each = c.self.invariant.nested.each c.args.upper c.args.lower upper_in lower_in in
    let cell : c.args.upper * c.len-kinds.result + c.args.lower ≡ c.args.upper * kinds + c.args.lower =
    ap (λ n. c.args.upper * n + c.args.lower) c.len-kinds.ensures in
    let within : c.args.upper * kinds + c.args.lower < length table = omega
    (arith, mul-add-lt c.args.upper kinds c.args.lower kinds upper_in lower_in, c.self.invariant.nested.as_many) in
    let read : c.index.result.now ≡ get_or table (c.args.upper * kinds + c.args.lower) c.index.result.now =
    c.index.ensures ∙ ap (λ n. get_or table n c.index.result.now) cell in
    let at : c.index.result.now ≡ get_or table (c.args.upper * kinds + c.args.lower) false =
    get_or_read table _ c.index.result.now within read false in
    rw (← c.self.view_is)
    (nests_is c.self.inside.vertices c.args.upper c.args.lower c.index.result.now
    (λ h. each.0 (sym at ∙ h), λ h. at ∙ each.1 h))

pub returns-then-upper-kinds : goal.returns-then-upper-kinds
returns-then-upper-kinds c =
    let kinds = c.self.inside.kinds in
    rw (← c.self.view_is)
    (none_past c.self.inside.vertices (length kinds) c.args.upper c.args.lower c.self.invariant.whole.valid.kinds.known
    (λ up low. elim c.then-upper-kinds.branch [
      | then-upper-kinds-via-then-upper-kinds w ↦
          (let past = w.if-upper-kinds.true in omega (arith, c.len-kinds.ensures))
      | then-upper-kinds-via-else-upper-kinds+then-lower-kinds w ↦
          (let past = w.if-lower-kinds.true in omega (arith, c.len-kinds.ensures))
    ]))
