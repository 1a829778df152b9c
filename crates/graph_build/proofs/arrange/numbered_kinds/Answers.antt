use Rattle.std.proofs.Common.{◌≡◌, ◌<◌, ◌+◌, suc, ℕ, length, get_or, Some, subst, refl, arith}
use Rattle.std.specs.Prelude.{slice_get}
use Rattle.std.proofs.lemmas.Option.{slice_get-get_or}
use Rattle.graph_build.specs.Arranged.{IsKindNumbering}
use Rattle.resource_graph.proofs.ChainLaws.{no_vertex}
use Rattle.graph_build.proofs.KindLaws.{Numbering, numbering_more}
use Rattle.graph_build.proofs.arrange.numbered_kinds.Goals as goal

pub use_kind-requires-clause-few : goal.use_kind-requires-clause-few
use_kind-requires-clause-few c =
    let few = c.loop-at.invariant.is.few in
    omega (arith, few, c.requires.few_kinds)

pub loop-at-preserved : goal.loop-at-preserved
loop-at-preserved c =
    let order = c.args.order.now in
    let most = c.loop-at.at-index in
    let i = get_or order most 0 in
    let at : slice_get order most ≡ Some i = slice_get-get_or order most 0 (omega arith) in
    let within : i < length c.args.vertices.now = c.requires.indices.known most i at in
    let x = get_or c.args.vertices.now i no_vertex in
    let at_x : slice_get c.args.vertices.now i ≡ Some x = slice_get-get_or c.args.vertices.now i no_vertex within in
    let next : suc most ≡ most + 1 = omega arith in
    subst (λ (n : ℕ). Numbering c.args.kinds.now c.args.vertices.now order n c.use_kind.new.numbering) next
    (numbering_more c.args.kinds.now c.args.vertices.now order most x.kind c.loop-at.numbering
    c.use_kind.new.numbering (i, x, at, at_x, refl) c.loop-at.invariant c.in_ok-use_kind.ensures)

pub returns : goal.returns
returns c =
    let all : c.loop-at.at-index ≡ length c.args.order.now = omega arith in
    subst (λ (n : ℕ). IsKindNumbering c.args.kinds.now c.args.vertices.now c.args.order.now n c.loop-at.numbering)
    all c.loop-at.invariant.is
