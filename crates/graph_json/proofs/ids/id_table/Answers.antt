use Rattle.std.proofs.Common.{arith, ap, sym, subst, ◌∙◌, ◌≡◌, ℕ, ◌<◌, List, length, map, get_or, Some, option_map}
use Rattle.std.proofs.Common.{slice_get}
use Rattle.std.proofs.lemmas.List.{length-map}
use Rattle.std.proofs.lemmas.Option.{slice_get_read, slice_get-map}
use Rattle.graph_json.specs.Nodes.{node_held, id_bytes}
use Rattle.graph_json.specs.Ids.{ids_of, IsSetTo}
use Rattle.graph_json.specs.declared.nodes.NodeFields.{NodeFields}
use Rattle.graph_json.proofs.Sets.{not_new, not_old}
use Rattle.graph_json.proofs.IdLaws.{set-none, set-more, set-repeated, set-all}
use Rattle.graph_json.proofs.ids.id_table.Goals as goal

id_at : (nodes : List NodeFields) (k : ℕ) (x : NodeFields) →
    k < length nodes → x ≡ get_or nodes k x → slice_get (ids_of (map node_held nodes)) k ≡ Some (id_bytes x.id)
id_at nodes k x within here =
    let at : slice_get nodes k ≡ Some x = slice_get_read nodes (length nodes) k x (omega arith) within here in
    slice_get-map (λ y. y.id) (map node_held nodes) k
    ∙ ap (option_map (λ y. y.id)) (slice_get-map node_held nodes k ∙ ap (option_map node_held) at)

pub nodes-init : goal.nodes-init
nodes-init c =
    let ids = ids_of (map node_held c.args.nodes.now) in
    subst (λ found. IsSetTo ids 0 found) (sym c.in_ok-table.ensures) (set-none ids)

pub returns-then-not-branch : goal.returns-then-not-branch
returns-then-not-branch c =
    let x = c.index-nodes-at.result in
    set-repeated (ids_of (map node_held c.args.nodes.now)) c.nodes.at (id_bytes x.id) c.nodes.table c.nodes.invariant
    (id_at c.args.nodes.now c.nodes.at x (omega arith) c.index-nodes-at.is)
    (not_old _ _ c.in_ok-add_id.ensures.new c.if-not-branch.true)

pub nodes-preserved : goal.nodes-preserved
nodes-preserved c =
    let x = c.index-nodes-at.result in
    set-more (ids_of (map node_held c.args.nodes.now)) c.nodes.at (id_bytes x.id) c.nodes.table
    c.add_id.new.table c.nodes.invariant (id_at c.args.nodes.now c.nodes.at x (omega arith) c.index-nodes-at.is)
    (not_new _ _ c.in_ok-add_id.ensures.new c.if-not-branch.false) (c.in_ok-add_id.ensures.added c.if-not-branch.false)

pub returns : goal.returns
returns c =
    let nodes = c.args.nodes.now in
    set-all (ids_of (map node_held nodes)) c.nodes.at c.nodes.table c.nodes.invariant (simp length-map (omega arith))
