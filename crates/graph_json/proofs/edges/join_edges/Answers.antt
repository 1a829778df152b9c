use Rattle.std.proofs.Common.{arith, ap, sym, subst, refl, ◌∙◌, ◌≡◌, ℕ, ◌<◌, List, length, get_or, if◌then◌else◌, Some}
use Rattle.std.proofs.Common.{None, Ok, Err, Result, slice_get}
use Rattle.std.proofs.lemmas.Option.{slice_get_read}
use Rattle.json_whole.specs.Values.{view, items_view}
use Rattle.json.specs.declared.value.Value.{Value}
use Rattle.graph_json.specs.Edges.{FileEdge, edge_held, edge_of, edges_of, joined, HasJoined}
use Rattle.graph_json.specs.FieldPaths.{FileMisfit}
use Rattle.graph_json.proofs.EdgeLaws.{edges-at, edges-length, joined-none, joined-more, wrong_edge, unfit_edge}
use Rattle.graph_json.proofs.EdgeLaws.{all_right, all_joined}
use Rattle.graph_json.proofs.edges.join_edges.Goals as goal

-- the edge at an index, as it is read
edge_at : {A : Type 0} (vs : List (Value A)) (k : ℕ) (v : Value A) (r : Result FileEdge FileMisfit) → k < length vs →
    v ≡ get_or vs k v → r ≡ edge_of k (view v) → slice_get (edges_of 0 (items_view vs)) k ≡ Some r
edge_at vs k v r within here read = edges-at 0 vs k v (slice_get_read vs (length vs) k v refl within here)
    ∙ ap (λ n. Some (edge_of n (view v))) (omega arith) ∙ ap Some (sym read)

pub edges-init : goal.edges-init
edges-init c = subst (λ ps. HasJoined c.args.ids.now (edges_of 0 (items_view c.args.edges.now)) 0 ps)
    (sym c.requires.none) (joined-none c.args.ids.now (edges_of 0 (items_view c.args.edges.now)))

pub returns-in-Err-clause-wrong : goal.returns-in-Err-clause-wrong
returns-in-Err-clause-wrong c =
    let here = edge_at c.args.edges.now c.edges.at c.index-edges-at.result
    (Err c.in-Err.fault) (omega arith) c.index-edges-at.is c.in-Err.ensures in
    record {
      at = c.edges.at;
      read = Err c.in-Err.fault;
      here = here;
      wrong = unfit_edge c.args.ids.now (edges_of 0 (items_view c.args.edges.now)) c.edges.at c.in-Err.fault here;
      first = c.edges.invariant.right;
      told = refl;
    }

pub returns-then-not-join-clause-wrong : goal.returns-then-not-join-clause-wrong
returns-then-not-join-clause-wrong c =
    let e = edge_held c.in-Ok.edge in
    let here = edge_at c.args.edges.now c.edges.at c.index-edges-at.result
    (Ok e) (omega arith) c.index-edges-at.is c.in-Ok.ensures in
    let none : joined c.args.ids.now c.edges.parents e ≡ None =
    c.join.ensures ∙ ap (λ b. if b then Some c.join.new.parents else None) c.if-not-join.true in
    record {
      at = c.edges.at;
      read = Ok e;
      here = here;
      wrong = wrong_edge c.args.ids.now (edges_of 0 (items_view c.args.edges.now))
          c.edges.at e c.edges.parents c.requires.distinct c.edges.invariant here none;
      first = c.edges.invariant.right;
      told = refl;
    }

pub edges-preserved : goal.edges-preserved
edges-preserved c =
    let e = edge_held c.in-Ok.edge in
    let here = edge_at c.args.edges.now c.edges.at c.index-edges-at.result
    (Ok e) (omega arith) c.index-edges-at.is c.in-Ok.ensures in
    let more : joined c.args.ids.now c.edges.parents e ≡ Some c.join.new.parents =
    c.join.ensures ∙ ap (λ b. if b then Some c.join.new.parents else None) c.if-not-join.false in
    joined-more c.args.ids.now (edges_of 0 (items_view c.args.edges.now))
    c.edges.at e c.edges.parents c.join.new.parents c.requires.distinct c.edges.invariant here more

pub returns-clause-joined : goal.returns-clause-joined
returns-clause-joined c =
    let vs = c.args.edges.now in
    all_joined c.args.ids.now
    (edges_of 0 (items_view vs)) c.edges.at c.edges.parents c.edges.invariant (omega (arith, edges-length 0 vs))

pub returns-clause-right : goal.returns-clause-right
returns-clause-right c =
    let vs = c.args.edges.now in
    all_right c.args.ids.now
    (edges_of 0 (items_view vs)) c.edges.at c.edges.parents c.edges.invariant (omega (arith, edges-length 0 vs))
