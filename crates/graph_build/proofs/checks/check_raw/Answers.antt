use Rattle.std.proofs.Common.{◌≡◌, ◌++◌, List, Err, subst, rules}
use Rattle.std.proofs.lemmas.Result.{IfErr-weaker, on_ok_weaker}
use Rattle.flux_defs.specs.declared.vertices.Vertex.{Vertex}
use Rattle.graph_build.specs.Checks.{graph_in}
use Rattle.graph_build.specs.Raw.{raw_graph, raw_names}
use Rattle.graph_build.specs.Table.{vertex_rows, name_rows, rank_rows, NoneHolds, IsFirstIn}
use Rattle.graph_build.proofs.RowLaws.{none_append, in_left, in_right}
use Rattle.graph_build.proofs.checks.check_raw.Goals as goal

pub returns-in_err-check_vertices-clause-err : goal.returns-in_err-check_vertices-clause-err
returns-in_err-check_vertices-clause-err c =
    let kinds = c.args.kinds.now in
    let g = raw_graph kinds c.args.raw.now in
    let fault = c.in_err-check_vertices.field-0.0 in
    let is : c.from_residual.result ≡ Err fault = search rules in
    rw is (in_left (vertex_rows g) (name_rows g (raw_names c.args.raw.now) ++ rank_rows g) fault
    (subst (λ (v : List Vertex). IsFirstIn (vertex_rows (graph_in kinds v)) fault) c.requires.shapes
    c.in_err-check_vertices.ensures.err))

pub returns-in_err-check_names-clause-err : goal.returns-in_err-check_names-clause-err
returns-in_err-check_names-clause-err c =
    let kinds = c.args.kinds.now in
    let g = raw_graph kinds c.args.raw.now in
    let names = raw_names c.args.raw.now in
    let fault = c.in_err-check_names.field-0.0 in
    let clear : NoneHolds (vertex_rows g) = subst (λ (v : List Vertex). NoneHolds (vertex_rows (graph_in kinds v)))
    c.requires.shapes c.in_ok-check_vertices.ensures.ok in
    let is : c.from_residual-in_err-check_names.result ≡ Err fault = search rules in
    rw is (in_right (vertex_rows g) (name_rows g names ++ rank_rows g) clear fault
    (in_left (name_rows g names) (rank_rows g) fault c.in_err-check_names.ensures.err))

pub returns-clause-ok : goal.returns-clause-ok
returns-clause-ok c =
    let kinds = c.args.kinds.now in
    let g = raw_graph kinds c.args.raw.now in
    let names = raw_names c.args.raw.now in
    let clear : NoneHolds (vertex_rows g) = subst (λ (v : List Vertex). NoneHolds (vertex_rows (graph_in kinds v)))
    c.requires.shapes c.in_ok-check_vertices.ensures.ok in
    on_ok_weaker c.check_ranks.result
    (λ ranks. none_append (vertex_rows g) (name_rows g names ++ rank_rows g) clear
    (none_append (name_rows g names) (rank_rows g) c.in_ok-check_names.ensures.ok
    (subst (λ (v : List Vertex). NoneHolds (rank_rows (graph_in kinds v))) c.requires.shapes ranks)))
    c.check_ranks.ensures.ok

pub returns-clause-err : goal.returns-clause-err
returns-clause-err c =
    let kinds = c.args.kinds.now in
    let g = raw_graph kinds c.args.raw.now in
    let names = raw_names c.args.raw.now in
    let clear : NoneHolds (vertex_rows g) = subst (λ (v : List Vertex). NoneHolds (vertex_rows (graph_in kinds v)))
    c.requires.shapes c.in_ok-check_vertices.ensures.ok in
    IfErr-weaker c.check_ranks.result (IsFirstIn (rank_rows (graph_in kinds c.args.shapes.now))) _
    (λ fault first. in_right (vertex_rows g) (name_rows g names ++ rank_rows g) clear fault
    (in_right (name_rows g names) (rank_rows g) c.in_ok-check_names.ensures.ok fault
    (subst (λ (v : List Vertex). IsFirstIn (rank_rows (graph_in kinds v)) fault) c.requires.shapes first)))
    c.check_ranks.ensures.err
