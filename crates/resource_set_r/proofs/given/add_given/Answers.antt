use Rattle.std.proofs.Common.{◌≡◌, sym, ap, subst, ◌∙◌, ℕ, ◌-◌, ◌≤◌, ◌<◌, [], ◌∷◌, length, fold, OnOk, arith}
use Rattle.std.specs.Ordering.{nat_cmp}
use Rattle.std.specs.BTreeSet.{insert_key}
use Rattle.flux_defs.specs.Jobs.{vertex_of}
use Rattle.graph_laws.proofs.Preorder.{parents_first}
use Rattle.idset_text.specs.Idsets.{ids_from}
use Rattle.resource_graph.specs.Tables.{IsPast}
use Rattle.resource_set_r.specs.Rows.{given_by, rising}
use Rattle.resource_set_r.proofs.GivenLaws.{given_past, given_hold, given_take, given_pass}
use Rattle.resource_set_r.proofs.given.add_given.Goals as goal

pub returns-then-vertex-len : goal.returns-then-vertex-len
returns-then-vertex-len c =
    let g = c.args.graph.now.resources in
    let first = parents_first g c.vertices.ensures.valid.valid.preorder in
    let len : c.len.result ≡ length g.vertices = c.len.ensures ∙ ap length c.vertices.ensures.value in
    let le : c.len.result ≤ c.vertex-vertex.result = c.if-vertex-len.true in
    let is : c.vertex-vertex.result ≡ vertex_of c.args.claim.now = c.vertex-vertex.ensures in
    ap (fold (insert_key nat_cmp) (rising c.args.numbers.now.items))
    (sym (given_past g.vertices first c.args.claim.now (omega arith)))

pub returns-in-Hold : goal.returns-in-Hold
returns-in-Hold c =
    let g = c.args.graph.now.resources in
    let first = parents_first g c.vertices.ensures.valid.valid.preorder in
    let v = c.in-Hold.vertex in
    let is : c.vertex-vertex.result ≡ v = c.vertex-vertex.ensures ∙ ap vertex_of c.in-Hold.is in
    let past : IsPast g.vertices v c.past.result =
    subst (λ (v : ℕ). IsPast g.vertices v c.past.result) is c.past.ensures in
    let all = ap (λ v. ids_from (c.past.result - v) v) is
    ∙ sym (given_hold g.vertices first v c.past.result past) ∙ ap (given_by g.vertices) (sym c.in-Hold.is) in
    subst (λ ns. OnOk c.add_all.result
    (rising c.add_all.new.numbers.items ≡ fold (insert_key nat_cmp) (rising c.args.numbers.now.items) ns))
    all c.add_all.ensures

pub returns-in-Take : goal.returns-in-Take
returns-in-Take c =
    let g = c.args.graph.now.resources in
    let first = parents_first g c.vertices.ensures.valid.valid.preorder in
    let v = c.in-Take.vertex in
    let is : c.vertex-vertex.result ≡ v = c.vertex-vertex.ensures ∙ ap vertex_of c.in-Take.is in
    let len : c.len.result ≡ length g.vertices = c.len.ensures ∙ ap length c.vertices.ensures.value in
    let lt : c.vertex-vertex.result < c.len.result = c.if-vertex-len.false in
    let one = ap (λ v. v ∷ []) is ∙ sym (given_take g.vertices first v c.in-Take.quantity (omega arith))
    ∙ ap (given_by g.vertices) (sym c.in-Take.is) in
    subst (λ ns. OnOk c.add.result
    (rising c.add.new.numbers.items ≡ fold (insert_key nat_cmp) (rising c.args.numbers.now.items) ns))
    one c.add.ensures

pub returns-in-Pass : goal.returns-in-Pass
returns-in-Pass c =
    let g = c.args.graph.now.resources in
    let first = parents_first g c.vertices.ensures.valid.valid.preorder in
    let v = c.in-Pass.vertex in
    let is : c.vertex-vertex.result ≡ v = c.vertex-vertex.ensures ∙ ap vertex_of c.in-Pass.is in
    let len : c.len.result ≡ length g.vertices = c.len.ensures ∙ ap length c.vertices.ensures.value in
    let lt : c.vertex-vertex.result < c.len.result = c.if-vertex-len.false in
    let one = ap (λ v. v ∷ []) is
    ∙ sym (given_pass g.vertices first v (omega arith)) ∙ ap (given_by g.vertices) (sym c.in-Pass.is) in
    subst (λ ns. OnOk c.add-in-Pass.result
    (rising c.add-in-Pass.new.numbers.items ≡ fold (insert_key nat_cmp) (rising c.args.numbers.now.items) ns))
    one c.add-in-Pass.ensures
