use Rattle.std.proofs.Common.{◌≡◌, ◌∷◌, [], ◌++◌, map, sym, ◌∙◌, ap, arith}
use Rattle.std.specs.List.{range_with_len}
use Rattle.std.proofs.lemmas.List.FromFn.{map-range_with_len_more}
use Rattle.load_script.specs.Vertices.{vertex_at}
use Rattle.load_script.proofs.Places.{count_is}
use Rattle.load_script.proofs.graph.load_vertices.Goals as goal

pub loop-v-preserved : goal.loop-v-preserved
loop-v-preserved c =
    let v = c.loop-v.v in
    c.in_ok-push.ensures.ok
    ∙ ((λ i. c.loop-v.invariant i ++ c.in_ok-vertex.ensures i ∷ [])
    ∙ sym (map-range_with_len_more vertex_at 0 v v (omega arith)))

pub returns : goal.returns
returns c =
    let end = c.loop-v.auto.v-end in
    let past = c.loop-v-test.false in
    let all : c.loop-v.v ≡ 4625 = omega arith in
    c.of_vec.ensures ∙ (c.loop-v.invariant ∙ ap (λ n. map vertex_at (range_with_len 0 n)) (all ∙ sym count_is))
