use Rattle.std.proofs.Common.{◌∙◌, sym}
use Rattle.std.proofs.lemmas.Result.{IfOk-weaker}
use Rattle.load_script.proofs.Places.{at_cluster, at_rack, at_node, at_core, at_memory}
use Rattle.load_script.proofs.graph.vertex_at.Goals as goal

pub returns-then-v-lt1 : goal.returns-then-v-lt1
returns-then-v-lt1 c = IfOk-weaker c.plain_vertex.result _ _
    (λ vertex is. is ∙ sym (at_cluster c.args.v c.if-v-lt1.true)) c.plain_vertex.ensures

pub returns-then-v-lt17 : goal.returns-then-v-lt17
returns-then-v-lt17 c = IfOk-weaker c.plain_vertex-then-v-lt17.result _ _
    (λ vertex is. is ∙ sym (at_rack c.args.v c.if-v-lt1.false c.if-v-lt17.true)) c.plain_vertex-then-v-lt17.ensures

pub returns-then-v-lt273 : goal.returns-then-v-lt273
returns-then-v-lt273 c = IfOk-weaker c.node.result _ _
    (λ vertex is. is ∙ sym (at_node c.args.v c.if-v-lt17.false c.if-v-lt273.true)) c.node.ensures

pub returns-then-v-lt4369 : goal.returns-then-v-lt4369
returns-then-v-lt4369 c = IfOk-weaker c.plain_vertex-then-v-lt4369.result _ _
    (λ vertex is. is ∙ sym (at_core c.args.v c.if-v-lt273.false c.if-v-lt4369.true))
    c.plain_vertex-then-v-lt4369.ensures

pub returns : goal.returns
returns c = IfOk-weaker c.memory.result _ _
    (λ vertex is. is ∙ sym (at_memory c.args.v c.if-v-lt4369.false)) c.memory.ensures
