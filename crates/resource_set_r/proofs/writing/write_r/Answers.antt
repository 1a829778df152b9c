use Rattle.std.proofs.Common.{◌≡◌, sym, ap, subst, ◌∙◌, ◌<◌, List, length, All, ◌++◌, codes}
use Rattle.std.specs.List.{filter}
use Rattle.json.specs.Token.{Token}
use Rattle.json.specs.Print.{print}
use Rattle.serde_json.specs.Data.{member, no_members, number, unsigned}
use Rattle.serde_json.proofs.Texts.{print-outline}
use Rattle.flux_defs.specs.declared.claims.Claim.{Claim}
use Rattle.flux_defs.specs.Jobs.{vertex_of}
use Rattle.json_written.specs.Tokens.{Adds, value_tokens, member_tokens}
use Rattle.json_written.proofs.WriterLaws.{wrote, and_then}
use Rattle.resource_set_r.specs.Rows.{is_other_than, is_other, elements_of, type_called}
use Rattle.resource_set_r.specs.WrittenR.{execution_of, execution_data, nodelist, r_data, r_text}
use Rattle.resource_set_r.specs.WrittenRTokens.{scheduling_tokens}
use Rattle.resource_set_r.proofs.OtherLaws.{others_within, scheduling_split}
use Rattle.resource_set_r.proofs.writing.write_r.Goals as goal

pub put_others-requires : goal.put_others-requires
put_others-requires c =
    let vertices = c.args.graph.now.resources.vertices in
    let types = c.types_of-types.result in
    let claims = c.items-claims.result.now in
    let same : c.as_slice.result.now ≡ filter (is_other_than vertices types.node types.core types.gpu) claims =
    c.as_slice.ensures.value ∙ c.in_ok-others.ensures ∙ ap (λ vs. filter
    (is_other_than vs types.node types.core types.gpu) claims) (c.items.ensures ∙ c.vertices.ensures.value) in
    subst (λ (cs : List Claim). All (λ x. vertex_of x < length vertices) cs)
    (sym same) (others_within vertices types.node types.core types.gpu claims)

pub returns : goal.returns
unfolding r_text
returns c =
    let g = c.args.graph.now in
    let job = c.args.job.now in
    let vertices = g.resources.vertices in
    let types = c.types_of-types.result in
    let claims = c.items-claims.result.now in
    let others : c.as_slice.result.now ≡ filter (is_other g.resources) job.claims =
    c.as_slice.ensures.value ∙ c.in_ok-others.ensures ∙ ap (λ vs.
    filter (is_other_than vs types.node types.core types.gpu) claims) (c.items.ensures ∙ c.vertices.ensures.value)
    ∙ ap (λ n. filter (is_other_than vertices n types.core types.gpu) claims) c.types_of-types.ensures.node
    ∙ ap (λ n. filter (is_other_than vertices (type_called g.resources (codes "node")) n types.gpu) claims)
    c.types_of-types.ensures.core
    ∙ ap (λ n. filter (is_other_than vertices (type_called g.resources (codes "node"))
    (type_called g.resources (codes "core")) n) claims) c.types_of-types.ensures.gpu
    ∙ ap (filter (is_other g.resources)) c.items-claims.ensures in
    let r = c.in_ok-resources.resources in
    let elements : r.elements.items ≡ elements_of g.resources job.claims =
    c.in_ok-resources.ensures.elements ∙ ap (elements_of g.resources) c.items-claims.ensures in
    let hosts : r.nodelist ≡ nodelist g job.claims =
    c.in_ok-resources.ensures.nodelist ∙ ap (nodelist g) c.items-claims.ensures in
    let same_data : execution_of r.elements.items r.nodelist job.start job.end ≡ execution_data g job =
    ap (λ es. execution_of es r.nodelist job.start job.end) elements
    ∙ ap (λ hs. execution_of (elements_of g.resources job.claims) hs job.start job.end) hosts in
    let execution : Adds c.key.new.self c.put_execution.new.writer (value_tokens (execution_data g job)) =
    subst (λ d. Adds c.key.new.self c.put_execution.new.writer (value_tokens d))
    same_data c.in_ok-put_execution.ensures in
    let scheduling : Adds c.put_execution.new.writer c.put_others.new.writer
    (scheduling_tokens g (filter (is_other g.resources) job.claims)) =
    subst (λ (cs : List Claim). Adds c.put_execution.new.writer c.put_others.new.writer (scheduling_tokens g cs))
    others c.in_ok-put_others.ensures in
    let last = member (codes "version") (number (unsigned 1)) no_members in
    let rest : Adds c.put_execution.new.writer c.end_object.new.self
    (scheduling_tokens g (filter (is_other g.resources) job.claims) ++ member_tokens last) =
    and_then scheduling (and_then c.in_ok-put_number.ensures.ok (wrote c.in_ok-end_object.ensures)) in
    let rest_is = subst (λ (ts : List Token). Adds c.put_execution.new.writer c.end_object.new.self ts)
    (sym (scheduling_split g (filter (is_other g.resources) job.claims) last)) rest in
    let all : Adds c.new-writer.result c.end_object.new.self (value_tokens (r_data g job)) =
    and_then (wrote c.in_ok-begin_object.ensures) (and_then (wrote c.in_ok-key.ensures) (and_then execution rest_is)) in
    let tokens = all.tokens_are ∙ ap (λ ts. ts ++ value_tokens (r_data g job)) c.new-writer.ensures.tokens in
    let before = all.same ∙ c.new-writer.ensures.before ∙ c.new.ensures.items in
    c.of_vec.ensures ∙ c.into_inner.ensures.items
    ∙ ap (λ b. b ++ print c.end_object.new.self.tokens) before ∙ ap print tokens ∙ print-outline (r_data g job)
