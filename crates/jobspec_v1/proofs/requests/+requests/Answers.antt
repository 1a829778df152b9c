use Rattle.std.proofs.Common.{rules, ◌≡◌, ◌∙◌, sym, ap, ◌∷◌, ◌+◌, ◌*◌, ◌<◌, ◌≤◌, ◌||◌, [], Ok, Result, drop}
use Rattle.std.proofs.Common.{subst, arith, List, Global}
use Rattle.std.proofs.lemmas.List.{drop_more}
use Rattle.std.specs.Result.{result_map_both}
use Rattle.json.specs.declared.value.Value.{Value}
use Rattle.serde_json.specs.Data.{depth, items_depth}
use Rattle.json_whole.specs.Values.{view, items_view}
use Rattle.need_shape.specs.declared.raw.RawNeed.{roll-RawNeed}
use Rattle.need_shape.specs.Requests.{is_slot, AreRequests}
use Rattle.jobspec_v1.specs.declared.faults.SpecFault.{SpecFault}
use Rattle.jobspec_v1.specs.declared.headers.VertexKey.TheVariants as key
use Rattle.jobspec_v1.specs.Faults.{IsFirstFault, IsFirstBehind, told_behind, vertex_path}
use Rattle.jobspec_v1.specs.Requests.{requests_of, labels_with, said_held, behind}
use Rattle.jobspec_v1.specs.declared.requests.Requested.{Requested}
use Rattle.jobspec_v1.proofs.SaidLaws.{said_is}
use Rattle.jobspec_v1.proofs.RequestLaws.{is_request, pushed, next_read, one_read, key_told, inner_told, member_told}
use Rattle.json_fields.proofs.Depths.{at_depth}
use Rattle.jobspec_v1.proofs.requests.+requests.Goals as goal

pub read_request-read_requests-requires : goal.read_request-read_requests-requires
read_request-read_requests-requires t c =
    let facts = said_is c.args.in_slot c.args.labels.now
    (view c.args.value.now) (said_held c.in-Ok.header) (sym c.in-Ok.ensures) in
    let less = facts.less in
    let smaller : 2 * items_depth (items_view c.in-Ok.header.with.now) + 1 < 2 * depth (view c.args.value.now) =
    omega (arith, less) in
    search rules

pub read_request-returns-in-Err-clause-told : goal.read_request-returns-in-Err-clause-told
read_request-returns-in-Err-clause-told t c =
    key_told (view c.args.value.now) c.args.in_slot c.args.at c.args.labels.now c.in-Err.misfit (sym c.in-Err.ensures)
    c.misfit_at.result c.misfit_at.ensures

pub read_request-returns-in-Ok-read_requests-clause-read : goal.read_request-returns-in-Ok-read_requests-clause-read
read_request-returns-in-Ok-read_requests-clause-read t c = λ list.
    let said = said_held c.in-Ok.header in
    let d = view c.args.value.now in
    let says = sym c.in-Ok.ensures in
    let facts = said_is c.args.in_slot c.args.labels.now d said says in
    let inner = (λ i. requests_of said.with (sym c.is_inside-inside.ensures i)
    (vertex_path list c.args.at key.With) 0 (sym c.in_ok-add_label.ensures i))
    ∙ c.in-Ok-read_requests.ensures.read (vertex_path list c.args.at key.With) in
    let kind : said.kind ≡ c.in_ok-kind.kind = sym (c.in_ok-kind.ensures ∙ c.as_bytes.ensures.value) in
    one_read d c.args.in_slot list c.args.at c.args.labels.now said says facts.inner
    (record { needs = c.in-Ok-read_requests.with; labels = c.read_requests.new.labels }) inner
    ∙ (λ i. Ok (record {
      needs = roll-RawNeed (record {
        kind = kind i;
        count = said.count;
        exclusive = said.exclusive;
        with = c.in-Ok-read_requests.with;
      }) ∷ [];
      labels = c.read_requests.new.labels;
    }))

pub read_request-returns-in-Ok-read_requests-clause-fine : goal.read_request-returns-in-Ok-read_requests-clause-fine
read_request-returns-in-Ok-read_requests-clause-fine t c =
    let said = said_held c.in-Ok.header in
    let d = view c.args.value.now in
    let says = sym c.in-Ok.ensures in
    let inner = (λ i. requests_of said.with (sym c.is_inside-inside.ensures i) [] 0 c.add_label.new.labels)
    ∙ c.in-Ok-read_requests.ensures.read [] in
    let kind : said.kind ≡ c.in_ok-kind.kind = sym (c.in_ok-kind.ensures ∙ c.as_bytes.ensures.value) in
    let fine = is_request c.args.in_slot c.args.labels.now d said says [] c.add_label.new.labels
    (record { needs = c.in-Ok-read_requests.with; labels = c.read_requests.new.labels }) inner
    (subst (λ b. AreRequests b c.in-Ok-read_requests.with) c.is_inside-inside.ensures
    c.in-Ok-read_requests.ensures.fine) in
    subst (λ k. AreRequests c.args.in_slot (roll-RawNeed (record {
      kind = k;
      count = said.count;
      exclusive = said.exclusive;
      with = c.in-Ok-read_requests.with;
    }) ∷ [])) kind fine

pub read_request-returns-in-Err-read_requests-clause-told : goal.read_request-returns-in-Err-read_requests-clause-told
read_request-returns-in-Err-read_requests-clause-told t c =
    let said = said_held c.in-Ok.header in
    let d = view c.args.value.now in
    let says = sym c.in-Ok.ensures in
    let facts = said_is c.args.in_slot c.args.labels.now d said says in
    let fault = c.in-Err-read_requests.fault in
    let told : IsFirstBehind (λ list. requests_of said.with (is_slot said.kind || c.args.in_slot) list 0
    (labels_with c.args.labels.now said.label)) fault = λ list.
    let same : requests_of said.with c.is_inside-inside.result list 0 c.add_label.new.labels
    ≡ requests_of said.with (is_slot said.kind || c.args.in_slot) list 0 (labels_with c.args.labels.now said.label)
    = λ i. requests_of said.with (c.is_inside-inside.ensures i) list 0 (c.in_ok-add_label.ensures i) in
    subst (λ (r : Result Requested SpecFault). IsFirstFault r (told_behind list fault)) same
    (c.in-Err-read_requests.ensures.told list) in
    inner_told d c.args.in_slot c.args.at c.args.labels.now said says facts.inner fault c.in_member.result told
    c.in_member.ensures

pub read_requests-read_request-requires : goal.read_requests-read_request-requires
read_requests-read_request-requires t c =
    let x = c.index-values-at.result in
    let low : depth (view x) ≤ items_depth (items_view c.args.values.now) =
    subst (λ (y : Value Global). depth (view y) ≤ items_depth (items_view c.args.values.now))
    (sym c.index-values-at.is) (at_depth c.args.values.now c.values.at x (omega arith)) in
    let smaller : 2 * depth (view x) < 2 * items_depth (items_view c.args.values.now) + 1 = omega (arith, low) in
    search rules

pub read_requests-values-preserved : goal.read_requests-values-preserved
read_requests-values-preserved t c =
    let vs = c.args.values.now in
    let at = c.values.at in
    let s = c.args.in_slot in
    let x = c.index-values-at.result in
    let rest = items_view (drop (at + 1) vs) in
    let here : drop at vs ≡ x ∷ drop (at + 1) vs =
    drop_more vs at x (omega arith) ∙ ap (λ y. y ∷ drop (at + 1) vs) (sym c.index-values-at.is) in
    let more = c.in_ok-push-in-Ok.ensures.ok in
    record {
      read = λ list.
          let next = next_read c.values.needs.items (view x) rest s list at c.values.labels
          (record { needs = c.in-Ok.need ∷ []; labels = c.read_request.new.labels }) (c.in-Ok.ensures.read list) in
          let here_read = ap (λ (ys : List (Value Global)). result_map_both (behind c.values.needs.items) (λ f. f)
          (requests_of (items_view ys) s list at c.values.labels)) (sym here) in
          ap (λ ns. result_map_both (behind ns) (λ f. f)
          (requests_of rest s list (at + 1) c.read_request.new.labels)) more
          ∙ (next ∙ (here_read ∙ c.values.invariant.read list));
      fine = subst (AreRequests s) (sym more)
          (pushed s c.values.needs.items c.in-Ok.need c.values.invariant.fine c.in-Ok.ensures.fine);
    }

pub read_requests-returns-in-Err-clause-told : goal.read_requests-returns-in-Err-clause-told
read_requests-returns-in-Err-clause-told t c = λ list.
    let vs = c.args.values.now in
    let at = c.values.at in
    let x = c.index-values-at.result in
    let needs = c.values.needs.items in
    let fault = c.in-Err.fault in
    let here : drop at vs ≡ x ∷ drop (at + 1) vs =
    drop_more vs at x (omega arith) ∙ ap (λ y. y ∷ drop (at + 1) vs) (sym c.index-values-at.is) in
    subst (λ (r : Result Requested SpecFault). IsFirstFault r (told_behind list fault))
    (ap (λ (ys : List (Value Global)). result_map_both (behind needs) (λ f. f)
    (requests_of (items_view ys) c.args.in_slot list at c.values.labels)) (sym here)
    ∙ c.values.invariant.read list)
    (member_told needs (view x) (items_view (drop (at + 1) vs)) c.args.in_slot at c.values.labels fault
    c.in-Err.ensures.told list)
