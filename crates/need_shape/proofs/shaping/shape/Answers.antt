use Rattle.std.proofs.Common.{◌≡◌, ℕ, List, Result, Ok, Err, IfOk, IsOk, refl, sym, ◌∙◌, ap, subst}
use Rattle.flux_defs.specs.Needs.{AreValidNeeds}
use Rattle.text_table.specs.Tables.{with_texts}
use Rattle.need_shape.specs.Requests.{types_in}
use Rattle.need_shape.specs.Types.{Types, types_for, types_at}
use Rattle.need_shape.specs.Shapes.{outside, needs_in}
use Rattle.need_shape.specs.Faults.{list_fault}
use Rattle.need_shape.proofs.KindLaws.{nodes_kind}
use Rattle.need_shape.proofs.ValidLaws.{valid_list}
use Rattle.need_shape.proofs.shaping.shape.Goals as goal

where_ok : {T F : Type 0} (P : T → Type 0) (value : T) (r : Result T F) →
    IfOk r (λ v. v ≡ value) → (IsOk r → P value) → IfOk r P
where_ok P value (Ok v) is p = subst P (sym is) (p refl)
where_ok P value (Err f) is p = tt

pub returns-clause-valid : goal.returns-clause-valid
returns-clause-valid c =
    let g = c.args.graph.now in
    let request = c.args.request.now in
    let types = types_for g.resources request in
    let table : c.add_types.new.table ≡ types.names = c.in_ok-add_types.ensures
    ∙ ap (λ (ts : List (List ℕ)). with_texts ts (types_in request)) c.in_ok-table.ensures in
    let at : types_at g c.add_types.new.table ≡ types = ap (types_at g) table in
    where_ok (AreValidNeeds g.resources.vertices) (needs_in types outside request) c.shape_list.result
    (subst
    (λ (t : Types). IfOk c.shape_list.result (λ n. n ≡ needs_in t outside request)) at c.shape_list.ensures.needs)
    (λ ok. valid_list g.resources.vertices types.names
    (nodes_kind g.resources g.names (types_in request) c.is_valid.ensures.valid) outside request c.requires
    (ap (λ (t : Types). list_fault t outside request) (sym at) ∙ c.shape_list.ensures.fine ok))
