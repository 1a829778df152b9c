use Rattle.std.proofs.Common.{◌≡◌, ℕ, List, Some, slice_get, option_copied, ◌∙◌, sym, ap}
use Rattle.text_table.specs.Tables.{with_text}
use Rattle.need_shape.proofs.KindLaws.{next_text, last_text, here}
use Rattle.need_shape.proofs.types.graph_types.Goals as goal

pub loop-name-preserved : goal.loop-name-preserved
loop-name-preserved c =
    let kinds = c.args.graph.now.resources.kinds in
    let at : slice_get kinds c.loop-name.kind ≡ Some c.in-Some.name.now =
    sym c.kind_name.ensures ∙ ap option_copied c.in-Some.is in
    record {
      within = here kinds c.loop-name.kind c.in-Some.name.now at;
      so_far =
          c.in_ok-add.ensures.ok ∙ (ap (with_text c.loop-name.table) c.bytes.ensures
          ∙ (ap (λ (ts : List (List ℕ)). with_text ts c.in-Some.name.now) c.loop-name.invariant.so_far
          ∙ next_text kinds c.loop-name.kind c.in-Some.name.now c.is_valid.ensures.valid.kinds.apart at));
    }

pub returns : goal.returns
returns c =
    let kinds = c.args.graph.now.resources.kinds in
    c.loop-name.invariant.so_far
    ∙ last_text kinds c.loop-name.kind (sym c.kind_name.ensures ∙ ap option_copied c.in_default.is)
