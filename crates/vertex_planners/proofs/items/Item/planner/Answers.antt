use Rattle.std.proofs.Common.{slice_get, sym, ◌∙◌, ap}
use Rattle.list_laws.proofs.Lists.{get_some}
use Rattle.vertex_planners.proofs.ItemLaws.{at_index}
use Rattle.vertex_planners.proofs.items.Item.planner.Goals as goal

pub returns-in-Some : goal.returns-in-Some
returns-in-Some g c =
    ap (λ l. slice_get l c.args.place) (sym c.self.view_is)
    ∙ sym (at_index c.self.inside.planners.now c.self.inside.slot c.args.place c.index_of-index.result
    c.index_of-index.ensures.index) ∙ sym c.in-Some.ensures.value

pub unreachable-requires : goal.unreachable-requires
unreachable-requires g c =
    let (p, is) = get_some c.self.inside.planners.now c.index_of-index.result c.index_of-index.ensures.within in
    let none = c.in-None.ensures.value in
    cc
