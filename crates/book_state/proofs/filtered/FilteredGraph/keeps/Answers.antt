use Rattle.std.proofs.Common.{◌↔◌, IsTrue, false, option_copied, sym, ◌∙◌, ap, subst}
use Rattle.std.specs.Arc.{arc_value}
use Rattle.book_state.specs.Books.{IsPairKept}
use Rattle.book_state.specs.Filtered.{Filtered}
use Rattle.book_state.proofs.RowLaws.{past_rows, row_tells}
use Rattle.book_state.proofs.filtered.FilteredGraph.keeps.Goals as goal

pub returns-in-None : goal.returns-in-None
returns-in-None c =
    let it = c.self.inside in
    subst (λ (x : Filtered). IsTrue false ↔ IsPairKept x.graph x.rules c.args.upper c.args.lower) c.self.view_is
    (past_rows (arc_value it.graph).resources.kinds it.rules it.rows c.args.upper c.args.lower c.self.invariant
    (sym c.get.ensures.value ∙ ap option_copied c.in-None.is))

pub returns-in-Some : goal.returns-in-Some
returns-in-Some c =
    let it = c.self.inside in
    subst
    (λ (x : Filtered). IsTrue c.told_in.result ↔ IsPairKept x.graph x.rules c.args.upper c.args.lower) c.self.view_is
    (row_tells (arc_value it.graph).resources.kinds it.rules it.rows c.args.upper c.args.lower c.in-Some.row.now
    c.told_in.result c.self.invariant (sym c.get.ensures.value ∙ ap option_copied c.in-Some.is) c.told_in.ensures)
