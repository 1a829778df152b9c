use Rattle.std.proofs.Common.{sym, ◌∙◌, ap, is_some}
use Rattle.graph_laws.proofs.Preorder.{parents_first}
use Rattle.dfu_match.proofs.BarLaws.{unranked, barred_itself}
use Rattle.dfu_match.proofs.bars.after_bar.Goals as goal

pub returns-then-is_none : goal.returns-then-is_none
returns-then-is_none c = λ node. absurd (unranked c.args.graph.now.resources.vertices c.args.vertex
    (ap is_some (sym c.rank_at.ensures) ∙ c.if-is_none.ensures) node)

pub returns : goal.returns
returns c = λ node. barred_itself c.args.graph.now.resources.vertices
    (parents_first c.args.graph.now.resources c.is_valid.ensures.valid.preorder) c.args.barred.now c.args.next
    c.args.vertex c.requires c.if-next-barred.false c.if-barred-next.false
