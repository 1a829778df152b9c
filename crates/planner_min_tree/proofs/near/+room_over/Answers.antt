use Rattle.std.proofs.Common.{arith, subst}
use Rattle.planner_min_tree.specs.Nears.{AreStretches}
use Rattle.planner_min_tree.proofs.NearLaws.{split, room_behind}
use Rattle.planner_min_tree.proofs.near.+room_over.Goals as goal

pub returns-then-next-window : goal.returns-then-next-window
returns-then-next-window t c = λ f are.
    c.room_over.ensures f
    (subst (λ l. AreStretches f c.args.from l) (split c.args.stretches.now _ c.in-len1-up.len_at_least) are).2

pub returns-else-window-next : goal.returns-else-window-next
returns-else-window-next t c = λ f are.
    let each = subst (λ l. AreStretches f c.args.from l)
    (split c.args.stretches.now _ c.in-len1-up.len_at_least) are in
    room_behind f c.args.window _ c.args.quantity _ c.room_over-in-len1-up.result
    (omega (arith, c.if-next-window.false)) (omega (arith, c.if-window-next.false))
    (λ m lo hi. each.1 m (omega (arith, c.requires.from)) hi)
    (omega (arith, c.if-next-quantity.false))
    (c.room_over-in-len1-up.ensures f each.2)
