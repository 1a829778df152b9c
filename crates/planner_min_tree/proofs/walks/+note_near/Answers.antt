use Rattle.std.proofs.Common.{ℕ, List, ◌++◌, ap, sym, subst, ◌∙◌, append-nil, true≢false}
use Rattle.planner_min_tree.specs.declared.points.Point.{Point}
use Rattle.planner_min_tree.specs.Chunks.{flat}
use Rattle.planner_min_tree.specs.Points.{Runs, value_at}
use Rattle.planner_min_tree.specs.Nears.{GoOn}
use Rattle.planner_min_tree.proofs.NearLaws.{went_right, went_left}
use Rattle.planner_min_tree.proofs.walks.+note_near.Goals as goal

pub returns-in-Empty-clause-noted : goal.returns-in-Empty-clause-noted
returns-in-Empty-clause-noted g t c = λ more last.
    subst
    (λ (ps : List Point). GoOn (λ m. value_at m (ps ++ more) c.args.free) c.args.stretches.now.items c.args.from
    c.note_points.new.stretches.items)
    (sym (ap (λ (tree : List (List Point) × ℕ). flat tree.0) c.in-Empty.ensures.shape))
    (c.note_points.ensures more last)

pub returns-in-Leaf-clause-noted : goal.returns-in-Leaf-clause-noted
returns-in-Leaf-clause-noted g t c = λ more last.
    subst
    (λ (ps : List Point). GoOn (λ m. value_at m (ps ++ more) c.args.free) c.args.stretches.now.items c.args.from
    c.note_points-in-Leaf.new.stretches.items)
    (sym (ap (λ (tree : List (List Point) × ℕ). flat tree.0) c.in-Leaf.ensures.shape ∙ append-nil c.in-Leaf.chunk.now))
    (rw c.look.ensures.value at c.note_points-in-Leaf.ensures more last)

pub returns-then-sum-from-clause-noted : goal.returns-then-sum-from-clause-noted
returns-then-sum-from-clause-noted g t c = λ more last.
    let xs = c.in-Fork.left.now.0 in
    let ys = c.in-Fork.right.now.0 in
    let items = c.in-Fork.ensures.shape.items in
    subst
    (λ (chunks : List (List Point)). GoOn (λ m. value_at m (flat chunks ++ more) c.args.free)
    c.args.stretches.now.items c.args.from c.note_near.new.stretches.items)
    (sym items)
    (went_right xs ys c.args.free c.args.from c.args.stretches.now.items c.note_near.new.stretches.items more
    (subst (λ (chunks : List (List Point)). Runs (flat chunks) c.args.free) items c.requires)
    (rw c.sum-sum.ensures at c.if-sum-from.true)
    (rw (c.past.ensures, c.sum-sum.ensures) at c.note_near.ensures.noted more last))

pub returns-else-sum-from-clause-noted : goal.returns-else-sum-from-clause-noted
returns-else-sum-from-clause-noted g t c = λ more last.
    let xs = c.in-Fork.left.now.0 in
    let ys = c.in-Fork.right.now.0 in
    subst
    (λ (chunks : List (List Point)). GoOn (λ m. value_at m (flat chunks ++ more) c.args.free)
    c.args.stretches.now.items c.args.from c.note_near-else-sum-from.new.stretches.items)
    (sym c.in-Fork.ensures.shape.items)
    (went_left xs ys c.args.free c.args.from c.args.stretches.now.items c.note_near-else-sum-from.new.stretches.items
    more (c.note_near-else-sum-from.ensures.noted (flat ys ++ more) (λ no. absurd (true≢false (sym no)))))
