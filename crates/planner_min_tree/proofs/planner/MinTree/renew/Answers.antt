use Rattle.std.proofs.Common.{refl}
use Rattle.planner_min_tree.specs.Points.{value_at}
use Rattle.planner_min_tree.proofs.planner.MinTree.renew.Goals as goal

pub invariant_of-self : goal.invariant_of-self
invariant_of-self g c =
    let points = c.self.inside.points in
    let total = c.self.inside.total in
    let noted = rw c.new-stretches.ensures at c.note_near.ensures.noted in
    record {
      spans = c.self.invariant.spans;
      marks = c.self.invariant.marks;
      near = rw c.of-self-inside.ensures
          (noted (λ m. value_at m points total) c.from-from.result tt refl (λ m lo. refl));
    }
