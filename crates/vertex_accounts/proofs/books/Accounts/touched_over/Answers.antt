use Rattle.std.proofs.Common.{◌≡◌, true, false, length, refl, arith}
use Rattle.graph_laws.proofs.Preorder.{parents_first}
use Rattle.vertex_planners.specs.Lists.{items_of}
use Rattle.vertex_accounts.specs.declared.quantities.Quantity.TheVariants.{Holds, Claims}
use Rattle.vertex_accounts.specs.Books.{counted_of}
use Rattle.vertex_accounts.proofs.AskingLaws.{place_in, look_work}
use Rattle.vertex_accounts.proofs.ThroughLaws.{less_touched, narrow_room, touched_by}
use Rattle.vertex_accounts.proofs.books.Accounts.touched_over.Goals as goal

pub room_in-requires-clause-place : goal.room_in-requires-clause-place
room_in-requires-clause-place g c =
    place_in c.args.graph.now.resources.vertices
    (counted_of c.args.self.now) (items_of c.args.self.now.planners) c.requires.graph
    c.args.vertex c.at-item.result c.at-item.ensures.item 0 Holds c.requires.graph.counts.holds

pub returns-then-not-room_in-clause-answer : goal.returns-then-not-room_in-clause-answer
returns-then-not-room_in-clause-answer g c = λ jobs is.
    let resources = c.args.graph.now.resources in
    let no : c.room_in.result ≡ false = cc in
    let held = rw no at (c.room_in.ensures.room resources.vertices jobs Holds is is.graph.counts.holds) in
    let touched = less_touched resources.vertices jobs c.args.vertex
    (parents_first resources c.is_valid.ensures.valid.preorder) c.requires.asked.within held.0 held.3 in
    (λ h. (held.0, held.1, held.2, touched), λ t. refl)

pub returns-then-not-room_in-clause-work : goal.returns-then-not-room_in-clause-work
returns-then-not-room_in-clause-work g c = λ n looks.
    let look = look_work (length (items_of c.args.self.now.planners))
    (length c.args.graph.now.resources.vertices) n c.args.steps.now c.at-item.new.steps c.room_in.new.steps
    c.requires.graph.len c.at-item.ensures.work (c.room_in.ensures.work n looks) in
    omega (arith, look)

pub returns-then-is_narrower-clause-answer : goal.returns-then-is_narrower-clause-answer
returns-then-is_narrower-clause-answer g c = λ jobs is.
    let resources = c.args.graph.now.resources in
    let yes : c.room_in.result ≡ true = cc in
    let unheld = rw yes at (c.room_in.ensures.room resources.vertices jobs Holds is is.graph.counts.holds) in
    touched_by resources.vertices jobs c.args.vertex (parents_first resources c.is_valid.ensures.valid.preorder)
    c.requires.asked.within c.args.window unheld true
    (narrow_room resources.vertices jobs c.args.vertex c.args.self.now.narrowest c.args.window is.counting
    (c.is_narrower.ensures c.if-is_narrower.true))

pub room_in-requires-2-clause-place : goal.room_in-requires-2-clause-place
room_in-requires-2-clause-place g c =
    place_in c.args.graph.now.resources.vertices (counted_of c.args.self.now) (items_of c.args.self.now.planners)
    c.requires.graph c.args.vertex c.at-item.result c.at-item.ensures.item 1 Claims c.requires.graph.counts.claims

pub returns-clause-answer : goal.returns-clause-answer
returns-clause-answer g c = λ jobs is.
    let resources = c.args.graph.now.resources in
    let yes : c.room_in.result ≡ true = cc in
    let unheld = rw yes at (c.room_in.ensures.room resources.vertices jobs Holds is is.graph.counts.holds) in
    touched_by resources.vertices jobs c.args.vertex (parents_first resources c.is_valid.ensures.valid.preorder)
    c.requires.asked.within c.args.window unheld c.room_in-2.result
    (c.room_in-2.ensures.room resources.vertices jobs Claims is is.graph.counts.claims)

pub returns-clause-work : goal.returns-clause-work
returns-clause-work g c = λ n looks.
    let look = look_work (length (items_of c.args.self.now.planners))
    (length c.args.graph.now.resources.vertices) n c.args.steps.now c.at-item.new.steps c.room_in.new.steps
    c.requires.graph.len c.at-item.ensures.work (c.room_in.ensures.work n looks) in
    let more = c.room_in-2.ensures.work n looks in
    omega (arith, look, more)
