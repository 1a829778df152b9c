use Rattle.std.proofs.Common.{◌≡◌, ◌<◌, List, Some, length, refl, sym, slice_get, subst, arith}
use Rattle.std.proofs.lemmas.Bool.{ltb-true}
use Rattle.std.proofs.lemmas.Option.{slice_get_read}
use Rattle.flux_defs.specs.declared.vertices.Vertex.{Vertex}
use Rattle.flux_defs.specs.Free.{IsTooLittle}
use Rattle.prune_filters.specs.Demands.{capped, demand}
use Rattle.dfu_match.specs.Tables.{needs_all, IsWantedBy}
use Rattle.dfu_match.proofs.ReachLaws.{entry_tells, few_copies, reach_later}
use Rattle.dfu_match.proofs.ScopeLaws.{nodes_told}
use Rattle.dfu_match.proofs.bounding.most_copies.Goals as goal

pub invariant_of-kinds : goal.invariant_of-kinds
invariant_of-kinds g c =
    let graph = c.args.s.now.graph.now in
    record {
      told = nodes_told graph.resources graph.names c.is_valid.ensures.valid c.kind_of-nodes.result
          c.kind_of-nodes.ensures;
    }

pub returns-in-Some-total_until-clause-most : goal.returns-in-Some-total_until-clause-most
returns-in-Some-total_until-clause-most g c = λ present stands w reach.
    let s = c.args.s.now in
    let graph = s.graph.now in
    let need = c.args.need.now in
    let room = c.in-Some-least_room.room in
    let later = reach_later s.window w c.min.result c.in-Some-total_until.moment (omega (arith, c.min.ensures)) reach in
    few_copies graph.resources graph.names c.is_valid.ensures.valid present s.barred.now w need c.requires.valid
    room.kind
    c.args.vertex room.copies c.saturating_add.result (omega arith)
    (subst (λ (us : List Vertex). IsTooLittle us present w c.args.vertex room.kind
    (capped (demand graph.resources.vertices room.kind c.saturating_add.result need)))
    s.over (rw c.demand_of-more.ensures at (c.in-Some-total_until.ensures.answer present stands w later)))

pub least_room-requires-clause-few : goal.least_room-requires-clause-few
least_room-requires-clause-few g c =
    let s = c.args.s.now in
    let lookup = c.in-Some.ensures.lookup in
    let lt : c.args.index < length s.wanted.now = ltb-true c.args.index (length s.wanted.now) (sym lookup.0) in
    let entry : slice_get s.wanted.now c.args.index ≡ Some c.in-Some.wanted.now = slice_get_read s.wanted.now
    (length s.wanted.now) c.args.index c.in-Some.wanted.now refl lt lookup.1 in
    let tells : IsWantedBy s.graph.now.resources.vertices c.args.need.now c.in-Some.wanted.now =
    entry_tells s.graph.now.resources.vertices (needs_all s.needs.now) s.wanted.now c.args.index c.args.need.now
    c.in-Some.wanted.now s.tells c.requires.stands entry in
    tells.few
