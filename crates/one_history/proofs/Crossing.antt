-- A core may go to another thread: what it is made of may, one type after another. The check's own search looks for the
-- whole at once, and stops at its limit.
use denote.RattleType.{RattleType}
use denote.Param.Send.{IsSend, IsSync, sendable, view_send, view_sync}
use denote.Param.SendFields.{as_row_send, declared_send, declared_sync, variants_send}
use denote.Struct.Field.{row_field}
use Rattle.std.proofs.Crossing.{crosses, Arc-send, Arc-sync}
use Rattle.std.proofs.MapsCrossing.{crosses as maps}
use Rattle.balanced_tree.proofs.trees.Tree.TheLaws.TheKnot as tree
use Rattle.job_table.proofs.parts.Part.TheLaws.TheKnot as part
use Rattle.snapshot_store.proofs.parts.Part.TheLaws.TheKnot as page
use Rattle.flux_defs.proofs.requests.Need.TheLaws.TheKnot as need
use Rattle.planner_min_tree.specs.contracts.chunks.Chunk as chunk
use Rattle.planner_min_tree.specs.contracts.planner.MinTree as min_tree
use Rattle.job_table.specs.contracts.tables.JobTable as table
use Rattle.resource_graph.specs.contracts.graph.Graph as graph
use Rattle.prune_filters.specs.contracts.rules.Rules as rule
use Rattle.flux_defs.specs.contracts.journal.Entry as entry
use Rattle.planner_points.specs.declared.planners.Planner.{Ghosts}
use Rattle.vertex_accounts.specs.contracts.books.Accounts as accounts
use Rattle.vertex_accounts.specs.contracts.counted.Counted as counted
use Rattle.vertex_planners.specs.contracts.groups.Group as group
use Rattle.vertex_planners.specs.contracts.planners.VertexPlanners as planners
use Rattle.snapshot_store.specs.contracts.pages.Pages as pages
use Rattle.book_state.specs.contracts.filtered.FilteredGraph as filtered
use Rattle.book_state.specs.contracts.filtered.FilteredGraph.TheInside as filtered_inside
use Rattle.book_state.specs.contracts.held.BookState as book
use Rattle.book_state.specs.contracts.held.BookState.TheInside as book_inside
use Rattle.book_state.specs.contracts.held.Kept as kept
use Rattle.book_state.specs.contracts.frames.Frame as frame
use Rattle.sched_core.specs.contracts.scheduler.Core as core
use Rattle.sched_core.specs.contracts.scheduler.Core.TheInside as core_inside
use Rattle.sched_core.specs.contracts.held.Kept as grown
use Rattle.sched_core.specs.contracts.held.Remains as remains
use Rattle.sched_core.specs.contracts.held.Keeping as keeping
use Rattle.commit_book.specs.contracts.held.Held as held
use Rattle.sched_core.specs.contracts.held.Site as site

chunk_send : IsSend chunk.the_row
chunk_send = search (crosses, sendable) depth 60 fits 20000

chunk_sync : IsSync chunk.the_row
chunk_sync = search (crosses, sendable) depth 60 fits 20000

min_tree_send : IsSend min_tree.the_row
min_tree_send = search (chunk_send, chunk_sync, crosses, tree.crosses, sendable) depth 60 fits 20000

min_tree_sync : IsSync min_tree.the_row
min_tree_sync = search (chunk_send, chunk_sync, crosses, tree.crosses, sendable) depth 60 fits 20000

table_send : IsSend table.the_row
table_send = search (crosses, part.crosses, sendable) depth 60 fits 20000

graph_send : IsSend graph.the_row
graph_send = search (crosses, maps, sendable) depth 60 fits 20000

graph_sync : IsSync graph.the_row
graph_sync = search (crosses, maps, sendable) depth 60 fits 20000

rules_send : IsSend rule.the_row
rules_send = search (crosses, sendable) depth 60 fits 20000

rules_sync : IsSync rule.the_row
rules_sync = search (crosses, sendable) depth 60 fits 20000

entry_send : IsSend entry.the_row
entry_send = search (crosses, need.crosses, sendable) depth 60 fits 20000

entry_sync : IsSync entry.the_row
entry_sync = search (crosses, need.crosses, sendable) depth 60 fits 20000

pages_send : (P : RattleType) → IsSend P → IsSync P → IsSend (pages.the_row P)
pages_send P s y = search (crosses, page.crosses, sendable) depth 60 fits 20000

group_send : (P : RattleType) (d : Ghosts P.Denot) → IsSend P → IsSend (group.the_row P d)
group_send P d s = search (crosses, sendable) depth 60 fits 20000

group_sync : (P : RattleType) (d : Ghosts P.Denot) → IsSync P → IsSync (group.the_row P d)
group_sync P d y = search (crosses, sendable) depth 60 fits 20000

planners_send : (P : RattleType) (d : Ghosts P.Denot) → IsSend P → IsSync P → IsSend (planners.the_row P d)
planners_send P d s y =
    let p = pages_send (group.the_row P d) (group_send P d s) (group_sync P d y) in
    search (crosses, sendable) depth 60 fits 20000

counted_send : IsSend counted.the_row
counted_send = search (crosses, sendable) depth 60 fits 20000

counted_sync : IsSync counted.the_row
counted_sync = search (crosses, sendable) depth 60 fits 20000

accounts_send : (P : RattleType) (d : Ghosts P.Denot) → IsSend P → IsSync P → IsSend (accounts.the_row P d)
accounts_send P d s y =
    declared_send (accounts.the_type P d) (
      Arc-send counted.the_row counted_send counted_sync,
      (
        planners_send P d s y,
        (as_row_send (row_field P) s, (search sendable, (search sendable, (search sendable, tt)))),
      ),
    )

-- what a planner says of itself plays no part in where it may go
any_ghosts : (T : Type 0) → Ghosts T
any_ghosts T = record {
  total_of = λ p. 0;
  horizon_of = λ p. 0;
  stands_for = λ p spans. Unit {0};
  look_cost = λ p. 0;
  change_cost = λ p. 0;
  settle_cost = λ p. 0;
}

filtered_send : IsSend filtered.the_row
filtered_send =
    view_send filtered_inside.the_row _ _ _ _
    (declared_send filtered_inside.the_type
    (Arc-send graph.the_row graph_send graph_sync, (rules_send, (search (crosses, sendable) depth 20, tt))))

filtered_sync : IsSync filtered.the_row
filtered_sync =
    view_sync filtered_inside.the_row _ _ _ _
    (declared_sync filtered_inside.the_type
    (Arc-sync graph.the_row graph_send graph_sync, (rules_sync, (search (crosses, sendable) depth 20, tt))))

kept_send : IsSend kept.the_row
kept_send =
    let a = accounts_send min_tree.the_row (any_ghosts _) min_tree_send min_tree_sync in
    declared_send kept.the_type (
      Arc-send filtered.the_row filtered_send filtered_sync,
      (search sendable, (search sendable, (a, (table_send, tt)))),
    )

book_send : IsSend book.the_row
book_send = view_send book_inside.the_row _ _ _ _ (declared_send book_inside.the_type (kept_send, tt))

grown_send : IsSend grown.the_row
grown_send =
    declared_send grown.the_type (pages_send entry.the_row entry_send entry_sync, (book_send, (search sendable, tt)))

frame_send : IsSend frame.the_row
frame_send =
    declared_send frame.the_type (Arc-send filtered.the_row filtered_send filtered_sync, (search sendable, tt))

remains_send : IsSend remains.the_row
remains_send =
    declared_send remains.the_type (
      frame_send,
      (pages_send entry.the_row entry_send entry_sync, (search sendable, (search sendable, tt))),
    )

keeping_send : IsSend keeping.the_row
keeping_send = search (variants_send, grown_send, remains_send, sendable) depth 30 fits 20000

site_send : IsSend site.the_row
site_send =
    let g = Arc-send graph.the_row graph_send graph_sync in
    declared_send site.the_type (search (crosses, sendable) depth 20, (g, (search sendable, (search sendable, tt))))

core_send : IsSend core.the_row
core_send = view_send core_inside.the_row _ _ _ _ (declared_send core_inside.the_type (site_send, (keeping_send, tt)))

-- a core under a turn may go to another thread
pub held_send : IsSend held.the_row
held_send = declared_send held.the_type (core_send, tt)
