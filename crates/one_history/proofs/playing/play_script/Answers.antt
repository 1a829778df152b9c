use Rattle.std.proofs.Common.{rules, length, ap, ◌∙◌}
use Rattle.std.specs.List.{range_with_len}
use Rattle.std.proofs.Crossing.{crosses}
use denote.Param.Send.{sendable}
use Rattle.atomic_table.proofs.shared.Seat.TheSendSync as seat
use Rattle.atomic_table.proofs.shared.Shared.TheSendSync as shared
use Rattle.atomic_table.proofs.send_lease.SendLease.TheSendSync as lease
use Rattle.one_history.proofs.Crossing.{held_send}
use Rattle.one_history.proofs.Sessions.{may_begin, still_shared, together}
use Rattle.one_history.proofs.playing.play_script.Goals as goal

pub serve_all-requires-send-D-Seat : goal.serve_all-requires-send-D-Seat
serve_all-requires-send-D-Seat g c κs within = search (crosses, seat.the_send, held_send, sendable) depth 60 fits 20000

pub serve_all-requires-sync-D : goal.serve_all-requires-sync-D
serve_all-requires-sync-D g c κs within =
    search (crosses, shared.the_sync, lease.the_sync, held_send, sendable) depth 60 fits 20000

pub serve_all-requires-after_bounds : goal.serve_all-requires-after_bounds
serve_all-requires-after_bounds g c κs within =
    may_begin c.in_ok-book.book c.args.core.setting.graph.vertices
    (ap (λ k. k.graph.vertices) c.in_ok-book.ensures.setting)
    c.args.script.lines c.in_ok-sessions.sessions c.in_ok-sessions.ensures.dealt c.requires.proper

pub gather-requires-clause-theirs : goal.gather-requires-clause-theirs
gather-requires-clause-theirs g c =
    still_shared c.in_ok-book.book c.args.script.lines c.in_ok-sessions.sessions c.serve_all.new.sessions
    c.in_ok-sessions.ensures.dealt c.serve_all.ensures.count c.serve_all.ensures.each

pub returns-clause-together : goal.returns-clause-together
returns-clause-together g c =
    together c.args.core
    c.close-core.result c.args.script c.in_ok-book.book c.in_ok-sessions.sessions c.serve_all.new.sessions
    c.deal.new.seat c.gather.new.seat c.requires.apart c.in_ok-sessions.ensures.dealt c.serve_all.ensures.count
    c.serve_all.ensures.each (search rules)
    (c.in_ok-sessions.ensures.same ∙ (c.in_ok-book.ensures.mine ∙ ap (λ j. range_with_len 0 (length j)) c.requires.new))
    c.gather.ensures.seen c.gather.ensures.mine c.close-core.ensures.later c.close-core.ensures.mine
    (c.close-core.ensures.setting ∙ c.in_ok-book.ensures.setting) c.close-core.ensures.legal c.close-core.ensures.sound
