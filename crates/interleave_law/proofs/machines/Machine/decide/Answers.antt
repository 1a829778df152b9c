use Rattle.std.proofs.Common.{◌+◌, refl, sym, ap, ◌∙◌, subst, slice_set}
use Rattle.flux_defs.specs.declared.events.Event.TheVariants.{Decide}
use Rattle.flux_defs.specs.declared.journal.Command.{Command}
use Rattle.flux_defs.specs.Scheduler.{IsProper}
use Rattle.sched_core.specs.Courses.{Course}
use Rattle.interleave_law.specs.Machines.{idle_progress, IsRunning}
use Rattle.interleave_law.proofs.Kept.{stays, untrue, happened, no_decide, closed_decide, within, proper_next, decides}
use Rattle.interleave_law.proofs.Kept.{goes_on}
use Rattle.interleave_law.proofs.machines.Machine.decide.Goals as goal

pub returns-in_default-clause-ok : goal.returns-in_default-clause-ok
returns-in_default-clause-ok c =
    let m = c.self.inside in
    stays _ _ (Decide c.args.client) c.self.view_is
    (no_decide m.core m.script m.clients.items c.args.client c.in_default.ensures.none)

pub returns-then-not-is_idle-clause-ok : goal.returns-then-not-is_idle-clause-ok
returns-then-not-is_idle-clause-ok c =
    let m = c.self.inside in
    let next = c.in-Some.field-0 in
    stays _ _ (Decide c.args.client) c.self.view_is
    (closed_decide m.core m.script m.clients.items c.args.client next.progress.now
    next.line.now c.in-Some.ensures.some (λ idle. untrue (c.if-not-is_idle.ensures.1 idle)))

pub decide-requires : goal.decide-requires
decide-requires c =
    let m = c.self.inside in
    let next = c.in-Some.field-0 in
    record {
      proper = subst (λ (k : Command). IsProper m.core.setting.graph.vertices k) (sym c.in_ok-command.ensures)
          (proper_next m.core m.script
          m.clients.items c.args.client next.progress.now next.line.now c.in-Some.ensures.some c.self.invariant);
    }

pub put-requires : goal.put-requires
put-requires c =
    let m = c.self.inside in
    let next = c.in-Some.field-0 in
    within m.core m.script m.clients.items c.args.client next.progress.now next.line.now c.in-Some.ensures.some

pub invariant_of-self : goal.invariant_of-self
invariant_of-self c =
    subst (λ (k : Course). IsRunning k c.self.inside.script c.self.inside.clients.items)
    (sym c.in-Err.ensures.err.0) c.self.invariant

pub invariant_of-self-2 : goal.invariant_of-self-2
invariant_of-self-2 c =
    let m = c.self.inside in
    let next = c.in-Some.field-0 in
    subst (IsRunning c.decide.new.self m.script)
    (sym (c.put.ensures ∙ ap (slice_set m.clients.items c.args.client) c.idle.ensures))
    (goes_on m.core m.script
    m.clients.items c.args.client next.progress.now next.line.now c.in-Some.ensures.some c.self.invariant
    (Decide c.args.client) c.decide.new.self (idle_progress (next.progress.now.done + 1))
    (decides m.core m.script
    m.clients.items c.args.client next.progress.now next.line.now c.in-Some.ensures.some c.self.invariant
    c.decide.new.self c.in_ok-command.command c.in_ok-command.ensures
    (c.if-not-is_idle.ensures.0 refl) c.in-Ok.ensures.decided)
    (λ k lines of at. tt))

pub returns-clause-ok : goal.returns-clause-ok
returns-clause-ok c =
    let m = c.self.inside in
    let next = c.in-Some.field-0 in
    happened _ _ (Decide c.args.client) c.decide.new.self m.script _ _ c.self.view_is
    (c.put.ensures ∙ ap (slice_set m.clients.items c.args.client) c.idle.ensures)
    (decides m.core m.script
    m.clients.items c.args.client next.progress.now next.line.now c.in-Some.ensures.some c.self.invariant
    c.decide.new.self c.in_ok-command.command c.in_ok-command.ensures
    (c.if-not-is_idle.ensures.0 refl) c.in-Ok.ensures.decided)
