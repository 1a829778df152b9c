use Rattle.std.proofs.Common.{refl, sym, subst}
use Rattle.flux_defs.specs.declared.events.Event.TheVariants.{Look}
use Rattle.interleave_law.specs.declared.flights.Flight.TheVariants as flight
use Rattle.interleave_law.specs.Machines.{IsRunning}
use Rattle.interleave_law.proofs.Kept.{stays, untrue, happened, no_look, closed_look, within, looks, looked, goes_on}
use Rattle.interleave_law.proofs.machines.Machine.look.Goals as goal

pub returns-in_default-clause-ok : goal.returns-in_default-clause-ok
returns-in_default-clause-ok c =
    let m = c.self.inside in
    stays _ _ (Look c.args.client) c.self.view_is
    (no_look m.core m.script m.clients.items c.args.client c.in_default.ensures.none)

pub returns-then-not-is_idle-clause-ok : goal.returns-then-not-is_idle-clause-ok
returns-then-not-is_idle-clause-ok c =
    let m = c.self.inside in
    let next = c.in-Some.field-0 in
    stays _ _ (Look c.args.client) c.self.view_is
    (closed_look m.core m.script m.clients.items c.args.client next.progress.now
    next.line.now c.in-Some.ensures.some (λ idle searchable. untrue (c.if-not-is_idle.ensures.1 idle)))

pub returns-then-not-is_searched_for-clause-ok : goal.returns-then-not-is_searched_for-clause-ok
returns-then-not-is_searched_for-clause-ok c =
    let m = c.self.inside in
    let next = c.in-Some.field-0 in
    stays _ _ (Look c.args.client) c.self.view_is
    (closed_look m.core m.script m.clients.items c.args.client next.progress.now
    next.line.now c.in-Some.ensures.some (λ idle searchable. untrue (c.if-not-is_searched_for.ensures.1 searchable)))

pub put-requires : goal.put-requires
put-requires c =
    let m = c.self.inside in
    let next = c.in-Some.field-0 in
    within m.core m.script m.clients.items c.args.client next.progress.now next.line.now c.in-Some.ensures.some

pub invariant_of-self : goal.invariant_of-self
invariant_of-self c =
    let m = c.self.inside in
    let next = c.in-Some.field-0 in
    let snap = c.in_ok-snap.snap in
    let n = c.in-Some.ensures.some in
    subst (IsRunning m.core m.script) (sym c.put.ensures)
    (goes_on m.core m.script m.clients.items c.args.client next.progress.now next.line.now n c.self.invariant
    (Look c.args.client) m.core
    (record { done = next.progress.now.done; flight = flight.Looked snap })
    (looks m.core m.script
    m.clients.items c.args.client next.progress.now next.line.now n c.self.invariant snap c.in_ok-snap.ensures
    (c.if-not-is_idle.ensures.0 refl) (c.if-not-is_searched_for.ensures.0 refl))
    (looked m.core m.script
    m.clients.items c.args.client next.progress.now next.line.now n c.self.invariant snap c.in_ok-snap.ensures
    (c.if-not-is_searched_for.ensures.0 refl)))

pub returns-clause-ok : goal.returns-clause-ok
returns-clause-ok c =
    let m = c.self.inside in
    let next = c.in-Some.field-0 in
    happened _ _ (Look c.args.client) m.core m.script _ _ c.self.view_is c.put.ensures
    (looks m.core m.script
    m.clients.items c.args.client next.progress.now next.line.now c.in-Some.ensures.some c.self.invariant
    c.in_ok-snap.snap c.in_ok-snap.ensures (c.if-not-is_idle.ensures.0 refl) (c.if-not-is_searched_for.ensures.0 refl))
