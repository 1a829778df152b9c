use Rattle.std.proofs.Common.{sym, ◌∙◌, subst}
use Rattle.flux_defs.specs.declared.events.Event.TheVariants.{Search}
use Rattle.flux_defs.specs.declared.journal.Command.{Command}
use Rattle.flux_defs.specs.Scheduler.{Setting, IsProper}
use Rattle.sched_core.specs.Searched.{IsSearched}
use Rattle.interleave_law.specs.declared.flights.Flight.TheVariants as flight
use Rattle.interleave_law.specs.Machines.{IsRunning}
use Rattle.interleave_law.proofs.Kept.{stays, not_looked, happened, no_search, closed_search, within, proper_next}
use Rattle.interleave_law.proofs.Kept.{looked_before, searches, searched_for, goes_on}
use Rattle.interleave_law.proofs.machines.Machine.search.Goals as goal

pub returns-in_default-clause-ok : goal.returns-in_default-clause-ok
returns-in_default-clause-ok g c =
    let m = c.self.inside in
    stays _ _ (Search c.args.client) c.self.view_is
    (no_search m.core m.script m.clients.items c.args.client c.in_default.ensures.none)

pub returns-in_default-flight : goal.returns-in_default-flight
returns-in_default-flight g c =
    let m = c.self.inside in
    let next = c.in-Some.field-0 in
    record {
      ok = stays _ _ (Search c.args.client) c.self.view_is
          (closed_search m.core m.script m.clients.items c.args.client next.progress.now
          next.line.now c.in-Some.ensures.some (not_looked next.progress.now.flight c.in_default-flight.not-Looked));
      err = tt;
    }

pub search-requires-clause-proper : goal.search-requires-clause-proper
search-requires-clause-proper g c =
    let m = c.self.inside in
    let next = c.in-Some.field-0 in
    let before = looked_before
    m.core m.script m.clients.items c.args.client next.progress.now next.line.now c.in-Some.ensures.some
    c.self.invariant c.in-Looked.snap c.in-Looked.is in
    subst (λ (k : Command). IsProper c.in-Looked.snap.setting.graph.vertices k) (sym c.in_ok-command.ensures)
    (subst (λ (s : Setting). IsProper s.graph.vertices next.line.now.command) (sym before.0)
    (proper_next m.core
    m.script m.clients.items c.args.client next.progress.now next.line.now c.in-Some.ensures.some c.self.invariant))

pub put-requires : goal.put-requires
put-requires g c =
    let m = c.self.inside in
    let next = c.in-Some.field-0 in
    within m.core m.script m.clients.items c.args.client next.progress.now next.line.now c.in-Some.ensures.some

pub invariant_of-self : goal.invariant_of-self
invariant_of-self g c =
    let m = c.self.inside in
    let next = c.in-Some.field-0 in
    let n = c.in-Some.ensures.some in
    let found = c.in-Ok.candidate in
    subst (IsRunning m.core m.script) (sym c.put.ensures)
    (goes_on m.core m.script m.clients.items c.args.client next.progress.now next.line.now n c.self.invariant
    (Search c.args.client) m.core
    (record { done = next.progress.now.done; flight = flight.Searched found })
    (searches m.core m.script
    m.clients.items c.args.client next.progress.now next.line.now n c.self.invariant c.in-Looked.snap c.in-Looked.is
    found c.in_ok-command.command c.in_ok-command.ensures c.in-Ok.ensures.ok.1
    (subst (λ (k : Command). IsSearched k c.in-Ok.candidate.snap c.in-Ok.candidate.place c.in-Ok.candidate.verdict)
    c.in-Ok.ensures.ok.0 c.is_found.ensures))
    (searched_for m.core
    m.script m.clients.items c.args.client next.progress.now next.line.now n c.self.invariant c.in-Looked.snap
    c.in-Looked.is found (c.in-Ok.ensures.ok.0 ∙ c.in_ok-command.ensures) c.in-Ok.ensures.ok.1))

pub returns-clause-ok : goal.returns-clause-ok
returns-clause-ok g c =
    let m = c.self.inside in
    let next = c.in-Some.field-0 in
    happened _ _ (Search c.args.client) m.core m.script _ _ c.self.view_is c.put.ensures
    (searches m.core m.script
    m.clients.items c.args.client next.progress.now next.line.now c.in-Some.ensures.some c.self.invariant
    c.in-Looked.snap c.in-Looked.is
    c.in-Ok.candidate c.in_ok-command.command c.in_ok-command.ensures c.in-Ok.ensures.ok.1
    (subst (λ (k : Command). IsSearched k c.in-Ok.candidate.snap c.in-Ok.candidate.place c.in-Ok.candidate.verdict)
    c.in-Ok.ensures.ok.0 c.is_found.ensures))
