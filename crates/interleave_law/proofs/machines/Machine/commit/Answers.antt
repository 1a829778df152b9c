use Rattle.std.proofs.Common.{◌≡◌, ◌+◌, sym, ap, ◌∙◌, subst, slice_set}
use Rattle.flux_defs.specs.declared.events.Event.TheVariants.{Commit}
use Rattle.sched_core.specs.Courses.{Course}
use Rattle.interleave_law.specs.declared.flights.Flight.TheVariants as flight
use Rattle.interleave_law.specs.Machines.{seen_as, idle_progress, IsRunning, IsTried}
use Rattle.interleave_law.proofs.Kept.{stays, happened, not_searched, restored, put_again, within_left, no_commit}
use Rattle.interleave_law.proofs.Kept.{closed_commit, within, next_taken, is_for, overtaken, commits, goes_on}
use Rattle.interleave_law.proofs.machines.Machine.commit.Goals as goal

pub returns-in_default-clause-ok : goal.returns-in_default-clause-ok
returns-in_default-clause-ok g c =
    let m = c.self.inside in
    stays _ _ (Commit c.args.client) c.self.view_is
    (no_commit m.core m.script m.clients.items c.args.client c.in_default.ensures.none)

pub take-done-requires : goal.take-done-requires
take-done-requires g c =
    let m = c.self.inside in
    let next = c.in-Some.field-0 in
    within m.core m.script m.clients.items c.args.client next.progress.now next.line.now c.in-Some.ensures.some

pub put-requires : goal.put-requires
put-requires g c =
    let m = c.self.inside in
    let next = c.in-Some.field-0 in
    within_left m.clients.items c.take-done.new.clients.items c.args.client _ c.take-done.ensures.left
    (within m.core m.script m.clients.items c.args.client next.progress.now next.line.now c.in-Some.ensures.some)

pub invariant_of-self : goal.invariant_of-self
invariant_of-self g c =
    subst (IsRunning c.self.inside.core c.self.inside.script)
    (sym (restored c.self.inside.clients.items c.take-done.new.clients.items c.put.new.clients.items c.args.client _ _
    c.take-done.ensures.taken c.take-done.ensures.left c.put.ensures)) c.self.invariant

pub returns-in_default-flight : goal.returns-in_default-flight
returns-in_default-flight g c =
    let m = c.self.inside in
    let line = c.in-Some.field-0.line.now in
    let p = c.take-done.result in
    let n = next_taken
    m.core m.script m.clients.items c.args.client c.in-Some.field-0.progress.now line c.in-Some.ensures.some p
    c.take-done.ensures.taken in
    let same = restored m.clients.items
    c.take-done.new.clients.items c.put.new.clients.items c.args.client _ _ c.take-done.ensures.taken
    c.take-done.ensures.left c.put.ensures in
    record {
      ok = (
        (stays _ _ (Commit c.args.client) c.self.view_is
            (closed_commit m.core m.script m.clients.items c.args.client p line n
            (not_searched p.flight c.in_default-flight.not-Searched))).0,
        ap (seen_as m.core m.script) same ∙ c.self.view_is,
      );
      err = tt;
    }

pub place-requires : goal.place-requires
place-requires g c =
    let m = c.self.inside in
    let line = c.in-Some.field-0.line.now in
    let p = c.take-done.result in
    let n = next_taken
    m.core m.script m.clients.items c.args.client c.in-Some.field-0.progress.now line c.in-Some.ensures.some p
    c.take-done.ensures.taken in
    let found = c.in-Searched.candidate in
    record {
      candidate = is_for
          m.core m.script m.clients.items c.args.client p line n c.self.invariant found c.in-Searched.is;
    }

pub invariant_of-self-in-Ok-false : goal.invariant_of-self-in-Ok-false
invariant_of-self-in-Ok-false g c =
    let m = c.self.inside in
    let line = c.in-Some.field-0.line.now in
    let p = c.take-done.result in
    let n = next_taken
    m.core m.script m.clients.items c.args.client c.in-Some.field-0.progress.now line c.in-Some.ensures.some p
    c.take-done.ensures.taken in
    let found = c.in-Searched.candidate in
    let tried = subst (IsTried m.core c.place.new.core c.args.client line.line found)
    c.in-Ok-false.field-0-test c.in-Ok-false.ensures.ok in
    let step = overtaken
    m.core m.script m.clients.items c.args.client p line n c.self.invariant found c.in-Searched.is c.place.new.core
    tried.1.0 c.is_found.ensures.place-is tried.0 tried.1.1 in
    subst (IsRunning c.place.new.core m.script) (sym c.take-done.ensures.left)
    (goes_on m.core m.script m.clients.items c.args.client p line n c.self.invariant
    (Commit c.args.client) c.place.new.core
    (idle_progress p.done) step (λ k lines of at. tt))

pub returns-in-Ok-false-clause-ok : goal.returns-in-Ok-false-clause-ok
returns-in-Ok-false-clause-ok g c =
    let m = c.self.inside in
    let line = c.in-Some.field-0.line.now in
    let p = c.take-done.result in
    let n = next_taken
    m.core m.script m.clients.items c.args.client c.in-Some.field-0.progress.now line c.in-Some.ensures.some p
    c.take-done.ensures.taken in
    let found = c.in-Searched.candidate in
    let tried = subst (IsTried m.core c.place.new.core c.args.client line.line found)
    c.in-Ok-false.field-0-test c.in-Ok-false.ensures.ok in
    let step = overtaken
    m.core m.script m.clients.items c.args.client p line n c.self.invariant found c.in-Searched.is c.place.new.core
    tried.1.0 c.is_found.ensures.place-is tried.0 tried.1.1 in
    happened _ _ (Commit c.args.client) c.place.new.core m.script _ _ c.self.view_is c.take-done.ensures.left step

pub put-requires-in-Ok-true : goal.put-requires-in-Ok-true
put-requires-in-Ok-true g c =
    let m = c.self.inside in
    let next = c.in-Some.field-0 in
    within_left m.clients.items c.take-done.new.clients.items c.args.client _ c.take-done.ensures.left
    (within m.core m.script m.clients.items c.args.client next.progress.now next.line.now c.in-Some.ensures.some)

pub invariant_of-self-in-Ok-true : goal.invariant_of-self-in-Ok-true
invariant_of-self-in-Ok-true g c =
    let m = c.self.inside in
    let line = c.in-Some.field-0.line.now in
    let p = c.take-done.result in
    let n = next_taken
    m.core m.script m.clients.items c.args.client c.in-Some.field-0.progress.now line c.in-Some.ensures.some p
    c.take-done.ensures.taken in
    let found = c.in-Searched.candidate in
    let tried = subst (IsTried m.core c.place.new.core c.args.client line.line found)
    c.in-Ok-true.field-0-test c.in-Ok-true.ensures.ok in
    let step = commits
    m.core m.script m.clients.items c.args.client p line n c.self.invariant found c.in-Searched.is c.place.new.core
    c.is_found.ensures.place-is tried.0 tried.1 in
    let put =
    put_again m.clients.items c.take-done.new.clients.items c.put-in-Ok-true.new.clients.items c.args.client _ _ _
    c.take-done.ensures.left c.put-in-Ok-true.ensures c.idle.ensures in
    subst (IsRunning c.place.new.core m.script) (sym put)
    (goes_on m.core m.script m.clients.items c.args.client p line n c.self.invariant
    (Commit c.args.client) c.place.new.core
    (idle_progress (p.done + 1)) step (λ k lines of at. tt))

pub returns-in-Ok-true-clause-ok : goal.returns-in-Ok-true-clause-ok
returns-in-Ok-true-clause-ok g c =
    let m = c.self.inside in
    let line = c.in-Some.field-0.line.now in
    let p = c.take-done.result in
    let n = next_taken
    m.core m.script m.clients.items c.args.client c.in-Some.field-0.progress.now line c.in-Some.ensures.some p
    c.take-done.ensures.taken in
    let found = c.in-Searched.candidate in
    let tried = subst (IsTried m.core c.place.new.core c.args.client line.line found)
    c.in-Ok-true.field-0-test c.in-Ok-true.ensures.ok in
    let step = commits
    m.core m.script m.clients.items c.args.client p line n c.self.invariant found c.in-Searched.is c.place.new.core
    c.is_found.ensures.place-is tried.0 tried.1 in
    let put =
    put_again m.clients.items c.take-done.new.clients.items c.put-in-Ok-true.new.clients.items c.args.client _ _ _
    c.take-done.ensures.left c.put-in-Ok-true.ensures c.idle.ensures in
    happened _ _ (Commit c.args.client) c.place.new.core m.script _ _ c.self.view_is put step

pub put-requires-in-Err : goal.put-requires-in-Err
put-requires-in-Err g c =
    let m = c.self.inside in
    let next = c.in-Some.field-0 in
    within_left m.clients.items c.take-done.new.clients.items c.args.client _ c.take-done.ensures.left
    (within m.core m.script m.clients.items c.args.client next.progress.now next.line.now c.in-Some.ensures.some)

pub invariant_of-self-in-Err : goal.invariant_of-self-in-Err
invariant_of-self-in-Err g c =
    let m = c.self.inside in
    let p = c.take-done.result in
    let same : record { done = p.done; flight = flight.Searched c.in-Err.candidate } ≡ p =
    (λ i. record { done = p.done; flight = (ap flight.Searched c.in-Err.ensures.err.1 ∙ sym c.in-Searched.is) i }) in
    let put = restored m.clients.items c.take-done.new.clients.items c.put-in-Err.new.clients.items c.args.client _ p
    c.take-done.ensures.taken c.take-done.ensures.left
    (c.put-in-Err.ensures ∙ ap (slice_set c.take-done.new.clients.items c.args.client) same) in
    subst (λ (k : Course). IsRunning k m.script c.put-in-Err.new.clients.items) (sym c.in-Err.ensures.err.0)
    (subst (IsRunning m.core m.script) (sym put) c.self.invariant)

pub returns-in-Err-clause-err : goal.returns-in-Err-clause-err
returns-in-Err-clause-err g c =
    let m = c.self.inside in
    let p = c.take-done.result in
    let same : record { done = p.done; flight = flight.Searched c.in-Err.candidate } ≡ p =
    (λ i. record { done = p.done; flight = (ap flight.Searched c.in-Err.ensures.err.1 ∙ sym c.in-Searched.is) i }) in
    let put = restored m.clients.items c.take-done.new.clients.items c.put-in-Err.new.clients.items c.args.client _ p
    c.take-done.ensures.taken c.take-done.ensures.left
    (c.put-in-Err.ensures ∙ ap (slice_set c.take-done.new.clients.items c.args.client) same) in
    ap (λ (k : Course). seen_as k m.script c.put-in-Err.new.clients.items) c.in-Err.ensures.err.0
    ∙ (ap (seen_as m.core m.script) put ∙ c.self.view_is)
