use Rattle.std.proofs.Common.{◌≡◌, ℕ, Some, sym, subst}
use Rattle.std.specs.FinMap.{get, insert}
use Rattle.flux_defs.specs.declared.claims.Job.{Job}
use Rattle.flux_defs.specs.Scheduler.{without_job}
use Rattle.job_table.specs.Rows.{live_row, cancelled_row}
use Rattle.book_state.specs.Books.{rows_of, StandsFor}
use Rattle.sched_core.specs.Courses.{left_by}
use Rattle.sched_core.proofs.JobLaws.{is_there, live_of}
use Rattle.sched_core.proofs.Grown.{book_cancelled}
use Rattle.sched_core.proofs.following.after_cancelled.Goals as goal

pub into_removed-requires-clause-there : goal.into_removed-requires-clause-there
into_removed-requires-clause-there g c =
    let s = left_by c.args.entries.now in
    let of = c.requires.book in
    (s.jobs, of.jobs, (is_there c.args.id s.jobs c.in-Some.job.now (sym c.in-Some.ensures)).0)

pub into_removed-requires-clause-live : goal.into_removed-requires-clause-live
into_removed-requires-clause-live g c =
    let s = left_by c.args.entries.now in
    let of = c.requires.book in
    let job : Job = c.in-Some.job.now in
    let there = is_there c.args.id s.jobs job (sym c.in-Some.ensures) in
    let live = live_of c.args.entries.now s c.args.id job
    (sym c.in-Some.ensures) (get (rows_of c.args.book) c.args.id) (of.table c.args.id) in
    (live.0, subst (λ (n : ℕ). get (rows_of c.args.book) n ≡ Some (live_row live.0)) (sym there.1) live.1)

pub returns-clause-book : goal.returns-clause-book
returns-clause-book g c = λ e commanded replied.
    let journal = c.args.entries.now in
    let s = left_by journal in
    let book = c.args.book in
    let next = c.in_ok-next-in-Some.next in
    let of = c.requires.book in
    let id = c.args.id in
    let job : Job = c.in-Some.job.now in
    let same = (is_there id s.jobs job (sym c.in-Some.ensures)).1 in
    let live = live_of journal s id job (sym c.in-Some.ensures) (get (rows_of book) id) (of.table id) in
    let row = subst (λ (n : ℕ). get (rows_of book) n ≡ Some (live_row live.0)) (sym same) live.1 in
    book_cancelled journal e book next of id live.0 commanded replied live.1 c.in_ok-next-in-Some.ensures.moment
    (subst (λ (n : ℕ). rows_of next ≡ insert (rows_of book) n (cancelled_row live.0)) same
    (c.in_ok-next-in-Some.ensures.rows live.0 row))
    (subst (λ (n : ℕ). StandsFor next (without_job n s.jobs)) same
    (c.in_ok-next-in-Some.ensures.jobs s.jobs of.jobs (is_there id s.jobs job (sym c.in-Some.ensures)).0))
