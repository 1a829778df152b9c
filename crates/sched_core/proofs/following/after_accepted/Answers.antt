use Rattle.sched_core.specs.Courses.{left_by}
use Rattle.std.proofs.Common.{◌∙◌, ap}
use Rattle.std.specs.FinMap.{insert}
use Rattle.job_table.specs.Rows.{live_row}
use Rattle.book_state.specs.Books.{rows_of}
use Rattle.sched_core.proofs.Grown.{book_accepted}
use Rattle.sched_core.proofs.following.after_accepted.Goals as goal

pub returns-clause-book : goal.returns-clause-book
returns-clause-book g c = λ e accepted.
    let journal = c.args.entries.now in
    let job = c.args.job.now in
    let of = c.requires.book in
    book_accepted journal
    e c.args.book c.in_ok-next.next of job accepted c.requires.may.fresh c.in_ok-next.ensures.moment
    (c.in_ok-next.ensures.rows ∙ ap (λ n. insert (rows_of c.args.book) job.id (live_row n)) c.len.ensures)
    (c.in_ok-next.ensures.jobs (left_by journal).jobs of.jobs)
