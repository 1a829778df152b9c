use Rattle.sched_core.specs.Courses.{left_by}
use Rattle.sched_core.proofs.Grown.{book_moved}
use Rattle.sched_core.proofs.following.after_moved.Goals as goal

pub returns-clause-book : goal.returns-clause-book
returns-clause-book c = λ journal e of moved.
    let next = c.into_advanced.ensures in
    book_moved journal e c.args.book c.into_advanced.result of c.args.to moved next.moment next.rows
    (next.jobs (left_by journal).jobs of.jobs)
