use Rattle.std.proofs.Common.{refl}
use Rattle.sched_core.proofs.Grown.{book_stays}
use Rattle.sched_core.proofs.following.unchanged.Goals as goal

pub returns-clause-book : goal.returns-clause-book
returns-clause-book c = λ journal e of nothing.
    book_stays journal e c.args.book c.args.book of nothing refl refl of.jobs
