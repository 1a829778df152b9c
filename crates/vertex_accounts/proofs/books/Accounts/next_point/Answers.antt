use Rattle.book_laws.specs.Grouped.{times_of}
use Rattle.vertex_accounts.proofs.AskingLaws.{next_is}
use Rattle.vertex_accounts.proofs.books.Accounts.next_point.Goals as goal

pub returns-clause-answer : goal.returns-clause-answer
returns-clause-answer g c = λ vertices jobs is.
    next_is jobs c.args.after c.next_point.result (c.next_point.ensures.next (times_of jobs) is.times)
