use Rattle.book_state.specs.Books.{vertices_of}
use Rattle.book_state.proofs.ViewLaws.{accounts_in, next_at}
use Rattle.book_state.proofs.view.BookStateFreeView.next_point.Goals as goal

pub returns-clause-later : goal.returns-clause-later
returns-clause-later g c =
    let is = c.accounts-accounts.ensures.book in
    c.next_point.ensures.later (
      vertices_of c.args.self.now,
      is.0,
      accounts_in c.accounts-accounts.result.now c.args.self.now c.accounts-accounts.ensures.value is.0 is.1,
    )

pub returns-clause-answer : goal.returns-clause-answer
returns-clause-answer g c = λ present x. c.next_point.ensures.answer (vertices_of c.args.self.now) present.jobs
    (accounts_in c.accounts-accounts.result.now c.args.self.now c.accounts-accounts.ensures.value present.jobs x.0)

pub returns-clause-work : goal.returns-clause-work
returns-clause-work g c = next_at c.accounts-accounts.result.now c.args.self.now c.accounts-accounts.ensures.value
    c.accounts-accounts.ensures.book c.args.steps.now c.next_point.new.steps c.next_point.ensures.work
