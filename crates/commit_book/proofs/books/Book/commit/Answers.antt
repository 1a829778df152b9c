use Rattle.commit_book.proofs.Booking.{went, commit_grows, comes_home, later_now, legal_now, book_commits, commit_sees}
use Rattle.commit_book.proofs.Booking.{commit_gains, gains_nothing}
use Rattle.commit_book.proofs.books.Book.commit.Goals as goal

pub give-requires-clause-later : goal.give-requires-clause-later
give-requires-clause-later g c =
    comes_home c.take-held.result.core c.commit_to-answer.new.core _ c.take-held.ensures.seen
    (commit_grows _ _ _ _ _ _ c.commit_to-answer.result c.commit_to-answer.ensures.ok c.commit_to-answer.ensures.err)

pub returns-clause-later : goal.returns-clause-later
returns-clause-later g c =
    let w = went _ c.take-held.result.core
    c.commit_to-answer.new.core _ _ _ _ _ _ c.take-held.ensures.later c.take-held.ensures.seen
    c.take-held.ensures.setting c.take-held.ensures.same.0 c.give.ensures.seen c.give.ensures.mine in
    later_now _ c.args.client c.args.line _ _ _ _ _ _ w
    (commit_grows _ _ _ _ _ _ c.commit_to-answer.result c.commit_to-answer.ensures.ok c.commit_to-answer.ensures.err)

pub returns-clause-ok : goal.returns-clause-ok
returns-clause-ok g c =
    let w = went _ c.take-held.result.core
    c.commit_to-answer.new.core _ _ _ _ _ _ c.take-held.ensures.later c.take-held.ensures.seen
    c.take-held.ensures.setting c.take-held.ensures.same.0 c.give.ensures.seen c.give.ensures.mine in
    book_commits _ c.args.client c.args.line _ _ _ _ _ _ w _ c.commit_to-answer.result c.commit_to-answer.ensures.ok
    (commit_grows _ _ _ _ _ _ c.commit_to-answer.result c.commit_to-answer.ensures.ok c.commit_to-answer.ensures.err)

pub returns-clause-seen : goal.returns-clause-seen
returns-clause-seen g c =
    let w = went _ c.take-held.result.core
    c.commit_to-answer.new.core _ _ _ _ _ _ c.take-held.ensures.later c.take-held.ensures.seen
    c.take-held.ensures.setting c.take-held.ensures.same.0 c.give.ensures.seen c.give.ensures.mine in
    commit_sees _ c.args.client c.args.line _ _ _ _ _ _ w _ c.commit_to-answer.result c.commit_to-answer.ensures.ok

pub returns-clause-mine : goal.returns-clause-mine
returns-clause-mine g c =
    let w = went _ c.take-held.result.core
    c.commit_to-answer.new.core _ _ _ _ _ _ c.take-held.ensures.later c.take-held.ensures.seen
    c.take-held.ensures.setting c.take-held.ensures.same.0 c.give.ensures.seen c.give.ensures.mine in
    commit_gains _ c.args.client c.args.line _ _ _ _ _ _ w _ c.commit_to-answer.result c.commit_to-answer.ensures.ok

pub returns-clause-err : goal.returns-clause-err
returns-clause-err g c =
    let w = went _ c.take-held.result.core
    c.commit_to-answer.new.core _ _ _ _ _ _ c.take-held.ensures.later c.take-held.ensures.seen
    c.take-held.ensures.setting c.take-held.ensures.same.0 c.give.ensures.seen c.give.ensures.mine in
    gains_nothing _ c.args.client c.args.line _ _ _ _ _ _ w _ c.commit_to-answer.result c.commit_to-answer.ensures.err

pub returns-clause-legal : goal.returns-clause-legal
returns-clause-legal g c =
    let w = went _ c.take-held.result.core
    c.commit_to-answer.new.core _ _ _ _ _ _ c.take-held.ensures.later c.take-held.ensures.seen
    c.take-held.ensures.setting c.take-held.ensures.same.0 c.give.ensures.seen c.give.ensures.mine in
    legal_now _ c.args.client c.args.line _ _ _ _ _ _ w
    (commit_grows _ _ _ _ _ _ c.commit_to-answer.result c.commit_to-answer.ensures.ok c.commit_to-answer.ensures.err)
    c.commit_to-answer.ensures.legal
