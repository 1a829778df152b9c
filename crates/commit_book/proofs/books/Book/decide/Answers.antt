use Rattle.commit_book.proofs.Booking.{went, decide_grows, comes_home, later_now, legal_now, book_decides, decide_gains}
use Rattle.commit_book.proofs.Booking.{gains_nothing}
use Rattle.commit_book.proofs.books.Book.decide.Goals as goal

pub give-requires-clause-later : goal.give-requires-clause-later
give-requires-clause-later g c =
    comes_home c.take-held.result.core c.decide-answer.new.self _ c.take-held.ensures.seen
    (decide_grows _ _ _ _ _ _ c.decide-answer.result c.decide-answer.ensures.decided c.decide-answer.ensures.err)

pub returns-clause-later : goal.returns-clause-later
returns-clause-later g c =
    let w = went _ c.take-held.result.core
    c.decide-answer.new.self _ _ _ _ _ _ c.take-held.ensures.later c.take-held.ensures.seen
    c.take-held.ensures.setting c.take-held.ensures.same.0 c.give.ensures.seen c.give.ensures.mine in
    later_now _ c.args.client c.args.line _ _ _ _ _ _ w
    (decide_grows _ _ _ _ _ _ c.decide-answer.result c.decide-answer.ensures.decided c.decide-answer.ensures.err)

pub returns-clause-ok : goal.returns-clause-ok
returns-clause-ok g c =
    let w = went _ c.take-held.result.core
    c.decide-answer.new.self _ _ _ _ _ _ c.take-held.ensures.later c.take-held.ensures.seen
    c.take-held.ensures.setting c.take-held.ensures.same.0 c.give.ensures.seen c.give.ensures.mine in
    book_decides _ c.args.client c.args.line _ _ _ _ _ _ w _ c.decide-answer.result c.decide-answer.ensures.place
    c.decide-answer.ensures.decided

pub returns-clause-mine : goal.returns-clause-mine
returns-clause-mine g c =
    let w = went _ c.take-held.result.core
    c.decide-answer.new.self _ _ _ _ _ _ c.take-held.ensures.later c.take-held.ensures.seen
    c.take-held.ensures.setting c.take-held.ensures.same.0 c.give.ensures.seen c.give.ensures.mine in
    decide_gains _ c.args.client c.args.line _ _ _ _ _ _ w _ c.decide-answer.result c.decide-answer.ensures.place
    c.decide-answer.ensures.decided

pub returns-clause-err : goal.returns-clause-err
returns-clause-err g c =
    let w = went _ c.take-held.result.core
    c.decide-answer.new.self _ _ _ _ _ _ c.take-held.ensures.later c.take-held.ensures.seen
    c.take-held.ensures.setting c.take-held.ensures.same.0 c.give.ensures.seen c.give.ensures.mine in
    gains_nothing _ c.args.client c.args.line _ _ _ _ _ _ w _ c.decide-answer.result c.decide-answer.ensures.err

pub returns-clause-legal : goal.returns-clause-legal
returns-clause-legal g c =
    let w = went _ c.take-held.result.core
    c.decide-answer.new.self _ _ _ _ _ _ c.take-held.ensures.later c.take-held.ensures.seen
    c.take-held.ensures.setting c.take-held.ensures.same.0 c.give.ensures.seen c.give.ensures.mine in
    legal_now _ c.args.client c.args.line _ _ _ _ _ _ w
    (decide_grows _ _ _ _ _ _ c.decide-answer.result c.decide-answer.ensures.decided c.decide-answer.ensures.err)
    c.decide-answer.ensures.legal
