use Rattle.std.proofs.Common.{refl, ◌∙◌}
use Rattle.commit_book.proofs.Booking.{went, grown_same, comes_home, gained_none}
use Rattle.commit_book.proofs.books.Book.snapshot.Goals as goal

pub give-requires-clause-later : goal.give-requires-clause-later
give-requires-clause-later g c =
    comes_home c.take-held.result.core c.take-held.result.core _ c.take-held.ensures.seen
    (grown_same c.take-held.result.core c.take-held.result.core refl)

pub returns-clause-same : goal.returns-clause-same
returns-clause-same g c =
    let w = went _ c.take-held.result.core
    c.take-held.result.core _ _ _ _ _ _ c.take-held.ensures.later c.take-held.ensures.seen
    c.take-held.ensures.setting c.take-held.ensures.same.0 c.give.ensures.seen c.give.ensures.mine in
    (gained_none _ 0 0 _ _ _ _ _ _ w refl, c.give.ensures.same ∙ c.take-held.ensures.same.1)
