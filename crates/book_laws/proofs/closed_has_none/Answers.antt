use Rattle.book_laws.proofs.Totals.{total_closed}
use Rattle.book_laws.proofs.closed_has_none.Goals as goal

pub returns : goal.returns
returns c = λ g o jobs kind v m closed. total_closed g o kind v jobs m closed
