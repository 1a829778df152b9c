use Rattle.book_laws.proofs.Totals.{total_open}
use Rattle.book_laws.proofs.totals_add_up.Goals as goal

pub returns : goal.returns
returns c = λ g o jobs fair kind v m open_. total_open g o kind v jobs m fair.within fair.pools open_
