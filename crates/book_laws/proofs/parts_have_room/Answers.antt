use Rattle.book_laws.proofs.Totals.{part_room}
use Rattle.book_laws.proofs.parts_have_room.Goals as goal

pub returns : goal.returns
returns c = λ g o jobs fair kind v m. part_room g o kind v jobs m fair.within fair.pools
