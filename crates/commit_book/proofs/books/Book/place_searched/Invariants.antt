use Rattle.std.proofs.Common.{◌≡◌}
use mathlib.Core.List.{IsPrefix}
use Rattle.turn_table.specs.Seats.{seen, mine, share}
use Rattle.commit_book.specs.Books.{IsSeatOf}
use Rattle.commit_book.proofs.books.Book.place_searched.Given as goal

abbrev pub invariant-loop : goal.invariant-loop
invariant-loop g l =
    (l.command ≡ l.initial.command) × IsSeatOf l.self l.seat × (share l.seat ≡ share l.initial.seat)
    × (mine l.seat ≡ mine l.initial.seat) × IsPrefix (seen l.initial.seat) (seen l.seat)
