use Rattle.book_trials.proofs.books.told_of.Given as goal

abbrev pub ghosts-is_empty : goal.ghosts-is_empty
ghosts-is_empty g = record { name = g.blank.name; parts = g.blank.parts }
