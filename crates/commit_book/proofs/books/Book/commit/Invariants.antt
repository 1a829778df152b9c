use Rattle.commit_book.proofs.books.Book.commit.Given as goal

abbrev pub ghosts-commit_to : goal.ghosts-commit_to
ghosts-commit_to g a = record { name = a.blank.name; parts = a.blank.parts }
