use Rattle.book_state.proofs.books.first_accounts.Given as goal

abbrev pub ghosts-counted_accounts : goal.ghosts-counted_accounts
ghosts-counted_accounts a = record { name = a.blank.name; parts = a.blank.parts }
