use Rattle.vertex_accounts.proofs.books.Accounts.+held_up.Given as goal

abbrev pub decreases-held_up : goal.decreases-held_up
decreases-held_up g l = l.most
