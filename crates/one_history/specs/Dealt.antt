-- Sessions at a book, as they are dealt.
use Rattle.std.specs.Prelude.{◌≡◌, ℕ, ◌+◌, false, List, [], ◌∷◌}
use Rattle.flux_defs.specs.declared.journal.Line.{Line}
use Rattle.turn_table.specs.Seats.{mine, share}
use Rattle.match_workers.specs.declared.sessions.Session.{Session}
use Rattle.commit_book.specs.declared.books.Book.{Book}
use Rattle.commit_book.specs.Books.{SeatAtBook, IsSeatOf}

abbrev pub Sitting : Type 0
Sitting = Session SeatAtBook

-- the session has a seat at the book, with one share
abbrev pub HasOneShare : Book → Sitting → Type 0
HasOneShare book s = IsSeatOf book s.seat × (share s.seat ≡ 1)

-- a session that is to begin: the client with its lines, and a new seat
pub record IsDealt (book : Book) (client : ℕ) (lines : List Line) (s : Sitting) : Type 0 where
  pub client-is : s.client ≡ client
  pub lines-are : s.lines ≡ lines
  pub done : s.done ≡ 0
  pub going : s.stopped ≡ false
  pub own : HasOneShare book s
  pub empty : mine s.seat ≡ []

-- a session for each client, of which the first has this number
abbrev pub AreDealt : Book → ℕ → List (List Line) → List Sitting → Type 0
AreDealt book n [] [] = Unit {0}
AreDealt book n (lines ∷ rest) (s ∷ sessions) = IsDealt book n lines s × AreDealt book (n + 1) rest sessions
AreDealt book n rest sessions = ⊥
