-- What a commit of an older candidate rests on, as statements.
use Rattle.std.specs.Prelude.{◌≡◌, ℕ, List, length}
use Rattle.flux_defs.specs.declared.vertices.Vertex.{Vertex}
use Rattle.flux_defs.specs.declared.claims.Claim.{Claim}
use Rattle.flux_defs.specs.declared.claims.Window.{Window}
use Rattle.flux_defs.specs.declared.journal.Reply.{Reply}
use Rattle.flux_defs.specs.declared.journal.Entry.{Entry}
use Rattle.flux_defs.specs.ValidGraph.{IsValidGraph}
use Rattle.flux_defs.specs.Closed.{no_bars}
use Rattle.flux_defs.specs.Available.{IsAvailable}
use Rattle.flux_defs.specs.Scheduler.{Setting, State, Replies, present_of}
use Rattle.flux_defs.specs.Histories.{state_at, IsLegal}
use Rattle.flux_defs.specs.Verdicts.{Finds, Yields}
use Rattle.flux_defs.specs.Overtaken.{Candidate, Cause, Frees, Blocks, IsFirstFrom, NoneFrom, IsOvertaken}

-- the state that the whole history leaves
abbrev pub state_now : List Entry → State
state_now history = state_at history (length history)

-- the candidate's verdict is what a search finds where it searched
abbrev pub WasFound : Setting → List Entry → Candidate → Type 0
WasFound g history c = Finds g (state_at history c.place) c.command c.verdict

-- nothing overtook the candidate
abbrev pub StillStands : Setting → List Entry → Candidate → Type 0
StillStands g history c = (cause : Cause) → IsOvertaken g history c cause → ⊥

-- Over a valid graph and a legal history, a candidate that was found and that nothing overtook: the reply that its
-- verdict yields now is the scheduler's reply to its command now.
abbrev pub CommitIsFresh : Type 0
CommitIsFresh = (g : Setting) (names : List (List ℕ)) → IsValidGraph g.graph names → (history : List Entry) →
    IsLegal g history → (c : Candidate) → WasFound g history c → StillStands g history c →
    (r : Reply) → Yields g (state_now history) c.command c.verdict r → Replies g (state_now history) c.command r

-- A claim that was available at a place of the history, and isn't now, though nothing was freed from there on: some
-- entry from there on stands in its way, and there is a first.
abbrev pub TakenIsBlocked : Type 0
TakenIsBlocked = (vertices : List Vertex) (history : List Entry) (place : ℕ) (w : Window) (claim : Claim) →
    NoneFrom (Frees history) place → IsAvailable (no_bars vertices (present_of (state_at history place))) w claim →
    (IsAvailable (no_bars vertices (present_of (state_now history))) w claim → ⊥) →
    (at : ℕ) × IsFirstFrom (Blocks vertices w claim history) place at

-- A candidate is overtaken by one cause at most.
abbrev pub CauseIsDetermined : Type 0
CauseIsDetermined = (g : Setting) (history : List Entry) (c : Candidate) (a b : Cause) →
    IsOvertaken g history c a → IsOvertaken g history c b → a ≡ b
