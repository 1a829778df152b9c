-- Histories of the scheduler of one thread: which are legal, the state they leave, and each client's part.
use Rattle.std.specs.Prelude.{ℕ, ◌==◌, List, [], ◌∷◌, filter, take}
use Rattle.std.specs.List.{AllByRecursion}
use Rattle.flux_defs.specs.declared.vertices.Vertex.{Vertex}
use Rattle.flux_defs.specs.declared.journal.Entry.{Entry}
use Rattle.flux_defs.specs.Scheduler.{Setting, State, first_state, IsProper, Replies, after}

-- the state that a history leaves, from a state on
abbrev pub state_after : State → List Entry → State
state_after s [] = s
state_after s (e ∷ es) = state_after (after s e.command e.reply) es

-- the state that the first `at` entries leave
abbrev pub state_at : List Entry → ℕ → State
state_at history at = state_after first_state (take at history)

-- each entry's reply is the one to its command in the state that the entries before it leave
abbrev pub IsLegalFrom : Setting → State → List Entry → Type 0
IsLegalFrom g s [] = Unit {0}
IsLegalFrom g s (e ∷ es) = Replies g s e.command e.reply × IsLegalFrom g (after s e.command e.reply) es

-- a legal history: from the first state on
abbrev pub IsLegal : Setting → List Entry → Type 0
IsLegal g history = IsLegalFrom g first_state history

-- every command of the history is proper for the graph
abbrev pub HasProperCommands : List Vertex → List Entry → Type 0
HasProperCommands vertices history = AllByRecursion (λ e. IsProper vertices e.command) history

-- a client's entries, in order
abbrev pub of_client : ℕ → List Entry → List Entry
of_client c history = filter (λ e. e.client == c) history
