-- Scripts of several clients' lines, orders of their lines, and the history that plays an order.
use Rattle.std.specs.Prelude.{◌≡◌, ℕ, ◌==◌, Bool, List, map, filter, Contains, Some, slice_get, All}
use Rattle.std.specs.List.{list_any}
use Rattle.flux_defs.specs.declared.journal.Entry.{Entry}
use Rattle.flux_defs.specs.declared.journal.Line.{Line}
use Rattle.flux_defs.specs.declared.journal.ClientLine.{ClientLine}
use Rattle.flux_defs.specs.declared.journal.Script.{Script}
use Rattle.flux_defs.specs.Scheduler.{Setting}
use Rattle.flux_defs.specs.Histories.{IsLegal}

-- the line that an entry answers
abbrev pub line_of : Entry → ClientLine
line_of e = record { client = e.client; line = e.line; command = e.command }

-- the client's line
abbrev pub client_line : ℕ → Line → ClientLine
client_line client l = record { client = client; line = l.line; command = l.command }

-- client c of the script has these lines
abbrev pub HasLines : Script → ℕ → List Line → Type 0
HasLines script c lines = slice_get script.lines c ≡ Some lines

-- one of the lines has this number
abbrev pub has_number : List Line → ℕ → Bool
has_number lines n = list_any (λ l. l.line == n) lines

-- An order is a list of line numbers. It interleaves the script: it has numbers of the script's lines alone, and of
-- each client's lines it has each once and in their order.
pub record Interleaves (script : Script) (order : List ℕ) : Type 0 where
  pub known : All
      (λ n. (c : ℕ) × (lines : List Line) × HasLines script c lines × Contains (map (λ l. l.line) lines) n) order
  pub each : (c : ℕ) (lines : List Line) →
      HasLines script c lines → filter (has_number lines) order ≡ map (λ l. l.line) lines

-- the entry answers a line of the script, as its client and number
abbrev pub Answers : Script → Entry → Type 0
Answers script e = (lines : List Line)
    × HasLines script e.client lines × Contains lines (record { line = e.line; command = e.command })

-- The history plays the order of the script: its entries answer the order's lines, one after another, and it is legal.
pub record Plays (g : Setting) (script : Script) (order : List ℕ) (history : List Entry) : Type 0 where
  pub lines : map (λ e. e.line) history ≡ order
  pub answers : All (Answers script) history
  pub legal : IsLegal g history
