-- A script that was played by all its clients at once.
use Rattle.std.specs.Prelude.{◌≡◌, ℕ, true, List, [], ◌∷◌, map}
use Rattle.flux_defs.specs.declared.journal.Entry.{Entry}
use Rattle.flux_defs.specs.declared.journal.Line.{Line}
use Rattle.flux_defs.specs.declared.journal.Script.{Script}
use Rattle.flux_defs.specs.Histories.{of_client}
use Rattle.flux_defs.specs.Scripts.{HasLines, has_number, line_of, client_line, Interleaves, Plays}
use Rattle.flux_defs.specs.Sound.{IsSoundThroughout}
use Rattle.sched_core.specs.Courses.{Course}

-- no number is that of lines of two clients
abbrev pub NumbersApart : Script → Type 0
NumbersApart script =
    (c c' : ℕ) (lines lines' : List Line) (n : ℕ) → HasLines script c lines → HasLines script c' lines'
    → has_number lines n ≡ true → has_number lines' n ≡ true → c ≡ c'

-- the numbers of the lines that the entries answer, entry by entry
abbrev pub order_of : List Entry → List ℕ
order_of history = map (λ e. e.line) history

-- One history: it plays an order that interleaves the script, which is the order of its own line numbers. Each client's
-- part of it answers the client's lines, each once and in their order; where there is one client, that is the whole. It
-- is legal, and after each entry no vertex is oversubscribed.
pub record IsPlayedTogether (core played : Course) (script : Script) : Type 0 where
  pub setting : played.setting ≡ core.setting
  pub interleaves : Interleaves script (order_of played.journal)
  pub plays : Plays core.setting script (order_of played.journal) played.journal
  pub parts : (c : ℕ) (lines : List Line) → HasLines script c lines
      → map line_of (of_client c played.journal) ≡ map (client_line c) lines
  pub alone : (lines : List Line) → script.lines ≡ lines ∷ [] → map line_of played.journal ≡ map (client_line 0) lines
  pub sound : IsSoundThroughout core.setting.graph.vertices played.journal
