-- Lines that were played, one after another.
use Rattle.std.specs.Prelude.{◌≡◌, List, ◌∷◌, ◌++◌, map}
use Rattle.std.specs.List.{AllByRecursion}
use Rattle.flux_defs.specs.declared.vertices.Vertex.{Vertex}
use Rattle.flux_defs.specs.declared.journal.Entry.{Entry}
use Rattle.flux_defs.specs.Scheduler.{IsProper}
use Rattle.flux_defs.specs.Scripts.{line_of}
use Rattle.flux_defs.specs.declared.journal.ClientLine.{ClientLine}
use Rattle.sched_core.specs.Courses.{Course}

-- each of the lines has a command that is proper for the graph
abbrev pub AreProper : List Vertex → List ClientLine → Type 0
AreProper vertices lines = AllByRecursion (λ l. IsProper vertices l.command) lines

-- the new journal has entries more that answer the lines, each once and in their order; the setting stays
pub record IsPlayed (old new : Course) (lines : List ClientLine) : Type 0 where
  pub setting : new.setting ≡ old.setting
  pub history : List Entry
  pub journal : new.journal ≡ old.journal ++ history
  pub lines-are : map line_of history ≡ lines

-- only the lines before one of them were played
pub record IsPlayedInPart (old new : Course) (lines : List ClientLine) : Type 0 where
  pub front : List ClientLine
  pub next : ClientLine
  pub rest : List ClientLine
  pub parts : lines ≡ front ++ next ∷ rest
  pub played : IsPlayed old new front
