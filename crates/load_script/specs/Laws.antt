-- Laws of the input of a load.
use Rattle.std.specs.Prelude.{◌≡◌, ◌≤◌, ℕ, length, None}
use Rattle.flux_defs.specs.declared.limits.TheConstants.{MOST_VERTICES}
use Rattle.resource_graph.specs.NamedGraph.{NamedGraph}
use Rattle.fluxion_lines.specs.declared.commands.Form.TheVariants.{Rfc14}
use Rattle.fluxion_lines.specs.Inputs.{clients_of, over_in}
use Rattle.load_script.specs.declared.lines.TheConstants.{MOST_COMMANDS, LOAD_LIMITS}
use Rattle.load_script.specs.Lines.{load_text}

-- the input of a load is one client's
abbrev pub OneClientLoads : Type 0
OneClientLoads = (commands : ℕ) → commands ≤ MOST_COMMANDS → length (clients_of (load_text commands)) ≤ 1

-- none of the lines of a load is past a limit of loads, over any graph that isn't too large
abbrev pub LoadsPassNoLimit : Type 0
LoadsPassNoLimit = (g : NamedGraph) (commands : ℕ) → length g.resources.vertices ≤ MOST_VERTICES →
    commands ≤ MOST_COMMANDS → over_in LOAD_LIMITS g Rfc14 (load_text commands) ≡ None
