-- The options and the operand, as clap's command line has them.
use Rattle.std.specs.Prelude.{[], ◌∷◌, Some, true, codes}
use Rattle.clap.specs.Walk.{Rule}
use Rattle.clap.specs.Simple.{App, Shape, new_rule, new_shape}
use Rattle.command_words.specs.Givens.{Word, graph, horizon, filters, jobspec}

-- an option with a value
abbrev pub option_rule : Word → Rule
option_rule name = record (new_rule name) { long = Some name }

abbrev pub graph_rule : Rule
graph_rule = record (new_rule graph) { required = true }

abbrev pub words_shape : Shape
words_shape = record (new_shape (codes "fluxion")) {
  rules = option_rule horizon ∷ option_rule filters ∷ option_rule jobspec ∷ graph_rule ∷ [];
  no_binary_name = true;
  disable_help_flag = true;
  disable_version_flag = true;
}

abbrev pub words_app : App
words_app = record { top = words_shape; subs = [] }
