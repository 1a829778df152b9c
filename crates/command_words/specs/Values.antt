-- The values that the words after a command give.
use Rattle.std.specs.Prelude.{List, Option, option_map, option_and_then}
use Rattle.command_words.specs.Givens.{Word, Given, graph, horizon, filters, jobspec, given_by, value_of}
use Rattle.command_words.specs.declared.reading.WordValues.{WordValues}

-- The name of the graph file, and what the options are given.
pub record Values : Type 0 where
  pub graph : Word
  pub horizon : Option Word
  pub filters : Option Word
  pub jobspec : Option Word

abbrev pub values_of : Word → List Given → Values
values_of name givens = record {
  graph = name;
  horizon = value_of horizon givens;
  filters = value_of filters givens;
  jobspec = value_of jobspec givens;
}

abbrev pub values_given : List Given → Option Values
values_given givens = option_map (λ name. values_of name givens) (value_of graph givens)

-- the values that the words give, if they are in form
abbrev pub values_in : List Word → Option Values
values_in words = option_and_then values_given (given_by words)

-- ---- what the code holds

abbrev pub values_held : WordValues → Values
values_held values = record {
  graph = values.graph.now;
  horizon = option_map (λ text. text.now) values.horizon;
  filters = option_map (λ text. text.now) values.filters;
  jobspec = option_map (λ text. text.now) values.jobspec;
}
