-- What the words after the program's name ask for.
use Rattle.flux_defs.specs.declared.limits.TheConstants.{LATEST_HORIZON}
use Rattle.std.specs.Prelude.{◌≡◌, ℕ, ◌≤◌, List, ◌∷◌, All, IsUtf8, codes, Option, Some, None, unwrap_or, string_bytes}
use Rattle.text_forms.specs.Numbers.{number_in}
use Rattle.prune_filters.specs.declared.rules.Rule.{Rule}
use Rattle.prune_filters.specs.Filters.{AreRulesOf}
use Rattle.command_words.specs.Givens.{Word}
use Rattle.command_words.specs.Values.{Values, values_in}
use Rattle.load_script.specs.declared.lines.TheConstants.{MOST_COMMANDS}
use Rattle.fluxion_lines.specs.declared.commands.Form.{Form}
use Rattle.fluxion_lines.specs.declared.commands.Form.TheVariants.{V1, Rfc14}
use Rattle.asked_calls.specs.declared.calls.Serving.{Serving}
use Rattle.asked_calls.specs.declared.calls.Asked.{Asked}
use Rattle.asked_calls.specs.declared.calls.Asked.TheVariants as asked

-- A graph file, the second at which time ends, filter rules, and how the jobspecs are written.
pub record Served : Type 0 where
  pub name : List ℕ
  pub horizon : ℕ
  pub rules : List Rule
  pub form : Form

-- What is asked for: to answer the input's lines over the graph of a file; to write that graph; or to play the load of
-- so many commands and to write its counts.
pub data Call : Type 0 where
  serve : Served → Call
  print : List ℕ → Call
  load : ℕ → Call

-- ---- values of options

-- the word is a horizon in seconds
pub record IsHorizon (word : List ℕ) (horizon : ℕ) : Type 0 where
  pub number : number_in word ≡ Some horizon
  pub least : 1 ≤ horizon
  pub most : horizon ≤ LATEST_HORIZON

-- without the option time ends after ten years of 365 days
abbrev pub IsHorizonOf : Option Word → ℕ → Type 0
IsHorizonOf None horizon = horizon ≡ 315360000
IsHorizonOf (Some word) horizon = IsHorizon word horizon

-- without the option the cores below each vertex are counted
abbrev pub AreFiltersOf : Option Word → List Rule → Type 0
AreFiltersOf list rules = AreRulesOf (unwrap_or list (codes "ALL:core")) rules

abbrev pub form_word : Form → Word
form_word V1 = codes "v1"
form_word Rfc14 = codes "rfc14"

-- without the option jobspecs are in the canonical form
abbrev pub IsFormOf : Option Word → Form → Type 0
IsFormOf None form = form ≡ Rfc14
IsFormOf (Some word) form = word ≡ form_word form

-- the word is how many commands a load has
pub record IsCommandCount (word : List ℕ) (commands : ℕ) : Type 0 where
  pub number : number_in word ≡ Some commands
  pub least : 1 ≤ commands
  pub most : commands ≤ MOST_COMMANDS

-- ---- forms of the words

-- the values ask to serve so
pub record IsServing (values : Values) (served : Served) : Type 0 where
  pub name : served.name ≡ values.graph
  pub horizon : IsHorizonOf values.horizon served.horizon
  pub rules : AreFiltersOf values.filters served.rules
  pub form : IsFormOf values.jobspec served.form

-- a graph file's name without an option
abbrev pub only_name : Word → Values
only_name name = record { graph = name; horizon = None; filters = None; jobspec = None }

-- the words are this command, and words that give these values
pub record AreWordsOf (command : Word) (words : List Word) (values : Values) : Type 0 where
  pub behind : List Word
  pub words-are : words ≡ command ∷ behind
  pub values-are : values_in behind ≡ Some values

abbrev pub IsInForm : List Word → Call → Type 0
IsInForm words (serve served) = (values : Values) × AreWordsOf (codes "serve") words values × IsServing values served
IsInForm words (print name) = AreWordsOf (codes "graph") words (only_name name)
IsInForm words (load commands) =
    (word : Word) × AreWordsOf (codes "load") words (only_name word) × IsCommandCount word commands

-- The words are this call: `serve GRAPH [--horizon N] [--filters LIST] [--jobspec FORM]`, `graph GRAPH` or `load N`.
-- They are at most one.
pub record IsCallOf (words : List Word) (call : Call) : Type 0 where
  pub utf8 : All IsUtf8 words
  pub form : IsInForm words call

-- ---- what the code holds

abbrev pub served_held : Serving → Served
served_held serving = record {
  name = string_bytes serving.name;
  horizon = serving.horizon;
  rules = serving.rules;
  form = serving.form;
}

abbrev pub call_held : Asked → Call
call_held (asked.Serve serving) = serve (served_held serving)
call_held (asked.Print name) = print (string_bytes name)
call_held (asked.Load commands) = load commands
