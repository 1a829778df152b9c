-- What the code that tests words holds of them: what may come next, and which names have a value.
use Rattle.std.specs.Prelude.{Bool, true, false, ◌==◌, List, [], ◌∷◌, ◌++◌, Option, Some, None, if◌then◌else◌}
use Rattle.std.specs.Prelude.{option_map}
use Rattle.std.specs.Option.{option_or, option_map_or}
use Rattle.std.specs.Str.{bytes_eq}
use Rattle.command_words.specs.Givens.{Word, dashes, horizon, filters, jobspec, is_empty, begins_with_minus}
use Rattle.command_words.specs.Givens.{rest_behind}
use Rattle.command_words.specs.declared.forms.Name.{Name}
use Rattle.command_words.specs.declared.forms.Name.TheVariants.{Graph, Horizon, Filters, Jobspec}
use Rattle.command_words.specs.declared.forms.Next.{Next}
use Rattle.command_words.specs.declared.forms.Next.TheVariants.{Any, Value, Names}
use Rattle.command_words.specs.declared.forms.Seen.{Seen}
use Rattle.command_words.specs.declared.forms.State.{State}

-- this name has a value
abbrev pub is_seen : Seen → Name → Bool
is_seen seen Graph = seen.graph
is_seen seen Horizon = seen.horizon
is_seen seen Filters = seen.filters
is_seen seen Jobspec = seen.jobspec

abbrev pub marked : Seen → Name → Seen
marked seen Graph = record seen { graph = true }
marked seen Horizon = record seen { horizon = true }
marked seen Filters = record seen { filters = true }
marked seen Jobspec = record seen { jobspec = true }

-- behind an option's name there is nothing (false), or `=` (61) and a value (true)
abbrev pub has_value : Option Word → Option Bool
has_value None = None
has_value (Some []) = Some false
has_value (Some (b ∷ bs)) = if b == 61 then Some true else None

abbrev pub as_named : Name → Word → Word → Option (Name × Bool)
as_named name text word = option_map (λ valued. (name, valued)) (has_value (rest_behind (dashes ++ text) word))

-- the option that a word names, and whether the word has its value
abbrev pub named_option : Word → Option (Name × Bool)
named_option word = option_or (as_named Horizon horizon word)
    (option_or (as_named Filters filters word) (as_named Jobspec jobspec word))

-- a value for this name, which may not have one yet
abbrev pub given_to : Name → Next → Seen → Option State
given_to name next seen = if is_seen seen name then None else Some (record { next = next; seen = marked seen name })

abbrev pub after_option : Option (Name × Bool) → Seen → Option State
after_option None seen = None
after_option (Some (name, true)) seen = given_to name Any seen
after_option (Some (name, false)) seen = Some (record { next = Value name; seen = seen })

abbrev pub after_full : Next → Seen → Word → Option State
after_full Any seen word =
    if bytes_eq word dashes then Some (record { next = Names; seen = seen })
    else if begins_with_minus word then after_option (named_option word) seen
    else given_to Graph Any seen
after_full (Value name) seen word = if begins_with_minus word then None else given_to name Any seen
after_full Names seen word = given_to Graph Names seen

-- the state after a word, if it may come
abbrev pub after_word : State → Word → Option State
after_word state word = if is_empty word then None else after_full state.next state.seen word

-- no option lacks its value, and the graph file is named
abbrev pub is_whole : State → Bool
is_whole state = is_open state.next
  where
    is_open : Next → Bool
    is_open Any = state.seen.graph
    is_open (Value name) = false
    is_open Names = state.seen.graph

-- the words may come one after another, and leave nothing open
abbrev pub goes_on : State → List Word → Bool
goes_on state [] = is_whole state
goes_on state (word ∷ words) = option_map_or (λ next. goes_on next words) (after_word state word) false
