-- What the words after a command give: options with their values, and the name of a graph file.
use Rattle.std.specs.Prelude.{ℕ, List, [], ◌∷◌, ◌++◌, Bool, true, false, not, ◌&&◌, ◌==◌, if◌then◌else◌, codes, Option}
use Rattle.std.specs.Prelude.{Some, None, option_map, option_and_then, find}
use Rattle.std.specs.List.{list_any}
use Rattle.std.specs.Option.{option_or}
use Rattle.std.specs.Str.{bytes_eq}

abbrev pub Word : Type 0
Word = List ℕ

-- a name, and the value that the words give it
abbrev pub Given : Type 0
Given = Word × Word

-- ---- names

abbrev pub graph : Word
graph = codes "graph"

abbrev pub horizon : Word
horizon = codes "horizon"

abbrev pub filters : Word
filters = codes "filters"

abbrev pub jobspec : Word
jobspec = codes "jobspec"

-- ---- one word

abbrev pub is_empty : Word → Bool
is_empty [] = true
is_empty (b ∷ bs) = false

abbrev pub begins_with_minus : Word → Bool
begins_with_minus [] = false
begins_with_minus (b ∷ bs) = b == 45

-- `--`, which ends the options
abbrev pub dashes : Word
dashes = 45 ∷ 45 ∷ []

-- what a word says behind this text, where it begins so
abbrev pub rest_behind : Word → Word → Option Word
rest_behind [] word = Some word
rest_behind (a ∷ text) [] = None
rest_behind (a ∷ text) (b ∷ word) = if b == a then rest_behind text word else None

-- behind the name of an option there is nothing, or `=` (61) and its value
abbrev pub behind_name : Word → Option Word → Option (Word × Option Word)
behind_name name None = None
behind_name name (Some []) = Some (name, None)
behind_name name (Some (b ∷ value)) = if b == 61 then Some (name, Some value) else None

abbrev pub as_option : Word → Word → Option (Word × Option Word)
as_option name word = behind_name name (rest_behind (dashes ++ name) word)

-- `--NAME` or `--NAME=VALUE`: the option's name, and its value if the word has it
abbrev pub option_of : Word → Option (Word × Option Word)
option_of word = option_or (as_option horizon word) (option_or (as_option filters word) (as_option jobspec word))

-- ---- all words

-- What may come next: an option or the graph file's name; the value of this option; or, behind `--`, such names alone.
pub data Next : Type 0 where
  anything : Next
  value_for : Word → Next
  only_names : Next

abbrev pub and_given : Given → Option (List Given) → Option (List Given)
and_given given = option_map (λ givens. given ∷ givens)

-- an option's word, and what the words behind it give
abbrev pub from_option : Option (Word × Option Word) → (Next → Option (List Given)) → Option (List Given)
from_option None behind = None
from_option (Some (name, Some v)) behind = and_given (name, v) (behind anything)
from_option (Some (name, None)) behind = behind (value_for name)

-- a word that isn't empty, and what the words behind it give
abbrev pub from_word : Next → Word → (Next → Option (List Given)) → Option (List Given)
from_word anything word behind =
    if bytes_eq word dashes then behind only_names
    else if begins_with_minus word then from_option (option_of word) behind
    else and_given (graph, word) (behind anything)
from_word (value_for name) word behind = if begins_with_minus word then None else and_given (name, word)
    (behind anything)
from_word only_names word behind = and_given (graph, word) (behind only_names)

-- no word is left: then no option may lack its value
abbrev pub at_end : Next → Option (List Given)
at_end anything = Some []
at_end (value_for name) = None
at_end only_names = Some []

-- what the words give, in their order, where this may come next
unfoldable pub given_from : Next → List Word → Option (List Given)
given_from next [] = at_end next
given_from next (word ∷ words) = if is_empty word then None else from_word next word (λ n. given_from n words)

-- ---- each name once

-- one of them has this name
abbrev pub has : Word → List Given → Bool
has name = list_any (λ given. bytes_eq given.0 name)

-- each has a name that none before it has, nor one of these
abbrev pub are_new : List Given → List Given → Bool
are_new seen [] = true
are_new seen (given ∷ givens) = not (has given.0 seen) && are_new (seen ++ given ∷ []) givens

abbrev pub if_complete : List Given → Option (List Given)
if_complete givens = if are_new [] givens && has graph givens then Some givens else None

-- what the words give: each name at most once, and the graph file's
abbrev pub given_by : List Word → Option (List Given)
given_by words = option_and_then if_complete (given_from anything words)

-- the value that is given to this name
abbrev pub value_of : Word → List Given → Option Word
value_of name givens = option_map (λ given. given.1) (find (λ given. bytes_eq given.0 name) givens)
