-- A law of the words.
use Rattle.std.specs.Prelude.{◌≡◌, List}
use Rattle.command_words.specs.Givens.{Word}
use Rattle.asked_calls.specs.Calls.{Call, IsCallOf}

-- words are at most one call
abbrev pub WordsAreOneCall : Type 0
WordsAreOneCall = (words : List Word) (a b : Call) → IsCallOf words a → IsCallOf words b → a ≡ b
