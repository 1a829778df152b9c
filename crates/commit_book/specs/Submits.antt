-- What came of one search for a submit.
use Rattle.std.specs.Prelude.{◌≡◌, ℕ, List, [], ◌∷◌, ◌++◌}
use Rattle.flux_defs.specs.declared.journal.Command.{Command}
use Rattle.flux_defs.specs.declared.journal.Entry.{Entry}
use Rattle.flux_defs.specs.Placed.{IsPlaced}
use Rattle.commit_book.specs.declared.submitting.Try.{Try}
use Rattle.commit_book.specs.declared.submitting.Try.TheVariants as try

-- the entry was placed, and its position gained; or the command came back, and nothing was gained
abbrev pub IsTried : ℕ → ℕ → Command → List Entry → List ℕ → List Entry → List ℕ → Try → Type 0
IsTried client line command seen mine seen' mine' (try.Placed at) =
    IsPlaced client line command at seen seen' × (mine' ≡ mine ++ at ∷ [])
IsTried client line command seen mine seen' mine' (try.Overtaken back) = (back ≡ command) × (mine' ≡ mine)
