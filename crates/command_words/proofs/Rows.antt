-- What clap's walk holds once options and the graph file have their values.
use Rattle.std.proofs.Common.{◌≡◌, List, [], ◌∷◌, ◌++◌, map, Bool, true, false, ◌||◌, if◌then◌else◌, Some, None}
use Rattle.std.proofs.Common.{bytes_eq, refl, sym, ap, ◌∙◌, true≢false, append-nil}
use Rattle.std.proofs.lemmas.Bool.{or_parts}
use Rattle.clap.specs.Walk.{Rule, Row, action_of, reading_by, most_values, at_row, with_values, used, more_values}
use Rattle.clap.specs.Walk.{has_row}
use Rattle.clap.specs.Facts.{unwrap_or_range}
use Rattle.clap.specs.Takes.{value_passes, use_passes}
use Rattle.clap.specs.declared.builder.action.ArgAction.TheVariants.{Set}
use Rattle.clap.specs.declared.builder.range.ValueRange.{ValueRange}
use Rattle.clap.specs.declared.builder.value_parser.Reading.{Reading}
use Rattle.clap.specs.declared.parser.matches.ValueSource.TheVariants.{CommandLine}
use Rattle.command_words.specs.Givens.{Word, Given, has}

abbrev pub one : ValueRange
one = record { start_inclusive = 1; end_inclusive = 1 }

-- an argument with one value, of any text
pub record Single (how : Reading) (a : Rule) (name : Word) : Type 0 where
  pub id : a.id ≡ name
  pub set : action_of a ≡ Set
  pub range : unwrap_or_range a.range ≡ one
  pub reads : reading_by a ≡ how
  pub passes : (v : Word) → value_passes a v ≡ true
  pub no_last : a.trailing_var_arg ≡ false

module _ (how : Reading) where
  abbrev pub row : Given → Row
  row u = record { id = u.0; values = u.1 ∷ []; count = None; source = Some CommandLine; reading = how }

  abbrev pub rows : List Given → List Row
  rows = map row

  at_new_by : (id : Word) (change : Row → List Row) (missing : List Row) (u : Given) (us : List Given) (b : Bool) →
      bytes_eq u.0 id ≡ b → (b || has id us) ≡ false
      → at_row id change missing (rows us) ≡ rows us ++ missing
      → (if b then change (row u) ++ rows us else row u ∷ at_row id change missing (rows us)) ≡ row u ∷
      (rows us ++ missing)
  at_new_by id change missing u us true e h rest = absurd (true≢false h)
  at_new_by id change missing u us false e h rest = ap (λ l. row u ∷ l) rest

  pub at_new : (id : Word) (change : Row → List Row) (missing : List Row) (us : List Given) → has id us ≡ false →
      at_row id change missing (rows us) ≡ rows us ++ missing
  at_new id change missing [] h = refl
  at_new id change missing (u ∷ us) h = at_new_by id change missing u us (bytes_eq u.0 id) refl h
      (at_new id change missing us (or_parts (bytes_eq u.0 id) (has id us) h).1)

  pub has_row_rows : (id : Word) (us : List Given) → has_row id (rows us) ≡ has id us
  has_row_rows id [] = refl
  has_row_rows id (u ∷ us) = ap (λ b. bytes_eq u.0 id || b) (has_row_rows id us)

  rows-append : (us vs : List Given) → rows (us ++ vs) ≡ rows us ++ rows vs
  rows-append [] vs = refl
  rows-append (u ∷ us) vs = ap (λ l. row u ∷ l) (rows-append us vs)

  pub used_single : (a : Rule) (name v : Word) (us : List Given) → Single how a name → has name us ≡ false → used a
      (v ∷ []) (rows us) ≡ rows (us ++ (name, v) ∷ [])
  used_single a name v us s h =
      rw (s.set, s.id, s.reads) (
      ap (λ l. with_values name how CommandLine (v ∷ []) l) (at_new name (λ _. []) [] us h ∙ append-nil (rows us))
      ∙ at_new name (more_values CommandLine (v ∷ [])) (row (name, v) ∷ []) us h ∙ sym
      (rows-append us ((name, v) ∷ [])))

  pub use_single : (a : Rule) (name v : Word) (us : List Given) → Single how a name → has name us ≡ false →
      use_passes false a (v ∷ []) (rows us) ≡ true
  use_single a name v us s h =
      let most : most_values a ≡ 1 = ap (λ r. r.end_inclusive) s.range in
      rw (s.range, most, s.set, s.id, has_row_rows name us, h, s.passes v) refl
