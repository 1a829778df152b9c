-- The properties that a resource set gives to its ranks (RFC 20, `execution.properties`).
use Rattle.std.specs.Prelude.{ℕ, Bool, List, [], ◌∷◌, map, filter, if◌then◌else◌, Option, Some, None, Result, Ok, Err}
use Rattle.std.specs.Prelude.{option_and_then, option_map, codes}
use Rattle.std.specs.List.{list_any}
use Rattle.flux_defs.specs.declared.limits.TheConstants.{MOST_NAME_BYTES}
use Rattle.serde_json.specs.Data.{Data, Members, no_members, member}
use Rattle.serde_json.specs.Find.{as_str, as_object, get}
use Rattle.json_fields.specs.Values.{given}
use Rattle.text_forms.specs.Names.{is_name}
use Rattle.idset_text.specs.declared.idsets.Range.{Range}
use Rattle.idset_text.specs.Idsets.{idset_of, is_within}
use Rattle.graph_from_r.specs.declared.properties.Property.{Property}

-- the ranges of a text that is an idset
abbrev pub ranges_or_none : Result (List Range) ℕ → Option (List Range)
ranges_or_none (Ok ranges) = Some ranges
ranges_or_none (Err at) = None

abbrev pub idset_in : Data → Option (List Range)
idset_in d = option_and_then (λ text. ranges_or_none (idset_of text)) (as_str d)

-- a key that is a name, and an idset
abbrev pub property_of : List ℕ → Data → Option Property
property_of name d = if is_name MOST_NAME_BYTES name
    then option_map (λ ranges. record { name = name; ranks = ranges }) (idset_in d) else None

-- the keys of an object with their idsets, in byte order
abbrev pub properties_from : Members → Option (List Property)
properties_from no_members = Some []
properties_from (member name d ms) =
    option_and_then (λ p. option_map (λ ps. p ∷ ps) (properties_from ms)) (property_of name d)

abbrev pub properties_given : Option Data → Option (List Property)
properties_given None = Some []
properties_given (Some d) = option_and_then properties_from (as_object d)

-- the properties that an `execution` gives: none where there are none or null, and in no form where they are no object
-- from names to idsets
abbrev pub properties_of : Data → Option (List Property)
properties_of execution = properties_given (given (codes "properties") execution)

-- those of a whole value
abbrev pub properties_in : Data → Option (List Property)
properties_in d = option_and_then properties_of (get (codes "execution") d)

-- the property is the rank's
abbrev pub has_rank : ℕ → Property → Bool
has_rank rank p = list_any (λ range. is_within range rank) p.ranks

-- the names of the rank's properties
abbrev pub names_at : List Property → ℕ → List (List ℕ)
names_at properties rank = map (λ p. p.name) (filter (has_rank rank) properties)
