-- One more item of a loop.
use Rattle.std.proofs.Common.{◌≡◌, ℕ, ◌+◌, ◌<◌, true, false, cond, List, [], ◌∷◌, ◌++◌, map, drop, refl, ap}
use Rattle.std.proofs.Common.{length, get_or, Some, append_assoc, ◌||◌, Option, None}
use Rattle.std.specs.Prelude.{filter, option_map}
use Rattle.std.specs.List.{list_any}
use Rattle.std.proofs.lemmas.Option.{slice_get_read}
use Rattle.list_laws.proofs.Lists.{drop_here}
use Rattle.covered_numbers.specs.Covers.{is_covered}
use Rattle.idset_text.specs.declared.idsets.Range.{Range}
use Rattle.idset_text.specs.Idsets.{is_within}
use Rattle.graph_from_r.specs.declared.places.Place.{Place}
use Rattle.graph_from_r.specs.declared.properties.Property.{Property}
use Rattle.graph_from_r.specs.Properties.{has_rank, names_at}
use Rattle.graph_from_r.specs.Stretches.{stretches_of}
use Rattle.graph_from_r.specs.Nodes.{plain_name, names_for}

-- what is left begins with the item at the index
pub left_first : {X : Type 0} (xs : List X) (k : ℕ) (x : X) → k < length xs → x ≡ get_or xs k x →
    drop k xs ≡ x ∷ drop (k + 1) xs
left_first xs k x lt is = drop_here xs k x (slice_get_read xs (length xs) k x refl lt is)

pub name_yes : (p : Property) (ps : List Property) (rank : ℕ) → has_rank rank p ≡ true →
    names_at (p ∷ ps) rank ≡ p.name ∷ names_at ps rank
name_yes p ps rank e = ap (λ b. map (λ (q : Property). q.name) (cond b (p ∷ filter (has_rank rank) ps)
    (filter (has_rank rank) ps))) e

pub name_no : (p : Property) (ps : List Property) (rank : ℕ) → has_rank rank p ≡ false →
    names_at (p ∷ ps) rank ≡ names_at ps rank
name_no p ps rank e = ap (λ b. map (λ (q : Property). q.name) (cond b (p ∷ filter (has_rank rank) ps)
    (filter (has_rank rank) ps))) e

-- the stretches of ranges cover what they have
pub covers_same : (ranges : List Range) (id : ℕ) →
    is_covered (stretches_of ranges) id ≡ list_any (λ range. is_within range id) ranges
covers_same [] id = refl
covers_same (range ∷ ranges) id = ap (λ b. is_within range id || b) (covers_same ranges id)

-- the names of nodes are those of the hosts, where there are some
pub given_names : (ranks : List ℕ) (hosts : List (List ℕ)) → (hosts ≡ [] → ⊥) → hosts ≡ names_for ranks hosts
given_names ranks [] some = absurd (some refl)
given_names ranks (host ∷ hosts) some = refl

-- and else the plain ones
pub plain_are : (places : List Place) → map (λ (p : Place). plain_name p.rank) places
    ≡ map plain_name (map (λ (p : Place). p.rank) places)
plain_are [] = refl
plain_are (p ∷ places) = ap (λ ns. plain_name p.rank ∷ ns) (plain_are places)

-- one more item before those that are left
pub joined : {X : Type 0} (old : List X) (x : X) (rest : Option (List X)) →
    option_map (λ others. (old ++ x ∷ []) ++ others) rest
    ≡ option_map (λ others. old ++ others) (option_map (λ others. x ∷ others) rest)
joined old x None = refl
joined old x (Some others) = ap Some (append_assoc old (x ∷ []) others)
