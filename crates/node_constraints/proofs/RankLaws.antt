-- Idsets as stretches have the same numbers.
use Rattle.std.proofs.Common.{◌≡◌, refl, ◌∙◌, ap, ℕ, ◌==◌, ◌||◌, Bool, true, false, List, [], ◌∷◌, ◌++◌, map, eqb-true}
use Rattle.std.proofs.Common.{eq-eqb}
use Rattle.std.specs.List.{list_any, flat_map}
use Rattle.covered_numbers.specs.declared.stretches.Stretch.{Stretch}
use Rattle.covered_numbers.specs.Covers.{has_number, is_covered}
use Rattle.idset_text.specs.declared.idsets.Range.{Range}
use Rattle.idset_text.specs.Idsets.{ids_of, is_within}
use Rattle.idset_text.proofs.IdsetLemmas.{has_when_within, within_when_has}
use Rattle.node_constraints.specs.Ranked.{stretch_of, is_in_some}
use Rattle.node_constraints.proofs.TextLaws.{is_any}

covered_either : (xs ys : List Stretch) (id : ℕ) → is_covered (xs ++ ys) id ≡ is_covered xs id || is_covered ys id
covered_either [] ys id = refl
covered_either (x ∷ xs) ys id = ap (λ b. has_number id x || b) (covered_either xs ys id) ∙ grouped (has_number id x)
  where
    grouped : (b : Bool) → (b || (is_covered xs id || is_covered ys id)) ≡ ((b || is_covered xs id) || is_covered ys id)
    grouped true = refl
    grouped false = refl

within_some : (ranges : List Range) (id : ℕ) → is_covered (map stretch_of ranges) id
    ≡ list_any (λ range. is_within range id) ranges
within_some [] id = refl
within_some (r ∷ rs) id = ap (λ b. is_within r id || b) (within_some rs id)

of_one : (ranges : List Range) (id : ℕ) → is_covered (map stretch_of ranges) id
    ≡ list_any (λ i. i == id) (ids_of ranges)
of_one ranges id = within_some ranges id
    ∙ is_any (λ i. i == id) id (λ i same. eqb-true i id same) (eq-eqb id id refl)
    (list_any (λ range. is_within range id) ranges) (ids_of ranges)
    (has_when_within ranges id, within_when_has ranges id)

pub of_all : (sets : List (List Range)) (id : ℕ) → is_covered (flat_map (map stretch_of) sets) id ≡ is_in_some sets id
of_all [] id = refl
of_all (ranges ∷ sets) id = covered_either (map stretch_of ranges) (flat_map (map stretch_of) sets) id
    ∙ (ap (λ b. b || is_covered (flat_map (map stretch_of) sets) id) (of_one ranges id)
    ∙ ap (λ b. list_any (λ i. i == id) (ids_of ranges) || b) (of_all sets id))
