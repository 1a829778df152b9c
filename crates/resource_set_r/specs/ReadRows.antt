-- What a resource set says of its ranks.
use Rattle.std.specs.Prelude.{ℕ, suc, nat_le, ◌<◌, ◌^◌, ◌-◌, ◌==◌, List, [], ◌∷◌, if◌then◌else◌, Option, Some, None}
use Rattle.std.specs.Prelude.{Result, Ok, Err, MatchOption, codes}
use Rattle.std.specs.List.{flat_map, count_by}
use Rattle.std.specs.Result.{result_map_both}
use Rattle.serde_json.specs.Data.{Data, Items, no_items, item}
use Rattle.serde_json.specs.Find.{get, as_str}
use Rattle.json_whole.specs.Field.{text_or_kind, text_field, u64_field}
use Rattle.json_fields.specs.Values.{result_and_then, object_value, object_field, list_field}
use Rattle.idset_text.specs.declared.idsets.Range.{Range}
use Rattle.idset_text.specs.Idsets.{idset_of, is_within}
use Rattle.resource_set_r.specs.declared.faults.FieldPath.{FieldPath}
use Rattle.resource_set_r.specs.declared.faults.FieldPath.TheVariants as field
use Rattle.resource_set_r.specs.declared.faults.Misread.{Misread}
use Rattle.resource_set_r.specs.declared.faults.Misread.TheVariants.{Version, Idset}
use Rattle.resource_set_r.specs.declared.sets_read.RRow.{RRow}
use Rattle.resource_set_r.specs.Misreads.{at_field}

-- ---- idsets

-- what is read of an idset at a place
abbrev pub idset_read : FieldPath → Result (List Range) ℕ → Result (List Range) Misread
idset_read at (Ok ranges) = Ok ranges
idset_read at (Err k) = Err (Idset at)

-- the idset that a text is
abbrev pub idset_text_at : FieldPath → List ℕ → Result (List Range) Misread
idset_text_at at text = idset_read at (idset_of text)

-- the idset that a value is, and nothing where there is none
abbrev pub idset_or_none : FieldPath → Option Data → Result (List Range) Misread
idset_or_none at None = Ok []
idset_or_none at (Some d) = result_and_then (at_field at (text_or_kind (as_str d))) (idset_text_at at)

-- the idset at a key, which is required
abbrev pub idset_field : FieldPath → List ℕ → Data → Result (List Range) Misread
idset_field at key d = result_and_then (at_field at (text_field key d)) (idset_text_at at)

-- ---- one element of R_lite

-- the children of these ranks
abbrev pub row_with : ℕ → List Range → Data → Result RRow Misread
row_with at ranks children =
    result_and_then (idset_or_none (field.Core at) (get (codes "core") children)) (λ cores.
    result_and_then (idset_or_none (field.Gpu at) (get (codes "gpu") children)) (λ gpus.
    Ok (record { ranks = ranks; cores = cores; gpus = gpus })))

-- the element that an object is
abbrev pub row_in : ℕ → Data → Result RRow Misread
row_in at d =
    result_and_then (idset_field (field.Rank at) (codes "rank") d) (λ ranks.
    result_and_then (at_field (field.Children at) (object_field (codes "children") d)) (row_with at ranks))

-- the element that the value with this index is
abbrev pub row_of : ℕ → Data → Result RRow Misread
row_of at d = result_and_then (at_field (field.Row at) (object_value d)) (row_in at)

-- the elements of a list from this index on, and the first fault where one can't be read
abbrev pub rows_from : ℕ → Items → Result (List RRow) Misread
rows_from at no_items = Ok []
rows_from at (item d ds) =
    result_and_then (row_of at d) (λ row. result_map_both (λ rows. row ∷ rows) (λ m. m) (rows_from (suc at) ds))

-- ---- the whole, as far as the ranks

-- the version is 1
abbrev pub version_of : Data → Result ℕ Misread
version_of d = result_and_then (at_field field.Version (u64_field (codes "version") 0 (2 ^ 64 - 1) d))
    (λ n. if n == 1 then Ok n else Err Version)

-- what stands at `execution`
abbrev pub execution_of : Data → Result Data Misread
execution_of d = result_and_then (at_field field.Whole (object_value d)) (λ whole.
    result_and_then (version_of whole) (λ n.
    at_field field.Execution (object_field (codes "execution") whole)))

-- the elements of R_lite in `execution`
abbrev pub rows_in : Data → Result (List RRow) Misread
rows_in e = result_and_then (at_field field.RLite (list_field (codes "R_lite") e)) (rows_from 0)

-- ---- ranks

-- the ranges of the elements' ranks
abbrev pub ranges_in : List RRow → List Range
ranges_in rows = flat_map (λ row. row.ranks) rows

-- how many of the ranges have a rank
abbrev pub covers : List Range → ℕ → ℕ
covers ranges rank = count_by (λ range. is_within range rank) ranges

-- two of the ranges have the rank
abbrev pub IsCoveredTwice : List Range → ℕ → Type 0
IsCoveredTwice ranges rank = 1 < covers ranges rank

-- it is the least such rank, and none exactly where there is none
abbrev pub IsRepeatedRank : List Range → Option ℕ → Type 0
IsRepeatedRank ranges found =
    MatchOption found ((rank : ℕ) → IsCoveredTwice ranges rank → ⊥)
    (λ rank. IsCoveredTwice ranges rank × ((q : ℕ) → q < rank → IsCoveredTwice ranges q → ⊥))

-- ---- for private clauses

-- the first start of a range that is not above the end of the one before
abbrev pub overlap_from : Range → List Range → Option ℕ
overlap_from last [] = None
overlap_from last (range ∷ ranges) = if nat_le range.lo last.hi then Some range.lo else overlap_from range ranges
