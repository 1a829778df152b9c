-- Idsets (RFC 22): which texts are idsets, and which ids they stand for.
use Rattle.std.specs.Prelude.{◌≡◌, ◌<◌, ◌≤◌, ◌⊎◌, ⊤, ℕ, zero, suc, ◌+◌, ◌-◌, ◌==◌, nat_lt, nat_le, Bool, ◌&&◌}
use Rattle.std.specs.Prelude.{if◌then◌else◌, List, [], ◌∷◌, ◌++◌, length, take, slice_index, Option, Some, None, Result}
use Rattle.std.specs.Prelude.{Ok, Err, map, decimal}
use Rattle.std.specs.List.{flat_map, join_with_byte}
use Rattle.std.specs.Option.{option_and_then}
use Rattle.flux_defs.specs.declared.limits.TheConstants.{NO_ID}
use Rattle.idset_text.specs.declared.idsets.Range.{Range}
use Rattle.idset_text.specs.Items.{Item, items_of, ends_of, with_first}
use Rattle.idset_text.specs.Numbers.{has_leading_zero, number_of}

-- ---- the grammar, by what is spelled

-- what each range of an idset keeps
pub record IsRange (range : Range) : Type 0 where
  pub ordered : range.lo ≤ range.hi
  pub small : range.hi < NO_ID

-- each range lies above the one before, the first at `least` or above
abbrev pub Rises : ℕ → List Range → Type 0
Rises least [] = ⊤
Rises least (range ∷ ranges) = (least ≤ range.lo) × IsRange range × Rises (range.hi + 1) ranges

-- an item is an id in decimal digits, or two with a dash (45) between
abbrev pub IsItem : List ℕ → Range → Type 0
IsItem item range = IsRange range
    × (((item ≡ decimal range.lo) × (range.lo ≡ range.hi)) ⊎ (item ≡ decimal range.lo ++ 45 ∷ decimal range.hi))

-- the items are those of rising ranges
abbrev pub AreItems : ℕ → List (List ℕ) → List Range → Type 0
AreItems least [] [] = ⊤
AreItems least [] (range ∷ ranges) = ⊥
AreItems least (item ∷ items) [] = ⊥
AreItems least (item ∷ items) (range ∷ ranges) =
    (least ≤ range.lo) × IsItem item range × AreItems (range.hi + 1) items ranges

-- a list of items with commas (44) between
abbrev pub IsCommaList : List ℕ → List Range → Type 0
IsCommaList text ranges = (item : List ℕ)
    × (items : List (List ℕ)) × AreItems 0 (item ∷ items) ranges × (text ≡ join_with_byte 44 (item ∷ items))

-- an idset is empty, or such a list, maybe between one '[' (91) and one ']' (93)
abbrev pub IsIdset : List ℕ → List Range → Type 0
IsIdset text ranges = ((text ≡ []) × (ranges ≡ []))
    ⊎ (IsCommaList text ranges ⊎ ((inner : List ℕ) × IsCommaList inner ranges × (text ≡ 91 ∷ (inner ++ 93 ∷ []))))

-- ---- the grammar, item by item

-- an id: digits without a leading zero, below the number that is none
abbrev pub id_of : List ℕ → Option ℕ
id_of bytes = if has_leading_zero bytes
    then None else option_and_then (λ number. if nat_lt number NO_ID then Some number else None) (number_of bytes)

-- the ids from one on and up to another that isn't below it
abbrev pub range_between : Option ℕ → Option ℕ → Option Range
range_between (Some lo) (Some hi) = if nat_le lo hi then Some (record { lo = lo; hi = hi }) else None
range_between (Some lo) None = None
range_between None hi = None

-- an item: an id alone, or two with a dash between
abbrev pub range_of : List ℕ → Option Range
range_of bytes = let ends = ends_of bytes in range_between (id_of ends.0) (id_of ends.1)

-- an item that begins at `least` or above
abbrev pub range_from : ℕ → List ℕ → Option Range
range_from least bytes = option_and_then (λ range. if nat_le least range.lo then Some range else None) (range_of bytes)

-- the item's range and those behind it; where it has none, its place
abbrev pub with_range : ℕ → Option Range → (Range → Result (List Range) ℕ) → Result (List Range) ℕ
with_range at None others = Err at
with_range at (Some range) others = with_first (range ∷ []) (others range)

-- the items' ranges, each above the one before, the first at `least` or above; else the place of the first item that
-- breaks this
abbrev pub ranges_of : ℕ → List Item → Result (List Range) ℕ
ranges_of least [] = Ok []
ranges_of least (item ∷ items) =
    with_range item.at (range_from least item.bytes) (λ range. ranges_of (range.hi + 1) items)

-- a text from '[' (91) to ']' (93)
abbrev pub is_bracketed : List ℕ → Bool
is_bracketed text = (slice_index text 0 == 91) && (slice_index text (length text - 1) == 93)

-- an idset: nothing, or items, maybe between brackets
abbrev pub idset_of : List ℕ → Result (List Range) ℕ
idset_of [] = Ok []
idset_of (byte ∷ bytes) = let text = byte ∷ bytes in
    if is_bracketed text then ranges_of 0 (items_of 1 (take (length text - 2) bytes)) else ranges_of 0 (items_of 0 text)

-- ---- the meaning

-- whether an id lies in a range
abbrev pub is_within : Range → ℕ → Bool
is_within range id = nat_le range.lo id && nat_le id range.hi

-- so many ids from one on
abbrev pub ids_from : ℕ → ℕ → List ℕ
ids_from zero id = []
ids_from (suc count) id = id ∷ ids_from count (id + 1)

abbrev pub ids_between : Range → List ℕ
ids_between range = ids_from (range.hi + 1 - range.lo) range.lo

-- the ids that ranges stand for, in order
abbrev pub ids_of : List Range → List ℕ
ids_of ranges = flat_map ids_between ranges

-- ---- the text

-- a run before others: it goes on as the first of these where that begins with the next id
abbrev pub with_run : Range → List Range → List Range
with_run run [] = run ∷ []
with_run run (next ∷ runs) =
    if next.lo == run.hi + 1 then (record { lo = run.lo; hi = next.hi } ∷ runs) else (run ∷ next ∷ runs)

-- one id as a run
abbrev pub run_of : ℕ → Range
run_of id = record { lo = id; hi = id }

-- the longest runs of ids that follow one another
abbrev pub runs_of : List ℕ → List Range
runs_of [] = []
runs_of (id ∷ ids) = with_run (run_of id) (runs_of ids)

-- a run of one is its id, a longer one has its ends with a dash (45) between
abbrev pub range_text : Range → List ℕ
range_text range = if range.lo == range.hi then decimal range.lo else (decimal range.lo ++ 45 ∷ decimal range.hi)

-- the runs with commas (44) between
abbrev pub runs_text : List Range → List ℕ
runs_text runs = join_with_byte 44 (map range_text runs)

abbrev pub idset_text : List ℕ → List ℕ
idset_text ids = runs_text (runs_of ids)

-- the text is an idset of these ids
abbrev pub IsIdsetOf : List ℕ → List ℕ → Type 0
IsIdsetOf text ids = (ranges : List Range) × (idset_of text ≡ Ok ranges) × (ids_of ranges ≡ ids)

-- no idset of these ids is shorter
abbrev pub IsShortestOf : List ℕ → List ℕ → Type 0
IsShortestOf text ids = (other : List ℕ) → IsIdsetOf other ids → length text ≤ length other
