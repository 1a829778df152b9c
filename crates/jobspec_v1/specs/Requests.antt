-- Request vertices (RFC 14) as a jobspec writes them: what each says, and the first fault of them.
use Rattle.flux_defs.specs.declared.limits.TheConstants.{GREATEST_NUMBER, MOST_TYPE_BYTES}
use Rattle.std.specs.Prelude.{ℕ, ◌&&◌, ◌||◌, List, [], ◌∷◌, ◌++◌, ◌+◌, Bool, true, false, not, if◌then◌else◌}
use Rattle.std.specs.Prelude.{Option, Some, None, is_some, option_map, Result, Ok, Err, codes, bytes_eq, position}
use Rattle.std.specs.List.{list_all}
use Rattle.std.specs.Option.{option_map_or}
use Rattle.std.specs.Ordering.{nat_cmp, match_ordering}
use Rattle.std.specs.Cmp.Lexicographic.{slice_cmp}
use Rattle.std.specs.Result.{result_map_both}
use Rattle.serde_json.specs.Data.{Data, null, boolean, number, string, array, object, Items, no_items, item, Members}
use Rattle.serde_json.specs.Data.{no_members, member}
use Rattle.serde_json.specs.Find.{get, as_bool, as_str, as_object}
use Rattle.json_whole.specs.Values.{items_view}
use Rattle.json_whole.specs.Field.{u64_field, text_field}
use Rattle.json_whole.specs.declared.fields.FieldFault.{FieldFault}
use Rattle.json_whole.specs.declared.fields.FieldFault.TheVariants.{Missing, Kind}
use Rattle.json_fields.specs.Values.{result_and_then, keys_of, list_value, some_value}
use Rattle.json_fields.specs.Names.{ruled_field}
use Rattle.text_forms.specs.Names.{is_name}
use Rattle.text_table.specs.Tables.{with_text}
use Rattle.need_shape.specs.declared.raw.RawNeed.{RawNeed, roll-RawNeed}
use Rattle.need_shape.specs.Requests.{is_slot}
use Rattle.jobspec_v1.specs.declared.requests.Requested.{Requested}
use Rattle.jobspec_v1.specs.declared.faults.SpecFault.{SpecFault}
use Rattle.jobspec_v1.specs.declared.headers.VertexKey.TheVariants as key
use Rattle.jobspec_v1.specs.declared.headers.KeyFault.{KeyFault}
use Rattle.jobspec_v1.specs.declared.headers.KeyFault.TheVariants as of_key
use Rattle.json_fields.specs.Misfits.{at_field}
use Rattle.jobspec_v1.specs.declared.headers.Header.{Header}
use Rattle.jobspec_v1.specs.Faults.{at_vertex, vertex_path, KeyMisfit}

-- What a request vertex says of itself: its type, its count, whether it is asked for exclusively, its label where it is
-- a slot, and the values of the list in it.
pub record Said : Type 0 where
  pub kind : List ℕ
  pub count : ℕ
  pub exclusive : Option Bool
  pub label : Option (List ℕ)
  pub with : Items

-- ---- the keys of one

abbrev pub of_field : {A : Type 0} → Result A FieldFault → Result A KeyFault
of_field field = result_map_both (λ x. x) (λ fault. of_key.Field fault) field

-- what holds, or the fault
abbrev pub unless : Bool → KeyFault → Result Bool KeyFault
unless wrong fault = if wrong then Err fault else Ok true

abbrev pub is_vertex_key : List ℕ → Bool
is_vertex_key k =
    bytes_eq k (codes "type") || (bytes_eq k (codes "count") || (bytes_eq k (codes "unit")
    || (bytes_eq k (codes "exclusive") || (bytes_eq k (codes "label") || bytes_eq k (codes "with")))))

-- every key is one of a request vertex
abbrev pub has_own_keys : Members → Bool
has_own_keys ms = list_all is_vertex_key (keys_of ms)

abbrev pub keys_given : Data → Result Bool KeyMisfit
keys_given (object ms) = at_field key.Foreign (unless (not (has_own_keys ms)) of_key.NotInProfile)
keys_given d = at_field key.Whole (Err (of_key.Field Kind))

-- the type, which is a name; a slot is in no slot
abbrev pub type_given : Bool → Data → Result (List ℕ) KeyMisfit
type_given in_slot d = at_field key.TypeName
    (result_and_then (of_field (ruled_field (is_name MOST_TYPE_BYTES) (codes "type") d))
    (λ kind. if is_slot kind && in_slot then Err of_key.NotInProfile else Ok kind))

-- an object or a text is a count that this profile doesn't have
abbrev pub is_other_count : Data → Bool
is_other_count d = is_some (as_object d) || is_some (as_str d)

abbrev pub count_given : Data → Result ℕ KeyMisfit
count_given d = at_field key.Count
    (if option_map_or is_other_count (get (codes "count") d) false then Err of_key.NotInProfile else of_field
    (u64_field (codes "count") 1 GREATEST_NUMBER d))

-- the unit is a text, and says nothing
abbrev pub unit_given : Data → Result Bool KeyMisfit
unit_given d = at_field key.Unit
    (unless (option_map_or (λ e. not (is_some (as_str e))) (get (codes "unit") d) false) (of_key.Field Kind))

abbrev pub exclusive_as : Bool → Option Bool → Result (Option Bool) KeyFault
exclusive_as slot None = Err (of_key.Field Kind)
exclusive_as slot (Some b) = if slot && not b then Err of_key.NotInProfile else Ok (Some b)

abbrev pub exclusive_or : Bool → Option Data → Result (Option Bool) KeyFault
exclusive_or slot None = Ok None
exclusive_or slot (Some d) = exclusive_as slot (as_bool d)

-- whether it is asked for exclusively; a slot is never not
abbrev pub exclusive_given : Bool → Data → Result (Option Bool) KeyMisfit
exclusive_given slot d = at_field key.Exclusive (exclusive_or slot (get (codes "exclusive") d))

-- the text is one of these
abbrev pub is_among : List (List ℕ) → List ℕ → Bool
is_among texts text = is_some (position (bytes_eq text) texts)

-- the label of a slot is a text of its own; that of anything else says nothing
abbrev pub label_given : List (List ℕ) → Bool → Data → Result (Option (List ℕ)) KeyMisfit
label_given labels false d = Ok None
label_given labels true d = at_field key.Label
    (result_and_then (of_field (text_field (codes "label") d))
    (λ label. if bytes_eq label [] || is_among labels label then Err of_key.Label else Ok (Some label)))

abbrev pub with_or : Bool → Option Data → Result Items KeyFault
with_or true None = Err (of_key.Field Missing)
with_or false None = Ok no_items
with_or true (Some d) = of_field (some_value d)
with_or false (Some d) = of_field (list_value d)

-- the list in it; a slot's holds something
abbrev pub with_given : Bool → Data → Result Items KeyMisfit
with_given slot d = at_field key.With (with_or slot (get (codes "with") d))

-- what a request vertex says of itself, behind slots with these labels; or the first of its keys' faults
abbrev pub said_by : Bool → List (List ℕ) → Data → Result Said KeyMisfit
said_by in_slot labels d =
    result_and_then (keys_given d) (λ _.
    result_and_then (type_given in_slot d) (λ kind.
    result_and_then (count_given d) (λ count.
    result_and_then (unit_given d) (λ _.
    result_and_then (exclusive_given (is_slot kind) d) (λ exclusive.
    result_and_then (label_given labels (is_slot kind) d) (λ label.
    result_and_then (with_given (is_slot kind) d) (λ with.
    Ok (record { kind = kind; count = count; exclusive = exclusive; label = label; with = with }))))))))

-- ---- all of them

-- what a list of values gives: in a slot or not, at this path, from this index on, behind slots with these labels
abbrev pub Reading : Type 0
Reading = Bool → List ℕ → ℕ → List (List ℕ) → Result Requested SpecFault

-- the labels with one more, where there is one
abbrev pub labels_with : List (List ℕ) → Option (List ℕ) → List (List ℕ)
labels_with labels label = option_map_or (with_text labels) label labels

-- the request vertex that says this, with what is in it
abbrev pub need_of : Said → List RawNeed → RawNeed
need_of said needs =
    roll-RawNeed (record { kind = said.kind; count = said.count; exclusive = said.exclusive; with = needs })

-- no request vertices
abbrev pub nothing : Reading
nothing in_slot list at labels = Ok (record { needs = []; labels = labels })

-- the request vertex that says this, around what was read of its list
abbrev pub around : Said → Requested → Requested
around said r = record { needs = need_of said r.needs ∷ []; labels = r.labels }

-- one request vertex and those in it, where `inner` is the reading of its list
abbrev pub one_with : Reading → Data → Reading
one_with inner d in_slot list at labels =
    result_and_then (at_vertex list at (said_by in_slot labels d)) (λ said.
    result_map_both (around said) (λ fault. fault)
    (inner (is_slot said.kind || in_slot) (vertex_path list at key.With) 0 (labels_with labels said.label)))

-- with these before them
abbrev pub behind : List RawNeed → Requested → Requested
behind needs r = record { needs = needs ++ r.needs; labels = r.labels }

-- these, and then those
abbrev pub and_then : Reading → Reading → Reading
and_then first others in_slot list at labels =
    result_and_then (first in_slot list at labels)
    (λ a. result_map_both (behind a.needs) (λ fault. fault) (others in_slot list (at + 1) a.labels))

-- Request vertices, in the order of the file, each before those in it.
abbrev mutual
  -- of a list
  pub requests_of : Items → Reading
  requests_of no_items = nothing
  requests_of (item d ds) = and_then (one_with (inner_of d) d) (requests_of ds)

  -- of the list in a request vertex
  pub inner_of : Data → Reading
  inner_of null = nothing
  inner_of (boolean b) = nothing
  inner_of (number n) = nothing
  inner_of (string s) = nothing
  inner_of (array ds) = nothing
  inner_of (object ms) = inner_in ms

  pub inner_in : Members → Reading
  inner_in no_members = nothing
  inner_in (member k d ms) = match_ordering (slice_cmp nat_cmp (codes "with") k) (inner_in ms) (listed d) (inner_in ms)

  pub listed : Data → Reading
  listed null = nothing
  listed (boolean b) = nothing
  listed (number n) = nothing
  listed (string s) = nothing
  listed (array ds) = requests_of ds
  listed (object ms) = nothing

-- of one value
abbrev pub request_of : Data → Reading
request_of d = one_with (inner_of d) d

-- ---- what the code holds

abbrev pub said_held : Header → Said
said_held h = record {
  kind = h.kind.now;
  count = h.count;
  exclusive = h.exclusive;
  label = option_map (λ s. s.now) h.label;
  with = items_view h.with.now;
}
