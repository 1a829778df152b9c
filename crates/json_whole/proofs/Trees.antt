-- The data of a tree whose numbers are whole is what serde_json's reading says, and has no float.
use Rattle.std.proofs.Common.{◌≡◌, ℕ, List, true, false, Option, Some, None, option_map, refl, sym}
use Rattle.std.proofs.Common.{true≢false}
use Rattle.std.proofs.Common.{not}
use Rattle.std.specs.Prelude.{IsTrue}
use Rattle.std.specs.Option.{option_map_or}
use Rattle.std.specs.declared.cmp.Ordering.{Ordering}
use Rattle.std.specs.declared.cmp.Ordering.TheVariants.{Less, Equal, Greater}
use Rattle.std.specs.Ordering.{nat_cmp, match_ordering}
use Rattle.std.specs.Cmp.Lexicographic.{slice_cmp}
use Rattle.std.proofs.lemmas.Bool.{or_from, or_parts, and_parts}
use Rattle.json.specs.Json as json
use Rattle.serde_json.specs.Data as value
use Rattle.serde_json.specs.Find.{is_float}
use Rattle.serde_json.specs.Read.{number_of, of_json, of_items, of_members}
use Rattle.serde_json.specs.Written.{has_float, items_have_float, members_have_float}
use Rattle.json_whole.specs.Values.{whole_or_zero, data_of, items_data, members_data}
use Rattle.json_whole.proofs.Tokens.{has_whole_numbers, items_have_whole_numbers, members_have_whole_numbers}

-- ---- no float

abbrev WholeMembers : value.Members → Type 0
WholeMembers ms = members_have_float ms ≡ false

chosen : (o : Ordering) (a b c : value.Members) →
    WholeMembers a → WholeMembers b → WholeMembers c → WholeMembers (match_ordering o a b c)
chosen Less a b c p q r = p
chosen Equal a b c p q r = q
chosen Greater a b c p q r = r

whole_put : (k : List ℕ) (d : value.Data) (ms : value.Members) →
    has_float d ≡ false → WholeMembers ms → WholeMembers (value.put k d ms)
whole_put k d value.no_members h m = or_from (has_float d) false h refl
whole_put k d (value.member l e ms) h m =
    let parts = or_parts (has_float e) (members_have_float ms) m in
    chosen (slice_cmp nat_cmp k l) _ _ _
    (or_from _ _ h m) (or_from _ _ h parts.1) (or_from _ _ parts.0 (whole_put k d ms h parts.1))

no_float_number : (o : Option value.Num) → is_float (whole_or_zero o) ≡ false
no_float_number None = refl
no_float_number (Some (value.unsigned n)) = refl
no_float_number (Some (value.negative z)) = refl
no_float_number (Some (value.float x)) = refl

mutual
  pub data_of-no_float : (j : json.Json) → has_float (data_of j) ≡ false
  data_of-no_float json.null = refl
  data_of-no_float (json.boolean b) = refl
  data_of-no_float (json.number s) = no_float_number (number_of s)
  data_of-no_float (json.string s) = refl
  data_of-no_float (json.array js) = items_data-no_float js
  data_of-no_float (json.object ms) = members_data-no_float ms value.no_members refl

  items_data-no_float : (js : json.Items) → items_have_float (items_data js) ≡ false
  items_data-no_float json.no_items = refl
  items_data-no_float (json.item j js) = or_from _ _ (data_of-no_float j) (items_data-no_float js)

  members_data-no_float : (ms : json.Members) (found : value.Members) →
      WholeMembers found → WholeMembers (members_data ms found)
  members_data-no_float json.no_members found h = h
  members_data-no_float (json.member k j ms) found h =
      members_data-no_float ms (value.put k (data_of j) found) (whole_put k (data_of j) found (data_of-no_float j) h)

-- ---- the same data

same_number : (o : Option value.Num) → option_map_or (λ n. not (is_float n)) o false ≡ true →
    option_map value.number o ≡ Some (value.number (whole_or_zero o))
same_number None h = absurd (true≢false (sym h))
same_number (Some (value.unsigned n)) h = refl
same_number (Some (value.negative z)) h = refl
same_number (Some (value.float x)) h = absurd (true≢false (sym h))

mutual
  pub of_json-whole : (j : json.Json) → IsTrue (has_whole_numbers j) → of_json j ≡ Some (data_of j)
  of_json-whole json.null h = refl
  of_json-whole (json.boolean b) h = refl
  of_json-whole (json.number s) h = same_number (number_of s) h
  of_json-whole (json.string s) h = refl
  of_json-whole (json.array js) h = rw (of_items-whole js h) refl
  of_json-whole (json.object ms) h = rw (of_members-whole ms h value.no_members) refl

  of_items-whole : (js : json.Items) → IsTrue (items_have_whole_numbers js) → of_items js ≡ Some (items_data js)
  of_items-whole json.no_items h = refl
  of_items-whole (json.item j js) h =
      let both = and_parts (has_whole_numbers j) _ h in
      rw (of_json-whole j both.0, of_items-whole js both.1) refl

  of_members-whole : (ms : json.Members) → IsTrue (members_have_whole_numbers ms) → (found : value.Members) →
      of_members ms found ≡ Some (members_data ms found)
  of_members-whole json.no_members h found = refl
  of_members-whole (json.member k j ms) h found =
      let both = and_parts (has_whole_numbers j) _ h in
      rw (of_json-whole j both.0) (of_members-whole ms both.1 (value.put k (data_of j) found))
