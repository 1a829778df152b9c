-- A value whose numbers are whole and whose keys stand in order is read back from its compact text.
use Rattle.std.proofs.Common.{◌≡◌, refl, sym, ap, ◌∙◌, ℕ, zero, suc, ◌^◌, ◌<◌, ◌≤◌, pos, negsuc, List, [], ◌++◌, Bool}
use Rattle.std.proofs.Common.{true, ◌&&◌, Some, option_map, option_and_then, ◌-◌, arith, append-nil}
use Rattle.std.specs.Ordering.{nat_cmp, match_ordering, is_lt, ordering_reverse}
use Rattle.std.specs.declared.cmp.Ordering.{Ordering}
use Rattle.std.specs.declared.cmp.Ordering.TheVariants.{Less, Equal, Greater}
use Rattle.std.specs.Cmp.Lexicographic.{slice_cmp, nat_list_cmp_total}
use Rattle.std.proofs.lemmas.Bool.{and_from, and_parts}
use Rattle.json.specs.Json as json
use Rattle.json.specs.Tree as tree
use Rattle.json.specs.Lex.{tokens}
use Rattle.json.specs.Print.{IsNumber}
use Rattle.json.proofs.Printed.Trees.{value-json_tokens, ArePrintable-json_tokens}
use Rattle.json.proofs.Printed.Tokens.{tokens-print}
use Rattle.json.proofs.Printed.Decimals.{IsNumber-decimal, IsNumber-signed_decimal}
use Rattle.serde_json.specs.Data.{Num, unsigned, negative, float, Data, null, boolean, number, string, array, object}
use Rattle.serde_json.specs.Data.{Items, no_items, item, Members, no_members, member, put}
use Rattle.serde_json.specs.Read.{number_of, of_json, of_items, of_members, read, max_depth}
use Rattle.serde_json.specs.Written.{number_text, outline, items_outline, members_outline, compact_text}
use Rattle.serde_json.proofs.Numbers.{number_of-decimal, number_of-negative}
use Rattle.serde_json.proofs.Texts.{print-outline}

-- every key is less than those of the members
abbrev pub is_below : List ℕ → Members → Bool
is_below k no_members = true
is_below k (member l d ms) = is_lt (slice_cmp nat_cmp k l) && is_below k ms

-- a whole number of 64 bits
abbrev pub IsWhole : Num → Type 0
IsWhole (unsigned n) = n < 2 ^ 64
IsWhole (negative (pos n)) = ⊥
IsWhole (negative (negsuc n)) = n < 2 ^ 63 - 1
IsWhole (float x) = ⊥

-- whole numbers, keys in order, and at most so many levels
abbrev mutual
  pub IsPlain : ℕ → Data → Type 0
  IsPlain n null = Unit {0}
  IsPlain n (boolean b) = Unit {0}
  IsPlain n (number m) = IsWhole m
  IsPlain n (string s) = Unit {0}
  IsPlain zero (array ds) = ⊥
  IsPlain (suc n) (array ds) = ArePlain n ds
  IsPlain zero (object ms) = ⊥
  IsPlain (suc n) (object ms) = HasPlain n ms

  pub ArePlain : ℕ → Items → Type 0
  ArePlain n no_items = Unit {0}
  ArePlain n (item d ds) = IsPlain n d × ArePlain n ds

  pub HasPlain : ℕ → Members → Type 0
  HasPlain n no_members = Unit {0}
  HasPlain n (member k d ms) = IsPlain n d × (is_below k ms ≡ true) × HasPlain n ms

-- ---- numbers, and levels

num_number : (m : Num) → IsWhole m → IsNumber (number_text m)
num_number (unsigned n) h = IsNumber-decimal n h
num_number (negative (pos n)) h = absurd h
num_number (negative (negsuc n)) h = IsNumber-signed_decimal (negsuc n) (omega arith)
num_number (float x) h = absurd h

mutual
  numbers : (n : ℕ) (d : Data) → IsPlain n d → tree.HasNumbers (outline d)
  numbers n null h = tt
  numbers n (boolean b) h = tt
  numbers n (number m) h = num_number m h
  numbers n (string s) h = tt
  numbers zero (array ds) h = absurd h
  numbers (suc n) (array ds) h = items_numbers n ds h
  numbers zero (object ms) h = absurd h
  numbers (suc n) (object ms) h = members_numbers n ms h

  items_numbers : (n : ℕ) (ds : Items) → ArePlain n ds → tree.ItemsHaveNumbers (items_outline ds)
  items_numbers n no_items h = tt
  items_numbers n (item d ds) h = (numbers n d h.0, items_numbers n ds h.1)

  members_numbers : (n : ℕ) (ms : Members) → HasPlain n ms → tree.MembersHaveNumbers (members_outline ms)
  members_numbers n no_members h = tt
  members_numbers n (member k d ms) h = (numbers n d h.0, members_numbers n ms h.2)

mutual
  levels : (n : ℕ) (d : Data) → IsPlain n d → tree.depth (outline d) ≤ n
  levels n null h = omega arith
  levels n (boolean b) h = omega arith
  levels n (number m) h = omega arith
  levels n (string s) h = omega arith
  levels zero (array ds) h = absurd h
  levels (suc n) (array ds) h = omega (arith, items_levels n ds h)
  levels zero (object ms) h = absurd h
  levels (suc n) (object ms) h = omega (arith, members_levels n ms h)

  items_levels : (n : ℕ) (ds : Items) → ArePlain n ds → tree.items_depth (items_outline ds) ≤ n
  items_levels n no_items h = omega arith
  items_levels n (item d ds) h = omega (arith, levels n d h.0, items_levels n ds h.1)

  members_levels : (n : ℕ) (ms : Members) → HasPlain n ms → tree.members_depth (members_outline ms) ≤ n
  members_levels n no_members h = omega arith
  members_levels n (member k d ms) h = omega (arith, levels n d h.0, members_levels n ms h.2)

-- ---- members in order

-- one list of members behind another
abbrev behind : Members → Members → Members
behind no_members ms = ms
behind (member k d fs) ms = member k d (behind fs ms)

behind_last : (fs : Members) (k : List ℕ) (d : Data) (ms : Members) →
    behind (behind fs (member k d no_members)) ms ≡ behind fs (member k d ms)
behind_last no_members k d ms = refl
behind_last (member l e fs) k d ms = ap (member l e) (behind_last fs k d ms)

behind_none : (fs : Members) → behind fs no_members ≡ fs
behind_none no_members = refl
behind_none (member l e fs) = ap (member l e) (behind_none fs)

-- each key of the first members is less than this one
abbrev are_below : Members → List ℕ → Bool
are_below no_members k = true
are_below (member l e fs) k = is_lt (slice_cmp nat_cmp l k) && are_below fs k

-- each key of the first members is less than each of the others
abbrev all_below : Members → Members → Bool
all_below fs no_members = true
all_below fs (member k d ms) = are_below fs k && all_below fs ms

-- a key that is less puts the other one behind it
put_after : (o : Ordering) (a b c : Members) → is_lt (ordering_reverse o) ≡ true → match_ordering o a b c ≡ c
put_after Less a b c h = absurd (cc)
put_after Equal a b c h = absurd (cc)
put_after Greater a b c h = refl

-- a member with a greater key goes last
put_last : (fs : Members) (k : List ℕ) (d : Data) →
    are_below fs k ≡ true → put k d fs ≡ behind fs (member k d no_members)
put_last no_members k d h = refl
put_last (member l e fs) k d h =
    let first : is_lt (ordering_reverse (slice_cmp nat_cmp k l)) ≡ true =
    ap is_lt (sym (nat_list_cmp_total.antisymm l k)) ∙ (and_parts _ _ h).0 in
    put_after (slice_cmp nat_cmp k l) _ _ _ first
    ∙ ap (member l e) (put_last fs k d ((and_parts (is_lt (slice_cmp nat_cmp l k)) _ h).1))

-- one more of the first members
below_last : (fs : Members) (k : List ℕ) (d : Data) (l : List ℕ) → are_below fs l ≡ true →
    is_lt (slice_cmp nat_cmp k l) ≡ true → are_below (behind fs (member k d no_members)) l ≡ true
below_last no_members k d l h p = and_from (is_lt (slice_cmp nat_cmp k l)) true p refl
below_last (member m e fs) k d l h p = and_from (is_lt (slice_cmp nat_cmp m l)) _
    ((and_parts _ _ h).0) (below_last fs k d l ((and_parts (is_lt (slice_cmp nat_cmp m l)) _ h).1) p)

all_below_more : (fs : Members) (k : List ℕ) (d : Data) (ms : Members) →
    all_below fs ms ≡ true → is_below k ms ≡ true → all_below (behind fs (member k d no_members)) ms ≡ true
all_below_more fs k d no_members h p = refl
all_below_more fs k d (member l e ms) h p =
    and_from (are_below (behind fs (member k d no_members)) l) _
    (below_last fs k d l ((and_parts _ _ h).0) ((and_parts _ _ p).0))
    (all_below_more fs k d ms ((and_parts (are_below fs l) _ h).1) ((and_parts (is_lt (slice_cmp nat_cmp k l)) _ p).1))

none_below : (ms : Members) → all_below no_members ms ≡ true
none_below no_members = refl
none_below (member k d ms) = none_below ms

-- ---- read back

num_back : (m : Num) → IsWhole m → number_of (number_text m) ≡ Some m
num_back (unsigned n) h = number_of-decimal n h
num_back (negative (pos n)) h = absurd h
num_back (negative (negsuc n)) h = number_of-negative n (omega arith)
num_back (float x) h = absurd h

mutual
  back : (n : ℕ) (d : Data) → IsPlain n d → of_json (outline d) ≡ Some d
  back n null h = refl
  back n (boolean b) h = refl
  back n (number m) h = ap (option_map number) (num_back m h)
  back n (string s) h = refl
  back zero (array ds) h = absurd h
  back (suc n) (array ds) h = ap (option_map array) (items_back n ds h)
  back zero (object ms) h = absurd h
  back (suc n) (object ms) h = ap (option_map object) (members_back n ms no_members h (none_below ms))

  items_back : (n : ℕ) (ds : Items) → ArePlain n ds → of_items (items_outline ds) ≡ Some ds
  items_back n no_items h = refl
  items_back n (item d ds) h = rw (back n d h.0, items_back n ds h.1) refl

  members_back : (n : ℕ) (ms fs : Members) →
      HasPlain n ms → all_below fs ms ≡ true → of_members (members_outline ms) fs ≡ Some (behind fs ms)
  members_back n no_members fs h below = ap Some (sym (behind_none fs))
  members_back n (member k d ms) fs h below =
      ap (option_and_then (λ e. of_members (members_outline ms) (put k e fs))) (back n d h.0)
      ∙ ap (of_members (members_outline ms)) (put_last fs k d ((and_parts _ _ below).0))
      ∙ members_back n ms
      (behind fs (member k d no_members)) h.2 (all_below_more fs k d ms ((and_parts (are_below fs k) _ below).1) h.1)
      ∙ ap Some (behind_last fs k d ms)

-- the compact text is JSON of the value
pub read_compact : (n : ℕ) (d : Data) → n ≤ max_depth → IsPlain n d → read (compact_text d) ≡ Some d
read_compact n d few plain =
    let j = outline d in
    let lexed : tokens (compact_text d) ≡ tree.json_tokens j ++ [] = ap tokens (sym (print-outline d)) ∙ tokens-print
    (tree.json_tokens j) (ArePrintable-json_tokens j (numbers n d plain)) ∙ sym (append-nil (tree.json_tokens j)) in
    let value : json.value max_depth (tokens (compact_text d)) ≡ Some (j, []) =
    ap (json.value max_depth) lexed ∙ value-json_tokens j max_depth [] (omega (arith, levels n d plain)) in
    ap (λ v. option_and_then of_json (option_and_then (λ p. json.if_last p.0 p.1) v)) value ∙ back n d plain
