-- What a look into a tree finds is what the data has there.
use Rattle.std.proofs.Common.{◌≡◌, ℕ, List, [], ◌∷◌, Bool, true, false, cond, Option, Some, None, option_map, refl, sym}
use Rattle.std.proofs.Common.{ap, ◌∙◌, true≢false, Float, Bor, ◌<◌, zero, suc, drop, get_or, length, arith}
use Rattle.std.proofs.lemmas.Slice.Eq.{bytes_eq-Decides}
use Rattle.std.specs.Option.{option_or}
use Rattle.std.specs.Str.{bytes_eq}
use Rattle.std.specs.BTreeMap.{insert_entry}
use Rattle.std.specs.Cmp.Lexicographic.{slice_cmp}
use Rattle.std.specs.Ordering.{nat_cmp, match_ordering}
use Rattle.std.specs.declared.cmp.Ordering.{Ordering}
use Rattle.std.specs.declared.cmp.Ordering.TheVariants.{Less, Equal, Greater}
use Rattle.json.specs.Json as json
use Rattle.json.specs.Find as find
use Rattle.json.specs.Value.{value_view, members_view}
use Rattle.json.specs.declared.value.Value.{Value}
use Rattle.std.specs.Float.{binary64, float_is_finite}
use Rattle.fast_float.specs.Text.{Parts, nearest}
use Rattle.serde_json.specs.Data.{unsigned, float, Data, Members, no_members, put}
use Rattle.serde_json.specs.Read.{float_of}
use Rattle.serde_json.specs.Find.{get, get_member}
use Rattle.serde_json.proofs.Views.{get_member-put, get_member-put_other}
use Rattle.json_whole.specs.Values.{whole_or_zero, data_of, members_data, view, entries_view}

-- a number that is read as a float counts as 0
finite_left : (b : Bool) (x : Float) → whole_or_zero (cond b (Some (float x)) None) ≡ unsigned 0
finite_left true x = refl
finite_left false x = refl

pub no_float_left : (sign : Bool) (p : Parts) → whole_or_zero (float_of sign p) ≡ unsigned 0
no_float_left sign p = finite_left (float_is_finite (nearest binary64 sign p)) _

later_data : (late early : Option json.Json) →
    option_map data_of (find.later_or late early) ≡ option_or (option_map data_of late) (option_map data_of early)
later_data None early = refl
later_data (Some j) early = refl

or_twice : (a b c : Option Data) → option_or (option_or a b) c ≡ option_or a (option_or b c)
or_twice None b c = refl
or_twice (Some d) b c = refl

found_here : (b : Bool) (key k : List ℕ) (j : json.Json) (found : Members) → bytes_eq k key ≡ b →
    get_member key (put k (data_of j) found)
    ≡ option_or (option_map data_of (cond b (Some j) None)) (get_member key found)
found_here true key k j found e =
    let same : k ≡ key = (bytes_eq-Decides k key).0 e in rw (← same) (get_member-put k (data_of j) found)
found_here false key k j found e =
    get_member-put_other key k (data_of j) found
    (λ same. absurd (true≢false (sym ((bytes_eq-Decides k key).1 (sym same)) ∙ e)))

-- the last member of a key among those that come, or else among those that were found before
members_get : (key : List ℕ) (ms : json.Members) (found : Members) →
    get_member key (members_data ms found)
    ≡ option_or (option_map data_of (find.get_member key ms)) (get_member key found)
members_get key json.no_members found = refl
members_get key (json.member k j ms) found =
    members_get key ms (put k (data_of j) found)
    ∙ ap (option_or (option_map data_of (find.get_member key ms))) (found_here (bytes_eq k key) key k j found refl)
    ∙ sym (ap (λ o. option_or o (get_member key found))
    (later_data (find.get_member key ms) (cond (bytes_eq k key) (Some j) None))
    ∙ or_twice (option_map data_of (find.get_member key ms)) _ (get_member key found))

or_none : (a : Option Data) → option_or a None ≡ a
or_none None = refl
or_none (Some d) = refl

pub get-data : (key : List ℕ) (j : json.Json) → option_map data_of (find.get key j) ≡ get key (data_of j)
get-data key json.null = refl
get-data key (json.boolean b) = refl
get-data key (json.number s) = refl
get-data key (json.string s) = refl
get-data key (json.array js) = refl
get-data key (json.object ms) = sym (members_get key ms no_members ∙ or_none _)

mapped_twice : {A : Type 0} (found : Option (Bor (Value A))) →
    option_map (λ v. view v.now) found ≡ option_map data_of (option_map (λ v. value_view v.now) found)
mapped_twice None = refl
mapped_twice (Some v) = refl

pub looked_up : {A : Type 0} (key : List ℕ) (value : Value A) (found : Option (Bor (Value A))) →
    option_map (λ v. value_view v.now) found ≡ find.get key (value_view value)
    → option_map (λ v. view v.now) found ≡ get key (view value)
looked_up key value found is = mapped_twice found ∙ ap (option_map data_of) is ∙ get-data key (value_view value)

-- the last member with a key is the one behind which no other has it
pub last_found : {A : Type 0} (key : List ℕ) (ms : List (Bor (List ℕ) × Value A)) (i : ℕ) (d : Bor (List ℕ) × Value A) →
    i < length ms → find.get_member key (members_view (drop (suc i) ms)) ≡ None
    → bytes_eq (get_or ms i d).0.now key ≡ true
    → Some (value_view (get_or ms i d).1) ≡ find.get_member key (members_view ms)
last_found key [] i d within none same = absurd (omega (arith, within))
last_found key (m ∷ ms) zero d within none same = rw (none, same) refl
last_found key (m ∷ ms) (suc i) d within none same =
    rw (← last_found key ms i d (omega (arith, within)) none same) refl

-- ---- members by their keys

abbrev Entry : Type 0 → Type 0
Entry A = Bor (List ℕ) × Bor (Value A)

entries_view-match_ordering : {A : Type 0} (o : Ordering) (a b c : List (Entry A)) →
    entries_view (match_ordering o a b c) ≡ match_ordering o (entries_view a) (entries_view b) (entries_view c)
entries_view-match_ordering Less a b c = refl
entries_view-match_ordering Equal a b c = refl
entries_view-match_ordering Greater a b c = refl

pub entries_view-insert : {A : Type 0} (es : List (Entry A)) (k : Bor (List ℕ)) (v : Bor (Value A)) →
    entries_view (insert_entry (λ a b. slice_cmp nat_cmp a.now b.now) es k v) ≡ put k.now (view v.now) (entries_view es)
entries_view-insert [] k v = refl
entries_view-insert (e ∷ es) k v =
    entries_view-match_ordering (slice_cmp nat_cmp k.now e.0.now) _ _ _ ∙ rw (entries_view-insert es k v) refl
