-- The keys of each object that is read from a text stand in byte order.
use Rattle.std.proofs.Common.{◌≡◌, refl, sym, ap, subst, ◌∙◌, ℕ, List, [], ◌∷◌, ◌++◌, Bool, true, false, Option, Some}
use Rattle.std.proofs.Common.{None, if◌then◌else◌, option_map, option_and_then, append_assoc, append-nil}
use Rattle.std.specs.List.{AllByRecursion, fold}
use Rattle.std.specs.Ordering.{nat_cmp, match_ordering, is_lt, ordering_reverse}
use Rattle.std.specs.declared.cmp.Ordering.{Ordering}
use Rattle.std.specs.declared.cmp.Ordering.TheVariants.{Less, Equal, Greater}
use Rattle.std.specs.Cmp.Lexicographic.{slice_cmp, nat_list_cmp_total}
use Rattle.std.specs.BTreeSet.{insert_key}
use Rattle.std.specs.Str.{is_utf8}
use Rattle.std.proofs.lemmas.Bool.{and_parts}
use Rattle.json.specs.Json as json
use Rattle.json.specs.Lex.{tokens}
use Rattle.serde_json.specs.Data.{Data, null, boolean, number, string, array, object, Items, no_items, item, Members}
use Rattle.serde_json.specs.Data.{no_members, member, put}
use Rattle.serde_json.specs.Find.{get, get_member}
use Rattle.serde_json.specs.Read.{number_of, of_json, of_items, of_members, read, max_depth}
use Rattle.json_whole.specs.Plain.{plain_of}
use Rattle.json_whole.specs.Whole.{value_in, value_of}
use Rattle.graph_json.specs.Nodes.{in_order}
use Rattle.json_fields.specs.Values.{keys_of}
use Rattle.graph_json.proofs.WrittenLaws.{less, below, ordered, ordered_insert, ordered_all}

-- ---- a list in order is its own order

abbrev AllBelow : List (List ℕ) → List (List ℕ) → Type 0
AllBelow front ks = AllByRecursion (λ x. below x ks ≡ true) front

greater : (o : Ordering) → is_lt (ordering_reverse o) ≡ true → o ≡ Greater
greater Less e = absurd (cc)
greater Equal e = absurd (cc)
greater Greater e = refl

insert_last : (front : List (List ℕ)) (k : List ℕ) (ks : List (List ℕ)) →
    AllBelow front (k ∷ ks) → insert_key (slice_cmp nat_cmp) front k ≡ front ++ k ∷ []
insert_last [] k ks all = refl
insert_last (x ∷ front) k ks all =
    let lesser : less x k ≡ true = (and_parts (less x k) (below x ks) all.0).0 in
    let after : slice_cmp nat_cmp k x ≡ Greater =
    greater (slice_cmp nat_cmp k x) (ap is_lt (sym (nat_list_cmp_total.antisymm x k)) ∙ lesser) in
    ap (λ o. match_ordering o (k ∷ x ∷ front) (x ∷ front) (x ∷ insert_key (slice_cmp nat_cmp) front k)) after
    ∙ ap (λ l. x ∷ l) (insert_last front k ks all.1)

below_more : (front : List (List ℕ)) (k : List ℕ) (ks : List (List ℕ)) →
    AllBelow front (k ∷ ks) → below k ks ≡ true → AllBelow (front ++ k ∷ []) ks
below_more [] k ks all here = (here, tt)
below_more (x ∷ front) k ks all here = ((and_parts (less x k) (below x ks) all.0).1, below_more front k ks all.1 here)

fold_last : (front ks : List (List ℕ)) →
    AllBelow front ks → ordered ks ≡ true → fold (insert_key (slice_cmp nat_cmp)) front ks ≡ front ++ ks
fold_last front [] all up = sym (append-nil front)
fold_last front (k ∷ ks) all up =
    ap (λ l. fold (insert_key (slice_cmp nat_cmp)) l ks) (insert_last front k ks all)
    ∙ (fold_last (front ++ k ∷ []) ks (below_more front k ks all ((and_parts (below k ks) (ordered ks) up).0))
    ((and_parts (below k ks) (ordered ks) up).1) ∙ append_assoc front (k ∷ []) ks)

pub in_order-ordered : (ks : List (List ℕ)) → ordered ks ≡ true → in_order ks ≡ ks
in_order-ordered ks up = fold_last [] ks tt up

pub ordered-in_order : (texts : List (List ℕ)) → ordered (in_order texts) ≡ true
ordered-in_order texts = ordered_all [] texts refl

-- ---- values whose objects are in order

abbrev mutual
  pub IsOrdered : Data → Type 0
  IsOrdered null = Unit {0}
  IsOrdered (boolean b) = Unit {0}
  IsOrdered (number m) = Unit {0}
  IsOrdered (string s) = Unit {0}
  IsOrdered (array ds) = AreOrdered ds
  IsOrdered (object ms) = (ordered (keys_of ms) ≡ true) × HasOrdered ms

  pub AreOrdered : Items → Type 0
  AreOrdered no_items = Unit {0}
  AreOrdered (item d ds) = IsOrdered d × AreOrdered ds

  pub HasOrdered : Members → Type 0
  HasOrdered no_members = Unit {0}
  HasOrdered (member k d ms) = IsOrdered d × HasOrdered ms

keys_by : (o : Ordering) (k l : List ℕ) (d e : Data) (ms rest : Members) (ks : List (List ℕ)) → keys_of rest ≡ ks
    → keys_of (match_ordering o (member k d (member l e ms)) (member l d ms) (member l e rest))
    ≡ match_ordering o (k ∷ l ∷ keys_of ms) (l ∷ keys_of ms) (l ∷ ks)
keys_by Less k l d e ms rest ks same = refl
keys_by Equal k l d e ms rest ks same = refl
keys_by Greater k l d e ms rest ks same = ap (λ x. l ∷ x) same

keys_of-put : (k : List ℕ) (d : Data) (ms : Members) →
    keys_of (put k d ms) ≡ insert_key (slice_cmp nat_cmp) (keys_of ms) k
keys_of-put k d no_members = refl
keys_of-put k d (member l e ms) = keys_by
    (slice_cmp nat_cmp k l) k l d e ms (put k d ms) (insert_key (slice_cmp nat_cmp) (keys_of ms) k) (keys_of-put k d ms)

has_put : (k : List ℕ) (d : Data) (ms : Members) → IsOrdered d → HasOrdered ms → HasOrdered (put k d ms)
has_put k d no_members one all = (one, tt)
has_put k d (member l e ms) one all = by (slice_cmp nat_cmp k l) (has_put k d ms one all.1)
  where
    by : (o : Ordering) → HasOrdered (put k d ms) →
        HasOrdered (match_ordering o (member k d (member l e ms)) (member l d ms) (member l e (put k d ms)))
    by Less rest = (one, all)
    by Equal rest = (one, all.1)
    by Greater rest = (all.0, rest)

pub map_some : {A B : Type 0} (f : A → B) (o : Option A) (y : B) →
    option_map f o ≡ Some y → (x : A) × (o ≡ Some x) × (f x ≡ y)
map_some f None y e = absurd (cc)
map_some f (Some x) y e = (x, refl, (let same : f x ≡ y = cc in same))

pub then_some : {A B : Type 0} (f : A → Option B) (o : Option A) (y : B) →
    option_and_then f o ≡ Some y → (x : A) × (o ≡ Some x) × (f x ≡ Some y)
then_some f None y e = absurd (cc)
then_some f (Some x) y e = (x, refl, e)

is_one : (c d : Data) → IsOrdered c → Some c ≡ Some d → IsOrdered d
is_one c d one e = let same : c ≡ d = cc in subst IsOrdered same one

mutual
  value_ordered : (j : json.Json) (d : Data) → of_json j ≡ Some d → IsOrdered d
  value_ordered json.null d e = is_one null d tt e
  value_ordered (json.boolean b) d e = is_one (boolean b) d tt e
  value_ordered (json.number s) d e = let n = map_some number (number_of s) d e in subst IsOrdered n.2 tt
  value_ordered (json.string s) d e = is_one (string s) d tt e
  value_ordered (json.array js) d e = let ds = map_some array (of_items js) d e in
      subst IsOrdered ds.2 (items_ordered js ds.0 ds.1)
  value_ordered (json.object ms) d e = let found = map_some object (of_members ms no_members) d e in
      subst IsOrdered found.2 (members_ordered ms no_members found.0 refl tt found.1)

  items_ordered : (js : json.Items) (ds : Items) → of_items js ≡ Some ds → AreOrdered ds
  items_ordered json.no_items ds e = let same : no_items ≡ ds = cc in subst AreOrdered same tt
  items_ordered (json.item j js) ds e =
      let d = then_some (λ d. option_map (item d) (of_items js)) (of_json j) ds e in
      let rest = map_some (item d.0) (of_items js) ds d.2 in
      subst AreOrdered rest.2 (value_ordered j d.0 d.1, items_ordered js rest.0 rest.1)

  members_ordered : (js : json.Members) (found ms : Members) → ordered (keys_of found) ≡ true →
      HasOrdered found → of_members js found ≡ Some ms → (ordered (keys_of ms) ≡ true) × HasOrdered ms
  members_ordered json.no_members found ms up all e = let same : found ≡ ms = cc in
      subst (λ (x : Members). (ordered (keys_of x) ≡ true) × HasOrdered x) same (up, all)
  members_ordered (json.member k j js) found ms up all e =
      let d = then_some (λ d. of_members js (put k d found)) (of_json j) ms e in
      members_ordered js (put k d.0 found) ms (ap ordered (keys_of-put k d.0 found)
      ∙ ordered_insert k (keys_of found) up) (has_put k d.0 found (value_ordered j d.0 d.1) all) d.2

read_ordered : (text : List ℕ) (d : Data) → read text ≡ Some d → IsOrdered d
read_ordered text d e = let j = then_some of_json
    (option_and_then (λ p. json.if_last p.0 p.1) (json.value max_depth (tokens text))) d e in value_ordered j.0 d j.2

in_ordered : (text : List ℕ) (d : Data) → value_in text ≡ Some d → IsOrdered d
in_ordered text d e = by (is_utf8 text) e
  where
    by : (b : Bool) → (if b then read text else None) ≡ Some d → IsOrdered d
    by true f = read_ordered text d f
    by false f = absurd (let clash : None ≡ Some d = f in cc)

-- what bytes are read as is in order
pub value_of-ordered : (bytes : List ℕ) (d : Data) → value_of bytes ≡ Some d → IsOrdered d
unfolding value_of
value_of-ordered bytes d e = in_ordered (plain_of bytes) d e

-- ---- members

member_ordered : (k : List ℕ) (ms : Members) (d : Data) → HasOrdered ms → get_member k ms ≡ Some d → IsOrdered d
member_ordered k no_members d all e = absurd (let clash : None ≡ Some d = e in cc)
member_ordered k (member l c ms) d all e = by (slice_cmp nat_cmp k l) e (member_ordered k ms d all.1)
  where
    by : (o : Ordering) → match_ordering o (get_member k ms) (Some c) (get_member k ms) ≡ Some d →
        (get_member k ms ≡ Some d → IsOrdered d) → IsOrdered d
    by Less f rest = rest f
    by Equal f rest = is_one c d all.0 f
    by Greater f rest = rest f

pub get_ordered : (k : List ℕ) (d e : Data) → IsOrdered d → get k d ≡ Some e → IsOrdered e
get_ordered k null e one f = absurd (let clash : None ≡ Some e = f in cc)
get_ordered k (boolean b) e one f = absurd (let clash : None ≡ Some e = f in cc)
get_ordered k (number m) e one f = absurd (let clash : None ≡ Some e = f in cc)
get_ordered k (string s) e one f = absurd (let clash : None ≡ Some e = f in cc)
get_ordered k (array ds) e one f = absurd (let clash : None ≡ Some e = f in cc)
get_ordered k (object ms) e one f = member_ordered k ms e one.1 f
