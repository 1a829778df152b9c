-- The graph of a file keeps the rules of a file.
use Rattle.std.proofs.Common.{◌≡◌, refl, sym, ap, subst, ◌∙◌, ℕ, zero, suc, ◌+◌, ◌<◌, ◌≤◌, pos, negsuc, List}
use Rattle.std.proofs.Common.{[], ◌∷◌, ◌++◌, length, Bool, true, false, ◌&&◌, nat_lt, nat_le, Option, Some, None}
use Rattle.std.proofs.Common.{is_some, Result, Ok, Err, if◌then◌else◌, codes, decimal, IfSome, option_and_then, arith}
use Rattle.std.specs.List.{AllByRecursion, list_all, fold}
use Rattle.std.specs.Option.{option_map_or}
use Rattle.std.specs.Char.{is_ascii_digit}
use Rattle.std.specs.Ordering.{nat_cmp, match_ordering}
use Rattle.std.specs.declared.cmp.Ordering.{Ordering}
use Rattle.std.specs.declared.cmp.Ordering.TheVariants.{Less, Equal, Greater}
use Rattle.std.specs.Cmp.Lexicographic.{slice_cmp}
use Rattle.std.specs.BTreeSet.{insert_key}
use Rattle.std.specs.Result.{result_err, result_map_both}
use Rattle.std.proofs.lemmas.Bool.{and_parts, and_from, ltb-true, leb-true, lt-ltb, le-leb}
use Rattle.std.proofs.lemmas.List.{length-append}
use Rattle.std.proofs.lemmas.Fmt.{digits_decimal}
use Rattle.flux_defs.specs.declared.limits.TheConstants.{MOST_NAME_BYTES, MOST_TYPE_BYTES, GREATEST_ID}
use Rattle.json_whole.specs.Field.{text_or_kind, text_field}
use Rattle.json_whole.specs.declared.fields.FieldFault.{FieldFault}
use Rattle.json_whole.proofs.Numerals.{digits_by_test}
use Rattle.serde_json.specs.Data.{Num, unsigned, negative, float, Data, null, boolean, number, string, array, object}
use Rattle.serde_json.specs.Data.{Items, no_items, item}
use Rattle.serde_json.specs.Find.{get, as_null, as_number, as_str, as_array, as_object}
use Rattle.graph_json.specs.Fields.{is_unit, small_number, small_or_kind, small_or_none, small_given, size_given}
use Rattle.graph_json.specs.Fields.{id_field}
use Rattle.json_fields.specs.Values.{result_and_then, given, object_value, object_of, object_field, list_or_kind}
use Rattle.json_fields.specs.Values.{list_of, list_field, keys_of}
use Rattle.text_forms.specs.Names.{is_name, is_name_byte}
use Rattle.json_fields.specs.Names.{ruled, ruled_value, ruled_field, ruled_or, ruled_given}
use Rattle.graph_json.specs.FieldPaths.{at_key, FileMisfit}
use Rattle.json_fields.specs.Misfits.{at_field}
use Rattle.graph_json.specs.Nodes.{FileNode, default_name, short_name, name_or_default, name_given, texts_in, in_order}
use Rattle.graph_json.specs.Nodes.{first_misfit, unless_misfit, properties_of, properties_or_none, properties_given}
use Rattle.graph_json.specs.Nodes.{node_with, node_of, nodes_of}
use Rattle.graph_json.specs.GraphFile.{FileLists, GraphFile, lists_in, lists_of, file_of}
use Rattle.graph_json.specs.Edges.{edges_of}
use Rattle.graph_json.specs.GraphText.{Says}
use Rattle.graph_json.specs.FileGraph.{AreProperties}
use Rattle.graph_json.specs.declared.field_paths.FieldPath.{FieldPath}
use Rattle.graph_json.specs.declared.field_paths.FieldPath.TheVariants.{Whole, Graph, Nodes, Edges, Node, NodeField}
use Rattle.graph_json.specs.declared.field_paths.FieldPath.TheVariants.{Property, PropertyKey}
use Rattle.graph_json.specs.declared.field_paths.NodeKey.TheVariants.{Id, Metadata, TypeName, Basename, Number, Name}
use Rattle.graph_json.specs.declared.field_paths.NodeKey.TheVariants.{Rank, Size, Unit}
use Rattle.graph_json.proofs.OrderedData.{IsOrdered, AreOrdered, get_ordered, in_order-ordered, ordered-in_order}
use Rattle.graph_json.proofs.OrderedData.{value_of-ordered}
use Rattle.json_fields.proofs.Results.{then_ok, both_ok}
use Rattle.list_laws.proofs.Options.{neither}

-- ---- what an answer that is no fault was made of

err_ok : {A E P : Type 0} (e : E) (x : A) → Err e ≡ Ok x → P
err_ok e x h = absurd (cc)

at_ok : {A : Type 0} (place : FieldPath) (r : Result A FieldFault) (x : A) → at_field place r ≡ Ok x → r ≡ Ok x
at_ok place (Ok y) x h = let same : y ≡ x = cc in ap Ok same
at_ok place (Err e) x h = err_ok (record { field = place; fault = e }) x h

if_ok : {A E : Type 0} (b : Bool) (x y : A) (e : E) → (if b then Ok x else Err e) ≡ Ok y → (b ≡ true) × (x ≡ y)
if_ok true x y e h = (refl, (let same : x ≡ y = cc in same))
if_ok false x y e h = err_ok e y h

given_some : (key : List ℕ) (d e : Data) → given key d ≡ Some e → get key d ≡ Some e
given_some key d e h = by (get key d) h
  where
    chosen : (b : Bool) (c : Data) → (if b then None else Some c) ≡ Some e → Some c ≡ Some e
    chosen true c f = absurd (let clash : None ≡ Some e = f in cc)
    chosen false c f = f

    by : (o : Option Data) → option_and_then (λ c. if is_some (as_null c) then None else Some c) o ≡ Some e → o ≡ Some e
    by None f = absurd (let clash : None ≡ Some e = f in cc)
    by (Some c) f = chosen (is_some (as_null c)) c f

-- ---- fields

module _ (rule : List ℕ → Bool) where
  ruled_ok : (t x : List ℕ) → ruled rule t ≡ Ok x → rule x ≡ true
  ruled_ok t x h = let p = if_ok (rule t) t x FieldFault.Text h in ap rule (sym p.1) ∙ p.0

  ruled_value_ok : (d : Data) (x : List ℕ) → ruled_value rule d ≡ Ok x → (as_str d ≡ Some x) × (rule x ≡ true)
  ruled_value_ok d x h = by (as_str d) h
    where
      by : (o : Option (List ℕ)) → result_and_then (text_or_kind o) (ruled rule) ≡ Ok x → (o ≡ Some x) × (rule x ≡ true)
      by None f = err_ok FieldFault.Kind x f
      by (Some t) f = let p = if_ok (rule t) t x FieldFault.Text f in (ap Some p.1, ap rule (sym p.1) ∙ p.0)

  ruled_field_ok : (key : List ℕ) (d : Data) (x : List ℕ) → ruled_field rule key d ≡ Ok x → rule x ≡ true
  ruled_field_ok key d x h = let t = then_ok (text_field key d) (ruled rule) x h in ruled_ok t.0 x t.2

  ruled_given_ok : (otherwise key : List ℕ) (d : Data) (x : List ℕ) →
      rule otherwise ≡ true → ruled_given rule otherwise key d ≡ Ok x → rule x ≡ true
  ruled_given_ok otherwise key d x own h = by (given key d) h
    where
      by : (o : Option Data) → ruled_or rule otherwise o ≡ Ok x → rule x ≡ true
      by None f = (let same : otherwise ≡ x = cc in ap rule (sym same) ∙ own)
      by (Some e) f = (ruled_value_ok e x f).1

abbrev IsSmall : Option ℕ → Type 0
IsSmall o = IfSome o (λ n. n ≤ GREATEST_ID)

small_number_ok : (m : Num) (o : Option ℕ) → small_number m ≡ Ok o → IsSmall o
small_number_ok (unsigned n) o h = let p = if_ok (nat_le n (GREATEST_ID)) (Some n) o FieldFault.Large h in
    subst IsSmall p.1 (leb-true n (GREATEST_ID) p.0)
small_number_ok (negative (pos n)) o h = err_ok FieldFault.Small o h
small_number_ok (negative (negsuc zero)) o h = let same : None ≡ o = cc in subst IsSmall same tt
small_number_ok (negative (negsuc (suc n))) o h = err_ok FieldFault.Small o h
small_number_ok (float x) o h = err_ok FieldFault.Kind o h

small_given_ok : (key : List ℕ) (d : Data) (o : Option ℕ) → small_given key d ≡ Ok o → IsSmall o
small_given_ok key d o h = by (given key d) h
  where
    by_number : (m : Option Num) → small_or_kind m ≡ Ok o → IsSmall o
    by_number None f = err_ok FieldFault.Kind o f
    by_number (Some m) f = small_number_ok m o f

    by : (e : Option Data) → small_or_none e ≡ Ok o → IsSmall o
    by None f = let same : None ≡ o = cc in subst IsSmall same tt
    by (Some e) f = by_number (as_number e) f

-- ---- names

pub list_all_append : {A : Type 0} (p : A → Bool) (xs ys : List A) →
    list_all p xs ≡ true → list_all p ys ≡ true → list_all p (xs ++ ys) ≡ true
list_all_append p [] ys a b = b
list_all_append p (x ∷ xs) ys a b = let q = and_parts (p x) (list_all p xs) a in
    and_from (p x) (list_all p (xs ++ ys)) q.0 (list_all_append p xs ys q.1 b)

list_all_more : (p q : ℕ → Bool) →
    ((x : ℕ) → p x ≡ true → q x ≡ true) → (xs : List ℕ) → list_all p xs ≡ true → list_all q xs ≡ true
list_all_more p q more [] h = refl
list_all_more p q more (x ∷ xs) h = let r = and_parts (p x) (list_all p xs) h in
    and_from (q x) (list_all q xs) (more x r.0) (list_all_more p q more xs r.1)

digit_in_names : (x : ℕ) → is_ascii_digit x ≡ true → is_name_byte x ≡ true
digit_in_names x h = grind arith

record NameParts (most : ℕ) (t : List ℕ) : Type 0 where
  some : 0 < length t
  short : length t ≤ most
  bytes : list_all is_name_byte t ≡ true

name_parts : (most : ℕ) (t : List ℕ) → is_name most t ≡ true → NameParts most t
name_parts most t h =
    let p = and_parts (nat_lt 0 (length t) && nat_le (length t) most) (list_all is_name_byte t) h in
    let q = and_parts (nat_lt 0 (length t)) (nat_le (length t) most) p.0 in
    record { some = ltb-true 0 (length t) q.0; short = leb-true (length t) most q.1; bytes = p.1 }

name_from : (most : ℕ) (t : List ℕ) → NameParts most t → is_name most t ≡ true
name_from most t p =
    and_from (nat_lt 0 (length t) && nat_le (length t) most) (list_all is_name_byte t) (and_from (nat_lt 0 (length t))
    (nat_le (length t) most) (lt-ltb 0 (length t) p.some) (le-leb (length t) most p.short)) p.bytes

longer_name : (t : List ℕ) → is_name MOST_TYPE_BYTES t ≡ true → is_name MOST_NAME_BYTES t ≡ true
longer_name t h = let p = name_parts MOST_TYPE_BYTES t h in name_from MOST_NAME_BYTES t (record {
  some = p.some;
  short = (let short : length t ≤ MOST_TYPE_BYTES = p.short in omega arith);
  bytes = p.bytes;
})

default_bytes : (n : Option ℕ) → IsSmall n → list_all is_name_byte (option_map_or decimal n []) ≡ true
default_bytes None h = refl
default_bytes (Some n) h =
    list_all_more is_ascii_digit is_name_byte digit_in_names (decimal n) (digits_decimal digits_by_test n (omega arith))

short_name_ok : (base : List ℕ) (n : Option ℕ) (x : List ℕ) → is_name MOST_NAME_BYTES base ≡ true →
    IsSmall n → short_name (default_name base n) ≡ Ok x → is_name MOST_NAME_BYTES x ≡ true
short_name_ok base n x own small h =
    let p = if_ok (nat_le (length (default_name base n)) MOST_NAME_BYTES) (default_name base n) x FieldFault.Text h in
    let b = name_parts MOST_NAME_BYTES base own in
    let more : length (default_name base n) ≡ length base + length (option_map_or decimal n []) =
    length-append base (option_map_or decimal n []) in
    let some : 0 < length base = b.some in
    ap (is_name MOST_NAME_BYTES) (sym p.1) ∙ name_from MOST_NAME_BYTES (default_name base n) (record {
      some = omega arith;
      short = leb-true (length (default_name base n)) MOST_NAME_BYTES p.0;
      bytes = list_all_append is_name_byte base (option_map_or decimal n []) b.bytes (default_bytes n small);
    })

name_given_ok : (base : List ℕ) (n : Option ℕ) (d : Data) (x : List ℕ) →
    is_name MOST_NAME_BYTES base ≡ true → IsSmall n → name_given base n d ≡ Ok x → is_name MOST_NAME_BYTES x ≡ true
name_given_ok base n d x own small h = by (given (codes "name") d) h
  where
    by : (o : Option Data) → name_or_default base n o ≡ Ok x → is_name MOST_NAME_BYTES x ≡ true
    by None f = short_name_ok base n x own small f
    by (Some e) f = (ruled_value_ok (is_name MOST_NAME_BYTES) e x f).1

-- ---- properties

abbrev AreNames : List (List ℕ) → Type 0
AreNames list = list_all (is_name MOST_NAME_BYTES) list ≡ true

names_insert : (k : List ℕ) (ks : List (List ℕ)) →
    is_name MOST_NAME_BYTES k ≡ true → AreNames ks → AreNames (insert_key (slice_cmp nat_cmp) ks k)
names_insert k [] one all = and_from (is_name MOST_NAME_BYTES k) true one refl
names_insert k (x ∷ xs) one all = by (slice_cmp nat_cmp k x)
    (names_insert k xs one (and_parts (is_name MOST_NAME_BYTES x) (list_all (is_name MOST_NAME_BYTES) xs) all).1)
  where
    by : (o : Ordering) → AreNames (insert_key (slice_cmp nat_cmp) xs k) →
        AreNames (match_ordering o (k ∷ x ∷ xs) (x ∷ xs) (x ∷ insert_key (slice_cmp nat_cmp) xs k))
    by Less rest = and_from (is_name MOST_NAME_BYTES k) (list_all (is_name MOST_NAME_BYTES) (x ∷ xs)) one all
    by Equal rest = all
    by Greater rest =
        and_from (is_name MOST_NAME_BYTES x) (list_all (is_name MOST_NAME_BYTES) (insert_key (slice_cmp nat_cmp) xs k))
        (and_parts (is_name MOST_NAME_BYTES x) (list_all (is_name MOST_NAME_BYTES) xs) all).0 rest

names_fold : (ks more : List (List ℕ)) →
    AreNames ks → AreNames more → AreNames (fold (insert_key (slice_cmp nat_cmp)) ks more)
names_fold ks [] all rest = all
names_fold ks (k ∷ more) all rest =
    let p = and_parts (is_name MOST_NAME_BYTES k) (list_all (is_name MOST_NAME_BYTES) more) rest in
    names_fold (insert_key (slice_cmp nat_cmp) ks k) more (names_insert k ks p.0 all) p.1

no_fault : {A E : Type 0} (r : Result A E) → result_err r ≡ None → (x : A) × (r ≡ Ok x)
no_fault (Ok x) h = (x, refl)
no_fault (Err e) h = absurd (let clash : Some e ≡ None = h in cc)

texts_are_names : (at m : ℕ) (ds : Items) → first_misfit at m ds ≡ None → AreNames (texts_in ds)
texts_are_names at m no_items h = refl
texts_are_names at m (item d ds) h =
    let both = neither (result_err (at_field (Property at m) (ruled_value (is_name MOST_NAME_BYTES) d)))
    (first_misfit at (suc m) ds) h in
    let found = no_fault (at_field (Property at m) (ruled_value (is_name MOST_NAME_BYTES) d)) both.0 in
    let text = ruled_value_ok (is_name MOST_NAME_BYTES) d found.0
    (at_ok (Property at m) (ruled_value (is_name MOST_NAME_BYTES) d) found.0 found.1) in
    ap (λ o. list_all (is_name MOST_NAME_BYTES) (option_map_or (λ s. s ∷ texts_in ds) o (texts_in ds))) text.0
    ∙ and_from (is_name MOST_NAME_BYTES found.0)
    (list_all (is_name MOST_NAME_BYTES) (texts_in ds)) text.1 (texts_are_names at (suc m) ds both.1)

unless_ok : {A : Type 0} (o : Option FileMisfit) (x y : A) → unless_misfit o x ≡ Ok y → (o ≡ None) × (x ≡ y)
unless_ok None x y h = (refl, (let same : x ≡ y = cc in same))
unless_ok (Some m) x y h = err_ok m y h

properties_of_ok : (at : ℕ) (d : Data) (ps : List (List ℕ)) →
    IsOrdered d → properties_of at d ≡ Ok ps → AreProperties ps
properties_of_ok at null ps up h = err_ok _ ps h
properties_of_ok at (boolean b) ps up h = err_ok _ ps h
properties_of_ok at (number m) ps up h = err_ok _ ps h
properties_of_ok at (string s) ps up h = err_ok _ ps h
properties_of_ok at (array ds) ps up h =
    let p = unless_ok (first_misfit at 0 ds) (in_order (texts_in ds)) ps h in
    subst AreProperties p.1 (
      names_fold [] (texts_in ds) refl (texts_are_names at 0 ds p.0),
      in_order-ordered (in_order (texts_in ds)) (ordered-in_order (texts_in ds)),
    )
properties_of_ok at (object ms) ps up h =
    let p = if_ok (list_all (is_name MOST_NAME_BYTES) (keys_of ms)) (keys_of ms) ps
    (record { field = PropertyKey at; fault = FieldFault.Text }) h in
    subst AreProperties p.1 (p.0, in_order-ordered (keys_of ms) up.0)

properties_given_ok : (at : ℕ) (d : Data) (ps : List (List ℕ)) →
    IsOrdered d → properties_given at d ≡ Ok ps → AreProperties ps
properties_given_ok at d ps up h = by (given (codes "properties") d) refl h
  where
    by : (o : Option Data) → given (codes "properties") d ≡ o → properties_or_none at o ≡ Ok ps → AreProperties ps
    by None g f = let same : [] ≡ ps = cc in subst AreProperties same (refl, refl)
    by (Some e) g f =
        properties_of_ok at e ps (get_ordered (codes "properties") d e up (given_some (codes "properties") d e g)) f

-- ---- nodes

-- a node whose texts and numbers keep their rules
pub record IsFitNode (x : FileNode) : Type 0 where
  pub kind : is_name MOST_TYPE_BYTES x.kind ≡ true
  pub base : is_name MOST_NAME_BYTES x.base ≡ true
  pub number : IfSome x.number (λ n. n ≤ GREATEST_ID)
  pub name : is_name MOST_NAME_BYTES x.name ≡ true
  pub rank : IfSome x.rank (λ n. n ≤ GREATEST_ID)
  pub unit : is_unit x.unit ≡ true
  pub properties : AreProperties x.properties

then_fits : {A B E P : Type 0} (r : Result A E) (f : A → Result B E) (y : B) →
    result_and_then r f ≡ Ok y → ((x : A) → r ≡ Ok x → f x ≡ Ok y → P) → P
then_fits (Ok x) f y h next = next x refl h
then_fits (Err e) f y h next = err_ok e y h

node_with_ok : (at : ℕ) (id : List ℕ) (d : Data) (x : FileNode) → IsOrdered d → node_with at id d ≡ Ok x → IsFitNode x
node_with_ok at id d x up h =
    then_fits (at_key at TypeName (ruled_field (is_name MOST_TYPE_BYTES) (codes "type") d)) _ x h (λ kind kind_is h1.
    then_fits (at_key at Basename (ruled_given (is_name MOST_NAME_BYTES) kind (codes "basename") d)) _ x h1
    (λ base base_is h2.
    then_fits (at_key at Number (small_given (codes "id") d)) _ x h2 (λ n n_is h3.
    then_fits (at_key at Name (name_given base n d)) _ x h3 (λ name name_is h4.
    then_fits (at_key at Rank (small_given (codes "rank") d)) _ x h4 (λ rank rank_is h5.
    then_fits (at_key at Size (size_given (codes "size") d)) _ x h5 (λ size size_is h6.
    then_fits (at_key at Unit (ruled_given is_unit [] (codes "unit") d)) _ x h6 (λ unit unit_is h7.
    let made = both_ok (λ properties.
    record {
      id = id;
      kind = kind;
      base = base;
      number = n;
      name = name;
      rank = rank;
      size = size;
      unit = unit;
      properties = properties;
    }) (λ m. m) (properties_given at d) x h7 in
    let kind_fits : is_name MOST_TYPE_BYTES kind ≡ true =
    ruled_field_ok (is_name MOST_TYPE_BYTES) (codes "type") d kind (at_ok (NodeField at TypeName) _ kind kind_is) in
    let base_fits : is_name MOST_NAME_BYTES base ≡ true = ruled_given_ok (is_name MOST_NAME_BYTES) kind
    (codes "basename") d base (longer_name kind kind_fits) (at_ok (NodeField at Basename) _ base base_is) in
    let n_fits : IsSmall n = small_given_ok (codes "id") d n (at_ok (NodeField at Number) _ n n_is) in
    subst IsFitNode made.2 (record {
      kind = kind_fits;
      base = base_fits;
      number = n_fits;
      name = name_given_ok base n d name base_fits n_fits (at_ok (NodeField at Name) _ name name_is);
      rank = small_given_ok (codes "rank") d rank (at_ok (NodeField at Rank) _ rank rank_is);
      unit = ruled_given_ok is_unit [] (codes "unit") d unit refl (at_ok (NodeField at Unit) _ unit unit_is);
      properties = properties_given_ok at d made.0 up made.1;
    }))))))))

object_ok : (d e : Data) → object_value d ≡ Ok e → d ≡ e
object_ok d e h = (if_ok (is_some (as_object d)) d e FieldFault.Kind h).1

object_field_ok : (key : List ℕ) (d e : Data) → object_field key d ≡ Ok e → get key d ≡ Some e
object_field_ok key d e h = by (get key d) h
  where
    by : (o : Option Data) → object_of o ≡ Ok e → o ≡ Some e
    by None f = err_ok FieldFault.Missing e f
    by (Some c) f = ap Some (object_ok c e f)

node_ok : (at : ℕ) (d : Data) (x : FileNode) → IsOrdered d → node_of at d ≡ Ok x → IsFitNode x
node_ok at d x up h =
    then_fits (at_field (Node at) (object_value d)) _ x h (λ whole whole_is h1.
    then_fits (at_key at Id (id_field (codes "id") whole)) _ x h1 (λ id id_is h2.
    then_fits (at_key at Metadata (object_field (codes "metadata") whole)) _ x h2 (λ metadata metadata_is h3.
    let same : d ≡ whole = object_ok d whole (at_ok (Node at) (object_value d) whole whole_is) in
    let found : get (codes "metadata") whole ≡ Some metadata =
    object_field_ok (codes "metadata") whole metadata (at_ok (NodeField at Metadata) _ metadata metadata_is) in
    node_with_ok at id metadata x (get_ordered (codes "metadata") whole metadata (subst IsOrdered same up) found) h3)))

nodes_ok : (at : ℕ) (ds : Items) (xs : List FileNode) →
    AreOrdered ds → nodes_of at ds ≡ Ok xs → AllByRecursion IsFitNode xs
nodes_ok at no_items xs up h = let same : [] ≡ xs = cc in subst (AllByRecursion IsFitNode) same tt
nodes_ok at (item d ds) xs up h =
    let x = then_ok (node_of at d) (λ x. result_map_both (λ xs. x ∷ xs) (λ m. m) (nodes_of (suc at) ds)) xs h in
    let rest = both_ok (λ xs. x.0 ∷ xs) (λ m. m) (nodes_of (suc at) ds) xs x.2 in
    subst (AllByRecursion IsFitNode) rest.2 (node_ok at d x.0 up.0 x.1, nodes_ok (suc at) ds rest.0 up.1 rest.1)

-- ---- the file

list_value_ordered : (d : Data) (ds : Items) → IsOrdered d → list_or_kind (as_array d) ≡ Ok ds → AreOrdered ds
list_value_ordered null ds up h = err_ok FieldFault.Kind ds h
list_value_ordered (boolean b) ds up h = err_ok FieldFault.Kind ds h
list_value_ordered (number m) ds up h = err_ok FieldFault.Kind ds h
list_value_ordered (string s) ds up h = err_ok FieldFault.Kind ds h
list_value_ordered (array es) ds up h = let same : es ≡ ds = cc in subst AreOrdered same up
list_value_ordered (object ms) ds up h = err_ok FieldFault.Kind ds h

list_field_ordered : (key : List ℕ) (d : Data) (ds : Items) → IsOrdered d → list_field key d ≡ Ok ds → AreOrdered ds
list_field_ordered key d ds up h = by (get key d) refl h
  where
    by : (o : Option Data) → get key d ≡ o → list_of o ≡ Ok ds → AreOrdered ds
    by None g f = err_ok FieldFault.Missing ds f
    by (Some e) g f = list_value_ordered e ds (get_ordered key d e up g) f

lists_in_ordered : (d : Data) (lists : FileLists) → IsOrdered d → lists_in d ≡ Ok lists → AreOrdered lists.nodes
lists_in_ordered d lists up h =
    then_fits (at_field Nodes (list_field (codes "nodes") d)) _ lists h (λ nodes nodes_is h1.
    let made = both_ok (λ edges. record { nodes = nodes; edges = edges }) (λ m. m)
    (at_field Edges (list_field (codes "edges") d)) lists h1 in
    subst (λ (l : FileLists). AreOrdered l.nodes) made.2
    (list_field_ordered (codes "nodes") d nodes up (at_ok Nodes _ nodes nodes_is)))

lists_ordered : (d : Data) (lists : FileLists) → IsOrdered d → lists_of d ≡ Ok lists → AreOrdered lists.nodes
lists_ordered d lists up h =
    then_fits (at_field Whole (object_value d)) _ lists h (λ whole whole_is h1.
    then_fits (at_field Graph (object_field (codes "graph") whole)) _ lists h1 (λ graph graph_is h2.
    let same : d ≡ whole = object_ok d whole (at_ok Whole (object_value d) whole whole_is) in
    let found : get (codes "graph") whole ≡ Some graph =
    object_field_ok (codes "graph") whole graph (at_ok Graph _ graph graph_is) in
    lists_in_ordered graph lists (get_ordered (codes "graph") whole graph (subst IsOrdered same up) found) h2))

file_ok : (d : Data) (file : GraphFile) → IsOrdered d → file_of d ≡ Ok file → AllByRecursion IsFitNode file.nodes
file_ok d file up h =
    then_fits (lists_of d) _ file h (λ lists lists_is h1.
    let made = both_ok (λ nodes. record { nodes = nodes; edges = edges_of 0 lists.edges }) (λ m. m)
    (nodes_of 0 lists.nodes) file h1 in
    subst (λ (f : GraphFile). AllByRecursion IsFitNode f.nodes) made.2
    (nodes_ok 0 lists.nodes made.0 (lists_ordered d lists up lists_is) made.1))

-- the nodes of a file keep their rules
pub nodes_fit : (bytes : List ℕ) (file : GraphFile) → Says bytes file → AllByRecursion IsFitNode file.nodes
nodes_fit bytes file (d, value, says) = file_ok d file (value_of-ordered bytes d value) says
