-- What a request vertex that has no fault says of itself.
use Rattle.std.proofs.Common.{◌≡◌, refl, sym, ◌∙◌, ap, subst, ℕ, suc, ◌<◌, ◌≤◌, ◌&&◌, max, Bool, true, false}
use Rattle.std.proofs.Common.{Option, Some, None, List, Ok, Err, Result, nat_lt, codes, arith, if◌then◌else◌, Ordering}
use Rattle.std.proofs.Common.{Less, Equal, Greater}
use Rattle.std.proofs.lemmas.Bool.{ltb-false}
use Rattle.std.specs.Option.{option_map_or}
use Rattle.std.specs.Ordering.{nat_cmp, match_ordering}
use Rattle.std.specs.Cmp.Lexicographic.{slice_cmp}
use Rattle.serde_json.specs.Data.{Num, unsigned, negative, float, Data, null, boolean, number, string, array, object}
use Rattle.serde_json.specs.Data.{Items, no_items, item, Members, no_members, member, depth, items_depth, members_depth}
use Rattle.serde_json.specs.Find.{get, get_member, as_number}
use Rattle.json_whole.specs.Field.{in_range, number_or_kind, u64_of, u64_field}
use Rattle.json_fields.specs.Values.{result_and_then, list_value, some_value, some_items}
use Rattle.json_fields.specs.Names.{ruled_field}
use Rattle.text_forms.specs.Names.{is_name}
use Rattle.need_shape.specs.Requests.{is_slot}
use Rattle.jobspec_v1.specs.declared.headers.KeyFault.{KeyFault}
use Rattle.jobspec_v1.specs.declared.headers.KeyFault.TheVariants as of_key
use Rattle.jobspec_v1.specs.Requests.{Said, said_by, keys_given, type_given, count_given, is_other_count, of_field}
use Rattle.jobspec_v1.specs.Requests.{unit_given, exclusive_given, label_given, with_or, with_given, listed, inner_of}
use Rattle.jobspec_v1.specs.Requests.{inner_in, requests_of, nothing}
use Rattle.flux_defs.specs.declared.limits.TheConstants.{GREATEST_NUMBER, MOST_TYPE_BYTES}
use Rattle.json_fields.proofs.Results.{ok_is, no_ok, then_ok, same_ok, else_ok}

-- ---- each key by itself

in_range_ok : (least most : ℕ) (x : Num) (n : ℕ) → in_range least most x ≡ Ok n → (least ≤ n) × (n ≤ most)
in_range_ok least most (unsigned m) n h =
    let low = else_ok (nat_lt m least) _ (if nat_lt most m then Err _ else Ok m) n h in
    let high = else_ok (nat_lt most m) _ (Ok m) n low.1 in
    let same : m ≡ n = ok_is m n high.1 in
    (subst (λ k. least ≤ k) same (ltb-false m least low.0), subst (λ k. k ≤ most) same (ltb-false most m high.0))
in_range_ok least most (negative z) n h = absurd (no_ok _ n h)
in_range_ok least most (float x) n h = absurd (no_ok _ n h)

number_ok : (least most : ℕ) (o : Option Num) (n : ℕ) → number_or_kind least most o ≡ Ok n → (least ≤ n) × (n ≤ most)
number_ok least most None n h = absurd (no_ok _ n h)
number_ok least most (Some x) n h = in_range_ok least most x n h

u64_ok : (least most : ℕ) (o : Option Data) (n : ℕ) → u64_of least most o ≡ Ok n → (least ≤ n) × (n ≤ most)
u64_ok least most None n h = absurd (no_ok _ n h)
u64_ok least most (Some d) n h = number_ok least most (as_number d) n h

-- a count is in its bounds
pub count_ok : (d : Data) (n : ℕ) → count_given d ≡ Ok n → (1 ≤ n) × (n ≤ GREATEST_NUMBER)
count_ok d n h =
    let read = same_ok _ (if option_map_or is_other_count
    (get (codes "count") d) false then Err of_key.NotInProfile else of_field
    (u64_field (codes "count") 1 GREATEST_NUMBER d)) n h in
    let field = else_ok (option_map_or is_other_count (get (codes "count") d) false) _
    (of_field (u64_field (codes "count") 1 GREATEST_NUMBER d)) n read in
    u64_ok 1 GREATEST_NUMBER (get (codes "count") d) n
    (same_ok _ (u64_field (codes "count") 1 GREATEST_NUMBER d) n field.1)

-- a slot is in no slot
pub type_ok : (s : Bool) (d : Data) (kind : List ℕ) → type_given s d ≡ Ok kind → (is_slot kind && s) ≡ false
type_ok s d kind h =
    let f : List ℕ → Result (List ℕ) KeyFault = λ k. if is_slot k && s then Err of_key.NotInProfile else Ok k in
    let read = then_ok (of_field (ruled_field (is_name MOST_TYPE_BYTES) (codes "type") d)) f kind
    (same_ok _ (result_and_then (of_field (ruled_field (is_name MOST_TYPE_BYTES) (codes "type") d)) f) kind h) in
    let fine = else_ok (is_slot read.0 && s) _ (Ok read.0) kind read.2 in
    subst (λ k. (is_slot k && s) ≡ false) (ok_is read.0 kind fine.1) fine.0

-- ---- the list in one

some_ok : (ds es : Items) → some_items ds ≡ Ok es → ds ≡ es
some_ok no_items es h = absurd (no_ok _ es h)
some_ok (item d ds) es h = ok_is (item d ds) es h

some_is_some : (ds es : Items) → some_items ds ≡ Ok es → (e : Data) × (rest : Items) × (es ≡ item e rest)
some_is_some no_items es h = absurd (no_ok _ es h)
some_is_some (item d ds) es h = (d, ds, sym (ok_is (item d ds) es h))

list_ok : (d : Data) (ds : Items) → list_value d ≡ Ok ds → d ≡ array ds
list_ok null ds h = absurd (no_ok _ ds h)
list_ok (boolean b) ds h = absurd (no_ok _ ds h)
list_ok (number n) ds h = absurd (no_ok _ ds h)
list_ok (string s) ds h = absurd (no_ok _ ds h)
list_ok (array es) ds h = ap array (ok_is es ds h)
list_ok (object ms) ds h = absurd (no_ok _ ds h)

-- where a value gives these, it is the list of them
with_value : (slot : Bool) (d : Data) (ds : Items) → with_or slot (Some d) ≡ Ok ds → d ≡ array ds
with_value true d ds h =
    let some = then_ok (list_value d) some_items ds (same_ok _ (some_value d) ds h) in
    list_ok d some.0 some.1 ∙ ap array (some_ok some.0 ds some.2)
with_value false d ds h = list_ok d ds (same_ok _ (list_value d) ds h)

with_reads : (slot : Bool) (o : Option Data) (ds : Items) →
    with_or slot o ≡ Ok ds → option_map_or listed o nothing ≡ requests_of ds
with_reads true None ds h = absurd (no_ok _ ds h)
with_reads false None ds h = ap requests_of (ok_is no_items ds h)
with_reads slot (Some d) ds h = ap listed (with_value slot d ds h)

-- a slot's list holds something
with_some : (o : Option Data) (ds : Items) → with_or true o ≡ Ok ds → (e : Data) × (rest : Items) × (ds ≡ item e rest)
with_some None ds h = absurd (no_ok _ ds h)
with_some (Some d) ds h = let some = then_ok (list_value d) some_items ds (same_ok _ (some_value d) ds h) in
    some_is_some some.0 ds some.2

by_order : (o : Ordering) (d : Data) (ms : Members) →
    inner_in ms ≡ option_map_or listed (get_member (codes "with") ms) nothing →
    match_ordering o (inner_in ms) (listed d) (inner_in ms) ≡ option_map_or listed
    (match_ordering o (get_member (codes "with") ms) (Some d) (get_member (codes "with") ms)) nothing
by_order Less d ms h = h
by_order Equal d ms h = refl
by_order Greater d ms h = h

inner_in_is : (ms : Members) → inner_in ms ≡ option_map_or listed (get_member (codes "with") ms) nothing
inner_in_is no_members = refl
inner_in_is (member k d ms) = by_order (slice_cmp nat_cmp (codes "with") k) d ms (inner_in_is ms)

inner_is : (d : Data) → inner_of d ≡ option_map_or listed (get (codes "with") d) nothing
inner_is null = refl
inner_is (boolean b) = refl
inner_is (number n) = refl
inner_is (string s) = refl
inner_is (array ds) = refl
inner_is (object ms) = inner_in_is ms

-- ---- depths

deeper : (o : Ordering) (k : List ℕ) (d e : Data) (ms : Members) →
    (get_member k ms ≡ Some e → depth e ≤ members_depth ms) →
    match_ordering o (get_member k ms) (Some d) (get_member k ms) ≡ Some e → depth e ≤ max (depth d) (members_depth ms)
deeper Less k d e ms ih h = let below = ih h in omega (arith, below)
deeper Equal k d e ms ih h = let same : d ≡ e = cc in
    let below : depth d ≡ depth e = ap depth same in omega (arith, below)
deeper Greater k d e ms ih h = let below = ih h in omega (arith, below)

member_depth : (k : List ℕ) (ms : Members) (e : Data) → get_member k ms ≡ Some e → depth e ≤ members_depth ms
member_depth k no_members e h = absurd (cc)
member_depth k (member l d ms) e h = deeper (slice_cmp nat_cmp k l) k d e ms (member_depth k ms e) h

with_depth : (slot : Bool) (o : Option Data) (ds : Items) (most : ℕ) →
    ((e : Data) → o ≡ Some e → depth e ≤ most) → with_or slot o ≡ Ok ds → items_depth ds ≤ most
with_depth true None ds most below h = absurd (no_ok _ ds h)
with_depth false None ds most below h = let none : 0 ≡ items_depth ds = ap items_depth (ok_is no_items ds h) in
    omega (arith, none)
with_depth slot (Some d) ds most below h =
    let list : depth d ≡ suc (items_depth ds) = ap depth (with_value slot d ds h) in
    let least = below d refl in omega (arith, list, least)

-- ---- all of it

pub record IsSaid (s : Bool) (labels : List (List ℕ)) (d : Data) (said : Said) : Type 0 where
  pub count : (1 ≤ said.count) × (said.count ≤ GREATEST_NUMBER)
  pub slot : (is_slot said.kind && s) ≡ false
  pub some : is_slot said.kind ≡ true → (e : Data) × (rest : Items) × (said.with ≡ item e rest)
  pub inner : inner_of d ≡ requests_of said.with
  pub less : items_depth said.with < depth d

keys_ok : (d : Data) (b : Bool) → keys_given d ≡ Ok b → (ms : Members) × (d ≡ object ms)
keys_ok null b h = absurd (no_ok _ b h)
keys_ok (boolean x) b h = absurd (no_ok _ b h)
keys_ok (number x) b h = absurd (no_ok _ b h)
keys_ok (string x) b h = absurd (no_ok _ b h)
keys_ok (array x) b h = absurd (no_ok _ b h)
keys_ok (object ms) b h = (ms, refl)

pub said_is : (s : Bool) (labels : List (List ℕ)) (d : Data) (said : Said) →
    said_by s labels d ≡ Ok said → IsSaid s labels d said
said_is s labels d said h =
    let a = then_ok (keys_given d) _ said h in
    let b = then_ok (type_given s d) _ said a.2 in
    let c = then_ok (count_given d) _ said b.2 in
    let u = then_ok (unit_given d) _ said c.2 in
    let x = then_ok (exclusive_given (is_slot b.0) d) _ said u.2 in
    let l = then_ok (label_given labels (is_slot b.0) d) _ said x.2 in
    let w = then_ok (with_given (is_slot b.0) d) _ said l.2 in
    let all = ok_is (record { kind = b.0; count = c.0; exclusive = x.0; label = l.0; with = w.0 }) said w.2 in
    let kind : b.0 ≡ said.kind = ap (λ (t : Said). t.kind) all in
    let count : c.0 ≡ said.count = ap (λ (t : Said). t.count) all in
    let with : w.0 ≡ said.with = ap (λ (t : Said). t.with) all in
    let found : with_or (is_slot said.kind) (get (codes "with") d) ≡ Ok said.with =
    ap (λ k. with_or (is_slot k) (get (codes "with") d)) (sym kind)
    ∙ (same_ok _ (with_or (is_slot b.0) (get (codes "with") d)) w.0 w.1 ∙ ap Ok with) in
    let keys = keys_ok d a.0 a.1 in
    let bound : (e : Data) → get (codes "with") d ≡ Some e → depth e ≤ members_depth keys.0 =
    λ e here. member_depth (codes "with") keys.0 e (ap (get (codes "with")) (sym keys.1) ∙ here) in
    let low = with_depth (is_slot said.kind) (get (codes "with") d) said.with (members_depth keys.0) bound found in
    let top : depth d ≡ suc (members_depth keys.0) = ap depth keys.1 in
    record {
      count = subst (λ n. (1 ≤ n) × (n ≤ GREATEST_NUMBER)) count (count_ok d c.0 c.1);
      slot = subst (λ k. (is_slot k && s) ≡ false) kind (type_ok s d b.0 b.1);
      some = λ slot. with_some
          (get (codes "with") d) said.with (ap (λ t. with_or t (get (codes "with") d)) (sym slot) ∙ found);
      inner = inner_is d ∙ with_reads (is_slot said.kind) (get (codes "with") d) said.with found;
      less = omega (arith, low, top);
    }
