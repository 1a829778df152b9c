-- How a text falls into items, and an item into two types.
use Rattle.std.proofs.Common.{◌≡◌, ◌≢◌, ℕ, ◌+◌, nat_lt, nat_le, true, ◌&&◌, List, [], ◌∷◌, ◌++◌, length}
use Rattle.std.proofs.Common.{sum_by, refl, sym, ◌∙◌, ap, subst, arith, IsTrue, true≢false, cond}
use Rattle.std.proofs.Common.{append_assoc, Option, Some, None, MatchOption}
use Rattle.std.specs.List.{AllByRecursion, AllZip, onto_first, list_all}
use Rattle.std.proofs.lemmas.Bool.{and_parts, ne_eqb}
use Rattle.std.proofs.lemmas.List.Sums.{sum_by_push}
use Rattle.prune_filters.specs.declared.rules.Rule.{Rule}
use Rattle.text_forms.specs.Cuts.{Lacks}
use Rattle.text_forms.specs.Names.{is_name_byte}
use Rattle.prune_filters.specs.Names.{is_type_name, items_of}
use Rattle.prune_filters.specs.Filters.{Spells, IsRule, IsFirstFault, AreRulesOf}

-- a text without a comma is one item
pub items_none : (text : List ℕ) → Lacks 44 text → items_of text ≡ text ∷ []
items_none [] none = refl
items_none (b ∷ bs) none =
    ap (λ test. cond test ([] ∷ items_of bs) (onto_first b (items_of bs))) (ne_eqb b 44 none.0)
    ∙ ap (onto_first b) (items_none bs none.1)

-- a comma ends the first item
pub items_cut : (item rest : List ℕ) → Lacks 44 item → items_of (item ++ 44 ∷ rest) ≡ item ∷ items_of rest
items_cut [] rest none = refl
items_cut (b ∷ bs) rest none =
    ap (λ test. cond test ([] ∷ items_of (bs ++ 44 ∷ rest)) (onto_first b (items_of (bs ++ 44 ∷ rest))))
    (ne_eqb b 44 none.0) ∙ ap (onto_first b) (items_cut bs rest none.1)

-- a type's name has no colon
no_colon_byte : (b : ℕ) → is_name_byte b ≡ true → b ≢ 58
no_colon_byte b h e = true≢false (sym (subst (λ x. is_name_byte x ≡ true) e h))

no_colons : (bytes : List ℕ) → list_all is_name_byte bytes ≡ true → Lacks 58 bytes
no_colons [] h = tt
no_colons (b ∷ bs) h = let p = and_parts (is_name_byte b) (list_all is_name_byte bs) h in
    (no_colon_byte b p.0, no_colons bs p.1)

pub no_colon : (name : List ℕ) → IsTrue (is_type_name name) → Lacks 58 name
no_colon name h = no_colons name
    (and_parts (nat_lt 0 (length name) && nat_le (length name) 64) (list_all is_name_byte name) h).1

-- so an item without a colon is no rule
has_colon : (a b : List ℕ) → Lacks 58 (a ++ 58 ∷ b) → ⊥
has_colon [] b none = none.0 refl
has_colon (x ∷ a) b none = has_colon a b none.1

pub no_rule : (item : List ℕ) → Lacks 58 item → IsRule item → ⊥
no_rule item none (rule, s) = has_colon rule.high rule.low (subst (Lacks 58) s.spelled none)

-- what stands before and behind the first colon is determined
pub cut_once : (a b c d : List ℕ) → Lacks 58 a → Lacks 58 c → a ++ 58 ∷ b ≡ c ++ 58 ∷ d → (a ≡ c) × (b ≡ d)
cut_once [] b [] d la lc e = (refl, cc)
cut_once [] b (y ∷ c) d la lc e = absurd (lc.0 (let same : y ≡ 58 = cc in same))
cut_once (x ∷ a) b [] d la lc e = absurd (la.0 (let same : x ≡ 58 = cc in same))
cut_once (x ∷ a) b (y ∷ c) d la lc e =
    let head : x ≡ y = cc in
    let tail : a ++ 58 ∷ b ≡ c ++ 58 ∷ d = cc in
    let r = cut_once a b c d la.1 lc.1 tail in
    (let same : a ≡ c = r.0 in cc, r.1)

-- so an item is a rule only if both its parts are names
pub rule_parts : (item a b : List ℕ) →
    item ≡ a ++ 58 ∷ b → Lacks 58 a → IsRule item → IsTrue (is_type_name a) × IsTrue (is_type_name b)
rule_parts item a b e none (rule, s) =
    let r = cut_once a b rule.high rule.low none (no_colon rule.high s.high) (sym e ∙ s.spelled) in (
      subst (λ (x : List ℕ). IsTrue (is_type_name x)) (sym r.0) s.high,
      subst (λ (x : List ℕ). IsTrue (is_type_name x)) (sym r.1) s.low,
    )

-- one more item and its rule
pub zip_push : (items : List (List ℕ)) (rules : List Rule) (item : List ℕ) (rule : Rule) →
    AllZip Spells items rules → Spells item rule → AllZip Spells (items ++ item ∷ []) (rules ++ rule ∷ [])
zip_push [] [] item rule each s = (s, tt)
zip_push [] (r ∷ rs) item rule each s = elim each [ ]
zip_push (i ∷ is) [] item rule each s = elim each [ ]
zip_push (i ∷ is) (r ∷ rs) item rule each s = (each.0, zip_push is rs item rule each.1 s)

pub zip_rules : (items : List (List ℕ)) (rules : List Rule) → AllZip Spells items rules → AllByRecursion IsRule items
zip_rules [] rules each = tt
zip_rules (i ∷ is) [] each = elim each [ ]
zip_rules (i ∷ is) (r ∷ rs) each = ((r, each.0), zip_rules is rs each.1)

-- how many bytes items take with their commas
abbrev pub bytes_of : List (List ℕ) → ℕ
bytes_of items = sum_by (λ i. length i + 1) items

pub bytes_push : (items : List (List ℕ)) (item : List ℕ) →
    bytes_of (items ++ item ∷ []) ≡ bytes_of items + (length item + 1)
bytes_push items item = sum_by_push (λ (i : List ℕ). length i + 1) items item

-- a text has a first item, whatever stands behind it
pub first_head : {R : Type 0} (f : R → List (List ℕ)) (text item : List ℕ) (o : Option R) →
    MatchOption o (items_of text ≡ item ∷ []) (λ r. items_of text ≡ item ∷ f r) →
    (after : List (List ℕ)) × (items_of text ≡ item ∷ after)
first_head f text item None e = ([], e)
first_head f text item (Some r) e = (f r, e)

-- the first item that is no rule
pub first_fault : (text rest item : List ℕ) (after : List (List ℕ)) (at : ℕ) (rules : List Rule) →
    ((before : List (List ℕ))
    × (items_of text ≡ before ++ items_of rest) × AllZip Spells before rules × (at ≡ bytes_of before)) →
    items_of rest ≡ item ∷ after → (IsRule item → ⊥) → IsFirstFault text at
first_fault text rest item after at rules (before, split, each, place) e broken = record {
  before = before;
  item = item;
  after = after;
  items = split ∙ ap (λ items. before ++ items) e;
  rules = zip_rules before rules each;
  broken = broken;
  place = place;
}

-- one more item was read
pub read_more : (text rest item next : List ℕ) (at : ℕ) (rules : List Rule) (rule : Rule) →
    ((before : List (List ℕ))
    × (items_of text ≡ before ++ items_of rest) × AllZip Spells before rules × (at ≡ bytes_of before)) →
    items_of rest ≡ item ∷ items_of next → Spells item rule →
    (before : List (List ℕ)) × (items_of text ≡ before ++ items_of next)
    × AllZip Spells before (rules ++ rule ∷ []) × (at + (length item + 1) ≡ bytes_of before)
read_more text rest item next at rules rule (before, split, each, place) e s = (
  before ++ item ∷ [],
  split ∙ (ap (λ items. before ++ items) e ∙ sym (append_assoc before (item ∷ []) (items_of next))),
  zip_push before rules item rule each s,
  (let more : bytes_of (before ++ item ∷ []) ≡ bytes_of before + (length item + 1) = bytes_push before item in
      omega arith),
)

-- the last item was read
pub read_last : (text rest item : List ℕ) (at : ℕ) (rules : List Rule) (rule : Rule) →
    ((before : List (List ℕ))
    × (items_of text ≡ before ++ items_of rest) × AllZip Spells before rules × (at ≡ bytes_of before)) →
    items_of rest ≡ item ∷ [] → Spells item rule → AreRulesOf text (rules ++ rule ∷ [])
read_last text rest item at rules rule (before, split, each, place) e s =
    subst (λ (items : List (List ℕ)). AllZip Spells items (rules ++ rule ∷ []))
    (sym (split ∙ ap (λ items. before ++ items) e)) (zip_push before rules item rule each s)
