-- The keys of an object, each once and in order, and those of its members as they came.
use Rattle.std.proofs.Common.{◌≡◌, refl, sym, ◌∙◌, ap, ℕ, Bool, true, false, ◌&&◌, List, [], ◌∷◌, Bor, Ordering}
use Rattle.std.proofs.Common.{Less, Equal, Greater}
use Rattle.std.specs.List.{list_all}
use Rattle.std.specs.Ordering.{nat_cmp, match_ordering}
use Rattle.std.specs.Cmp.Lexicographic.{slice_cmp}
use Rattle.std.proofs.lemmas.Map.Lookups.{exact_bytes}
use Rattle.std.proofs.Math.Bool.{and-true}
use Rattle.json.specs.declared.value.Value.{Value}
use Rattle.json.specs.Value.{members_view}
use Rattle.serde_json.specs.Data.{Data, Members, no_members, member, put}
use Rattle.json_whole.specs.Values.{view, members_data, object_view}
use Rattle.json_fields.specs.Values.{keys_of}

-- ---- tests in another order

and_same : (a b c : Bool) → a ≡ b → (b && c) ≡ (a && (b && c))
and_same true b c same = refl
and_same false true c same = absurd (cc)
and_same false false c same = refl

and_swap : (a b c : Bool) → (a && (b && c)) ≡ (b && (a && c))
and_swap true b c = refl
and_swap false true c = refl
and_swap false false c = refl

and_nest : (a b c : Bool) → (b && (a && c)) ≡ ((a && b) && c)
and_nest true b c = refl
and_nest false true c = refl
and_nest false false c = refl

-- ---- a rule of keys

module _ (rule : List ℕ → Bool) where
  abbrev all_keep : Members → Bool
  all_keep ms = list_all rule (keys_of ms)

  at_order : (o : Ordering) (k l : List ℕ) (d e : Data) (ms : Members) → slice_cmp nat_cmp k l ≡ o →
      all_keep (put k d ms) ≡ (rule k && all_keep ms) →
      all_keep (match_ordering o (member k d (member l e ms)) (member l d ms) (member l e (put k d ms)))
      ≡ (rule k && (rule l && all_keep ms))
  at_order Less k l d e ms is more = refl
  at_order Equal k l d e ms is more = and_same (rule k) (rule l) (all_keep ms) (ap rule (exact_bytes k l is))
  at_order Greater k l d e ms is more = ap (λ b. rule l && b) more ∙ and_swap (rule l) (rule k) (all_keep ms)

  -- with one more key
  keys_put : (k : List ℕ) (d : Data) (ms : Members) → all_keep (put k d ms) ≡ (rule k && all_keep ms)
  keys_put k d no_members = refl
  keys_put k d (member l e ms) = at_order (slice_cmp nat_cmp k l) k l d e ms refl (keys_put k d ms)

  -- the key of each member as it came
  abbrev each_keeps : {A : Type 0} → List (Bor (List ℕ) × Value A) → Bool
  each_keeps ms = list_all (λ m. rule m.0.now) ms

  keys_behind : {A : Type 0} (ms : List (Bor (List ℕ) × Value A)) (found : Members) →
      all_keep (members_data (members_view ms) found) ≡ (each_keeps ms && all_keep found)
  keys_behind [] found = refl
  keys_behind (m ∷ ms) found =
      keys_behind ms (put m.0.now (view m.1) found)
      ∙ (ap (λ b. each_keeps ms && b) (keys_put m.0.now (view m.1) found)
      ∙ and_nest (rule m.0.now) (each_keeps ms) (all_keep found))

  -- all keys of an object keep the rule exactly where those of its members do, as they came
  pub keys_as_came : {A : Type 0} (ms : List (Bor (List ℕ) × Value A)) →
      list_all (λ m. rule m.0.now) ms ≡ list_all rule (keys_of (object_view ms))
  keys_as_came ms = sym (keys_behind ms no_members ∙ and-true (each_keeps ms))
