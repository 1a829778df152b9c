-- The keys that were seen, one index more at a time.
use Rattle.std.proofs.Common.{◌≡◌, ℕ, ◌+◌, ◌<◌, ◌↔◌, Bool, true, false, cond, List, length, get_or, Option, Some, None}
use Rattle.std.proofs.Common.{inl, inr, refl, sym, ◌∙◌, ap, arith, IsTrue, true≢false}
use Rattle.std.specs.Prelude.{slice_get}
use Rattle.std.specs.Ordering.{is_eq, is_le}
use Rattle.std.specs.BTreeMap.Comparable.{le_lt_trans}
use Rattle.std.specs.Cmp.{IsTotalOrder, Equal-is, tied_itself}
use Rattle.std.proofs.lemmas.Bool.{cases_lt, cases_Bool}
use Rattle.std.proofs.lemmas.Option.{slice_get-get_or, slice_get_within}
use Rattle.std.specs.declared.cmp.Ordering.{Ordering}
use Rattle.std.specs.declared.cmp.Ordering.TheVariants.{Less, Equal}
use Rattle.graph_build.specs.Keys.{IsRepeated}

-- one of the first so many indices has this key
abbrev pub HasSeen : {K : Type 0} → (K → K → Ordering) → List (Option K) → ℕ → K → Type 0
HasSeen {K} cmp keys most key = (u : ℕ) × (a : K) × (u < most) × (slice_get keys u ≡ Some (Some a))
    × (cmp a key ≡ Equal)

-- exactly the keys of the first so many indices pass the test
abbrev pub SeesKeys : {K : Type 0} → (K → K → Ordering) → List (Option K) → ℕ → (K → Bool) → Type 0
SeesKeys {K} cmp keys most has = (key : K) → has key ≡ true ↔ HasSeen cmp keys most key

module _ {K : Type 0} (cmp : K → K → Ordering) (keys : List (Option K)) where
  -- what was read at an index
  pub read_at : (v : ℕ) (d o : Option K) → v < length keys → get_or keys v d ≡ o → slice_get keys v ≡ Some o
  read_at v d o lt e = slice_get-get_or keys v d lt ∙ ap Some e

  pub sees_none : (has : K → Bool) → ((q : K) → has q ≡ false) → SeesKeys cmp keys 0 has
  sees_none has none q = (
    (λ h. absurd (true≢false (sym h ∙ none q))),
    (λ seen. absurd (let lt = seen.2 in omega arith)),
  )

  -- an index without a key
  pub sees_skip : (v : ℕ) (has : K → Bool) → slice_get keys v ≡ Some None → SeesKeys cmp keys v has →
      SeesKeys cmp keys (v + 1) has
  sees_skip v has at sees q = (
    (λ h. (let s = (sees q).0 h in (s.0, s.1, (let lt = s.2 in omega arith), s.3, s.4))),
    (λ s. elim (cases_lt s.0 v) [
      | inl before ↦ (sees q).1 (s.0, s.1, before, s.3, s.4)
      | inr last ↦ absurd (let is : s.0 ≡ v = (let lt = s.2 in omega arith) in
          let clash : Some None ≡ Some (Some s.1) = sym at ∙ (ap (slice_get keys) (sym is) ∙ s.3) in cc)
    ]),
  )

  -- an index with one
  pub sees_more : (v : ℕ) (key : K) (old new : K → Bool) → slice_get keys v ≡ Some (Some key) →
      ((q : K) → new q ≡ cond (is_eq (cmp key q)) true (old q)) → SeesKeys cmp keys v old →
      SeesKeys cmp keys (v + 1) new
  sees_more v key old new at adds sees q = (
    (λ h. elim (cases_Bool (is_eq (cmp key q))) [
      | inl same ↦ (v, key, omega arith, at, (Equal-is (cmp key q)).0 same)
      | inr differ ↦ (let s = (sees q).0 (sym (ap (λ b. cond b true (old q)) differ) ∙ (sym (adds q) ∙ h)) in
          (s.0, s.1, (let lt = s.2 in omega arith), s.3, s.4))
    ]),
    (λ s. adds q ∙ elim (cases_lt s.0 v) [
      | inl before ↦ either (is_eq (cmp key q)) (old q) ((sees q).1 (s.0, s.1, before, s.3, s.4))
      | inr last ↦ (
          let is : s.0 ≡ v = (let lt = s.2 in omega arith) in
          let same : s.1 ≡ key = (let e : Some (Some s.1) ≡ Some (Some key) = sym s.3
          ∙ (ap (slice_get keys) is ∙ at) in cc) in
          ap (λ b. cond b true (old q)) ((Equal-is (cmp key q)).1 (ap (λ k. cmp k q) (sym same) ∙ s.4)))
    ]),
  )
    where
      either : (a b : Bool) → b ≡ true → cond a true b ≡ true
      either true b h = refl
      either false b h = h

  pub repeated_here : (v : ℕ) (key : K) (has : K → Bool) → slice_get keys v ≡ Some (Some key) →
      SeesKeys cmp keys v has → has key ≡ true → IsRepeated cmp keys v
  repeated_here v key has at sees h = let s = (sees key).0 h in (s.0, s.1, key, s.2, s.3, at, s.4)

  pub new_here : (v : ℕ) (key : K) (has : K → Bool) → slice_get keys v ≡ Some (Some key) → SeesKeys cmp keys v has →
      has key ≡ false → IsRepeated cmp keys v → ⊥
  new_here v key has at sees h bad =
      let same : bad.2 ≡ key = (let e : Some (Some bad.2) ≡ Some (Some key) = sym bad.5 ∙ at in cc) in
      true≢false (sym ((sees key).1 (bad.0, bad.1, bad.3, bad.4, ap (cmp bad.1) (sym same) ∙ bad.6)) ∙ h)

  pub no_key_here : (v : ℕ) → slice_get keys v ≡ Some None → IsRepeated cmp keys v → ⊥
  no_key_here v at bad = let clash : Some None ≡ Some (Some bad.2) = sym at ∙ bad.5 in cc

  pub repeated_within : (v : ℕ) → IsRepeated cmp keys v → v < length keys
  repeated_within v bad = slice_get_within keys v (Some bad.2) bad.5

-- each key of the first so many indices is at most the last one
abbrev pub EndsWith : {K : Type 0} → (K → K → Ordering) → List (Option K) → ℕ → Option K → Type 0
EndsWith {K} cmp keys most last = (u : ℕ) (a : K) → u < most → slice_get keys u ≡ Some (Some a) →
    (b : K) × (last ≡ Some b) × IsTrue (is_le (cmp a b))

module _ {K : Type 0} (cmp : K → K → Ordering) (total : IsTotalOrder cmp) (keys : List (Option K)) where
  -- a key that is greater than the last one is greater than all before it
  greater_than_all : (v : ℕ) (key : K) (last : Option K) → EndsWith cmp keys v last →
      ((before : K) → last ≡ Some before → cmp before key ≡ Less) → (u : ℕ) (a : K) → u < v →
      slice_get keys u ≡ Some (Some a) → cmp a key ≡ Less
  greater_than_all v key last ends greater u a lt at =
      let r = ends u a lt at in le_lt_trans total a r.0 key r.2 (greater r.0 r.1)

  pub ends_more : (v : ℕ) (key : K) (last : Option K) → slice_get keys v ≡ Some (Some key) →
      EndsWith cmp keys v last → ((before : K) → last ≡ Some before → cmp before key ≡ Less) →
      EndsWith cmp keys (v + 1) (Some key)
  ends_more v key last at ends greater u a lt here = elim (cases_lt u v) [
    | inl before ↦ (key, refl, ap is_le (greater_than_all v key last ends greater u a before here))
    | inr not_before ↦ (
        let is : u ≡ v = omega (arith, lt, not_before) in
        let same : a ≡ key =
        (let e : Some (Some a) ≡ Some (Some key) = sym here ∙ (ap (slice_get keys) is ∙ at) in cc) in
        (key, refl, ap (λ k. is_le (cmp k key)) same ∙ ap is_le (tied_itself total key)))
  ]

  pub ends_skip : (v : ℕ) (last : Option K) → slice_get keys v ≡ Some None → EndsWith cmp keys v last →
      EndsWith cmp keys (v + 1) last
  ends_skip v last at ends u a lt here = elim (cases_lt u v) [
    | inl before ↦ ends u a before here
    | inr not_before ↦ absurd (
        let is : u ≡ v = omega (arith, lt, not_before) in
        let clash : Some None ≡ Some (Some a) = sym at ∙ (ap (slice_get keys) (sym is) ∙ here) in cc)
  ]

  pub greater_is_new : (v : ℕ) (key : K) (last : Option K) → slice_get keys v ≡ Some (Some key) →
      EndsWith cmp keys v last → ((before : K) → last ≡ Some before → cmp before key ≡ Less) →
      IsRepeated cmp keys v → ⊥
  greater_is_new v key last at ends greater bad =
      let same : bad.2 ≡ key = (let e : Some (Some bad.2) ≡ Some (Some key) = sym bad.5 ∙ at in cc) in
      let less : cmp bad.1 key ≡ Less = greater_than_all v key last ends greater bad.0 bad.1 bad.3 bad.4 in
      let equal : cmp bad.1 key ≡ Equal = ap (cmp bad.1) (sym same) ∙ bad.6 in
      true≢false (sym (ap is_eq equal) ∙ ap is_eq less)
