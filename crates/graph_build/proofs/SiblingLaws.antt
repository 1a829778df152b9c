-- Names of siblings that rise are apart.
use Rattle.std.proofs.Common.{◌≡◌, ℕ, ◌+◌, ◌<◌, ◌⊎◌, List, length, Option, Some, None, slice_get, slice_set}
use Rattle.std.proofs.Common.{inl, inr, sym, ◌∙◌, ap, subst, arith, true≢false}
use Rattle.std.specs.Borrow.{Bor}
use Rattle.std.specs.Cmp.Lexicographic.{nat_list_cmp_total}
use Rattle.std.specs.Ordering.{is_eq}
use Rattle.std.proofs.lemmas.Bool.{cases_lt, cases_eq}
use Rattle.list_laws.proofs.Lists.{get_set, get_beside}
use Rattle.resource_graph.specs.Finds.{IsFirstOf}
use Rattle.resource_graph.proofs.Finds.{finds_same}
use Rattle.graph_build.specs.Keys.{IsRepeated, IsDoubleSibling, IsNameBefore}
use Rattle.graph_build.specs.declared.doubles.SiblingKey.{SiblingKey}
use Rattle.graph_build.specs.contracts.doubles.SiblingKeyOrd.TheImpl as sibling
use Rattle.graph_build.proofs.OrderLaws.{itself_text, same_sibling, itself_sibling}

before_before : (a b c : List ℕ) → IsNameBefore a b → IsNameBefore b c → IsNameBefore a c
before_before a b c (inl p) (inl q) = inl (omega (arith, p, q))
before_before a b c (inl p) (inr q) = let e = q.0 in inl (omega (arith, p, e))
before_before a b c (inr p) (inl q) = let e = p.0 in inl (omega (arith, e, q))
before_before a b c (inr p) (inr q) = inr (p.0 ∙ q.0, nat_list_cmp_total.trans a b c p.1 q.1)

before_differs : (a b : List ℕ) → IsNameBefore a b → a ≡ b → ⊥
before_differs a b (inl p) e = let l : length a ≡ length b = ap length e in omega (arith, p, l)
before_differs a b (inr p) e = true≢false (sym (ap is_eq (itself_text a b e)) ∙ ap is_eq p.1)

-- the same name, or one before it
abbrev IsUpTo : List ℕ → List ℕ → Type 0
IsUpTo a b = (a ≡ b) ⊎ IsNameBefore a b

-- by parent, the name of its last child among the first so many, which comes after those of the others
abbrev pub NamesEnd : List (Option SiblingKey) → ℕ → List (Option (Bor (List ℕ))) → Type 0
NamesEnd keys most last = (u : ℕ) (a : SiblingKey) → u < most → slice_get keys u ≡ Some (Some a) →
    (n : Bor (List ℕ)) × (slice_get last a.parent ≡ Some (Some n)) × IsUpTo a.name.now n.now

module _ (keys : List (Option SiblingKey)) where
  pub names_same : (v : ℕ) (last : List (Option (Bor (List ℕ)))) → slice_get keys v ≡ Some None →
      NamesEnd keys v last → NamesEnd keys (v + 1) last
  names_same v last at ends u a lt here = elim (cases_lt u v) [
    | inl before ↦ ends u a before here
    | inr not_before ↦ absurd (
        let is : u ≡ v = omega (arith, lt, not_before) in
        let clash : Some None ≡ Some (Some a) = sym at ∙ (ap (slice_get keys) (sym is) ∙ here) in cc)
  ]

  pub no_sibling : (v : ℕ) → slice_get keys v ≡ Some None → IsDoubleSibling keys v → ⊥
  no_sibling v at bad = let clash : Some None ≡ Some (Some bad.2) = sym at ∙ bad.5 in cc

  module _ (v : ℕ) (key : SiblingKey) (last : List (Option (Bor (List ℕ))))
      (at : slice_get keys v ≡ Some (Some key)) (ends : NamesEnd keys v last)
      (after : (before : Bor (List ℕ)) → slice_get last key.parent ≡ Some (Some before) →
      IsNameBefore before.now key.name.now) where
    up_to_before : (a b : List ℕ) → IsUpTo a b → IsNameBefore b key.name.now → IsNameBefore a key.name.now
    up_to_before a b (inl same) less = subst (λ (n : List ℕ). IsNameBefore n key.name.now) (sym same) less
    up_to_before a b (inr before) less = before_before a b key.name.now before less

    -- the names of the siblings before it come before its own
    after_all : (u : ℕ) (a : SiblingKey) → u < v → slice_get keys u ≡ Some (Some a) → a.parent ≡ key.parent →
        IsNameBefore a.name.now key.name.now
    after_all u a lt here same =
        let r = ends u a lt here in
        up_to_before a.name.now r.0.now r.2 (after r.0 (ap (slice_get last) (sym same) ∙ r.1))

    pub new_name : IsDoubleSibling keys v → ⊥
    new_name bad =
        let is : bad.2 ≡ key = (let e : Some (Some bad.2) ≡ Some (Some key) = sym bad.5 ∙ at in cc) in
        before_differs bad.1.name.now key.name.now
        (after_all bad.0 bad.1 bad.3 bad.4 (bad.6 ∙ ap (λ (k : SiblingKey). k.parent) is))
        (bad.7 ∙ ap (λ (k : SiblingKey). k.name.now) is)

    pub names_more : key.parent < length last → NamesEnd keys (v + 1) (slice_set last key.parent (Some key.name))
    names_more inside u a lt here = elim (cases_lt u v) [
      | inl before ↦ elim (cases_eq a.parent key.parent) [
        | inl same ↦ (
          key.name,
          ap (slice_get (slice_set last key.parent (Some key.name))) same
              ∙ get_set last key.parent (Some key.name) inside,
          inr (after_all u a before here same),
        )
        | inr differ ↦ (let r = ends u a before here in
            (r.0, get_beside last key.parent a.parent (Some key.name) differ ∙ r.1, r.2))
      ]
      | inr not_before ↦ (
          let is : u ≡ v = omega (arith, lt, not_before) in
          let same : a ≡ key =
          (let e : Some (Some a) ≡ Some (Some key) = sym here ∙ (ap (slice_get keys) is ∙ at) in cc) in (
            key.name,
            ap (λ (k : SiblingKey). slice_get (slice_set last key.parent (Some key.name)) k.parent) same
                ∙ get_set last key.parent (Some key.name) inside,
            inl (ap (λ (k : SiblingKey). k.name.now) same),
          ))
    ]

  -- the order of keys calls equal what has one parent and one name
  pub doubles_repeated : (found : Option ℕ) → IsFirstOf (IsRepeated sibling.cmp-value.it keys) found →
      IsFirstOf (IsDoubleSibling keys) found
  doubles_repeated found first = finds_same (IsRepeated sibling.cmp-value.it keys) (IsDoubleSibling keys) found
      (λ v bad. let same = same_sibling bad.1 bad.2 bad.6 in
      (bad.0, bad.1, bad.2, bad.3, bad.4, bad.5, same.0, same.1))
      (λ v bad. (bad.0, bad.1, bad.2, bad.3, bad.4, bad.5, itself_sibling bad.1 bad.2 bad.6 bad.7)) first

  pub repeated_doubles : (found : Option ℕ) → IsFirstOf (IsDoubleSibling keys) found →
      IsFirstOf (IsRepeated sibling.cmp-value.it keys) found
  repeated_doubles found first = finds_same (IsDoubleSibling keys) (IsRepeated sibling.cmp-value.it keys) found
      (λ v bad. (bad.0, bad.1, bad.2, bad.3, bad.4, bad.5, itself_sibling bad.1 bad.2 bad.6 bad.7))
      (λ v bad. let same = same_sibling bad.1 bad.2 bad.6 in
      (bad.0, bad.1, bad.2, bad.3, bad.4, bad.5, same.0, same.1)) first
