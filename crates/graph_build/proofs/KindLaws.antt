-- Types are numbered by their first vertices.
use Rattle.std.proofs.Common.{◌≡◌, ◌≢◌, ℕ, zero, suc, ◌+◌, ◌<◌, ◌≤◌, ◌⊎◌, ◌++◌, List, [], ◌∷◌, length, get_or, set}
use Rattle.std.proofs.Common.{Option, Some, None, inl, inr, refl, sym, ◌∙◌, ap, subst, arith}
use Rattle.std.specs.Prelude.{slice_get}
use Rattle.std.proofs.lemmas.Bool.{cases_lt, cases_eq}
use Rattle.std.proofs.lemmas.List.{length-set, get_or-set_same, get_or-set_other, length_push, get_or_append_left}
use Rattle.std.proofs.lemmas.List.{get_or_push}
use Rattle.std.proofs.lemmas.Option.{slice_get-get_or, slice_get_within, get_or_from_slice_get, same_Some}
use Rattle.flux_defs.specs.declared.vertices.Vertex.{Vertex}
use Rattle.graph_build.specs.Arranged.{HasKindAt, IsNumbered, IsKindNumbering, AddsKind, AreUnused}
use Rattle.graph_build.specs.declared.arrange.KindNumbering.{KindNumbering}

-- how many kinds have a number
abbrev pub numbered : List (Option ℕ) → ℕ
numbered [] = 0
numbered (None ∷ l) = numbered l
numbered (Some j ∷ l) = suc (numbered l)

numbered_short : (l : List (Option ℕ)) → numbered l ≤ length l
numbered_short [] = omega arith
numbered_short (None ∷ l) = let rest : numbered l ≤ length l = numbered_short l in omega arith
numbered_short (Some j ∷ l) = let rest : numbered l ≤ length l = numbered_short l in omega arith

-- one kind more with a number
numbered_more : (l : List (Option ℕ)) (kind j : ℕ) → slice_get l kind ≡ Some None →
    numbered (set l kind (Some j)) ≡ suc (numbered l)
numbered_more [] kind j e = absurd (cc)
numbered_more (None ∷ l) zero j e = refl
numbered_more (Some i ∷ l) zero j e = absurd (let clash : Some i ≡ None = same_Some _ _ e in cc)
numbered_more (None ∷ l) (suc kind) j e = numbered_more l kind j e
numbered_more (Some i ∷ l) (suc kind) j e = ap suc (numbered_more l kind j e)

-- the types of the first vertices are numbered, and as many have a number as are used
pub record Numbering (kinds : List (List ℕ)) (vertices : List Vertex) (order : List ℕ) (most : ℕ)
    (numbering : KindNumbering) : Type 0 where
  pub counted : length numbering.kinds.items ≤ numbered numbering.numbers.items
  pub is : IsKindNumbering kinds vertices order most numbering

few_used : (count : ℕ) (numbering : KindNumbering) → length numbering.numbers.items ≡ count →
    length numbering.kinds.items ≤ numbered numbering.numbers.items → length numbering.kinds.items ≤ count
few_used count numbering as_many counted =
    let short : numbered numbering.numbers.items ≤ length numbering.numbers.items =
    numbered_short numbering.numbers.items in omega arith

pub numbering_none : (kinds : List (List ℕ)) (vertices : List Vertex) (order : List ℕ) (numbering : KindNumbering) →
    numbering.kinds.items ≡ [] → AreUnused (length kinds) numbering.numbers.items →
    Numbering kinds vertices order 0 numbering
numbering_none kinds vertices order numbering none unused =
    let no_number : (kind j : ℕ) → IsNumbered numbering kind j →
    ⊥ = λ kind j e. (let clash : Some j ≡ None = unused.each kind (Some j) e in cc) in
    let long : length numbering.kinds.items ≡ 0 = ap length none in
    let counted : length numbering.kinds.items ≤ numbered numbering.numbers.items = omega arith in
    record {
      counted = counted;
      is = record {
        as_many = unused.as_many;
        few = few_used (length kinds) numbering unused.as_many counted;
        named = λ kind j e. absurd (no_number kind j e);
        within = λ kind j e. absurd (no_number kind j e);
        apart = λ a b j e f. absurd (no_number a j e);
        used = λ j lt. absurd (omega arith);
        seen = λ k kind lt at. absurd (omega arith);
        rising = λ k kind j lesser lt at e less. absurd (omega arith);
      };
    }

-- a vertex has one kind
same_kind_at : (vertices : List Vertex) (order : List ℕ) (k a b : ℕ) → HasKindAt vertices order k a →
    HasKindAt vertices order k b → a ≡ b
same_kind_at vertices order k a b at_a at_b =
    let index : at_a.0 ≡ at_b.0 = same_Some _ _ (sym at_a.2 ∙ at_b.2) in
    let vertex : at_a.1 ≡ at_b.1 = same_Some _ _ (sym at_a.3 ∙ (ap (slice_get vertices) index ∙ at_b.3)) in
    sym at_a.4 ∙ (ap (λ (x : Vertex). x.kind) vertex ∙ at_b.4)

-- one vertex more
pub numbering_more : (kinds : List (List ℕ)) (vertices : List Vertex) (order : List ℕ) (most kind : ℕ)
    (old new : KindNumbering) → HasKindAt vertices order most kind →
    Numbering kinds vertices order most old → AddsKind kinds kind old new →
    Numbering kinds vertices order (suc most) new
numbering_more kinds vertices order most kind old new here more (inl same) =
    let back : (a j : ℕ) → IsNumbered new a j → IsNumbered old a j = λ a j e. ap (λ l. slice_get l a) (sym same.2)
    ∙ e in
    let forth : (a j : ℕ) → IsNumbered old a j → IsNumbered new a j = λ a j e. ap (λ l. slice_get l a) same.2 ∙ e in
    let long : length new.kinds.items ≡ length old.kinds.items = ap length same.1 in
    let n = more.is in
    let as_many : length new.numbers.items ≡ length kinds = ap length same.2 ∙ n.as_many in
    let counts : numbered new.numbers.items ≡ numbered old.numbers.items = ap numbered same.2 in
    let counted : length new.kinds.items ≤ numbered new.numbers.items = (let was = more.counted in omega arith) in
    record {
      counted = counted;
      is = record {
        as_many = as_many;
        few = few_used (length kinds) new as_many counted;
        named = λ a j e. ap (λ l. slice_get l j) same.1 ∙ n.named a j (back a j e);
        within = λ a j e. (let lt : j < length old.kinds.items = n.within a j (back a j e) in omega arith);
        apart = λ a b j e f. n.apart a b j (back a j e) (back b j f);
        used = λ j lt. (let u = n.used j (omega arith) in
            (u.0, u.1, (let less : u.0 < most = u.2 in omega arith), u.3, forth u.1 j u.4));
        seen = λ k a lt at. elim (cases_lt k most) [
          | inl before ↦ (let s = n.seen k a before at in (s.0, forth a s.0 s.1))
          | inr last ↦ (
              let is : k ≡ most = omega arith in
              let same_kind : kind ≡ a = same_kind_at vertices order most kind a here
              (subst (λ (m : ℕ). HasKindAt vertices order m a) is at) in
              (same.0.0, forth a same.0.0 (subst (λ (b : ℕ). IsNumbered old b same.0.0) same_kind same.0.1)))
        ];
        rising = λ k a j lesser lt at e less. elim (cases_lt k most) [
          | inl before ↦ (let r = n.rising k a j lesser before at (back a j e) less in
              (r.0, r.1, r.2, r.3, forth r.1 lesser r.4))
          | inr last ↦ (
              let is : most ≡ k = omega arith in
              let low : lesser < length old.kinds.items =
              (let j_in : j < length old.kinds.items = n.within a j (back a j e) in omega arith) in
              let u = n.used lesser low in
              (u.0, u.1, (let before : u.0 < most = u.2 in omega arith), u.3, forth u.1 lesser u.4))
        ];
      };
    }
numbering_more kinds vertices order most kind old new here more (inr fresh) =
    let n = more.is in
    let count = length old.kinds.items in
    let old_numbers = old.numbers.items in
    let kind_in : kind < length old_numbers = slice_get_within old_numbers kind None fresh.0 in
    let long : length new.kinds.items ≡ count + 1 = ap length fresh.1.2 ∙ length_push old.kinds.items fresh.1.0 in
    let at_kind : IsNumbered new kind count =
    ap (λ l. slice_get l kind) fresh.2 ∙ (slice_get-get_or (set old_numbers kind (Some count)) kind None
    (let e = length-set old_numbers kind (Some count) in omega arith)
    ∙ ap Some (get_or-set_same old_numbers kind (Some count) None kind_in)) in
    let elsewhere : (a : ℕ) → a ≢ kind → (o : Option ℕ) → slice_get new.numbers.items a ≡ Some o →
    slice_get old_numbers a ≡ Some o = λ a ne o e.
    let e' : slice_get (set old_numbers kind (Some count)) a ≡ Some o = ap (λ l. slice_get l a) (sym fresh.2) ∙ e in
    let a_in : a < length (set old_numbers kind (Some count)) = slice_get_within (set old_numbers kind (Some count)) a
    o e' in
    let long_numbers = length-set old_numbers kind (Some count) in
    let value : get_or (set old_numbers kind (Some count)) a None ≡ o =
    get_or_from_slice_get (set old_numbers kind (Some count)) a o None e' in
    slice_get-get_or old_numbers a None (omega arith)
    ∙ ap Some (sym (get_or-set_other old_numbers kind a (Some count) None ne) ∙ value) in
    let forth : (a j : ℕ) → IsNumbered old a j → IsNumbered new a j = λ a j e.
    let ne : a ≢ kind = λ is. (let clash : Some j ≡ None =
    same_Some _ _ (sym e ∙ (ap (slice_get old_numbers) is ∙ fresh.0)) in cc) in
    let a_in : a < length old_numbers = slice_get_within old_numbers a (Some j) e in
    let value : get_or old_numbers a None ≡ Some j = get_or_from_slice_get old_numbers a (Some j) None e in
    ap (λ l. slice_get l a) fresh.2 ∙ (slice_get-get_or (set old_numbers kind (Some count)) a None
    (let long_numbers = length-set old_numbers kind (Some count) in omega arith) ∙
    ap Some (get_or-set_other old_numbers kind a (Some count) None ne ∙ value)) in
    let cases : (a j : ℕ) → IsNumbered new a j →
    ((a ≡ kind) × (j ≡ count)) ⊎ (IsNumbered old a j × (j < count)) = λ a j e.
    elim (cases_eq a kind) [
      | inl is ↦ inl (is, same_Some _ _ (same_Some _ _ (sym e ∙ (ap (slice_get new.numbers.items) is ∙ at_kind))))
      | inr ne ↦ (let was = elsewhere a ne (Some j) e in inr (was, n.within a j was))
    ] in
    let name_old : (j : ℕ) → j < count → slice_get new.kinds.items j ≡ slice_get old.kinds.items j = λ j lt.
    ap (λ l. slice_get l j) fresh.1.2 ∙ (slice_get-get_or (old.kinds.items ++ fresh.1.0 ∷ []) j []
    (let e = length_push old.kinds.items fresh.1.0 in omega arith) ∙
    (ap Some (get_or_append_left old.kinds.items (fresh.1.0 ∷ []) [] j lt)
    ∙ sym (slice_get-get_or old.kinds.items j [] lt))) in
    let name_new : slice_get new.kinds.items count ≡ Some fresh.1.0 =
    ap (λ l. slice_get l count) fresh.1.2 ∙ (slice_get-get_or (old.kinds.items ++ fresh.1.0 ∷ []) count []
    (let e = length_push old.kinds.items fresh.1.0 in omega arith) ∙
    ap Some (get_or_push old.kinds.items fresh.1.0 [] count refl)) in
    let as_many : length new.numbers.items ≡ length kinds =
    ap length fresh.2 ∙ (length-set old_numbers kind (Some count) ∙ n.as_many) in
    let counts : numbered new.numbers.items ≡ suc (numbered old_numbers) = ap numbered fresh.2
    ∙ numbered_more old_numbers kind count fresh.0 in
    let counted : length new.kinds.items ≤ numbered new.numbers.items =
    (let was : count ≤ numbered old_numbers = more.counted in omega arith) in
    record {
      counted = counted;
      is = record {
        as_many = as_many;
        few = few_used (length kinds) new as_many counted;
        named = λ a j e. elim (cases a j e) [
          | inl now ↦ ap (slice_get new.kinds.items) now.1
              ∙ (name_new ∙ (sym fresh.1.1 ∙ ap (slice_get kinds) (sym now.0)))
          | inr was ↦ name_old j was.1 ∙ n.named a j was.0
        ];
        within = λ a j e. elim (cases a j e) [
          | inl now ↦ (let is : j ≡ count = now.1 in omega arith)
          | inr was ↦ (let less : j < count = was.1 in omega arith)
        ];
        apart = λ a b j e f. elim (cases a j e) [
          | inl now ↦ elim (cases b j f) [
            | inl also ↦ now.0 ∙ sym also.0
            | inr was ↦ absurd (let is : j ≡ count = now.1 in let less : j < count = was.1 in omega arith)
          ]
          | inr was ↦ elim (cases b j f) [
            | inl now ↦ absurd (let is : j ≡ count = now.1 in let less : j < count = was.1 in omega arith)
            | inr also ↦ n.apart a b j was.0 also.0
          ]
        ];
        used = λ j lt. elim (cases_lt j count) [
          | inl before ↦ (let u = n.used j before in
              (u.0, u.1, (let less : u.0 < most = u.2 in omega arith), u.3, forth u.1 j u.4))
          | inr last ↦ (let is : count ≡ j = omega arith in
              (most, kind, omega arith, here, subst (λ (i : ℕ). IsNumbered new kind i) is at_kind))
        ];
        seen = λ k a lt at. elim (cases_lt k most) [
          | inl before ↦ (let s = n.seen k a before at in (s.0, forth a s.0 s.1))
          | inr last ↦ (
              let is : k ≡ most = omega arith in
              let same_kind : kind ≡ a = same_kind_at vertices order most kind a here
              (subst (λ (m : ℕ). HasKindAt vertices order m a) is at) in
              (count, subst (λ (b : ℕ). IsNumbered new b count) same_kind at_kind))
        ];
        rising = λ k a j lesser lt at e less. elim (cases_lt k most) [
          | inl before ↦ (
              let s = n.seen k a before at in
              let is : s.0 ≡ j = same_Some _ _ (same_Some _ _ (sym (forth a s.0 s.1) ∙ e)) in
              let r = n.rising k a j lesser before at (subst (λ (i : ℕ). IsNumbered old a i) is s.1) less in
              (r.0, r.1, r.2, r.3, forth r.1 lesser r.4))
          | inr last ↦ (
              let low : lesser < count = elim (cases a j e) [
                | inl now ↦ (let is : j ≡ count = now.1 in omega arith)
                | inr was ↦ (let less' : j < count = was.1 in omega arith)
              ] in
              let u = n.used lesser low in
              (u.0, u.1, (let before : u.0 < most = u.2 in omega arith), u.3, forth u.1 lesser u.4))
        ];
      };
    }
