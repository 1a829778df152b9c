-- Totals are kept of no more types than there are rules.
use Rattle.std.proofs.Common.{◌≡◌, ℕ, suc, ◌<◌, ◌≤◌, nat_eq, true, false, true≢false, is_some, List, [], ◌∷◌, length}
use Rattle.std.proofs.Common.{Option, Some, None, IsSome, slice_get, inl, inr, refl, sym, ◌∙◌, ap, subst, arith}
use Rattle.std.specs.List.{AllByRecursion, IsDistinct, list_any}
use Rattle.std.proofs.lemmas.Bool.Decides.{eqb_tells}
use Rattle.std.proofs.lemmas.Bool.{or_cases}
use Rattle.std.proofs.lemmas.List.Sums.{sum_by-cons}
use Rattle.std.proofs.lemmas.Map.Steps.{length-le_from_distinct_below}
use Rattle.std.proofs.lemmas.Option.{slice_get-get_or}
use Rattle.prune_filters.specs.declared.rules.Rule.{Rule}
use Rattle.prune_filters.specs.Filters.{IsCounted}
use Rattle.vertex_accounts.specs.Counts.{kept_one, kept_count}

-- numbers below n, as many as so much, no two the same, each of which goes with some k
record Placed (n count : ℕ) (Q : ℕ → ℕ → Type 0) : Type 0 where
  places : List ℕ
  many : length places ≡ count
  apart : IsDistinct nat_eq places
  each : AllByRecursion (λ r. (r < n) × ((k : ℕ) × Q k r)) places

further : (n : ℕ) (Q : ℕ → ℕ → Type 0) (rs : List ℕ) →
    AllByRecursion (λ r. (r < n) × ((k : ℕ) × Q (suc k) r)) rs → AllByRecursion (λ r. (r < n) × ((k : ℕ) × Q k r)) rs
further n Q [] h = tt
further n Q (r ∷ rs) h = let (lt, (k, q)) = h.0 in ((lt, (suc k, q)), further n Q rs h.1)

-- a number that goes with the first place goes with no later one
others : (n r : ℕ) (Q : ℕ → ℕ → Type 0) → ((j k s : ℕ) → Q j s → Q k s → j ≡ k) → Q 0 r → (rs : List ℕ) →
    AllByRecursion (λ s. (s < n) × ((k : ℕ) × Q (suc k) s)) rs → AllByRecursion (λ s. nat_eq r s ≡ false) rs
others n r Q apart here [] h = tt
others n r Q apart here (s ∷ rs) h = (
  elim (eqb_tells r s) [
    | inl same ↦ absurd (let (lt, (k, q)) = h.0 in
        let e : 0 ≡ suc k = apart 0 (suc k) s (subst (Q 0) same.1 here) q in omega (arith, e))
    | inr differ ↦ differ.0
  ],
  others n r Q apart here rs h.1,
)

below_each : (n : ℕ) (Q : ℕ → ℕ → Type 0) (rs : List ℕ) →
    AllByRecursion (λ r. (r < n) × ((k : ℕ) × Q k r)) rs → (q : ℕ) → list_any (nat_eq q) rs ≡ true → q < n
below_each n Q [] h q has = absurd (true≢false (sym has))
below_each n Q (r ∷ rs) h q has = elim (or_cases (nat_eq q r) (list_any (nat_eq q) rs) has) [
  | inl same ↦ elim (eqb_tells q r) [
    | inl is ↦ subst (λ (k : ℕ). k < n) (sym is.1) h.0.0
    | inr not ↦ absurd (true≢false (sym same ∙ not.0))
  ]
  | inr later ↦ below_each n Q rs h.1 q later
]

-- the rule at place r names type k
abbrev NamesKind : List (List ℕ) → List Rule → ℕ → ℕ → Type 0
NamesKind kinds rules k r = (name : List ℕ)
    × (rule : Rule) × (slice_get kinds k ≡ Some name) × (slice_get rules r ≡ Some rule) × (rule.low ≡ name)

module _ {A : Type 0} where
  placed : (n : ℕ) (Q : ℕ → ℕ → Type 0) (totals : List (Option A)) →
      ((k : ℕ) (a : A) → slice_get totals k ≡ Some (Some a) → (r : ℕ) × (r < n) × Q k r) →
      ((j k r : ℕ) → Q j r → Q k r → j ≡ k) → Placed n (kept_count totals) Q
  unfolding IsDistinct
  placed n Q [] has apart = record { places = []; many = refl; apart = tt; each = tt }
  placed n Q (None ∷ totals) has apart =
      let rest = placed n (λ k. Q (suc k)) totals
      (λ k a at. has (suc k) a at) (λ j k r x y. (let e = apart (suc j) (suc k) r x y in omega (arith, e))) in
      let none : Option A = None in
      let more = sum_by-cons kept_one none totals in
      let many = rest.many in
      record {
        places = rest.places;
        many = omega (arith, many, more);
        apart = rest.apart;
        each = further n Q rest.places rest.each;
      }
  placed n Q (Some a ∷ totals) has apart =
      let (r, lt, q) = has 0 a refl in
      let rest = placed n (λ k. Q (suc k)) totals
      (λ k b at. has (suc k) b at) (λ j k s x y. (let e = apart (suc j) (suc k) s x y in omega (arith, e))) in
      let more = sum_by-cons kept_one (Some a) totals in
      let many = rest.many in
      record {
        places = r ∷ rest.places;
        many = omega (arith, many, more);
        apart = (others n r Q apart q rest.places rest.each, rest.apart);
        each = ((lt, (0, q)), further n Q rest.places rest.each);
      }

  pub few_kept : (totals : List (Option A)) (kinds : List (List ℕ)) (rules : List Rule) →
      ((j k : ℕ) → IsSome (slice_get kinds j) → slice_get kinds j ≡ slice_get kinds k → j ≡ k) →
      ((k : ℕ) (a : A) → slice_get totals k ≡ Some (Some a) →
      (name : List ℕ) × (slice_get kinds k ≡ Some name) × IsCounted rules name) → kept_count totals ≤ length rules
  few_kept totals kinds rules apart only =
      let p = placed (length rules) (NamesKind kinds rules) totals at_rule one_kind in
      let le = length-le_from_distinct_below p.places
      (length rules) p.apart (below_each (length rules) (NamesKind kinds rules) p.places p.each) in
      let many = p.many in
      omega (arith, le, many)
    where
      at_rule : (k : ℕ) (a : A) →
          slice_get totals k ≡ Some (Some a) → (r : ℕ) × (r < length rules) × NamesKind kinds rules k r
      at_rule k a at =
          let (name, named, counted) = only k a at in
          let (r, rule, lt, is, low) = counted in
          (r, lt, (name, rule, named, slice_get-get_or rules r rule lt ∙ ap Some is, low))

      one_kind : (j k r : ℕ) → NamesKind kinds rules j r → NamesKind kinds rules k r → j ≡ k
      one_kind j k r (name, rule, named, there, low) (other, second, called, also, lower) =
          let both : Some rule ≡ Some second = sym there ∙ also in
          let same : rule ≡ second = cc in
          let alike : name ≡ other = sym low ∙ ap (λ (x : Rule). x.low) same ∙ lower in
          apart j k (ap is_some named) (named ∙ ap Some alike ∙ sym called)
