-- Climbs of many steps.
use Rattle.std.proofs.Common.{◌≡◌, ℕ, zero, suc, ◌+◌, ◌*◌, ◌/◌, ◌%◌, ◌<◌, ◌≤◌, nat_eq, cond, List, [], ◌∷◌, ◌++◌}
use Rattle.std.proofs.Common.{length, get_or, Option, Some, None, inl, inr, refl, sym, ◌∙◌, ap, subst, arith}
use Rattle.std.proofs.Common.{option_and_then}
use Rattle.std.specs.Prelude.{slice_get}
use Rattle.std.proofs.lemmas.Bool.{cases_lt}
use Rattle.std.proofs.lemmas.Option.{slice_get-get_or, slice_get_within, same_Some}
use Rattle.flux_defs.specs.declared.vertices.Vertex.{Vertex}
use Rattle.flux_defs.specs.Graph.{parent_of, chain}
use Rattle.resource_graph.specs.Chains.{KnowsParents}
use Rattle.graph_build.specs.Checks.{climb, HasClimbs, LeadsWithin}
use Rattle.resource_graph.proofs.TableLaws.{push_cases}
use Rattle.std.proofs.lemmas.List.{length_push}

module _ (vertices : List Vertex) where
  pub climb-None : (n : ℕ) → climb vertices n None ≡ None
  climb-None zero = refl
  climb-None (suc n) = refl

  pub climb-climb : (n m : ℕ) (o : Option ℕ) → climb vertices m (climb vertices n o) ≡ climb vertices (n + m) o
  climb-climb zero m o = let e : m ≡ 0 + m = omega arith in ap (λ k. climb vertices k o) e
  climb-climb (suc n) m None = climb-None m ∙ sym (climb-None (suc n + m))
  climb-climb (suc n) m (Some v) =
      let e : suc (n + m) ≡ suc n + m = omega arith in
      climb-climb n m (parent_of vertices v) ∙ ap (λ k. climb vertices k (Some v)) e

  -- a climb reaches vertices of the list
  pub climb_known : KnowsParents vertices → (n v u : ℕ) → v < length vertices → climb vertices n (Some v) ≡ Some u →
      u < length vertices
  climb_known known zero v u lt e = let same : v ≡ u = same_Some _ _ e in subst (λ (w : ℕ). w < length vertices) same lt
  climb_known known (suc n) v u lt e = at (parent_of vertices v) refl e (λ p p_in f. climb_known known n p u p_in f)
    where
      at : (o : Option ℕ) → parent_of vertices v ≡ o → climb vertices n o ≡ Some u →
          ((p : ℕ) → p < length vertices → climb vertices n (Some p) ≡ Some u → u < length vertices) →
          u < length vertices
      at None p f rest = absurd (let clash : None ≡ Some u = sym (climb-None n) ∙ f in cc)
      at (Some p) q f rest = rest p (known v p q) f

  -- a climb that ends short of so many steps has a shorter chain, and so back
  pub chain_ends : (n : ℕ) (o : Option ℕ) → climb vertices n o ≡ None → length (chain vertices (suc n) o) ≤ n
  chain_ends zero None e = omega arith
  chain_ends zero (Some v) e = absurd (cc)
  chain_ends (suc n) None e = omega arith
  chain_ends (suc n) (Some v) e = let rest : length (chain vertices (suc n) (parent_of vertices v)) ≤ n =
      chain_ends n (parent_of vertices v) e in omega arith

  pub chain_goes_on : (n u : ℕ) (o : Option ℕ) → climb vertices n o ≡ Some u → length (chain vertices (suc n) o) ≡ suc n
  chain_goes_on zero u None e = absurd (cc)
  chain_goes_on zero u (Some v) e = refl
  chain_goes_on (suc n) u None e = absurd (cc)
  chain_goes_on (suc n) u (Some v) e = ap suc (chain_goes_on n u (parent_of vertices v) e)

  pub leads_within : KnowsParents vertices → (n : ℕ) (climbs : List (Option ℕ)) → HasClimbs vertices n climbs →
      LeadsWithin climbs (length vertices)
  leads_within known n climbs has v u e =
      let v_in : v < length vertices = (let lt : v < length climbs = slice_get_within climbs v (Some u) e in
      let long = has.as_many in omega arith) in
      climb_known known n v u v_in (sym (has.each v (Some u) e))

  -- one climb after another
  pub followed_more : (a b v : ℕ) (first second : List (Option ℕ)) (reached : Option ℕ) → HasClimbs vertices a first →
      HasClimbs vertices b second → slice_get first v ≡ Some reached →
      LeadsWithin first (length second) → option_and_then (λ u. get_or second u None) reached ≡ climb vertices (a + b)
      (Some v)
  followed_more a b v first second reached has_first has_second at within =
      go reached refl ∙ climb-climb a b (Some v)
    where
      here : reached ≡ climb vertices a (Some v)
      here = has_first.each v reached at

      go : (o : Option ℕ) → reached ≡ o → option_and_then (λ u. get_or second u None) o ≡ climb vertices b
          (climb vertices a (Some v))
      go None e = sym (climb-None b) ∙ ap (climb vertices b) (sym e ∙ here)
      go (Some u) e =
          let u_in : u < length second = within v u (at ∙ ap Some e) in
          has_second.each u (get_or second u None) (slice_get-get_or second u None u_in)
          ∙ ap (climb vertices b) (sym e ∙ here)

-- the jumps that are left make up the number
pub halved : (a left k steps : ℕ) → a + left * k ≡ steps →
    cond (nat_eq (left % 2) 1) (a + k) a + (left / 2) * (k + k) ≡ steps
halved a left k steps e =
    elim (cases_lt (left % 2) 1) [
      | inl even ↦ (
          let none : left % 2 ≡ 0 = omega arith in
          let twice : left ≡ 2 * (left / 2) = omega arith in
          let product : left * k ≡ (left / 2) * (k + k) = ap (λ n. n * k) twice ∙ grind arith in
          ap (λ n. cond (nat_eq n 1) (a + k) a + (left / 2) * (k + k)) none ∙ (omega (arith, product, e)))
      | inr odd ↦ (
          let one : left % 2 ≡ 1 = omega arith in
          let twice : left ≡ 2 * (left / 2) + 1 = omega arith in
          let product : left * k ≡ (left / 2) * (k + k) + k = ap (λ n. n * k) twice ∙ grind arith in
          ap (λ n. cond (nat_eq n 1) (a + k) a + (left / 2) * (k + k)) one ∙ (omega (arith, product, e)))
    ]

-- one table entry more
pub entries_more : {X : Type 0} (Is : ℕ → X → Type 0) (v : ℕ) (list grown : List X) (x : X) → length list ≡ v →
    ((u : ℕ) (o : X) → slice_get list u ≡ Some o → Is u o) → Is v x → grown ≡ list ++ x ∷ [] →
    (length grown ≡ v + 1) × ((u : ℕ) (o : X) → slice_get grown u ≡ Some o → Is u o)
entries_more Is v list grown x long before here is = (
  ap length is ∙ (length_push list x ∙ ap (λ n. n + 1) long),
  (λ u o e. elim (push_cases list x o u (ap (λ l. slice_get l u) (sym is) ∙ e)) [
    | inl old ↦ before u o old.1
    | inr new ↦ (let at : v ≡ u = sym long ∙ sym new.0 in
        subst (λ (w : ℕ). Is w o) at (subst (λ o. Is v o) (sym new.1) here))
  ]),
)
