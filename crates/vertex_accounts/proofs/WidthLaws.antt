-- How wide the vertices are that jobs hold, and those at which their claims count.
use Rattle.std.proofs.Common.{◌≡◌, ℕ, ◌+◌, ◌-◌, ◌<◌, ◌≤◌, ◌==◌, nat_lt, Bool, false, ◌||◌, ◌&&◌, cond, List, []}
use Rattle.std.proofs.Common.{◌∷◌, length, Option, Some, None, inl, inr, refl, sym, ◌∙◌, ap, subst, arith, IsTrue}
use Rattle.std.proofs.Common.{true≢false}
use Rattle.std.specs.List.{AllByRecursion, list_any}
use Rattle.std.specs.Option.{unwrap_or}
use Rattle.std.proofs.lemmas.Bool.{cases_Bool, false_from_ne_true, and_from, lt-ltb}
use Rattle.std.proofs.lemmas.Bool.Decides.{eqb_tells}
use Rattle.flux_defs.specs.declared.vertices.Vertex.{Vertex}
use Rattle.flux_defs.specs.declared.claims.Claim.{Claim}
use Rattle.flux_defs.specs.declared.claims.Claim.TheVariants.{Take, Hold, Pass}
use Rattle.flux_defs.specs.declared.claims.Job.{Job}
use Rattle.flux_defs.specs.Graph.{parent_of, is_at_or_below}
use Rattle.flux_defs.specs.Jobs.{is_live, some_live_claim}
use Rattle.graph_laws.proofs.Containment.{ParentsFirst, below_from, below_le, below_trans, parent_below}
use Rattle.graph_laws.proofs.Preorder.{has_parent}
use Rattle.list_laws.proofs.Lists.{all_along}
use Rattle.vertex_planners.specs.Counting.{counts_at}
use Rattle.vertex_accounts.specs.Books.{OfEachClaim, IsWider, HoldsNoWider, IsNarrower, CountsNoNarrower}
use Rattle.vertex_accounts.proofs.OwnLaws.{counted_there}

-- what follows for each claim follows for those of all jobs
pub each_claim : (P Q : Claim → Type 0) → ((c : Claim) → P c → Q c) →
    (jobs : List Job) → OfEachClaim P jobs → OfEachClaim Q jobs
each_claim P Q h jobs all =
    all_along (λ (j : Job). AllByRecursion P j.claims) (λ (j : Job). AllByRecursion Q j.claims)
    (λ j. all_along P Q h j.claims) jobs all

-- neither of two tests passes
pub neither : (a b : Bool) → a ≡ false → b ≡ false → (a || b) ≡ false
neither a b ea eb = subst (λ x. (x || b) ≡ false) (sym ea) eb

not_both : (a b : Bool) → b ≡ false → (a && b) ≡ false
not_both a b e = elim (cases_Bool a) [
  | inl so ↦ subst (λ x. (x && b) ≡ false) (sym so) e
  | inr never ↦ subst (λ x. (x && b) ≡ false) (sym never) refl
]

module _ (test : Claim → Bool) where
  no_claim : (cs : List Claim) → AllByRecursion (λ c. test c ≡ false) cs → list_any test cs ≡ false
  no_claim [] none = refl
  no_claim (c ∷ cs) none = neither (test c) (list_any test cs) none.0 (no_claim cs none.1)

  -- a test that no claim passes no live one does
  pub none_live : (m : ℕ) (jobs : List Job) → OfEachClaim (λ c. test c ≡ false) jobs →
      some_live_claim jobs m test ≡ false
  none_live m [] none = refl
  none_live m (job ∷ jobs) none =
      neither (is_live m job && list_any test job.claims) (some_live_claim jobs m test)
      (not_both (is_live m job) (list_any test job.claims) (no_claim job.claims none.0)) (none_live m jobs none.1)

-- what holds no vertex that is wider than so many holds none that is wider than more
pub claim_wider : (vertices : List Vertex) (few more : ℕ) → few ≤ more → (c : Claim) →
    HoldsNoWider vertices few c → HoldsNoWider vertices more c
claim_wider vertices few more le c free v (k, far, lt, below) = free v (k, omega (arith, le, far), lt, below)

-- what counts at no vertex that is narrower than so many counts at none that is narrower than fewer
pub claim_narrower : (vertices : List Vertex) (few more : ℕ) → few ≤ more → (c : Claim) →
    CountsNoNarrower vertices more c → CountsNoNarrower vertices few c
claim_narrower vertices few more le c free v (n, lt, near) = free v (n, omega (arith, le, lt), near)

-- the lowest vertex at which a claim counts
abbrev pub lowest_of : List Vertex → Claim → ℕ
lowest_of vertices (Take u q) = u
lowest_of vertices (Hold u) = unwrap_or (parent_of vertices u) u
lowest_of vertices (Pass u) = u

module _ (vertices : List Vertex) (first : ParentsFirst vertices) where
  -- what is at or below u is so of what contains u, and stands no nearer behind that
  behind : (v u k : ℕ) → IsTrue (is_at_or_below vertices u v) → u + k < length vertices →
      IsTrue (is_at_or_below vertices (u + k) u) → IsWider vertices k v
  behind v u k under within below =
      let up = below_le vertices first u v under in
      let same : u + k ≡ v + (u + k - v) = omega (arith, up) in (
        u + k - v,
        omega (arith, up),
        omega (arith, same, within),
        subst (λ (x : ℕ). IsTrue (is_at_or_below vertices x v)) same
            (below_trans vertices first (u + k) u v within below under),
      )

  -- what contains a wide vertex is as wide
  pub wider_up : (wide v u : ℕ) → IsTrue (is_at_or_below vertices u v) → IsWider vertices wide u →
      IsWider vertices wide v
  wider_up wide v u under (k, le, within, below) =
      let (n, far, there, lower) = behind v u k under within below in (n, omega (arith, le, far), there, lower)

  -- what is at or below a narrow vertex is as narrow
  narrower_down : (least v u : ℕ) → IsTrue (is_at_or_below vertices u v) → IsNarrower vertices least v →
      IsNarrower vertices least u
  narrower_down least v u under (few, lt, near) = (
    few,
    lt,
    λ k within below. (let (n, far, there, lower) = behind v u k under within below in
        let le = near n there lower in omega (arith, far, le)),
  )

  -- a hold counts only above the vertex that it holds, or at the root, above which is none
  held_low : (u v : ℕ) (above : Option ℕ) → parent_of vertices u ≡ above →
      IsTrue (counts_at vertices v (Hold u)) → IsTrue (is_at_or_below vertices (unwrap_or above u) v)
  held_low u v None none counts = counted_there _ (is_at_or_below vertices u v) counts
  held_low u v (Some p) up counts = elim (eqb_tells u v) [
    | inl same ↦ (
        let lt = first u p up in
        let own = and_from (nat_lt 0 v) (u == v) (lt-ltb 0 v (omega (arith, lt, same.1))) same.0 in
        absurd (true≢false (sym counts ∙ ap (λ b. cond b false (is_at_or_below vertices u v)) own)))
    | inr differ ↦ (
        let there = counted_there _ (is_at_or_below vertices u v) counts in
        let (q, parent, below) =
        parent_below vertices first u v (has_parent vertices u p up) (below_from vertices first u v differ.1 there) in
        let is : q ≡ p = (let both : Some q ≡ Some p = sym parent ∙ up in cc) in
        subst (λ (x : ℕ). IsTrue (is_at_or_below vertices x v)) is below)
  ]

  -- a claim counts only at its lowest vertex and above
  counts_low : (c : Claim) (v : ℕ) → IsTrue (counts_at vertices v c) →
      IsTrue (is_at_or_below vertices (lowest_of vertices c) v)
  counts_low (Take u q) v counts = counted_there _ (is_at_or_below vertices u v) counts
  counts_low (Hold u) v counts = held_low u v (parent_of vertices u) refl counts
  counts_low (Pass u) v counts = counted_there _ (is_at_or_below vertices u v) counts

  -- so it counts at no vertex that is narrower than that
  pub low_counts : (least low : ℕ) (c : Claim) → lowest_of vertices c ≡ low →
      (IsNarrower vertices least low → ⊥) → CountsNoNarrower vertices least c
  low_counts least low c is wide v narrow =
      false_from_ne_true (counts_at vertices v c)
      (λ counts. wide (narrower_down least v low
      (subst (λ (u : ℕ). IsTrue (is_at_or_below vertices u v)) is (counts_low c v counts)) narrow))
