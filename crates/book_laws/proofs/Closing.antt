-- A vertex is closed where it or a vertex above it is held: along the chain of its parents.
use Rattle.std.proofs.Common.{◌≡◌, ℕ, Bool, true, false, ◌&&◌, List}
use Rattle.std.proofs.Common.{[], ◌∷◌, length, Some, IsTrue, refl, sym, ◌∙◌, ◌⊎◌, ◌↔◌, inl}
use Rattle.std.proofs.Common.{inr, true≢false}
use Rattle.std.specs.List.{list_any}
use Rattle.std.proofs.lemmas.Bool.{or_cases, or_left, or_right}
use Rattle.flux_defs.specs.declared.vertices.Vertex.{Vertex}
use Rattle.flux_defs.specs.declared.claims.Claim.{Claim}
use Rattle.flux_defs.specs.declared.claims.Claim.TheVariants.{Take, Hold, Pass}
use Rattle.flux_defs.specs.declared.claims.Job.{Job}
use Rattle.flux_defs.specs.declared.claims.Window.{Window}
use Rattle.flux_defs.specs.Graph.{chain}
use Rattle.flux_defs.specs.Jobs.{is_live, some_live_claim, SomeMoment, holds_over}
use Rattle.flux_defs.specs.Closed.{no_bars, is_closed}
use Rattle.flux_defs.specs.Present.{up_with}
use Rattle.graph_laws.proofs.Containment.{at_or_below-opens}
use Rattle.book_laws.specs.Amounts.{is_hold, holds_along}
use Rattle.flux_laws.proofs.Live.{live_along, live_either}
use Rattle.book_laws.proofs.Within.{closed_is}

-- a claim that holds a vertex of a chain
along_here : (v : ℕ) (vs : List ℕ) (c : Claim) → IsTrue (is_hold v c) → IsTrue (holds_along (v ∷ vs) c)
along_here v vs c h = or_left (is_hold v c) (holds_along vs c) h

along_later : (v : ℕ) (vs : List ℕ) (c : Claim) → IsTrue (holds_along vs c) → IsTrue (holds_along (v ∷ vs) c)
along_later v vs c h = or_right (is_hold v c) (holds_along vs c) h

-- over a window: the first of the chain is held, or another one
pub held_cons : (jobs : List Job) (w : Window) (v : ℕ) (vs : List ℕ) →
    ((SomeMoment w (λ m. IsTrue (some_live_claim jobs m (is_hold v)))
    ⊎ SomeMoment w (λ m. IsTrue (some_live_claim jobs m (holds_along vs))))
    ↔ SomeMoment w (λ m. IsTrue (some_live_claim jobs m (holds_along (v ∷ vs)))))
held_cons jobs w v vs = (
  λ either. elim either [
    | inl (m, lo, hi, h) ↦ (m, lo, hi, live_along (is_hold v) (holds_along (v ∷ vs)) (along_here v vs) jobs m h)
    | inr (m, lo, hi, h) ↦ (m, lo, hi, live_along (holds_along vs) (holds_along (v ∷ vs)) (along_later v vs) jobs m h)
  ],
  λ (m, lo, hi, h). elim (live_either (holds_along (v ∷ vs))
      (is_hold v) (holds_along vs) (λ c both. or_cases (is_hold v c) (holds_along vs c) both) jobs m h) [
        | inl a ↦ inl (m, lo, hi, a)
        | inr b ↦ inr (m, lo, hi, b)
      ],
)

-- no claim holds a vertex of the empty chain
no_claim : (cs : List Claim) → list_any (λ c. false) cs ≡ false
no_claim [] = refl
no_claim (c ∷ cs) = no_claim cs

never : (a b : Bool) → b ≡ false → IsTrue (a && b) → ⊥
never true b e t = true≢false (sym t ∙ e)
never false b e t = true≢false (sym t)

pub nothing_along : (jobs : List Job) (m : ℕ) → IsTrue (some_live_claim jobs m (holds_along [])) → ⊥
nothing_along [] m t = true≢false (sym t)
nothing_along (job ∷ jobs) m t = elim (or_cases
    (is_live m job && list_any (holds_along []) job.claims) (some_live_claim jobs m (holds_along [])) t) [
      | inl now ↦ never (is_live m job) (list_any (holds_along []) job.claims) (no_claim job.claims) now
      | inr later ↦ nothing_along jobs m later
    ]

pub held_nil : (jobs : List Job) (w : Window) → SomeMoment w (λ m. IsTrue (some_live_claim jobs m (holds_along []))) → ⊥
held_nil jobs w (m, lo, hi, h) = nothing_along jobs m h

pub hold_over : (vertices : List Vertex) (v : ℕ) (c : Claim) →
    holds_along (chain vertices (length vertices) (Some v)) c ≡ holds_over vertices v c
hold_over vertices v (Take u q) = none (chain vertices (length vertices) (Some v))
  where
    none : (vs : List ℕ) → holds_along vs (Take u q) ≡ false
    none [] = refl
    none (x ∷ xs) = none xs
hold_over vertices v (Hold u) = sym (at_or_below-opens vertices v u)
hold_over vertices v (Pass u) = none (chain vertices (length vertices) (Some v))
  where
    none : (vs : List ℕ) → holds_along vs (Pass u) ≡ false
    none [] = refl
    none (x ∷ xs) = none xs

-- closed over a window: some vertex of the chain is held
pub held_closed : (vertices : List Vertex) (jobs : List Job) (w : Window) (v : ℕ) →
    (SomeMoment w (λ m. IsTrue (some_live_claim jobs m (holds_along (chain vertices (length vertices) (Some v)))))
    ↔ SomeMoment w (λ m. IsTrue (is_closed (no_bars vertices (up_with jobs)) m v)))
held_closed vertices jobs w v = (
  λ (m, lo, hi, h). (
    m,
    lo,
    hi,
    closed_is vertices jobs m v ∙ live_along (holds_along (chain vertices (length vertices) (Some v)))
        (holds_over vertices v) (λ c t. sym (hold_over vertices v c) ∙ t) jobs m h,
  ),
  λ (m, lo, hi, h). (
    m,
    lo,
    hi,
    live_along (holds_over vertices v) (holds_along (chain vertices (length vertices) (Some v)))
        (λ c t. hold_over vertices v c ∙ t) jobs m (sym (closed_is vertices jobs m v) ∙ h),
  ),
)
