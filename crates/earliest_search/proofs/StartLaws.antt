-- A start that is later than it has to be.
use Rattle.std.proofs.Common.{◌≡◌, ℕ, zero, suc, ◌+◌, ◌-◌, ◌<◌, ◌≤◌, List, [], ◌∷◌, ◌⊎◌, inl, inr, refl, sym, subst}
use Rattle.std.proofs.Common.{arith, IsTrue}
use Rattle.std.proofs.lemmas.Bool.{cases_lt}
use Rattle.std.proofs.lemmas.Bool.Decides.{nat_tests, eqb_tells}
use Rattle.flux_defs.specs.declared.vertices.Vertex.{Vertex}
use Rattle.flux_defs.specs.declared.claims.Claim.{Claim}
use Rattle.flux_defs.specs.declared.claims.Job.{Job}
use Rattle.flux_defs.specs.declared.requests.Ask.{Ask}
use Rattle.flux_defs.specs.Graph.{ResourceGraph, Everywhere}
use Rattle.flux_defs.specs.ValidGraph.{IsValidGraph}
use Rattle.flux_defs.specs.declared.claims.Window.{Window}
use Rattle.flux_defs.specs.Needs.{IsProperAsk}
use Rattle.flux_defs.specs.Jobs.{is_live, IsPoint}
use Rattle.flux_defs.specs.Available.{is_available_at, IsAvailable}
use Rattle.flux_defs.specs.Asks.{window_of, CountsWithin, scene_of, SomeFit, IsStart, IsEarliest}
use Rattle.match_laws.proofs.Live.{LivesOn, available_on}
use Rattle.match_laws.proofs.MoreAvailable.{fits_more}
use Rattle.flux_defs.specs.Free.{total_at}
use Rattle.flux_defs.specs.Present.{Present}
use Rattle.prune_filters.specs.Demands.{needs_demand}
use Rattle.prune_laws.proofs.Demanded.{fit_total}
use Rattle.dfu_match.specs.declared.matching.Matched.{Matched}
use Rattle.dfu_match.specs.declared.matching.Matched.TheVariants.{Fits, Short, NoFit}
use Rattle.dfu_match.specs.Matches.{IsMatched}
use Rattle.earliest_search.specs.Starts.{NoneEnds}
use Rattle.earliest_search.specs.Tried.{IsWorthTry}

live_next : (m : ℕ) (job : Job) → (job.end ≡ m + 1 → ⊥) → IsTrue (is_live m job) → IsTrue (is_live (m + 1) job)
live_next m job ne h = grind (arith, nat_tests)

lives_on : (jobs : List Job) (m : ℕ) → NoneEnds jobs (m + 1) → LivesOn jobs m (m + 1)
lives_on [] m e = tt
lives_on (job ∷ jobs) m e = (live_next m job e.0, lives_on jobs m e.1)

-- the window that begins a second later ends no earlier, and has its own first second
later_window : (horizon : ℕ) (ask : Ask) (t : ℕ) → CountsWithin horizon ask (t + 1) →
    ((window_of horizon ask t).to ≤ (window_of horizon ask (t + 1)).to) × (t + 1 < (window_of horizon ask (t + 1)).to)
later_window horizon ask t c = elim (eqb_tells ask.duration 0) [
  | inl yes' ↦ (rw yes'.0 (let a : horizon ≤ horizon = omega arith in a, c.0))
  | inr no' ↦ (let d : ask.duration ≡ 0 → ⊥ = no'.1 in rw no'.0 (
    let a : t + ask.duration ≤ t + 1 + ask.duration =
        omega arith in a,
    let b : t + 1 < t + 1 + ask.duration = omega arith in b,
  ))
]

module _ (vertices : List Vertex) (present : Present) (horizon : ℕ) (ask : Ask) where
  -- where no job ends at t + 1, what is available over the window there is available over the window at t
  available_before : (t : ℕ) → CountsWithin horizon ask (t + 1) → NoneEnds present.jobs (t + 1) → (c : Claim) →
      IsAvailable (scene_of vertices present ask) (window_of horizon ask (t + 1)) c →
      IsAvailable (scene_of vertices present
      ask) (window_of horizon ask t) c
  available_before t counts none c a m lo hi =
      let w = later_window horizon ask t counts in
      elim (cases_lt t m) [
        | inl later ↦ a m (omega arith) (omega (arith, w.0))
        | inr here ↦
            (let e : m ≡ t = omega arith in
            subst (λ (x : ℕ). IsTrue (is_available_at (scene_of vertices present ask) x c)) (sym e)
            (available_on (scene_of vertices present ask) t (t + 1) (lives_on present.jobs t none) c
            (a (t + 1) (omega arith)
            w.1)))
      ]

  pub start_before : (t : ℕ) → NoneEnds present.jobs (t + 1) → IsStart vertices present horizon ask (t + 1) →
      IsStart vertices
      present horizon ask t
  start_before t none s =
      let c : CountsWithin horizon ask (t + 1) = s.0 in
      let lt : t + 1 < horizon = c.0 in
      let le : t + 1 + ask.duration ≤ horizon = c.1 in (
        (omega arith, omega arith),
        (
          s.1.0,
          fits_more vertices (IsAvailable (scene_of vertices present ask) (window_of horizon ask (t + 1))) (IsAvailable
              (scene_of vertices present ask) (window_of horizon ask t))
              (available_before t c none) 1 Everywhere ask.needs s.1.0 s.1.1,
        ),
      )

none_or_point : (jobs : List Job) (x : ℕ) → NoneEnds jobs x ⊎ IsPoint jobs x
none_or_point [] x = inl tt
none_or_point (job ∷ jobs) x = elim (eqb_tells job.end x) [
  | inl same ↦ (let e : x ≡ job.end = sym same.1 in inr (inl (inr e)))
  | inr other ↦ elim (none_or_point jobs x) [ inl none ↦ inl (other.1, none) | inr point ↦ inr (inr point) ]
]

-- no start stands before a moment
abbrev pub NoStartBefore : List Vertex → Present → ℕ → Ask → ℕ → ℕ → Type 0
NoStartBefore vertices present horizon ask moment t = (u : ℕ) → moment ≤ u → u < t →
    IsStart vertices present horizon ask u
    → ⊥

-- where a match came to no claims none fit
pub no_fit : (vertices : List Vertex) (present : Present) (keeps : ℕ → ℕ → Type 0) (ask : Ask) (w : Window)
    (matched : Matched) → IsMatched vertices present keeps ask w matched →
    ((claims : List Claim) → matched ≡ Fits claims → ⊥) → SomeFit vertices present ask w → ⊥
no_fit vertices present keeps ask w (Fits claims) is never fit = never claims refl
no_fit vertices present keeps ask w (Short s) is never fit = is.0 fit
no_fit vertices present keeps ask w (NoFit until) is never fit = is.0 fit

-- a window that counts isn't empty, and one that begins later ends no sooner
window_opens : (horizon : ℕ) (ask : Ask) (u : ℕ) → CountsWithin horizon ask u → u < (window_of horizon ask u).to
window_opens horizon ask u c = elim (eqb_tells ask.duration 0) [
  | inl none ↦ rw none.0 c.0
  | inr some ↦ (let d : ask.duration ≡ 0 → ⊥ = some.1 in rw some.0 (let a : u < u + ask.duration = omega arith in a))
]

pub ends_no_sooner : (horizon : ℕ) (ask : Ask) (t u : ℕ) → t < u →
    (window_of horizon ask t).to ≤ (window_of horizon ask u).to
ends_no_sooner horizon ask t u lt = elim (eqb_tells ask.duration 0) [
  | inl none ↦ rw none.0 (let a : horizon ≤ horizon = omega arith in a)
  | inr some ↦ rw some.0 (let a : t + ask.duration ≤ u + ask.duration = omega arith in a)
]

-- the ask can't start at a later moment that isn't worth a try
module _ (g : ResourceGraph) (names : List (List ℕ)) (valid : IsValidGraph g names) (present : Present) (horizon : ℕ)
    (ask : Ask) (proper : IsProperAsk g.vertices ask) (keeps : ℕ → ℕ → Type 0) (t u : ℕ) (later : t < u)
    (start : IsStart g.vertices present horizon ask u) where
  -- what the ask demands in full is there at each moment of its window
  in_full : (kind m : ℕ) → u ≤ m → m < (window_of horizon ask u).to →
      needs_demand g.vertices kind ask.needs ≤ total_at g.vertices present kind m 0
  in_full kind m lo hi = fit_total g names valid present ask.barred (window_of horizon ask u) ask.needs proper.needs
      kind m
      lo hi start.1.0 start.1.1

  pub worth_try : (matched : Matched) → IsMatched g.vertices present keeps ask (window_of horizon ask t) matched →
      IsWorthTry g.vertices present matched u
  worth_try (Fits claims) is = tt
  worth_try (Short s) is =
      let opens = window_opens horizon ask u start.0 in
      let longer = ends_no_sooner horizon ask t u later in
      let here = in_full s.demand.kind u (omega arith) opens in
      let ends = is.2 in
      let few = is.1.1 in
      let same = is.3 in (
        elim (cases_lt s.moment u) [
          | inl past ↦ past
          | inr reached ↦ absurd (let there = in_full s.demand.kind s.moment reached (omega (arith, ends, longer)) in
              omega (arith, there, few, same))
        ],
        omega (arith, here, same),
      )
  worth_try (NoFit until) is = elim (cases_lt until u) [
    | inl past ↦ past
    | inr reached ↦ absurd (is.2 (omega (arith, later, reached)) (window_of horizon ask u)
        (reached, ends_no_sooner horizon ask t u later, window_opens horizon ask u start.0) start.1)
  ]

module _ (vertices : List Vertex) (present : Present) (horizon : ℕ) (ask : Ask) (moment t : ℕ) (before : NoStartBefore
    vertices present horizon ask moment t) where
  module _ (none : SomeFit vertices present ask (window_of horizon ask t) → ⊥) where
    -- nothing starts up to a moment before which no later start or end of a job is a start
    up_to : (d : ℕ) → ((u : ℕ) → t < u → u ≤ t + d → IsPoint present.jobs u → IsStart vertices present horizon ask u →
        ⊥) →
        IsStart vertices present horizon ask (t + d) → ⊥
    up_to zero passed s = let e : t + 0 ≡ t = omega arith in
        none (subst (IsStart vertices present horizon ask) e s).1
    up_to (suc d) passed s =
        let e : t + suc d ≡ t + d + 1 = omega arith in
        let s' = subst (IsStart vertices present horizon ask) e s in
        elim (none_or_point present.jobs (t + d + 1)) [
          | inl over ↦ up_to d (λ u lo hi. passed u lo (omega arith)) (start_before vertices present horizon ask (t + d)
              over s')
          | inr point ↦ passed (t + d + 1) (omega arith) (omega arith) point s'
        ]

    -- nothing starts before the next moment to try
    pub none_to_next : (p : ℕ) →
        ((u : ℕ) → t < u → u < p → IsPoint present.jobs u → IsStart vertices present horizon ask u → ⊥) →
        NoStartBefore vertices present horizon ask moment p
    none_to_next p passed u lo hi s = elim (cases_lt u t) [
      | inl lt ↦ before u lo lt s
      | inr ge ↦ (let e : u ≡ t + (u - t) = omega arith in
          up_to (u - t) (λ x a b. passed x a (omega arith)) (subst (IsStart vertices present horizon ask) e s))
    ]

    -- there is none: nothing starts
    pub none_ever : ((u : ℕ) → t < u → IsPoint present.jobs u → IsStart vertices present horizon ask u → ⊥) → (u : ℕ) →
        moment ≤ u → IsStart vertices present horizon ask u → ⊥
    none_ever passed u lo s = none_to_next (u + 1) (λ x a b. passed x a) u lo (omega arith) s

  -- no window from t on counts: nothing starts
  pub none_past : (CountsWithin horizon ask t → ⊥) → (u : ℕ) → moment ≤ u → IsStart vertices present horizon ask u → ⊥
  none_past over u lo s = elim (cases_lt u t) [
    | inl lt ↦ before u lo lt s
    | inr ge ↦ (let a : u < horizon = s.0.0 in let b : u + ask.duration ≤ horizon = s.0.1 in over (
      omega arith,
      omega
          arith,
    ))
  ]

  pub is_earliest : moment ≤ t → IsStart vertices present horizon ask t →
      IsEarliest vertices present horizon ask moment t
  is_earliest le s = record {
    later = le;
    starts = s;
    least = λ u lo h. elim (cases_lt u t) [ inl lt ↦ absurd (before u lo lt h) | inr ge ↦ ge ];
  }
