-- What stands in the way of a claim: what the ask bars, or a job that was added and overlaps the window.
use Rattle.std.proofs.Common.{◌≡◌, ℕ, ◌-◌, ◌<◌, ◌≤◌, ◌==◌, nat_le, nat_lt, if◌then◌else◌, Bool, true, false, not, ◌||◌}
use Rattle.std.proofs.Common.{List, [], ◌∷◌, ◌++◌, inl, inr, refl, sym, ◌∙◌, ap, arith, IsTrue, true≢false}
use Rattle.std.specs.List.{AllByRecursion, list_any}
use Rattle.std.proofs.lemmas.Bool.{and_parts, and_from, or_cases, or_left, or_right}
use Rattle.std.proofs.lemmas.Bool.Decides.{nat_tests, eqb_tells}
use Rattle.flux_defs.specs.declared.vertices.Vertex.{Vertex}
use Rattle.flux_defs.specs.declared.claims.Claim.{Claim}
use Rattle.flux_defs.specs.declared.claims.Claim.TheVariants.{Take, Hold, Pass}
use Rattle.flux_defs.specs.declared.claims.Job.{Job}
use Rattle.flux_defs.specs.declared.claims.Window.{Window}
use Rattle.flux_defs.specs.Graph.{is_pool, size_of}
use Rattle.flux_defs.specs.Jobs.{vertex_of, is_live, some_live_claim, holds_over, is_on_or_below, take_of}
use Rattle.flux_defs.specs.Closed.{Scene, no_bars, is_withheld, has_withheld, is_closed, is_touched}
use Rattle.flux_defs.specs.Free.{taken_at}
use Rattle.flux_defs.specs.Available.{is_available_at, IsAvailable}
use Rattle.flux_defs.specs.Overtaken.{conflicts}
use Rattle.flux_defs.specs.Present.{up_with}
use Rattle.commit_laws.proofs.MoreJobs.{with_bars, had_along, Eases, eased, lives_with}
use Rattle.commit_laws.proofs.MoreJobs.{live_append, taken_append, none_taken}
use Rattle.list_laws.proofs.Lists.{any_along}
use Rattle.list_laws.proofs.Tests.{not_along, or_along}

-- bars close what they closed before: a is closed by jobs now, c by jobs before, b by bars
barred_take : (a b c : Bool) (q x y : ℕ) → IsTrue (nat_le q (if a || false then 0 else x)) →
    IsTrue (nat_le q (if c || b then 0 else y)) → IsTrue (nat_le q (if a || b then 0 else x))
barred_take true b c q x y h k = h
barred_take false false c q x y h k = h
barred_take false true true q x y h k = k
barred_take false true false q x y h k = k

barred_open : (a b c : Bool) → IsTrue (not (a || false)) → IsTrue (not (c || b)) → IsTrue (not (a || b))
barred_open true b c h k = h
barred_open false false c h k = h
barred_open false true true h k = k
barred_open false true false h k = k

-- what is available to an ask that bars nothing, and was available to this one before, is available to this one
module _ (vertices : List Vertex) (before jobs : List Job) (barred : List ℕ) where
  abbrev free_now : Scene
  free_now = no_bars vertices (up_with jobs)

  abbrev was : Scene
  was = with_bars vertices before barred

  barred_at : (m : ℕ) (c : Claim) → IsTrue (is_available_at free_now m c) → IsTrue (is_available_at was m c) →
      IsTrue (is_available_at (with_bars vertices jobs barred) m c)
  barred_at m (Take v q) a b =
      barred_take (some_live_claim jobs m (holds_over vertices v)) (is_withheld was v)
      (some_live_claim before m (holds_over vertices v)) q
      (if is_pool vertices v then (size_of vertices v - taken_at jobs m v) else 1)
      (if is_pool vertices v then (size_of vertices v - taken_at before m v) else 1) a b
  barred_at m (Pass v) a b =
      barred_open (some_live_claim jobs m (holds_over vertices v)) (is_withheld was v)
      (some_live_claim before m (holds_over vertices v)) a b
  barred_at m (Hold v) a b =
      let x = and_parts (not (is_closed free_now m v)) (not (is_touched free_now m v)) a in
      let y = and_parts (not (is_closed was m v)) (not (is_touched was m v)) b in
      and_from _ _
      (barred_open (some_live_claim jobs m (holds_over vertices v)) (is_withheld was v)
      (some_live_claim before m (holds_over vertices v)) x.0 y.0)
      (barred_open (some_live_claim jobs m (is_on_or_below vertices v)) (has_withheld was v)
      (some_live_claim before m (is_on_or_below vertices v)) x.1 y.1)

  pub available_barred : (w : Window) (c : Claim) → IsAvailable free_now w c → IsAvailable was w c →
      IsAvailable (with_bars vertices jobs barred) w c
  available_barred w c a b m lo hi = barred_at m c (a m lo hi) (b m lo hi)

-- the job overlaps the window and has a claim in the way of this one
abbrev pub IsInTheWay : List Vertex → Window → Claim → Job → Type 0
IsInTheWay vertices w claim job =
    (job.start < w.to) × (w.from < job.end) × IsTrue (list_any (conflicts vertices claim) job.claims)

-- none of the jobs is in the way
abbrev pub NoneInTheWay : List Vertex → Window → Claim → List Job → Type 0
NoneInTheWay vertices w claim jobs = AllByRecursion (λ job. IsInTheWay vertices w claim job → ⊥) jobs

-- a job that is live at a moment of the window overlaps it
overlaps : (m : ℕ) (w : Window) (job : Job) → w.from ≤ m → m < w.to → IsTrue (is_live m job) →
    (job.start < w.to) × (w.from < job.end)
overlaps m w job lo hi h =
    let b = and_parts (nat_le job.start m) (nat_lt m job.end) h in
    let s : job.start ≤ m = grind (arith, nat_tests) in
    let e : m < job.end = grind (arith, nat_tests) in
    (omega arith, omega arith)

-- where no job is in the way, none has such a claim at any moment of the window
module _ (vertices : List Vertex) (w : Window) (claim : Claim) (test : Claim → Bool)
    (stands : (x : Claim) → IsTrue (test x) → IsTrue (conflicts vertices claim x)) where
  none_live : (extra : List Job) → NoneInTheWay vertices w claim extra → (m : ℕ) → w.from ≤ m → m < w.to →
      IsTrue (some_live_claim extra m test) → ⊥
  none_live [] n m lo hi h = true≢false (sym h)
  none_live (job ∷ jobs) n m lo hi h = elim (or_cases (lives_with m test job) (some_live_claim jobs m test) h) [
    | inl here ↦ (let k = and_parts (is_live m job) (list_any test job.claims) here in
        let l = overlaps m w job lo hi k.0 in
        n.0 (l.0, l.1, any_along test (conflicts vertices claim) stands job.claims k.1))
    | inr later ↦ none_live jobs n.1 m lo hi later
  ]

-- a test that isn't passed by what was added is passed by what stood before
no_more : (a b p : Bool) → p ≡ (a || b) → (IsTrue b → ⊥) → IsTrue (p || false) → IsTrue (a || false)
no_more a b p e n h = elim (or_cases p false h) [
  | inl x ↦ elim (or_cases a b (sym e ∙ x)) [ inl y ↦ or_left a false y | inr z ↦ absurd (n z) ]
  | inr y ↦ or_right a false y
]

takes_no : (v : ℕ) (x : Claim) → (IsTrue (vertex_of x == v) → ⊥) → take_of v x ≡ 0
takes_no v (Hold u) n = refl
takes_no v (Pass u) n = refl
takes_no v (Take u q) n = elim (eqb_tells u v) [
  | inl is ↦ absurd (n is.0)
  | inr differ ↦ ap (λ b. if b then q else 0) differ.0
]

module _ (vertices : List Vertex) (w : Window) (jobs extra : List Job) (m : ℕ) (lo : w.from ≤ m) (hi : m < w.to) where
  abbrev before : Scene
  before = no_bars vertices (up_with jobs)

  abbrev now : Scene
  now = no_bars vertices (up_with (jobs ++ extra))

  closed_no_more : (claim : Claim) →
      ((x : Claim) → IsTrue (holds_over vertices (vertex_of claim) x) → IsTrue (conflicts vertices claim x)) →
      NoneInTheWay vertices w claim extra → IsTrue (is_closed now m (vertex_of claim)) →
      IsTrue (is_closed before m (vertex_of claim))
  closed_no_more claim stands n =
      let test = holds_over vertices (vertex_of claim) in
      no_more (some_live_claim jobs m test) (some_live_claim extra m test) (some_live_claim (jobs ++ extra) m test)
      (live_append vertices jobs extra m test) (none_live vertices w claim test stands extra n m lo hi)

  touched_no_more : (v : ℕ) → NoneInTheWay vertices w (Hold v) extra → IsTrue (is_touched now m v) →
      IsTrue (is_touched before m v)
  touched_no_more v n =
      let test = is_on_or_below vertices v in
      no_more (some_live_claim jobs m test) (some_live_claim extra m test) (some_live_claim (jobs ++ extra) m test)
      (live_append vertices jobs extra m test)
      (none_live vertices w (Hold v) test (λ x h. or_left (is_on_or_below vertices v x) (holds_over vertices v x) h)
      extra n m lo hi)

  taken_no_more : (v q : ℕ) → NoneInTheWay vertices w (Take v q) extra →
      taken_at (jobs ++ extra) m v ≤ taken_at jobs m v
  taken_no_more v q n =
      let z : taken_at extra m v ≡ 0 = none_taken m v (λ x. vertex_of x == v) (takes_no v) extra
      (none_live vertices w (Take v q) (λ x. vertex_of x == v)
      (λ x h. or_left (vertex_of x == v) (holds_over vertices v x) h) extra n m lo hi) in
      omega (arith, taken_append vertices jobs extra m v)

  unblocked_at : (claim : Claim) → NoneInTheWay vertices w claim extra → IsTrue (is_available_at before m claim) →
      IsTrue (is_available_at now m claim)
  unblocked_at (Take v q) n a =
      had_along q (is_closed now m v) (is_closed before m v) (is_pool vertices v) (size_of vertices v)
      (taken_at (jobs ++ extra) m v) (taken_at jobs m v)
      (closed_no_more (Take v q) (λ x h. or_right (vertex_of x == v) (holds_over vertices v x) h) n)
      (taken_no_more v q n) a
  unblocked_at (Hold v) n a =
      let k = and_parts (not (is_closed before m v)) (not (is_touched before m v)) a in
      and_from _ _
      (not_along (is_closed now m v) (is_closed before m v)
      (closed_no_more (Hold v) (λ x h. or_right (is_on_or_below vertices v x) (holds_over vertices v x) h) n) k.0)
      (not_along (is_touched now m v) (is_touched before m v) (touched_no_more v n) k.1)
  unblocked_at (Pass v) n a =
      not_along (is_closed now m v) (is_closed before m v)
      (closed_no_more (Pass v) (λ x h. or_right (vertex_of x == v) (holds_over vertices v x) h) n) a

-- with more jobs, of which none is in the way, an available claim stays available
pub unblocked : (vertices : List Vertex) (w : Window) (jobs extra : List Job) (claim : Claim) →
    NoneInTheWay vertices w claim extra → IsAvailable (no_bars vertices (up_with jobs)) w claim →
    IsAvailable (no_bars vertices (up_with (jobs ++ extra))) w claim
unblocked vertices w jobs extra claim n a m lo hi =
    unblocked_at vertices w jobs extra m lo hi claim n (a m lo hi)

-- what is available to an ask is available to one that bars nothing
pub unbarred : (vertices : List Vertex) (jobs : List Job) (barred : List ℕ) (w : Window) (c : Claim) →
    IsAvailable (with_bars vertices jobs barred) w c → IsAvailable (no_bars vertices (up_with jobs)) w c
unbarred vertices jobs barred w c a m lo hi =
    eased vertices jobs jobs barred [] m c (eases (vertex_of c)) (a m lo hi)
  where
    eases : (v : ℕ) → Eases vertices jobs jobs barred [] m v
    eases v = record {
      closed = or_along (some_live_claim jobs m (holds_over vertices v)) false
          (some_live_claim jobs m (holds_over vertices v)) _ (λ h. h) (λ h. absurd (true≢false (sym h)));
      touched = or_along (some_live_claim jobs m (is_on_or_below vertices v)) false
          (some_live_claim jobs m (is_on_or_below vertices v)) _ (λ h. h) (λ h. absurd (true≢false (sym h)));
      taken = omega arith;
    }
