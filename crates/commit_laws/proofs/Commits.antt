-- What nothing overtook is what a fresh decision gives.
use Rattle.std.proofs.Common.{◌≡◌, ℕ, ◌+◌, ◌<◌, Bool, true, false, List, take, ◌⊎◌, inl, inr, refl, sym, subst, arith}
use Rattle.std.proofs.Common.{IsTrue, true≢false}
use Rattle.std.specs.List.{AllByRecursion}
use Rattle.std.proofs.lemmas.List.Elements.{All-from_recursion}
use Rattle.flux_defs.specs.declared.claims.Claim.{Claim}
use Rattle.flux_defs.specs.declared.claims.Window.{Window}
use Rattle.flux_defs.specs.declared.requests.Ask.{Ask}
use Rattle.flux_defs.specs.declared.journal.Command.{Command}
use Rattle.flux_defs.specs.declared.journal.Command.TheVariants as command
use Rattle.flux_defs.specs.declared.journal.Reply.{Reply}
use Rattle.flux_defs.specs.declared.journal.Entry.{Entry}
use Rattle.flux_defs.specs.declared.verdicts.Verdict.{Verdict}
use Rattle.flux_defs.specs.declared.verdicts.Verdict.TheVariants.{Found, NoFit, Unsat, Sat, Long, Known}
use Rattle.flux_defs.specs.Graph.{Everywhere}
use Rattle.flux_defs.specs.Closed.{Scene, no_bars}
use Rattle.flux_defs.specs.Available.{is_available_at, IsAvailable}
use Rattle.flux_defs.specs.Asks.{window_of, CountsWithin, scene_of, IsLowestFirst}
use Rattle.flux_defs.specs.Scheduler.{Setting, State, Replies, present_of}
use Rattle.flux_defs.specs.Histories.{state_after, state_at, IsLegal}
use Rattle.flux_defs.specs.Verdicts.{Finds, Yields}
use Rattle.flux_defs.specs.Overtaken.{Candidate, Freed, Late, Taken, Frees, Delays, Blocks, NoneFrom, IsTakenBy}
use Rattle.flux_defs.specs.Overtaken.{IsTakenFor, IsAllocate, IsPastFor, CanBeOvertaken}
use Rattle.graph_laws.proofs.Containment.{ParentsFirst}
use Rattle.flux_laws.proofs.Determined.{lowest_fits}
use Rattle.list_laws.proofs.Lists.{all_along, all_at}
use Rattle.commit_laws.specs.CommitLaws.{state_now, StillStands}
use Rattle.commit_laws.proofs.Firsts.{none_from, all_unless_first}
use Rattle.commit_laws.proofs.InTheWay.{unbarred}
use Rattle.commit_laws.proofs.Claimed.{IsClaimed, fits_claimed}
use Rattle.commit_laws.proofs.Fresh.{NoDelay, AllocateStands, ReserveStands, fresh_allocate, fresh_reserve}
use Rattle.commit_laws.proofs.Fresh.{fresh_satisfy}
use Rattle.commit_laws.proofs.Stretch.{stretch, whole, legal_stretch, no_cancel, state_there, entry_there, still_there}

test_stable : (b : Bool) → ((IsTrue b → ⊥) → ⊥) → IsTrue b
test_stable true n = refl
test_stable false n = absurd (n (λ h. true≢false (sym h)))

-- a claim that can't be unavailable is available
available_stable : (scene : Scene) (w : Window) (c : Claim) → ((IsAvailable scene w c → ⊥) → ⊥) → IsAvailable scene w c
available_stable scene w c n m lo hi = test_stable (is_available_at scene m c) (λ h. n (λ a. h (a m lo hi)))

-- what was found at a start: a window that counts, and the lowest-first claims over it
abbrev pub FoundThere : Setting → State → Ask → ℕ → List Claim → Type 0
FoundThere g s ask start claims =
    CountsWithin g.horizon ask start × IsLowestFirst g.graph.vertices (present_of s) ask
    (window_of g.horizon ask start) claims

module _ (g : Setting) (s : State) (ask : Ask) (start : ℕ) (claims : List Claim) where
  there : (t : ℕ) (cs : List Claim) → Found start claims ≡ Found t cs → FoundThere g s ask t cs →
      FoundThere g s ask start claims
  there t cs e h =
      let et : start ≡ t = cc in
      let ec : claims ≡ cs = cc in
      subst (λ (x : ℕ). FoundThere g s ask x claims) (sym et)
      (subst (λ (x : List Claim). FoundThere g s ask t x) (sym ec) h)

  pub allocate_found : (id : ℕ) → Finds g s (command.Allocate id ask) (Found start claims) →
      FoundThere g s ask start claims
  allocate_found id (inl (used, e)) = absurd (cc)
  allocate_found id (inr (_, inl (un, e))) = absurd (cc)
  allocate_found id (inr (_, inr (sat, inl (long, e)))) = absurd (cc)
  allocate_found id (inr (_, inr (sat, inr (counts, inl (none, e))))) = absurd (cc)
  allocate_found id (inr (_, inr (sat, inr (counts, inr (fit, (cs, low, e)))))) = there s.moment cs e (counts, low)

  pub reserve_found : (id : ℕ) → Finds g s (command.Reserve id ask) (Found start claims) →
      FoundThere g s ask start claims
  reserve_found id (inl (used, e)) = absurd (cc)
  reserve_found id (inr (_, inl (un, e))) = absurd (cc)
  reserve_found id (inr (_, inr (sat, inl (long, e)))) = absurd (cc)
  reserve_found id (inr (_, inr (sat, inr (counts, inl (none, e))))) = absurd (cc)
  reserve_found id (inr (_, inr (sat, inr (counts, inr (some, (t, early, (cs, low, e))))))) =
      there t cs e (early.starts.0, low)

  -- its claims were available, to an ask that bars nothing too, and are on vertices of the graph
  pub were_claimed : FoundThere g s ask start claims →
      AllByRecursion (IsClaimed g.graph.vertices (IsAvailable (no_bars g.graph.vertices (present_of s))
      (window_of g.horizon ask start))) claims
  were_claimed f =
      let vs = g.graph.vertices in
      let w = window_of g.horizon ask start in
      let ok = IsAvailable (scene_of vs (present_of s) ask) w in
      all_along (IsClaimed vs ok) (IsClaimed vs (IsAvailable (no_bars vs (present_of s)) w))
      (λ c h. (unbarred vs s.jobs ask.barred w c h.0, h.1)) claims
      (fits_claimed vs ok 1 Everywhere ask.needs claims (lowest_fits vs (present_of s) ask w claims f.1))

  pub were_available : FoundThere g s ask start claims →
      AllByRecursion (IsAvailable (no_bars g.graph.vertices (present_of s)) (window_of g.horizon ask start)) claims
  were_available f =
      let ok = IsAvailable (no_bars g.graph.vertices (present_of s)) (window_of g.horizon ask start) in
      all_along (IsClaimed g.graph.vertices ok) ok (λ c h. h.0) claims (were_claimed f)

-- Nothing overtook the candidate, said fact by fact: no claim was freed since, time didn't move past it, and the claims
-- that it found are all free.
abbrev pub InTime : List Entry → Candidate → Type 0
InTime history c = NoneFrom (Frees history) c.place × NoneFrom (Delays c history) c.place

abbrev pub FreeNow : Setting → List Entry → Ask → ℕ → List Claim → Type 0
FreeNow g history ask start claims =
    AllByRecursion (IsAvailable (no_bars g.graph.vertices (present_of (state_now history)))
    (window_of g.horizon ask start)) claims

abbrev pub StandsAs : Setting → List Entry → Candidate → Verdict → Command → Type 0
StandsAs g history c (Found start claims) (command.Allocate id ask) =
    InTime history c × FreeNow g history ask start claims
StandsAs g history c (Found start claims) (command.Reserve id ask) =
    InTime history c × FreeNow g history ask start claims
StandsAs g history c (Found start claims) k = InTime history c
StandsAs g history c NoFit k = InTime history c
StandsAs g history c v k = Unit {0}

module _ (g : Setting) (history : List Entry) (place : ℕ) where
  abbrev candidate : Command → Verdict → Candidate
  candidate k v = record { command = k; place = place; verdict = v }

  -- what isn't overtaken is in time
  in_time : (c : Candidate) → StillStands g history c → CanBeOvertaken c.verdict → InTime history c
  in_time c stands can =
      let none : NoneFrom (Frees history) c.place =
      none_from (Frees history) c.place (λ at f. stands (Freed at) (can, f)) in
      (none, none_from (Delays c history) c.place (λ at f. stands (Late at) (can, (none, f))))

  -- and its claims are free, if none of them was taken
  free_now : (w : Window) (claims : List Claim) → NoneFrom (Frees history) place →
      AllByRecursion (IsAvailable (no_bars g.graph.vertices (present_of (state_at history place))) w) claims →
      ((at index : ℕ) → IsTakenBy g history place w claims at index → ⊥) →
      AllByRecursion (IsAvailable (no_bars g.graph.vertices (present_of (state_now history))) w) claims
  free_now w claims frees was never =
      let vs = g.graph.vertices in
      let then = IsAvailable (no_bars vs (present_of (state_at history place))) w in
      let now = IsAvailable (no_bars vs (present_of (state_now history))) w in
      all_unless_first now (available_stable (no_bars vs (present_of (state_now history))) w) claims
      (λ i c is gone before. gone
      (still_there history place vs w c frees
      (none_from (Blocks vs w c history) place
      (λ at f. never at i
      (c, record { there = is; taken = gone; before = All-from_recursion now (take i claims) before }, f)))
      (all_at then claims i c was is)))

  pub stands_as : (v : Verdict) (k : Command) → Finds g (state_at history place) k v →
      StillStands g history (candidate k v) → StandsAs g history (candidate k v) v k
  stands_as (Found start claims) (command.Allocate id ask) f stands =
      let k = candidate (command.Allocate id ask) (Found start claims) in
      let t = in_time k stands tt in (
        t,
        free_now (window_of g.horizon ask start) claims t.0
            (were_available g (state_at history place) ask start claims
            (allocate_found g (state_at history place) ask start claims id f))
            (λ at index h. stands (Taken at index) (tt, (t.0, t.1, h))),
      )
  stands_as (Found start claims) (command.Reserve id ask) f stands =
      let k = candidate (command.Reserve id ask) (Found start claims) in
      let t = in_time k stands tt in (
        t,
        free_now (window_of g.horizon ask start) claims t.0
            (were_available g (state_at history place) ask start claims
            (reserve_found g (state_at history place) ask start claims id f))
            (λ at index h. stands (Taken at index) (tt, (t.0, t.1, h))),
      )
  stands_as (Found start claims) (command.Satisfy ask) f stands =
      in_time (candidate (command.Satisfy ask) (Found start claims)) stands tt
  stands_as (Found start claims) (command.Cancel id) f stands =
      in_time (candidate (command.Cancel id) (Found start claims)) stands tt
  stands_as (Found start claims) (command.Info id) f stands =
      in_time (candidate (command.Info id) (Found start claims)) stands tt
  stands_as (Found start claims) (command.Advance to) f stands =
      in_time (candidate (command.Advance to) (Found start claims)) stands tt
  stands_as (Found start claims) (command.Invalid why) f stands =
      in_time (candidate (command.Invalid why) (Found start claims)) stands tt
  stands_as NoFit k f stands = in_time (candidate k NoFit) stands tt
  stands_as Unsat k f stands = tt
  stands_as Sat k f stands = tt
  stands_as Long k f stands = tt
  stands_as Known k f stands = tt

  -- no entry of the stretch delays the candidate
  no_delay : (c : Candidate) (Breaks : ℕ → Type 0) → c.place ≡ place →
      ((m : ℕ) → Breaks m → IsAllocate c.command ⊎ IsPastFor c.verdict m) → NoneFrom (Delays c history) place →
      NoDelay (state_at history place) (stretch history place) Breaks
  no_delay c Breaks at breaks none k e m i is lt b =
      none (place + k) (omega arith) (
        e,
        m,
        entry_there history place k e i,
        is,
        subst (λ (x : State). x.moment < m) (state_there history place k) lt,
        breaks m b,
      )

  module _ (first : ParentsFirst g.graph.vertices) (legal : IsLegal g history) where
    abbrev s : State
    s = state_at history place

    abbrev entries : List Entry
    entries = stretch history place

    abbrev then : State
    then = state_after s entries

    free_then : (ask : Ask) (start : ℕ) (claims : List Claim) → FreeNow g history ask start claims →
        AllByRecursion (IsAvailable (no_bars g.graph.vertices (present_of then)) (window_of g.horizon ask start)) claims
    free_then ask start claims free =
        subst (λ (x : State). AllByRecursion (IsAvailable (no_bars g.graph.vertices (present_of x))
        (window_of g.horizon ask start)) claims)
        (whole history place) free

    allocate_stands : (id : ℕ) (ask : Ask) (v : Verdict) →
        StandsAs g history (candidate (command.Allocate id ask) v) v (command.Allocate id ask) →
        AllocateStands g first s entries (legal_stretch history place g legal) ask v
    allocate_stands id ask (Found start claims) (t, free) = (
      no_cancel history place t.0,
      no_delay (candidate (command.Allocate id ask) (Found start claims)) (λ at. Unit {0}) refl (λ m b. inl tt) t.1,
      free_then ask start claims free,
    )
    allocate_stands id ask NoFit t = (
      no_cancel history place t.0,
      no_delay (candidate (command.Allocate id ask) NoFit) (λ at. Unit {0}) refl (λ m b. inl tt) t.1,
    )
    allocate_stands id ask Unsat t = tt
    allocate_stands id ask Sat t = tt
    allocate_stands id ask Long t = tt
    allocate_stands id ask Known t = tt

    reserve_stands : (id : ℕ) (ask : Ask) (v : Verdict) →
        StandsAs g history (candidate (command.Reserve id ask) v) v (command.Reserve id ask) →
        ReserveStands g first s entries (legal_stretch history place g legal) ask v
    reserve_stands id ask (Found start claims) (t, free) = (
      no_cancel history place t.0,
      no_delay (candidate (command.Reserve id ask) (Found start claims)) (λ at. start < at) refl (λ m b. inr b) t.1,
      free_then ask start claims free,
    )
    reserve_stands id ask NoFit t = (
      no_cancel history place t.0,
      no_delay (candidate (command.Reserve id ask) NoFit) (λ at. Unit {0}) refl (λ m b. inr tt) t.1,
    )
    reserve_stands id ask Unsat t = tt
    reserve_stands id ask Sat t = tt
    reserve_stands id ask Long t = tt
    reserve_stands id ask Known t = tt

    fresh_then : (k : Command) (v : Verdict) (r : Reply) → Finds g s k v →
        StandsAs g history (candidate k v) v k → Yields g then k v r → Replies g then k r
    fresh_then (command.Allocate id ask) v r f t h =
        fresh_allocate g first s entries (legal_stretch history place g legal) id ask v r f
        (allocate_stands id ask v t) h
    fresh_then (command.Reserve id ask) v r f t h =
        fresh_reserve g first s entries (legal_stretch history place g legal) id ask v r f (reserve_stands id ask v t) h
    fresh_then (command.Satisfy ask) v r f t h =
        fresh_satisfy g first s entries (legal_stretch history place g legal) ask v r f h
    fresh_then (command.Cancel id) v r f t h = absurd f
    fresh_then (command.Info id) v r f t h = absurd f
    fresh_then (command.Advance to) v r f t h = absurd f
    fresh_then (command.Invalid why) v r f t h = absurd f

    -- the reply that its verdict yields now is the scheduler's
    pub fresh_now : (k : Command) (v : Verdict) (r : Reply) → Finds g s k v → StandsAs g history (candidate k v) v k →
        Yields g (state_now history) k v r → Replies g (state_now history) k r
    fresh_now k v r f t h =
        subst (λ (x : State). Replies g x k r) (sym (whole history place))
        (fresh_then k v r f t (subst (λ (x : State). Yields g x k v r) (whole history place) h))

-- a candidate that stands, fact by fact, isn't overtaken
module _ (g : Setting) (history : List Entry) where
  -- where it is in time, only a claim that was taken can have overtaken it
  untaken : (c : Candidate) → InTime history c →
      ((at index : ℕ) → IsTakenFor g history c.place c.command c.verdict at index → ⊥) → StillStands g history c
  untaken c t never (Freed at) (can, f) = t.0 at f.after f.there
  untaken c t never (Late at) (can, f) = t.1 at f.1.after f.1.there
  untaken c t never (Taken at index) (can, f) = never at index f.2

  not_taken : (place : ℕ) (w : Window) (claims : List Claim) →
      AllByRecursion (IsAvailable (no_bars g.graph.vertices (present_of (state_now history))) w) claims →
      (at index : ℕ) →
      IsTakenBy g history place w claims at index → ⊥
  not_taken place w claims free at index (claim, taken, first) =
      taken.taken
      (all_at (IsAvailable (no_bars g.graph.vertices (present_of (state_now history))) w) claims index claim free
      taken.there)

  module _ (place : ℕ) where
    abbrev of : Command → Verdict → Candidate
    of k v = record { command = k; place = place; verdict = v }

    pub stands_still : (v : Verdict) (k : Command) → StandsAs g history (of k v) v k → StillStands g history (of k v)
    stands_still (Found start claims) (command.Allocate id ask) (t, free) =
        untaken (of (command.Allocate id ask) (Found start claims)) t
        (not_taken place (window_of g.horizon ask start) claims free)
    stands_still (Found start claims) (command.Reserve id ask) (t, free) =
        untaken (of (command.Reserve id ask) (Found start claims)) t
        (not_taken place (window_of g.horizon ask start) claims free)
    stands_still (Found start claims) (command.Satisfy ask) t =
        untaken (of (command.Satisfy ask) (Found start claims)) t (λ at index h. h)
    stands_still (Found start claims) (command.Cancel id) t =
        untaken (of (command.Cancel id) (Found start claims)) t (λ at index h. h)
    stands_still (Found start claims) (command.Info id) t =
        untaken (of (command.Info id) (Found start claims)) t (λ at index h. h)
    stands_still (Found start claims) (command.Advance to) t =
        untaken (of (command.Advance to) (Found start claims)) t (λ at index h. h)
    stands_still (Found start claims) (command.Invalid why) t =
        untaken (of (command.Invalid why) (Found start claims)) t (λ at index h. h)
    stands_still NoFit (command.Allocate id ask) t = untaken (of (command.Allocate id ask) NoFit) t (λ at index h. h)
    stands_still NoFit (command.Reserve id ask) t = untaken (of (command.Reserve id ask) NoFit) t (λ at index h. h)
    stands_still NoFit (command.Satisfy ask) t = untaken (of (command.Satisfy ask) NoFit) t (λ at index h. h)
    stands_still NoFit (command.Cancel id) t = untaken (of (command.Cancel id) NoFit) t (λ at index h. h)
    stands_still NoFit (command.Info id) t = untaken (of (command.Info id) NoFit) t (λ at index h. h)
    stands_still NoFit (command.Advance to) t = untaken (of (command.Advance to) NoFit) t (λ at index h. h)
    stands_still NoFit (command.Invalid why) t = untaken (of (command.Invalid why) NoFit) t (λ at index h. h)
    stands_still Unsat k t = λ cause h. h.0
    stands_still Sat k t = λ cause h. h.0
    stands_still Long k t = λ cause h. h.0
    stands_still Known k t = λ cause h. h.0
