-- A verdict that nothing overtook in a legal stretch of history yields the scheduler's reply where the stretch ends.
use Rattle.std.proofs.Common.{◌≡◌, ℕ, ◌+◌, ◌<◌, ◌≤◌, List, ◌++◌, inl, inr, refl, sym, subst, arith, Some, slice_get}
use Rattle.std.proofs.Common.{take, Contains}
use Rattle.std.specs.List.{AllByRecursion}
use Rattle.std.proofs.lemmas.Bool.{cases_lt}
use Rattle.flux_defs.specs.declared.claims.Claim.{Claim}
use Rattle.flux_defs.specs.declared.claims.Job.{Job}
use Rattle.flux_defs.specs.declared.requests.Ask.{Ask}
use Rattle.flux_defs.specs.declared.journal.Command.TheVariants as command
use Rattle.flux_defs.specs.declared.journal.Reply.{Reply}
use Rattle.flux_defs.specs.declared.journal.Reply.TheVariants as reply
use Rattle.flux_defs.specs.declared.journal.Entry.{Entry}
use Rattle.flux_defs.specs.declared.verdicts.Verdict.{Verdict}
use Rattle.flux_defs.specs.declared.verdicts.Verdict.TheVariants.{Found, NoFit, Unsat, Long}
use Rattle.flux_defs.specs.Closed.{no_bars}
use Rattle.flux_defs.specs.Available.{IsAvailable}
use Rattle.flux_defs.specs.Asks.{window_of, CountsWithin, SomeFit, IsLowestFirst, IsStart, IsEarliest, IsSatisfiable}
use Rattle.flux_defs.specs.Scheduler.{Setting, State, Unless, AcceptedOrFull, Replies, present_of}
use Rattle.flux_defs.specs.Histories.{state_after, IsLegalFrom}
use Rattle.flux_defs.specs.Verdicts.{Finds, YieldsJob, Yields, job_of}
use Rattle.flux_defs.specs.Present.{up_with}
use Rattle.graph_laws.proofs.Containment.{ParentsFirst}
use Rattle.flux_laws.proofs.Determined.{lowest_fits}
use Rattle.commit_laws.proofs.Grown.{NoCancel, accepted, jobs_grow, stays_fine, used_grow}
use Rattle.commit_laws.proofs.Later.{fit_back, start_back, still_lowest, still_earliest}

-- no entry of the stretch moves time on to a moment that breaks the verdict
abbrev pub NoDelay : State → List Entry → (ℕ → Type 0) → Type 0
NoDelay s entries Breaks =
    (k : ℕ) (e : Entry) (at : ℕ) → slice_get entries k ≡ Some e → e.reply ≡ reply.Now at →
    (state_after s (take k entries)).moment < at → Breaks at → ⊥

module _ (g : Setting) (first : ParentsFirst g.graph.vertices) (s : State) (entries : List Entry)
    (legal : IsLegalFrom g s entries) where
  abbrev later : State
  later = state_after s entries

  moment_on : s.moment ≤ later.moment
  moment_on =
      stays_fine g (λ n. s.moment ≤ n) (λ at. ⊥) (λ n at f le none. omega arith) s entries legal
      (λ k e at i is lt b. b) (omega arith)

  still_now : NoDelay s entries (λ at. Unit {0}) → later.moment ≡ s.moment
  still_now none = stays_fine g (λ n. n ≡ s.moment) (λ at. Unit {0}) go s entries legal none refl
    where
      go : (n at : ℕ) → n ≡ s.moment → n ≤ at → (n < at → Unit {0} → ⊥) → at ≡ s.moment
      go n at f le none = elim (cases_lt n at) [ inl lt ↦ absurd (none lt tt) | inr ge ↦ omega arith ]

  not_past : (start : ℕ) → s.moment ≤ start → NoDelay s entries (λ at. start < at) → later.moment ≤ start
  not_past start from none = stays_fine g (λ n. n ≤ start) (λ at. start < at) go s entries legal none from
    where
      go : (n at : ℕ) → n ≤ start → n ≤ at → (n < at → start < at → ⊥) → at ≤ start
      go n at f le none = elim (cases_lt start at) [ inl lt ↦ absurd (none (omega arith) lt) | inr ge ↦ ge ]

  -- a window that counts from a moment on counts from an earlier one on
  counts_before : (ask : Ask) (at t : ℕ) → at ≤ t → CountsWithin g.horizon ask t → CountsWithin g.horizon ask at
  counts_before ask at t le c =
      let a : t < g.horizon = c.0 in
      let b : t + ask.duration ≤ g.horizon = c.1 in
      (omega arith, omega arith)

  grown : NoCancel entries → later.jobs ≡ s.jobs ++ accepted entries
  grown none = jobs_grow s entries none

  -- the claims are free now, of an ask over its window at the start
  abbrev pub AreFree : Ask → ℕ → List Claim → Type 0
  AreFree ask start claims =
      AllByRecursion (IsAvailable (no_bars g.graph.vertices (present_of later)) (window_of g.horizon ask start)) claims

  -- then they are the lowest-first ones in the later state
  lowest_then : NoCancel entries → (ask : Ask) (start : ℕ) (claims : List Claim) →
      IsLowestFirst g.graph.vertices (present_of s) ask (window_of g.horizon ask start) claims →
      AreFree ask start claims →
      IsLowestFirst g.graph.vertices (present_of later) ask (window_of g.horizon ask start) claims
  lowest_then none ask start claims low free =
      let w = window_of g.horizon ask start in
      subst (λ (js : List Job). IsLowestFirst g.graph.vertices (up_with js) ask w claims) (sym (grown none))
      (still_lowest g.graph.vertices s.jobs (accepted entries) ask first w claims low
      (subst (λ (js : List Job). AllByRecursion (IsAvailable (no_bars g.graph.vertices (up_with js)) w) claims)
      (grown none) free))

  -- what nothing overtook, for an allocate
  abbrev pub AllocateStands : Ask → Verdict → Type 0
  AllocateStands ask (Found start claims) =
      NoCancel entries × NoDelay s entries (λ at. Unit {0}) × AreFree ask start claims
  AllocateStands ask NoFit = NoCancel entries × NoDelay s entries (λ at. Unit {0})
  AllocateStands ask v = Unit {0}

  -- and for a reserve
  abbrev pub ReserveStands : Ask → Verdict → Type 0
  ReserveStands ask (Found start claims) =
      NoCancel entries × NoDelay s entries (λ at. start < at) × AreFree ask start claims
  ReserveStands ask NoFit = NoCancel entries × NoDelay s entries (λ at. Unit {0})
  ReserveStands ask v = Unit {0}

  module _ (id : ℕ) (ask : Ask) where
    -- what a verdict yields is what an equal one yields
    by : (none : Reply) (v w : Verdict) (r : Reply) → v ≡ w → YieldsJob g later id ask none v r →
        YieldsJob g later id ask none w r
    by none v w r e h = subst (λ (x : Verdict). YieldsJob g later id ask none x r) e h

    takes_up : (start : ℕ) (claims : List Claim) (none r : Reply) →
        IsLowestFirst g.graph.vertices (present_of later) ask (window_of g.horizon ask start) claims →
        YieldsJob g later id ask none (Found start claims) r → AcceptedOrFull g later id ask start r
    takes_up start claims none r low h = (
      job_of g id ask start claims,
      record { id-is = refl; start-is = refl; end-is = refl; lowest = low },
      h,
    )

    -- where nothing fitted, nothing fits with more jobs
    none_fits : NoCancel entries → later.moment ≡ s.moment →
        (SomeFit g.graph.vertices (present_of s) ask (window_of g.horizon ask s.moment) → ⊥) →
        SomeFit g.graph.vertices (present_of later) ask (window_of g.horizon ask later.moment) → ⊥
    none_fits kept same none f =
        none (fit_back g.graph.vertices s.jobs (accepted entries) ask (window_of g.horizon ask s.moment)
        (subst (λ (js : List Job). SomeFit g.graph.vertices (up_with js) ask (window_of g.horizon ask s.moment))
        (grown kept)
        (subst (λ (t : ℕ). SomeFit g.graph.vertices (present_of later) ask (window_of g.horizon ask t)) same f)))

    start_before : NoCancel entries → (t : ℕ) → IsStart g.graph.vertices (present_of later) g.horizon ask t →
        IsStart g.graph.vertices (present_of s) g.horizon ask t
    start_before kept t i =
        start_back g.graph.vertices s.jobs (accepted entries) ask g.horizon t
        (subst (λ (js : List Job). IsStart g.graph.vertices (up_with js) g.horizon ask t) (grown kept) i)

    earliest_then : NoCancel entries → (t : ℕ) (claims : List Claim) → later.moment ≤ t →
        IsEarliest g.graph.vertices (present_of s) g.horizon ask s.moment t →
        IsLowestFirst g.graph.vertices (present_of later) ask (window_of g.horizon ask t) claims →
        IsEarliest g.graph.vertices (present_of later) g.horizon ask later.moment t
    earliest_then kept t claims at early low =
        subst (λ (js : List Job). IsEarliest g.graph.vertices (up_with js) g.horizon ask later.moment t)
        (sym (grown kept))
        (still_earliest g.graph.vertices s.jobs (accepted entries) ask first g.horizon s.moment later.moment t claims
        moment_on at early
        (subst (λ (js : List Job). IsLowestFirst g.graph.vertices (up_with js) ask (window_of g.horizon ask t) claims)
        (grown kept) low))

    -- some claims are the lowest-first ones, so some fit
    fits_then : (start : ℕ) (claims : List Claim) →
        IsLowestFirst g.graph.vertices (present_of later) ask (window_of g.horizon ask start) claims →
        SomeFit g.graph.vertices (present_of later) ask (window_of g.horizon ask start)
    fits_then start claims low =
        (claims, lowest_fits g.graph.vertices (present_of later) ask (window_of g.horizon ask start) claims low)

    -- the rest of the table once the id is known to be new
    abbrev AllocateRest : Reply → Type 0
    AllocateRest =
        Unless (IsSatisfiable g.graph.vertices ask) reply.Unsatisfiable
        (Unless (CountsWithin g.horizon ask later.moment) reply.TooLong
        (Unless (SomeFit g.graph.vertices (present_of later) ask (window_of g.horizon ask later.moment)) reply.Busy
        (AcceptedOrFull g later id ask later.moment)))

    allocate_rest : (v : Verdict) (r : Reply) → (Contains later.used id → ⊥) → Finds g s (command.Allocate id ask) v →
        AllocateStands ask v → YieldsJob g later id ask reply.Busy v r → AllocateRest r
    allocate_rest v r n (inl (used, e)) st h = absurd (n (used_grow s entries id used))
    allocate_rest v r n (inr (_, inl (un, e))) st h = inl (un, by reply.Busy v Unsat r e h)
    allocate_rest v r n (inr (_, inr (sat, inl (long, e)))) st h =
        inr (sat, inl (λ c. long (counts_before ask s.moment later.moment moment_on c), by reply.Busy v Long r e h))
    allocate_rest v r n (inr (_, inr (sat, inr (counts, inl (none, e))))) st h =
        let k = subst (AllocateStands ask) e st in
        let same : later.moment ≡ s.moment = still_now k.1 in
        inr (
          sat,
          inr (
            subst (CountsWithin g.horizon ask) (sym same) counts,
            inl (none_fits k.0 same none, by reply.Busy v NoFit r e h),
          ),
        )
    allocate_rest v r n (inr (_, inr (sat, inr (counts, inr (fit, (claims, low, e)))))) st h =
        let k = subst (AllocateStands ask) e st in
        let same : later.moment ≡ s.moment = still_now k.1 in
        let now = lowest_then k.0 ask s.moment claims low k.2 in
        let up = takes_up s.moment claims reply.Busy r now (by reply.Busy v (Found s.moment claims) r e h) in
        inr (
          sat,
          inr (
            subst (CountsWithin g.horizon ask) (sym same) counts,
            inr (
              subst (λ (t : ℕ). SomeFit g.graph.vertices (present_of later) ask (window_of g.horizon ask t)) (sym same)
                  (fits_then s.moment claims now),
              subst (λ (t : ℕ). AcceptedOrFull g later id ask t r) (sym same) up,
            ),
          ),
        )

    -- an allocate that nothing overtook
    pub fresh_allocate : (v : Verdict) (r : Reply) → Finds g s (command.Allocate id ask) v → AllocateStands ask v →
        Yields g later (command.Allocate id ask) v r → Replies g later (command.Allocate id ask) r
    fresh_allocate v r f st (inl used) = inl used
    fresh_allocate v r f st (inr (n, h)) = inr (n, allocate_rest v r n f st h)

    abbrev ReserveRest : Reply → Type 0
    ReserveRest =
        Unless (IsSatisfiable g.graph.vertices ask) reply.Unsatisfiable
        (Unless (CountsWithin g.horizon ask later.moment) reply.TooLong
        (Unless ((t : ℕ) × (later.moment ≤ t) × IsStart g.graph.vertices (present_of later) g.horizon ask t)
        reply.NoStart
        (λ r. (t : ℕ) × IsEarliest g.graph.vertices (present_of later) g.horizon ask later.moment t
        × AcceptedOrFull g later id ask t r)))

    reserve_rest : (v : Verdict) (r : Reply) → (Contains later.used id → ⊥) → Finds g s (command.Reserve id ask) v →
        ReserveStands ask v → YieldsJob g later id ask reply.NoStart v r → ReserveRest r
    reserve_rest v r n (inl (used, e)) st h = absurd (n (used_grow s entries id used))
    reserve_rest v r n (inr (_, inl (un, e))) st h = inl (un, by reply.NoStart v Unsat r e h)
    reserve_rest v r n (inr (_, inr (sat, inl (long, e)))) st h =
        inr (sat, inl (λ c. long (counts_before ask s.moment later.moment moment_on c), by reply.NoStart v Long r e h))
    reserve_rest v r n (inr (_, inr (sat, inr (counts, inl (none, e))))) st h =
        let k = subst (ReserveStands ask) e st in
        let same : later.moment ≡ s.moment = still_now k.1 in
        inr (
          sat,
          inr (
            subst (CountsWithin g.horizon ask) (sym same) counts,
            inl (
              λ f. none (f.0, (let le : later.moment ≤ f.0 = f.1 in omega arith), start_before k.0 f.0 f.2),
              by reply.NoStart v NoFit r e h,
            ),
          ),
        )
    reserve_rest v r n (inr (_, inr (sat, inr (counts, inr (some, (t, early, (claims, low, e))))))) st h =
        let k = subst (ReserveStands ask) e st in
        let at : later.moment ≤ t = not_past t early.later k.1 in
        let now = lowest_then k.0 ask t claims low k.2 in
        let earliest = earliest_then k.0 t claims at early now in
        let up = takes_up t claims reply.NoStart r now (by reply.NoStart v (Found t claims) r e h) in
        inr (
          sat,
          inr (
            counts_before ask later.moment t at earliest.starts.0,
            inr ((t, at, earliest.starts), (t, earliest, up)),
          ),
        )

    -- a reserve that nothing overtook
    pub fresh_reserve : (v : Verdict) (r : Reply) → Finds g s (command.Reserve id ask) v → ReserveStands ask v →
        Yields g later (command.Reserve id ask) v r → Replies g later (command.Reserve id ask) r
    fresh_reserve v r f st (inl used) = inl used
    fresh_reserve v r f st (inr (n, h)) = inr (n, reserve_rest v r n f st h)

  -- a satisfy is answered alike in every state
  pub fresh_satisfy : (ask : Ask) (v : Verdict) (r : Reply) → Finds g s (command.Satisfy ask) v →
      Yields g later (command.Satisfy ask) v r → Replies g later (command.Satisfy ask) r
  fresh_satisfy ask v r (inl (un, e)) h =
      inl (un, subst (λ (x : Verdict). Yields g later (command.Satisfy ask) x r) e h)
  fresh_satisfy ask v r (inr (sat, e)) h =
      inr (sat, subst (λ (x : Verdict). Yields g later (command.Satisfy ask) x r) e h)
