-- The book may follow each reply of the scheduler.
use Rattle.std.proofs.Common.{◌≡◌, ℕ, ◌+◌, ◌-◌, ◌<◌, ◌≤◌, ◌==◌, nat_le, if◌then◌else◌, Bool, true, false, not, ◌||◌}
use Rattle.std.proofs.Common.{List, length, Option, Some, None, MatchOption, inl, inr, refl, sym, ap, subst, arith}
use Rattle.std.proofs.Common.{IsTrue, Contains}
use Rattle.std.specs.List.{AllByRecursion}
use Rattle.std.specs.FinMap.{get}
use Rattle.std.proofs.lemmas.Bool.{and_parts, and_from, cases_lt}
use Rattle.std.proofs.lemmas.Bool.Decides.{nat_tests, eqb_tells}
use Rattle.sound_laws.proofs.Legal.{same_window}
use Rattle.flux_defs.specs.declared.vertices.Vertex.{Vertex}
use Rattle.flux_defs.specs.declared.claims.Claim.{Claim}
use Rattle.flux_defs.specs.declared.claims.Claim.TheVariants.{Take, Hold, Pass}
use Rattle.flux_defs.specs.declared.claims.Job.{Job}
use Rattle.flux_defs.specs.declared.claims.Window.{Window}
use Rattle.flux_defs.specs.declared.requests.Ask.{Ask}
use Rattle.flux_defs.specs.declared.journal.Command.{Command}
use Rattle.flux_defs.specs.declared.journal.Command.TheVariants as command
use Rattle.flux_defs.specs.declared.journal.Reply.{Reply}
use Rattle.flux_defs.specs.declared.journal.Reply.TheVariants as reply
use Rattle.flux_defs.specs.declared.journal.Entry.{Entry}
use Rattle.flux_defs.specs.Graph.{Everywhere, is_pool, size_of}
use Rattle.flux_defs.specs.ValidGraph.{IsValidGraph}
use Rattle.flux_defs.specs.Needs.{IsProperAsk}
use Rattle.flux_defs.specs.Jobs.{vertex_of, some_live_claim, holds_over, is_on_or_below}
use Rattle.flux_defs.specs.Closed.{Scene, no_bars, is_closed, is_touched, is_withheld, has_withheld}
use Rattle.flux_defs.specs.Free.{taken_at}
use Rattle.flux_defs.specs.Available.{is_available_at, IsAvailable}
use Rattle.flux_defs.specs.Asks.{window_of, CountsWithin, scene_of, IsLowestFirst}
use Rattle.flux_defs.specs.Scheduler.{Setting, State, IsProper, IsAcceptedAs, AcceptedOrFull, Replies, accepted_reply}
use Rattle.flux_defs.specs.Scheduler.{JobReplies, job_with, info_at, present_of}
use Rattle.flux_defs.specs.Sound.{AreAllSeparate}
use Rattle.flux_defs.specs.Present.{up_with}
use Rattle.flux_laws.proofs.Aside.{separate_fits}
use Rattle.flux_laws.proofs.Determined.{lowest_fits}
use Rattle.sound_laws.proofs.Had.{IsHad, TakesPool, fits_had}
use Rattle.book_state.specs.declared.held.BookState.{BookState}
use Rattle.book_state.specs.Books.{vertices_of, horizon_of, rows_of, MayAdd}
use Rattle.book_laws.specs.Amounts.{TakesFromPool}
use Rattle.book_state.proofs.BookLaws.{stood}
use Rattle.sched_core.specs.Courses.{IsBookAt}
use Rattle.sched_core.specs.Answered.{MayFollow, HasRoom}
use Rattle.sched_core.proofs.Decided.{NowGiven, StartGiven}
use Rattle.sched_core.proofs.JobLaws.{fresh_row}
use Rattle.sched_core.proofs.OnVertices.{fits_on}
use Rattle.list_laws.proofs.Lists.{all_along}

-- what is available to an ask is available to one that bars nothing
open_without : (a w : Bool) → IsTrue (not (a || w)) → IsTrue (not (a || false))
open_without true w h = h
open_without false w h = refl

free_without : (a w : Bool) (q n : ℕ) → IsTrue (nat_le q (if a || w then 0 else n)) →
    IsTrue (nat_le q (if a || false then 0 else n))
free_without true w q n h = h
free_without false true q n h = grind (arith, nat_tests)
free_without false false q n h = h

module _ (vertices : List Vertex) (jobs : List Job) (barred : List ℕ) where
  abbrev scene : Scene
  scene = record { vertices = vertices; present = up_with jobs; barred = barred }

  unbarred_at : (m : ℕ) (c : Claim) → IsTrue (is_available_at scene m c) →
      IsTrue (is_available_at (no_bars vertices (up_with jobs)) m c)
  unbarred_at m (Take v q) h =
      free_without (some_live_claim jobs m (holds_over vertices v)) (is_withheld scene v) q
      (if is_pool vertices v then (size_of vertices v - taken_at jobs m v) else 1) h
  unbarred_at m (Hold v) h =
      let b = and_parts (not (is_closed scene m v)) (not (is_touched scene m v)) h in
      and_from _ _ (open_without (some_live_claim jobs m (holds_over vertices v)) (is_withheld scene v) b.0)
      (open_without (some_live_claim jobs m (is_on_or_below vertices v)) (has_withheld scene v) b.1)
  unbarred_at m (Pass v) h = open_without (some_live_claim jobs m (holds_over vertices v)) (is_withheld scene v) h

  unbarred : (w : Window) (c : Claim) → IsAvailable scene w c → IsAvailable (no_bars vertices (up_with jobs)) w c
  unbarred w c h m lo hi = unbarred_at m c (h m lo hi)

pool_of : (vertices : List Vertex) (c : Claim) → TakesPool vertices c → TakesFromPool vertices c
pool_of vertices (Take v q) h = h.1
pool_of vertices (Hold v) h = h
pool_of vertices (Pass v) h = h

-- a window that counts isn't empty, and ends at the horizon or before
spans : (horizon : ℕ) (ask : Ask) (start : ℕ) → CountsWithin horizon ask start →
    (start < (window_of horizon ask start).to) × ((window_of horizon ask start).to ≤ horizon)
spans horizon ask start counts = elim (eqb_tells ask.duration 0) [
  | inl y ↦ subst (λ (n : ℕ). (start < n) × (n ≤ horizon))
      (sym (ap (λ b. if b then horizon else start + ask.duration) y.0)) (counts.0, omega arith)
  | inr n ↦ subst (λ (n : ℕ). (start < n) × (n ≤ horizon))
      (sym (ap (λ b. if b then horizon else start + ask.duration) n.0)) (positive ask.duration start n.1, counts.1)
]
  where
    positive : (d s : ℕ) → (d ≡ 0 → ⊥) → s < s + d
    positive d s ne = elim (cases_lt 0 d) [ inl lt ↦ omega arith | inr ge ↦ absurd (ne (omega arith)) ]

module _ (g : Setting) (names : List (List ℕ)) (valid : IsValidGraph g.graph names) (journal : List Entry) (s : State)
    (book : BookState) (at : IsBookAt journal s book)
    (over : vertices_of book ≡ g.graph.vertices) (until : horizon_of book ≡ g.horizon) where
  -- an accepted job may be added to the book
  may_add : (id start : ℕ) (ask : Ask) (job : Job) → IsProperAsk g.graph.vertices ask →
      CountsWithin g.horizon ask start → (Contains s.used id → ⊥) → IsAcceptedAs g s id start ask job → MayAdd book job
  may_add id start ask job proper counts fresh is =
      let vs = g.graph.vertices in
      let w : Window = record { from = job.start; to = job.end } in
      let sp = spans g.horizon ask start counts in
      let low : IsLowestFirst vs (present_of s) ask w job.claims =
      subst (λ (x : Window). IsLowestFirst vs (present_of s) ask x job.claims)
      (same_window start (window_of g.horizon ask start).to job.start job.end (sym is.start-is) (sym is.end-is))
      is.lowest in
      let ok = IsAvailable (scene_of vs (present_of s) ask) w in
      let fit = lowest_fits vs (present_of s) ask w job.claims low in
      let had = fits_had vs ok 1 Everywhere ask.needs proper.needs job.claims fit in
      record {
        begins = subst (λ (n : ℕ). job.start < n) (sym is.end-is)
            (subst (λ (n : ℕ). n < (window_of g.horizon ask start).to) (sym is.start-is) sp.0);
        ends = subst (λ (n : ℕ). job.end ≤ n) (sym until) (subst (λ (n : ℕ). n ≤ g.horizon) (sym is.end-is) sp.1);
        on_vertices = subst (λ (x : List Vertex). AllByRecursion (λ c. vertex_of c < length x) job.claims) (sym over)
            (fits_on vs ok 1 Everywhere ask.needs job.claims fit);
        from_pools = subst (λ (x : List Vertex). AllByRecursion (TakesFromPool x) job.claims) (sym over)
            (all_along (IsHad vs ok) (TakesFromPool vs) (λ c h. pool_of vs c h.1) job.claims had);
        separate = subst (λ (x : List Vertex). AreAllSeparate x job.claims) (sym over)
            (separate_fits g.graph names valid ok 1 Everywhere ask.needs proper.needs job.claims fit);
        available = λ jobs stands.
            stood book (g.graph, sym over, valid.preorder) s.jobs jobs at.jobs stands w job.claims
            (subst (λ (x : List Vertex). AllByRecursion (λ c. vertex_of c < length x) job.claims) (sym over)
            (fits_on vs ok 1 Everywhere ask.needs job.claims fit))
            (subst (λ (x : List Vertex). AllByRecursion (IsAvailable (no_bars x (present_of s)) w) job.claims)
            (sym over)
            (all_along (IsHad vs ok) (IsAvailable (no_bars vs (present_of s)) w)
            (λ c h. unbarred vs s.jobs ask.barred w c h.0) job.claims had));
        fresh = fresh_row journal s job.id (get (rows_of book) job.id) (at.table job.id)
            (subst (λ (n : ℕ). Contains s.used n → ⊥) (sym is.id-is) fresh);
      }

  -- what is owed of a reply
  abbrev Owed : Command → Reply → Type 0
  Owed c r = MayFollow book s c r × HasRoom g.claim_limit s.claim_count r

  refused : (c : Command) (r x : Reply) → r ≡ x → Owed c x → Owed c r
  refused c r x is h = subst (Owed c) (sym is) h

  within : (a b : ℕ) → (a < b → ⊥) → b ≤ a
  within a b n = elim (cases_lt a b) [ inl lt ↦ absurd (n lt) | inr ge ↦ ge ]

  accepted : (c : Command) (job : Job) (b : Bool) → MayAdd book job →
      s.claim_count + length job.claims ≤ g.claim_limit → Owed c (if b then reply.Allocated job else reply.Reserved job)
  accepted c job true may room = (may, room)
  accepted c job false may room = (may, room)

  accepted_or_full : (c : Command) (id start : ℕ) (ask : Ask) (r : Reply) → IsProperAsk g.graph.vertices ask →
      CountsWithin g.horizon ask start → (Contains s.used id → ⊥) → AcceptedOrFull g s id ask start r → Owed c r
  accepted_or_full c id start ask r proper counts fresh (job, is, inl full) = refused c r reply.Full full.1 (tt, tt)
  accepted_or_full c id start ask r proper counts fresh (job, is, inr fits) =
      refused c r (accepted_reply s.moment job) fits.1
      (accepted c job (job.start == s.moment) (may_add id start ask job proper counts fresh is)
      (within g.claim_limit (s.claim_count + length job.claims) fits.0))

  informed : (id : ℕ) (found : Option Job) (r : Reply) →
      MatchOption found (r ≡ reply.Absent) (λ job. r ≡ info_at s.moment job) → Owed (command.Info id) r
  informed id None r h = refused (command.Info id) r reply.Absent h (tt, tt)
  informed id (Some job) r h = refused (command.Info id) r (info_at s.moment job) h (tt, tt)

  -- of an ask for a job, where it is owed of what is given after the look for a start
  job_owed : (c : Command) (id : ℕ) (ask : Ask) (Given : Reply → Type 0) (r : Reply) →
      ((Contains s.used id → ⊥) → CountsWithin g.horizon ask s.moment → Given r → Owed c r) →
      JobReplies g s id ask Given r → Owed c r
  job_owed c id ask Given r owes (inl x) = refused c r reply.Exists x.1 (tt, tt)
  job_owed c id ask Given r owes (inr (_, inl x)) = refused c r reply.Unsatisfiable x.1 (tt, tt)
  job_owed c id ask Given r owes (inr (_, inr (_, inl x))) = refused c r reply.TooLong x.1 (tt, tt)
  job_owed c id ask Given r owes (inr (fresh, inr (_, inr (counts, given)))) = owes fresh counts given

  now_owed : (id : ℕ) (ask : Ask) (r : Reply) → IsProperAsk g.graph.vertices ask → (Contains s.used id → ⊥) →
      CountsWithin g.horizon ask s.moment → NowGiven g s id ask r → Owed (command.Allocate id ask) r
  now_owed id ask r proper fresh counts (inl x) = refused (command.Allocate id ask) r reply.Busy x.1 (tt, tt)
  now_owed id ask r proper fresh counts (inr x) =
      accepted_or_full (command.Allocate id ask) id s.moment ask r proper counts fresh x.1

  start_owed : (id : ℕ) (ask : Ask) (r : Reply) → IsProperAsk g.graph.vertices ask → (Contains s.used id → ⊥) →
      CountsWithin g.horizon ask s.moment → StartGiven g s id ask r → Owed (command.Reserve id ask) r
  start_owed id ask r proper fresh counts (inl x) = refused (command.Reserve id ask) r reply.NoStart x.1 (tt, tt)
  start_owed id ask r proper fresh counts (inr x) =
      accepted_or_full (command.Reserve id ask) id x.1.0 ask r proper x.1.1.starts.0 fresh x.1.2

  pub owed : (c : Command) (r : Reply) → IsProper g.graph.vertices c → Replies g s c r → MayFollow book s c r
      × HasRoom g.claim_limit s.claim_count r
  owed (command.Allocate id ask) r proper h =
      job_owed (command.Allocate id ask) id ask (NowGiven g s id ask) r (now_owed id ask r proper) h
  owed (command.Reserve id ask) r proper h =
      job_owed (command.Reserve id ask) id ask (StartGiven g s id ask) r (start_owed id ask r proper) h
  owed (command.Satisfy ask) r proper (inl x) = refused (command.Satisfy ask) r reply.Unsatisfiable x.1 (tt, tt)
  owed (command.Satisfy ask) r proper (inr x) = refused (command.Satisfy ask) r reply.Satisfiable x.1 (tt, tt)
  owed (command.Cancel id) r proper (inl x) = refused (command.Cancel id) r reply.Absent x.1 (tt, tt)
  owed (command.Cancel id) r proper (inr x) = refused (command.Cancel id) r reply.Cancelled x.1 (x.0, tt)
  owed (command.Info id) r proper h = informed id (job_with id s.jobs) r h
  owed (command.Advance to) r proper (inl x) = refused (command.Advance to) r reply.Backwards x.1 (tt, tt)
  owed (command.Advance to) r proper (inr (_, inl x)) = refused (command.Advance to) r reply.Beyond x.1 (tt, tt)
  owed (command.Advance to) r proper (inr (_, inr x)) = refused (command.Advance to) r (reply.Now to) x.1 (tt, tt)
  owed (command.Invalid why) r proper h = refused (command.Invalid why) r reply.Invalid h (tt, tt)
