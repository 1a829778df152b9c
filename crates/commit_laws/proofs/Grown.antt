-- What a legal stretch of a history leaves: without a cancel jobs are only added, time never goes back, and an id that
-- was used stays used.
use Rattle.std.proofs.Common.{◌≡◌, ℕ, suc, ◌<◌, ◌≤◌, ◌==◌, if◌then◌else◌, Bool, true, false, List, [], ◌∷◌, ◌++◌, inl}
use Rattle.std.proofs.Common.{inr, refl, sym, ◌∙◌, ap, arith, Option, Some, None, MatchOption, slice_get, take}
use Rattle.std.proofs.Common.{append_assoc, append-nil, Contains}
use Rattle.std.specs.List.{AllByRecursion}
use Rattle.std.proofs.lemmas.Bool.{cases_lt}
use Rattle.std.proofs.lemmas.List.Elements.{Contains-append_left}
use Rattle.flux_defs.specs.declared.claims.Job.{Job}
use Rattle.flux_defs.specs.declared.requests.Ask.{Ask}
use Rattle.flux_defs.specs.declared.journal.Command.{Command}
use Rattle.flux_defs.specs.declared.journal.Command.TheVariants as command
use Rattle.flux_defs.specs.declared.journal.Reply.{Reply}
use Rattle.flux_defs.specs.declared.journal.Reply.TheVariants as reply
use Rattle.flux_defs.specs.declared.journal.Entry.{Entry}
use Rattle.flux_defs.specs.Scheduler.{Setting, State, Replies, AcceptedOrFull, job_with, info_at, after}
use Rattle.flux_defs.specs.Histories.{state_after, IsLegalFrom}

pub state_append : (s : State) (a b : List Entry) → state_after s (a ++ b) ≡ state_after (state_after s a) b
state_append s [] b = refl
state_append s (e ∷ es) b = state_append (after s e.command e.reply) es b

-- what stands behind a part of a legal history is legal from there on
pub legal_behind : (g : Setting) (s : State) (a b : List Entry) → IsLegalFrom g s (a ++ b) →
    IsLegalFrom g (state_after s a) b
legal_behind g s [] b l = l
legal_behind g s (e ∷ es) b l = legal_behind g (after s e.command e.reply) es b l.1

-- the job that a reply accepts, as a list
abbrev pub accepted_of : Reply → List Job
accepted_of (reply.Allocated job) = job ∷ []
accepted_of (reply.Reserved job) = job ∷ []
accepted_of r = []

-- the jobs that the entries accepted
abbrev pub accepted : List Entry → List Job
accepted [] = []
accepted (e ∷ es) = accepted_of e.reply ++ accepted es

-- no entry is an accepted cancel
abbrev pub NoCancel : List Entry → Type 0
NoCancel entries = AllByRecursion (λ e. e.reply ≡ reply.Cancelled → ⊥) entries

jobs_step : (s : State) (c : Command) (r : Reply) → (r ≡ reply.Cancelled → ⊥) →
    (after s c r).jobs ≡ s.jobs ++ accepted_of r
jobs_step s c (reply.Allocated job) n = refl
jobs_step s c (reply.Reserved job) n = refl
jobs_step s c reply.Cancelled n = absurd (n refl)
jobs_step s c (reply.Now at) n = sym (append-nil s.jobs)
jobs_step s c (reply.Info p a b) n = sym (append-nil s.jobs)
jobs_step s c r n = sym (append-nil s.jobs)

-- without a cancel, jobs are only added
pub jobs_grow : (s : State) (entries : List Entry) → NoCancel entries →
    (state_after s entries).jobs ≡ s.jobs ++ accepted entries
jobs_grow s [] n = sym (append-nil s.jobs)
jobs_grow s (e ∷ es) n =
    jobs_grow (after s e.command e.reply) es n.1
    ∙ (ap (λ js. js ++ accepted es) (jobs_step s e.command e.reply n.0)
    ∙ append_assoc s.jobs (accepted_of e.reply) (accepted es))

module _ (g : Setting) where
  -- a reply that tells a moment is no other
  not_accepted : (b : Bool) (job : Job) (at : ℕ) →
      reply.Now at ≡ (if b then reply.Allocated job else reply.Reserved job) → ⊥
  not_accepted true job at e = absurd (cc)
  not_accepted false job at e = absurd (cc)

  neither : (s : State) (id : ℕ) (ask : Ask) (start at : ℕ) → AcceptedOrFull g s id ask start (reply.Now at) → ⊥
  neither s id ask start at (job, is, inl full) = let e = full.1 in absurd (cc)
  neither s id ask start at (job, is, inr fits) = not_accepted (job.start == s.moment) job at fits.1

  not_info : (s : State) (found : Option Job) (at : ℕ) →
      MatchOption found (reply.Now at ≡ reply.Absent) (λ job. reply.Now at ≡ info_at s.moment job) → ⊥
  not_info s None at e = absurd (cc)
  not_info s (Some job) at e = absurd (cc)

  -- time never goes back
  moment_le : (s : State) (c : Command) (at : ℕ) → Replies g s c (reply.Now at) → s.moment ≤ at
  moment_le s (command.Allocate id ask) at (inl h) = let e = h.1 in absurd (cc)
  moment_le s (command.Allocate id ask) at (inr (_, inl h)) = let e = h.1 in absurd (cc)
  moment_le s (command.Allocate id ask) at (inr (_, inr (_, inl h))) = let e = h.1 in absurd (cc)
  moment_le s (command.Allocate id ask) at (inr (_, inr (_, inr (_, inl h)))) = let e = h.1 in absurd (cc)
  moment_le s (command.Allocate id ask) at (inr (_, inr (_, inr (_, inr h)))) =
      absurd (neither s id ask s.moment at h.1)
  moment_le s (command.Reserve id ask) at (inl h) = let e = h.1 in absurd (cc)
  moment_le s (command.Reserve id ask) at (inr (_, inl h)) = let e = h.1 in absurd (cc)
  moment_le s (command.Reserve id ask) at (inr (_, inr (_, inl h))) = let e = h.1 in absurd (cc)
  moment_le s (command.Reserve id ask) at (inr (_, inr (_, inr (_, inl h)))) = let e = h.1 in absurd (cc)
  moment_le s (command.Reserve id ask) at (inr (_, inr (_, inr (_, inr h)))) =
      absurd (neither s id ask h.1.0 at h.1.2)
  moment_le s (command.Satisfy ask) at (inl h) = let e = h.1 in absurd (cc)
  moment_le s (command.Satisfy ask) at (inr h) = let e = h.1 in absurd (cc)
  moment_le s (command.Cancel id) at (inl h) = let e = h.1 in absurd (cc)
  moment_le s (command.Cancel id) at (inr h) = let e = h.1 in absurd (cc)
  moment_le s (command.Info id) at h = absurd (not_info s (job_with id s.jobs) at h)
  moment_le s (command.Advance to) at (inl h) = let e = h.1 in absurd (cc)
  moment_le s (command.Advance to) at (inr (_, inl h)) = let e = h.1 in absurd (cc)
  moment_le s (command.Advance to) at (inr (n, inr (m, e))) =
      let same : at ≡ to = cc in
      elim (cases_lt to s.moment) [ inl lt ↦ absurd (n lt) | inr ge ↦ omega arith ]
  moment_le s (command.Invalid why) at e = absurd (cc)

  -- a property of the present moment lasts where no change of the moment breaks it
  module _ (Fine : ℕ → Type 0) (Breaks : ℕ → Type 0)
      (step : (n at : ℕ) → Fine n → n ≤ at → (n < at → Breaks at → ⊥) → Fine at) where
    fine_step : (s : State) (c : Command) (r : Reply) → Replies g s c r →
        ((at : ℕ) → r ≡ reply.Now at → s.moment < at → Breaks at → ⊥) → Fine s.moment → Fine (after s c r).moment
    fine_step s c (reply.Now at) l n f = step s.moment at f (moment_le s c at l) (n at refl)
    fine_step s c (reply.Allocated job) l n f = f
    fine_step s c (reply.Reserved job) l n f = f
    fine_step s (command.Allocate id ask) reply.Cancelled l n f = f
    fine_step s (command.Reserve id ask) reply.Cancelled l n f = f
    fine_step s (command.Satisfy ask) reply.Cancelled l n f = f
    fine_step s (command.Cancel id) reply.Cancelled l n f = f
    fine_step s (command.Info id) reply.Cancelled l n f = f
    fine_step s (command.Advance to) reply.Cancelled l n f = f
    fine_step s (command.Invalid why) reply.Cancelled l n f = f
    fine_step s c (reply.Info p a b) l n f = f
    fine_step s c r l n f = f

    pub stays_fine : (s : State) (entries : List Entry) → IsLegalFrom g s entries →
        ((k : ℕ) (e : Entry) (at : ℕ) → slice_get entries k ≡ Some e → e.reply ≡ reply.Now at →
        (state_after s (take k entries)).moment < at → Breaks at → ⊥) →
        Fine s.moment → Fine (state_after s entries).moment
    stays_fine s [] l n f = f
    stays_fine s (e ∷ es) l n f =
        stays_fine (after s e.command e.reply) es l.1 (λ k x at i is lt b. n (suc k) x at i is lt b)
        (fine_step s e.command e.reply l.0 (λ at is lt b. n 0 e at refl is lt b) f)

-- an id that was used stays used
used_step : (s : State) (c : Command) (r : Reply) (id : ℕ) → Contains s.used id → Contains (after s c r).used id
used_step s c (reply.Allocated job) id h = Contains-append_left s.used (job.id ∷ []) id h
used_step s c (reply.Reserved job) id h = Contains-append_left s.used (job.id ∷ []) id h
used_step s (command.Allocate n ask) reply.Cancelled id h = h
used_step s (command.Reserve n ask) reply.Cancelled id h = h
used_step s (command.Satisfy ask) reply.Cancelled id h = h
used_step s (command.Cancel n) reply.Cancelled id h = h
used_step s (command.Info n) reply.Cancelled id h = h
used_step s (command.Advance to) reply.Cancelled id h = h
used_step s (command.Invalid why) reply.Cancelled id h = h
used_step s c (reply.Now at) id h = h
used_step s c r id h = h

pub used_grow : (s : State) (entries : List Entry) (id : ℕ) → Contains s.used id →
    Contains (state_after s entries).used id
used_grow s [] id h = h
used_grow s (e ∷ es) id h = used_grow (after s e.command e.reply) es id (used_step s e.command e.reply id h)
