-- Each reply of the scheduler leaves sound jobs, and so does a legal history.
use Rattle.std.proofs.Common.{◌≡◌, ℕ, zero, suc, ◌==◌, if◌then◌else◌, Bool, true, false, List, [], ◌∷◌, ◌++◌, take}
use Rattle.std.proofs.Common.{Option, Some, None, MatchOption, inl, inr, refl, sym, ◌∙◌, ap, subst}
use Rattle.flux_defs.specs.declared.claims.Job.{Job}
use Rattle.flux_defs.specs.declared.claims.Window.{Window}
use Rattle.flux_defs.specs.declared.requests.Ask.{Ask}
use Rattle.flux_defs.specs.declared.journal.Command.{Command}
use Rattle.flux_defs.specs.declared.journal.Command.TheVariants as command
use Rattle.flux_defs.specs.declared.journal.Reply.{Reply}
use Rattle.flux_defs.specs.declared.journal.Reply.TheVariants as reply
use Rattle.flux_defs.specs.declared.journal.Entry.{Entry}
use Rattle.flux_defs.specs.Graph.{ResourceGraph, Everywhere}
use Rattle.flux_defs.specs.ValidGraph.{IsValidGraph}
use Rattle.flux_defs.specs.Needs.{AreValidNeeds}
use Rattle.flux_defs.specs.Available.{IsAvailable}
use Rattle.flux_defs.specs.Asks.{window_of, scene_of, IsLowestFirst}
use Rattle.flux_defs.specs.Scheduler.{Setting, State, first_state, IsProper, IsAcceptedAs, AcceptedOrFull, Replies}
use Rattle.flux_defs.specs.Scheduler.{accepted_reply, job_with, info_at, after, present_of}
use Rattle.flux_defs.specs.Histories.{state_after, IsLegalFrom, IsLegal, HasProperCommands}
use Rattle.flux_defs.specs.Sound.{IsSound, IsSoundThroughout}
use Rattle.flux_defs.specs.Present.{up_with}
use Rattle.flux_laws.proofs.Aside.{separate_fits}
use Rattle.flux_laws.proofs.Determined.{lowest_fits}
use Rattle.sound_laws.proofs.Had.{fits_had}
use Rattle.sound_laws.proofs.Sounds.{sound_add, sound_filter, sound_none}

-- a job with the lowest-first claims of valid needs over its own time
pub accepted_keeps : (g : ResourceGraph) (names : List (List ℕ)) →
    IsValidGraph g names → (jobs : List Job) (ask : Ask) → AreValidNeeds g.vertices ask.needs →
    (job : Job) → IsLowestFirst g.vertices (up_with jobs) ask (record { from = job.start; to = job.end }) job.claims →
    IsSound g.vertices jobs → IsSound g.vertices (jobs ++ job ∷ [])
accepted_keeps g names valid jobs ask needs job low sound =
    let span : Window = record { from = job.start; to = job.end } in
    let ok = IsAvailable (scene_of g.vertices (up_with jobs) ask) span in
    let fit = lowest_fits g.vertices (up_with jobs) ask span job.claims low in
    sound_add g.vertices jobs ask.barred job sound
    (fits_had g.vertices ok 1 Everywhere ask.needs needs job.claims fit)
    (separate_fits g names valid ok 1 Everywhere ask.needs needs job.claims fit)

pub same_window : (a b c d : ℕ) → a ≡ c →
    b ≡ d → (let x : Window = record { from = a; to = b } in let y : Window = record { from = c; to = d } in x ≡ y)
same_window a b c d e f = cc

module _ (g : Setting) (names : List (List ℕ)) (valid : IsValidGraph g.graph names) where
  abbrev Sound : State → Type 0
  Sound s = IsSound g.graph.vertices s.jobs

  -- a reply that leaves the state, or its jobs
  leaves : (s : State) (c : Command) (r x : Reply) → r ≡ x → (after s c x).jobs ≡ s.jobs → Sound s → Sound (after s c r)
  leaves s c r x is same sound =
      subst (IsSound g.graph.vertices) (sym (ap (λ (y : Reply). (after s c y).jobs) is ∙ same)) sound

  accepts : (s : State) (c : Command) (id start : ℕ) (ask : Ask) (job : Job) (r : Reply) →
      AreValidNeeds g.graph.vertices ask.needs →
      IsAcceptedAs g s id start ask job → r ≡ accepted_reply s.moment job → Sound s → Sound (after s c r)
  accepts s c id start ask job r needs accepted is sound =
      let spans = same_window start
      (window_of g.horizon ask start).to job.start job.end (sym accepted.start-is) (sym accepted.end-is) in
      let low = subst (λ (w : Window). IsLowestFirst g.graph.vertices (present_of s) ask w job.claims) spans
      accepted.lowest in
      subst (λ (y : Reply). Sound (after s c y))
      (sym is) (either (job.start == s.moment) (accepted_keeps g.graph names valid s.jobs ask needs job low sound))
    where
      either : (b : Bool) → IsSound g.graph.vertices (s.jobs ++ job ∷ []) →
          Sound (after s c (if b then reply.Allocated job else reply.Reserved job))
      either true h = h
      either false h = h

  accepted_or_full : (s : State) (c : Command) (id start : ℕ) (ask : Ask) (r : Reply) →
      AreValidNeeds g.graph.vertices ask.needs → AcceptedOrFull g s id ask start r → Sound s → Sound (after s c r)
  accepted_or_full s c id start ask r needs (job, accepted, inl full) sound = leaves s c r reply.Full full.1 refl sound
  accepted_or_full s c id start ask r needs (job, accepted, inr fits) sound =
      accepts s c id start ask job r needs accepted fits.1 sound

  informs : (s : State) (id : ℕ) (found : Option Job) (r : Reply) → MatchOption found
      (r ≡ reply.Absent) (λ job. r ≡ info_at s.moment job) → Sound s → Sound (after s (command.Info id) r)
  informs s id None r h sound = leaves s (command.Info id) r reply.Absent h refl sound
  informs s id (Some job) r h sound = leaves s (command.Info id) r (info_at s.moment job) h refl sound

  -- each reply
  pub replies_keep : (s : State) (c : Command) (r : Reply) →
      IsProper g.graph.vertices c → Replies g s c r → Sound s → Sound (after s c r)
  replies_keep s (command.Allocate id ask) r proper (inl x) sound =
      leaves s (command.Allocate id ask) r reply.Exists x.1 refl sound
  replies_keep s (command.Allocate id ask) r proper (inr (_, inl x)) sound =
      leaves s (command.Allocate id ask) r reply.Unsatisfiable x.1 refl sound
  replies_keep s (command.Allocate id ask) r proper (inr (_, inr (_, inl x))) sound =
      leaves s (command.Allocate id ask) r reply.TooLong x.1 refl sound
  replies_keep s (command.Allocate id ask) r proper (inr (_, inr (_, inr (_, inl x)))) sound =
      leaves s (command.Allocate id ask) r reply.Busy x.1 refl sound
  replies_keep s (command.Allocate id ask) r proper (inr (_, inr (_, inr (_, inr x)))) sound =
      accepted_or_full s (command.Allocate id ask) id s.moment ask r proper.needs x.1 sound
  replies_keep s (command.Reserve id ask) r proper (inl x) sound =
      leaves s (command.Reserve id ask) r reply.Exists x.1 refl sound
  replies_keep s (command.Reserve id ask) r proper (inr (_, inl x)) sound =
      leaves s (command.Reserve id ask) r reply.Unsatisfiable x.1 refl sound
  replies_keep s (command.Reserve id ask) r proper (inr (_, inr (_, inl x))) sound =
      leaves s (command.Reserve id ask) r reply.TooLong x.1 refl sound
  replies_keep s (command.Reserve id ask) r proper (inr (_, inr (_, inr (_, inl x)))) sound =
      leaves s (command.Reserve id ask) r reply.NoStart x.1 refl sound
  replies_keep s (command.Reserve id ask) r proper (inr (_, inr (_, inr (_, inr x)))) sound =
      accepted_or_full s (command.Reserve id ask) id x.1.0 ask r proper.needs x.1.2 sound
  replies_keep s (command.Satisfy ask) r proper (inl x) sound =
      leaves s (command.Satisfy ask) r reply.Unsatisfiable x.1 refl sound
  replies_keep s (command.Satisfy ask) r proper (inr x) sound =
      leaves s (command.Satisfy ask) r reply.Satisfiable x.1 refl sound
  replies_keep s (command.Cancel id) r proper (inl x) sound = leaves s (command.Cancel id) r reply.Absent x.1 refl sound
  replies_keep s (command.Cancel id) r proper (inr x) sound =
      subst (λ (y : Reply). Sound (after s (command.Cancel id) y))
      (sym x.1) (sound_filter _ g.graph.vertices s.jobs sound)
  replies_keep s (command.Info id) r proper h sound = informs s id (job_with id s.jobs) r h sound
  replies_keep s (command.Advance to) r proper (inl x) sound =
      leaves s (command.Advance to) r reply.Backwards x.1 refl sound
  replies_keep s (command.Advance to) r proper (inr (_, inl x)) sound =
      leaves s (command.Advance to) r reply.Beyond x.1 refl sound
  replies_keep s (command.Advance to) r proper (inr (_, inr x)) sound =
      leaves s (command.Advance to) r (reply.Now to) x.1 refl sound
  replies_keep s (command.Invalid why) r proper h sound = leaves s (command.Invalid why) r reply.Invalid h refl sound

  legal_from : (s : State) (history : List Entry) → HasProperCommands g.graph.vertices history →
      IsLegalFrom g s history → Sound s → (n : ℕ) → Sound (state_after s (take n history))
  legal_from s [] proper legal sound zero = sound
  legal_from s [] proper legal sound (suc n) = sound
  legal_from s (e ∷ es) proper legal sound zero = sound
  legal_from s (e ∷ es) proper legal sound (suc n) =
      legal_from (after s e.command e.reply) es proper.1 legal.1
      (replies_keep s e.command e.reply proper.0 legal.0 sound) n

  pub legal_keeps : (history : List Entry) →
      HasProperCommands g.graph.vertices history → IsLegal g history → IsSoundThroughout g.graph.vertices history
  legal_keeps history proper legal n = legal_from first_state history proper legal (sound_none g.graph.vertices) n
