-- What was found in an earlier state, told of a core.
use Rattle.std.proofs.Common.{◌≡◌, ℕ, List, ◌++◌, take, inl, inr, refl, sym, ◌∙◌, ap, subst, Contains}
use Rattle.std.proofs.Math.Seq.{take-length, take-append_seam}
use Rattle.flux_defs.specs.declared.requests.Ask.{Ask}
use Rattle.flux_defs.specs.declared.journal.Command.{Command}
use Rattle.flux_defs.specs.declared.journal.Command.TheVariants as command
use Rattle.flux_defs.specs.declared.journal.Reply.{Reply}
use Rattle.flux_defs.specs.declared.journal.Entry.{Entry}
use Rattle.flux_defs.specs.declared.verdicts.Verdict.{Verdict}
use Rattle.flux_defs.specs.declared.verdicts.Verdict.TheVariants.{Found, NoFit, Unsat, Sat, Long, Known}
use Rattle.flux_defs.specs.Scheduler.{Setting, State, first_state, IsProper, Replies, present_of}
use Rattle.flux_defs.specs.Histories.{state_after, state_at}
use Rattle.flux_defs.specs.Verdicts.{Finds, FindsJob, Yields, YieldsJob}
use Rattle.graph_laws.proofs.Preorder.{parents_first}
use Rattle.commit_laws.specs.CommitLaws.{state_now, StillStands}
use Rattle.commit_laws.proofs.Commits.{allocate_found, reserve_found, were_claimed, stands_as, fresh_now}
use Rattle.commit_laws.proofs.Grown.{used_grow}
use Rattle.commit_laws.proofs.Stretch.{stretch, whole}
use Rattle.overtaken_check.specs.Scans.{candidate_of, MayBeFound}
use Rattle.sched_core.specs.declared.finding.Starts.{Starts}
use Rattle.sched_core.specs.declared.finding.Starts.TheVariants as starts
use Rattle.sched_core.specs.declared.held.Site.{Site}
use Rattle.sched_core.specs.declared.held.Kept.{Kept}
use Rattle.sched_core.specs.Courses.{Course, state_of, left_by, journal_in, setting_in, IsCore}
use Rattle.sched_core.specs.Answered.{FindsAt, Answers, command_of}
use Rattle.sched_core.specs.Searched.{IsSearched}

-- the state of the whole journal
pub now_left : (journal : List Entry) → state_now journal ≡ left_by journal
now_left journal = ap (state_after first_state) (take-length journal)

-- an id that was used at a place is used now
pub used_now : (journal : List Entry) (place id : ℕ) → Contains (state_at journal place).used id →
    Contains (left_by journal).used id
used_now journal place id h =
    subst (λ (s : State). Contains s.used id) (sym (whole journal place) ∙ now_left journal)
    (used_grow (state_at journal place) (stretch journal place) id h)

module _ (g : Setting) (s : State) (id : ℕ) (ask : Ask) where
  not_found : (at : Starts) (v : Verdict) → FindsAt at g s ask v → v ≡ Known → ⊥
  not_found starts.Now v (inl (none, e)) k = absurd (cc)
  not_found starts.Now v (inr (fit, (claims, low, e))) k = absurd (cc)
  not_found starts.Earliest v (inl (none, e)) k = absurd (cc)
  not_found starts.Earliest v (inr (some, (t, early, (claims, low, e)))) k = absurd (cc)

  -- an id is known only where it was used
  pub known_used : (at : Starts) (v : Verdict) → FindsJob g s id ask (FindsAt at g s ask) v → v ≡ Known →
      Contains s.used id
  known_used at v (inl (used, e)) k = used
  known_used at v (inr (n, inl (un, e))) k = absurd (cc)
  known_used at v (inr (n, inr (sat, inl (long, e)))) k = absurd (cc)
  known_used at v (inr (n, inr (sat, inr (counts, found)))) k = absurd (not_found at v found k)

-- what is found of an ask for a job is what is found of the command
pub finds_command : (g : Setting) (s : State) (id : ℕ) (ask : Ask) (at : Starts) (v : Verdict) →
    FindsJob g s id ask (FindsAt at g s ask) v → Finds g s (command_of at id ask) v
finds_command g s id ask starts.Now v h = h
finds_command g s id ask starts.Earliest v h = h

pub finds_job : (g : Setting) (s : State) (id : ℕ) (ask : Ask) (at : Starts) (v : Verdict) →
    Finds g s (command_of at id ask) v → FindsJob g s id ask (FindsAt at g s ask) v
finds_job g s id ask starts.Now v h = h
finds_job g s id ask starts.Earliest v h = h

-- what answers a verdict is what it yields, where the id isn't known
pub answers_yield : (g : Setting) (s : State) (id : ℕ) (ask : Ask) (none : Reply) (v : Verdict) (r : Reply) →
    (v ≡ Known → ⊥) → Answers g s id ask none v r → YieldsJob g s id ask none v r
answers_yield g s id ask none Known r n h = absurd (n refl)
answers_yield g s id ask none (Found start claims) r n h = h
answers_yield g s id ask none NoFit r n h = h
answers_yield g s id ask none Unsat r n h = h
answers_yield g s id ask none Sat r n h = h
answers_yield g s id ask none Long r n h = h

-- claims that were found may be looked for
pub may_be_found : (g : Setting) (s : State) (v : Verdict) (k : Command) → Finds g s k v →
    MayBeFound g.graph.vertices g.horizon (present_of s) v k
may_be_found g s (Found start claims) (command.Allocate id ask) f =
    let h = allocate_found g s ask start claims id f in (h.0, were_claimed g s ask start claims h)
may_be_found g s (Found start claims) (command.Reserve id ask) f =
    let h = reserve_found g s ask start claims id f in (h.0, were_claimed g s ask start claims h)
may_be_found g s (Found start claims) (command.Satisfy ask) (inl (un, e)) = absurd (cc)
may_be_found g s (Found start claims) (command.Satisfy ask) (inr (sat, e)) = absurd (cc)
may_be_found g s (Found start claims) (command.Cancel id) f = f
may_be_found g s (Found start claims) (command.Info id) f = f
may_be_found g s (Found start claims) (command.Advance to) f = f
may_be_found g s (Found start claims) (command.Invalid why) f = f
may_be_found g s NoFit k f = tt
may_be_found g s Unsat k f = tt
may_be_found g s Sat k f = tt
may_be_found g s Long k f = tt
may_be_found g s Known k f = tt

-- what nothing overtook yields the scheduler's reply now
pub replies_now : (site : Site) (kept : Kept) → IsCore site kept → (place : ℕ) (k : Command) (v : Verdict) (r : Reply) →
    Finds (setting_in site kept) (state_at (journal_in kept) place) k v →
    StillStands (setting_in site kept) (journal_in kept) (candidate_of k place v) →
    Yields (setting_in site kept) (left_by (journal_in kept)) k v r →
    Replies (setting_in site kept) (left_by (journal_in kept)) k r
replies_now site kept core place k v r finds stands yields =
    let g = setting_in site kept in
    let j = journal_in kept in
    subst (λ (s : State). Replies g s k r) (now_left j)
    (fresh_now g j place (parents_first g.graph core.whole.valid.preorder) core.legal k v r finds
    (stands_as g j place v k finds stands) (subst (λ (s : State). Yields g s k v r) (sym (now_left j)) yields))

-- what a candidate keeps, told of a course that goes on from the state that was searched
module _ (command : Command) (snap : Course) (place : ℕ) (verdict : Verdict)
    (is : IsSearched command snap place verdict) (g : Setting) (journal later : List Entry) (setting : snap.setting ≡ g)
    (begins : journal ≡ snap.journal ++ later) where
  pub place_state : state_at journal place ≡ state_of snap
  place_state =
      ap (state_after first_state)
      (ap (take place) begins
      ∙ (ap (λ n. take n (snap.journal ++ later)) is.place-is ∙ take-append_seam snap.journal later))

  pub found_there : Finds g (state_at journal place) command verdict
  found_there =
      subst (λ (s : State). Finds g s command verdict) (sym place_state)
      (subst (λ (x : Setting). Finds x (state_of snap) command verdict) setting is.finds)

  pub proper_there : IsProper g.graph.vertices command
  proper_there = subst (λ (x : Setting). IsProper x.graph.vertices command) setting is.proper

  pub moment_there : (moment : ℕ) → moment ≡ (state_of snap).moment → moment ≡ (state_at journal place).moment
  moment_there moment h = h ∙ ap (λ (s : State). s.moment) (sym place_state)
