-- What is found and given at once is the scheduler's reply.
use Rattle.std.proofs.Common.{◌≡◌, ℕ, ◌+◌, ◌<◌, ◌≤◌, List, length, inl, inr, refl, sym, subst, Contains}
use Rattle.flux_defs.specs.declared.claims.Claim.{Claim}
use Rattle.flux_defs.specs.declared.requests.Ask.{Ask}
use Rattle.flux_defs.specs.declared.journal.Command.TheVariants as command
use Rattle.flux_defs.specs.declared.journal.Reply.{Reply}
use Rattle.flux_defs.specs.declared.journal.Reply.TheVariants as reply
use Rattle.flux_defs.specs.Asks.{window_of, CountsWithin, SomeFit, IsLowestFirst, IsStart, IsEarliest, IsSatisfiable}
use Rattle.flux_defs.specs.Scheduler.{Setting, State, Where, Unless, JobReplies, Replies, AcceptedOrFull, present_of}
use Rattle.flux_defs.specs.Scheduler.{accepted_reply}
use Rattle.flux_defs.specs.declared.verdicts.Verdict.{Verdict}
use Rattle.flux_defs.specs.declared.verdicts.Verdict.TheVariants.{Found}
use Rattle.flux_defs.specs.Verdicts.{FindsNow, FindsEarliest, FindsJob, YieldsJob, job_of}
use Rattle.flux_defs.specs.Graph.{ResourceGraph}
use Rattle.prune_filters.specs.declared.rules.Rule.{Rule}
use Rattle.sched_core.specs.Courses.{setting_of}
use Rattle.sched_core.specs.declared.finding.Starts.{Starts}
use Rattle.sched_core.specs.declared.finding.Starts.TheVariants as starts
use Rattle.sched_core.specs.Answered.{FindsAt, command_of, none_at, IsOfJob, Answers}

pub given_found : (g : Setting) (s : State) (id : ℕ) (ask : Ask) (start : ℕ) (claims : List Claim) (none r : Reply)
    (m k : ℕ) → s.moment ≡ m → s.claim_count ≡ k →
    Where (g.claim_limit < k + length claims) reply.Full (λ x. x ≡ accepted_reply m (job_of g id ask start claims))
    r → YieldsJob g s id ask none (Found start claims) r
given_found g s id ask start claims none r m k em ek h =
    subst (λ (x : ℕ). Where (g.claim_limit < s.claim_count + length claims) reply.Full
    (λ y. y ≡ accepted_reply x (job_of g id ask start claims)) r) (sym em)
    (subst (λ (x : ℕ). Where (g.claim_limit < x + length claims) reply.Full
    (λ y. y ≡ accepted_reply m (job_of g id ask start claims)) r) (sym ek) h)

-- what is given by how far a scheduler has come is given by its setting
pub as_given : (graph : ResourceGraph) (rules : List Rule) (s : State) (id : ℕ) (ask : Ask) (v : Verdict) (r : Reply)
    (h horizon l limit : ℕ) (n none : Reply) → h ≡ horizon → l ≡ limit → n ≡ none →
    Answers (setting_of graph rules h l) s id ask n v r →
    Answers (setting_of graph rules horizon limit) s id ask none v r
as_given graph rules s id ask v r h horizon l limit n none eh el en given =
    subst (λ (x : ℕ). Answers (setting_of graph rules x limit) s id ask none v r) eh
    (subst (λ (x : ℕ). Answers (setting_of graph rules h x) s id ask none v r) el
    (subst (λ (x : Reply). Answers (setting_of graph rules h l) s id ask x v r) en given))

module _ (g : Setting) (s : State) (id : ℕ) (ask : Ask) where
  accepts : (start : ℕ) (claims : List Claim) (none r : Reply) →
      IsLowestFirst g.graph.vertices (present_of s) ask (window_of g.horizon ask start) claims →
      YieldsJob g s id ask none (Found start claims) r → AcceptedOrFull g s id ask start r
  accepts start claims none r low h = (
    job_of g id ask start claims,
    record { id-is = refl; start-is = refl; end-is = refl; lowest = low },
    h,
  )

  by : (none : Reply) (v w : Verdict) (r : Reply) → v ≡ w → Answers g s id ask none v r → Answers g s id ask none w r
  by none v w r e h = subst (λ (x : Verdict). Answers g s id ask none x r) e h

  -- what is given of a verdict is the reply, where it is by what was found at the starts
  job_decided : (AtStarts : Verdict → Type 0) (none : Reply) (Given : Reply → Type 0) (v : Verdict) (r : Reply) →
      (AtStarts v → Given r) → FindsJob g s id ask AtStarts v → Answers g s id ask none v r →
      JobReplies g s id ask Given r
  job_decided AtStarts none Given v r given (inl (used, e)) h = inl (used, by none v _ r e h)
  job_decided AtStarts none Given v r given (inr (n, inl (un, e))) h = inr (n, inl (un, by none v _ r e h))
  job_decided AtStarts none Given v r given (inr (n, inr (sat, inl (long, e)))) h =
      inr (n, inr (sat, inl (long, by none v _ r e h)))
  job_decided AtStarts none Given v r given (inr (n, inr (sat, inr (k, found)))) h =
      inr (n, inr (sat, inr (k, given found)))

  -- what is given after a look at the present moment, and after a look for the earliest start
  abbrev pub NowGiven : Reply → Type 0
  NowGiven =
      Unless (SomeFit g.graph.vertices (present_of s) ask (window_of g.horizon ask s.moment)) reply.Busy
      (AcceptedOrFull g s id ask s.moment)

  abbrev pub StartGiven : Reply → Type 0
  StartGiven =
      Unless ((t : ℕ) × (s.moment ≤ t) × IsStart g.graph.vertices (present_of s) g.horizon ask t) reply.NoStart
      (λ r. (t : ℕ) × IsEarliest g.graph.vertices (present_of s) g.horizon ask s.moment t × AcceptedOrFull g s id ask t
      r)

  now_given : (v : Verdict) (r : Reply) → Answers g s id ask reply.Busy v r → FindsNow g s ask v → NowGiven r
  now_given v r h (inl (none, e)) = inl (none, by reply.Busy v _ r e h)
  now_given v r h (inr (fit, (claims, low, e))) =
      inr (fit, accepts s.moment claims reply.Busy r low (by reply.Busy v _ r e h))

  start_given : (v : Verdict) (r : Reply) → Answers g s id ask reply.NoStart v r → FindsEarliest g s ask v →
      StartGiven r
  start_given v r h (inl (none, e)) = inl (none, by reply.NoStart v _ r e h)
  start_given v r h (inr (some, (t, early, (claims, low, e)))) =
      inr (some, (t, early, accepts t claims reply.NoStart r low (by reply.NoStart v _ r e h)))

  pub decided : (at : Starts) (v : Verdict) (r : Reply) → FindsJob g s id ask (FindsAt at g s ask) v →
      Answers g s id ask (none_at at) v r → Replies g s (command_of at id ask) r
  decided starts.Now v r finds h =
      job_decided (FindsNow g s ask) reply.Busy NowGiven v r (now_given v r h) finds h
  decided starts.Earliest v r finds h =
      job_decided (FindsEarliest g s ask) reply.NoStart StartGiven v r (start_given v r h) finds h

  -- a start that was found has a window that counts
  of_same : (v w : Verdict) → v ≡ w → IsOfJob g.horizon ask w → IsOfJob g.horizon ask v
  of_same v w e h = subst (IsOfJob g.horizon ask) (sym e) h

  of_start : (at : Starts) (v : Verdict) → CountsWithin g.horizon ask s.moment → FindsAt at g s ask v →
      IsOfJob g.horizon ask v
  of_start starts.Now v k (inl (none, e)) = of_same v _ e tt
  of_start starts.Now v k (inr (fit, (claims, low, e))) = of_same v _ e k
  of_start starts.Earliest v k (inl (none, e)) = of_same v _ e tt
  of_start starts.Earliest v k (inr (some, (t, early, (claims, low, e)))) = of_same v _ e early.starts.0

  pub of_job : (at : Starts) (v : Verdict) → FindsJob g s id ask (FindsAt at g s ask) v → IsOfJob g.horizon ask v
  of_job at v (inl (used, e)) = of_same v _ e tt
  of_job at v (inr (n, inl (un, e))) = of_same v _ e tt
  of_job at v (inr (n, inr (sat, inl (long, e)))) = of_same v _ e tt
  of_job at v (inr (n, inr (sat, inr (k, found)))) = of_start at v k found
