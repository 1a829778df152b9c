-- The lowest-first claims, and the scheduler's reply, are determined.
use Rattle.std.proofs.Common.{◌≡◌, ℕ, ◌+◌, ◌<◌, ◌≤◌, List, length, Option, Some, None, MatchOption, inl, inr, sym, ◌∙◌}
use Rattle.std.proofs.Common.{subst, arith}
use Rattle.flux_defs.specs.declared.vertices.Vertex.{Vertex}
use Rattle.flux_defs.specs.declared.claims.Claim.{Claim}
use Rattle.flux_defs.specs.declared.claims.Job.{Job}
use Rattle.flux_defs.specs.declared.claims.Window.{Window}
use Rattle.flux_defs.specs.declared.requests.Ask.{Ask}
use Rattle.flux_defs.specs.declared.journal.Command.{Command}
use Rattle.flux_defs.specs.declared.journal.Command.TheVariants as command
use Rattle.flux_defs.specs.declared.journal.Reply.{Reply}
use Rattle.flux_defs.specs.declared.journal.Reply.TheVariants as reply
use Rattle.flux_defs.specs.Graph.{Everywhere}
use Rattle.flux_defs.specs.Present.{Present}
use Rattle.flux_defs.specs.Available.{IsAvailable}
use Rattle.flux_defs.specs.Asks.{window_of, scene_of, FitsAsk, IsLowestFirst, IsEarliest}
use Rattle.flux_defs.specs.Scheduler.{Setting, State, Where, Unless, IsAcceptedAs, AcceptedOrFull, Replies}
use Rattle.flux_defs.specs.Scheduler.{present_of, accepted_reply, job_with, info_at}
use Rattle.flux_laws.proofs.Lists.{lowest_list_once, lowest_list_fits}
use Rattle.flux_laws.proofs.Takes.{takes_less}

-- at most one answer is such
pub record IsOnce {X : Type 0} (P : X → Type 0) : Type 0 where
  pub once : (a b : X) → P a → P b → a ≡ b

pub where_once : {X : Type 0} (fact : Type 0) (answer : X) (otherwise : X → Type 0) →
    IsOnce otherwise → IsOnce (Where fact answer otherwise)
where_once {X} fact answer otherwise o = record { once = go }
  where
    go : (a b : X) → Where fact answer otherwise a → Where fact answer otherwise b → a ≡ b
    go a b (inl p) (inl q) = p.1 ∙ sym q.1
    go a b (inl p) (inr q) = absurd (q.0 p.0)
    go a b (inr p) (inl q) = absurd (p.0 q.0)
    go a b (inr p) (inr q) = o.once a b p.1 q.1

pub unless_once : {X : Type 0} (fact : Type 0) (answer : X) (otherwise : X → Type 0) →
    IsOnce otherwise → IsOnce (Unless fact answer otherwise)
unless_once {X} fact answer otherwise o = record { once = go }
  where
    go : (a b : X) → Unless fact answer otherwise a → Unless fact answer otherwise b → a ≡ b
    go a b (inl p) (inl q) = p.1 ∙ sym q.1
    go a b (inl p) (inr q) = absurd (p.0 q.0)
    go a b (inr p) (inl q) = absurd (q.0 p.0)
    go a b (inr p) (inr q) = o.once a b p.1 q.1

pub one : {X : Type 0} (x : X) → IsOnce (λ y. y ≡ x)
one x = record { once = λ a b p q. p ∙ sym q }

-- lowest-first claims of an ask are determined, and fit it
pub lowest_once : (vertices : List Vertex) (present : Present) (ask : Ask) (w : Window) (a b : List Claim) →
    IsLowestFirst vertices present ask w a → IsLowestFirst vertices present ask w b → a ≡ b
lowest_once vertices present ask w a b x y =
    let scene = scene_of vertices present ask in
    lowest_list_once vertices (IsAvailable scene w) (takes_less scene w) 1 Everywhere ask.needs a b x y

pub lowest_fits : (vertices : List Vertex) (present : Present) (ask : Ask) (w : Window) (claims : List Claim) →
    IsLowestFirst vertices present ask w claims → FitsAsk vertices (IsAvailable (scene_of vertices present ask) w) ask
    claims
lowest_fits vertices present ask w claims low =
    lowest_list_fits vertices (IsAvailable (scene_of vertices present ask) w) 1 Everywhere ask.needs claims low

pub earliest_once : (vertices : List Vertex) (present : Present) (horizon : ℕ) (ask : Ask) (m a b : ℕ) →
    IsEarliest vertices present horizon ask m a → IsEarliest vertices present horizon ask m b → a ≡ b
earliest_once vertices present horizon ask m a b x y = let p : a ≤ b = x.least b y.later y.starts in
    let q : b ≤ a = y.least a x.later x.starts in omega arith

module _ (g : Setting) (s : State) where
  same_job : (i t e : ℕ) (c : List Claim) (i' t' e' : ℕ) (c' : List Claim) → i ≡ i' → t ≡ t' → e ≡ e' → c ≡ c' →
      (let x : Job = record { id = i; start = t; end = e; claims = c } in
      let y : Job = record { id = i'; start = t'; end = e'; claims = c' } in x ≡ y)
  same_job i t e c i' t' e' c' p q u v = cc

  job_once : (id start : ℕ) (ask : Ask) (a b : Job) →
      IsAcceptedAs g s id start ask a → IsAcceptedAs g s id start ask b → a ≡ b
  job_once id start ask a b x y =
      same_job a.id a.start a.end a.claims b.id b.start b.end b.claims
      (x.id-is ∙ sym y.id-is) (x.start-is ∙ sym y.start-is) (x.end-is ∙ sym y.end-is)
      (lowest_once g.graph.vertices (present_of s) ask (window_of g.horizon ask start) a.claims b.claims x.lowest
      y.lowest)

  accepted_once : (id : ℕ) (ask : Ask) (start : ℕ) (r t : Reply) →
      AcceptedOrFull g s id ask start r → AcceptedOrFull g s id ask start t → r ≡ t
  accepted_once id ask start r t (a, x, h) (b, y, k) =
      let same : a ≡ b = job_once id start ask a b x y in
      let Next = λ (j : Job). Where (g.claim_limit < s.claim_count + length j.claims) reply.Full
      (λ u. u ≡ accepted_reply s.moment j) t in
      (where_once (g.claim_limit < s.claim_count + length a.claims) reply.Full (λ u. u ≡ accepted_reply s.moment a)
      (one (accepted_reply s.moment a))).once r t h (subst Next (sym same) k)

  reserved_once : (id : ℕ) (ask : Ask) (r t : Reply) →
      ((n : ℕ) × IsEarliest g.graph.vertices (present_of s) g.horizon ask s.moment n × AcceptedOrFull g s id ask n r) →
      ((n : ℕ) × IsEarliest g.graph.vertices (present_of s) g.horizon ask s.moment n × AcceptedOrFull g s id ask n t) →
      r ≡ t
  reserved_once id ask r t p q =
      accepted_once id ask p.0 r t p.2 (subst (λ (n : ℕ). AcceptedOrFull g s id ask n t)
      (earliest_once g.graph.vertices (present_of s) g.horizon ask s.moment q.0 p.0 q.1 p.1) q.2)

  info_once : (found : Option Job) (r t : Reply) →
      MatchOption found (r ≡ reply.Absent) (λ job. r ≡ info_at s.moment job) →
      MatchOption found (t ≡ reply.Absent) (λ job. t ≡ info_at s.moment job) → r ≡ t
  info_once None r t p q = p ∙ sym q
  info_once (Some job) r t p q = p ∙ sym q

  -- in a state a command has at most one reply
  pub replies_once : (c : Command) → IsOnce (Replies g s c)
  replies_once (command.Allocate id ask) = where_once _ _ _
      (unless_once _ _ _ (unless_once _ _ _ (unless_once _ _ _ (record { once = accepted_once id ask s.moment }))))
  replies_once (command.Reserve id ask) = where_once _ _ _
      (unless_once _ _ _ (unless_once _ _ _ (unless_once _ _ _ (record { once = reserved_once id ask }))))
  replies_once (command.Satisfy ask) = unless_once _ _ _ (one reply.Satisfiable)
  replies_once (command.Cancel id) = unless_once _ _ _ (one reply.Cancelled)
  replies_once (command.Info id) = record { once = info_once (job_with id s.jobs) }
  replies_once (command.Advance to) = where_once _ _ _ (where_once _ _ _ (one (reply.Now to)))
  replies_once (command.Invalid why) = one reply.Invalid
