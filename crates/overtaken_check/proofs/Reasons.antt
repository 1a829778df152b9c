-- What a walk tells, in the words of the definition.
use Rattle.std.proofs.Common.{◌≡◌, ℕ, ◌<◌, List, length, Option, Some, None, MatchOption, slice_get, ◌⊎◌, inl, inr, sym}
use Rattle.std.proofs.Common.{◌∙◌, subst, All}
use Rattle.std.proofs.lemmas.List.Elements.{All-from_recursion}
use Rattle.flux_defs.specs.declared.vertices.Vertex.{Vertex}
use Rattle.flux_defs.specs.declared.claims.Claim.{Claim}
use Rattle.flux_defs.specs.declared.claims.Window.{Window}
use Rattle.flux_defs.specs.declared.requests.Ask.{Ask}
use Rattle.flux_defs.specs.declared.journal.Command.{Command}
use Rattle.flux_defs.specs.declared.journal.Command.TheVariants as command
use Rattle.flux_defs.specs.declared.journal.Entry.{Entry}
use Rattle.flux_defs.specs.declared.verdicts.Verdict.{Verdict}
use Rattle.flux_defs.specs.declared.verdicts.Verdict.TheVariants.{Found, NoFit}
use Rattle.flux_defs.specs.Jobs.{vertex_of}
use Rattle.flux_defs.specs.Closed.{no_bars}
use Rattle.flux_defs.specs.Available.{IsAvailable}
use Rattle.flux_defs.specs.Asks.{window_of}
use Rattle.flux_defs.specs.Scheduler.{Setting, present_of}
use Rattle.flux_defs.specs.Histories.{state_at}
use Rattle.flux_defs.specs.Overtaken.{Candidate, Frees, Delays, Blocks, IsFirstFrom, NoneFrom, IsAllocate, IsPastFor}
use Rattle.flux_defs.specs.Overtaken.{CanBeOvertaken, IsOvertaken}
use Rattle.flux_defs.specs.Present.{Present}
use Rattle.list_laws.proofs.Lists.{all_along, all_at}
use Rattle.candidate_check.specs.Taken.{IsFirstGone}
use Rattle.commit_laws.specs.CommitLaws.{state_now, StillStands}
use Rattle.commit_laws.proofs.Commits.{InTime, stands_still}
use Rattle.commit_laws.proofs.Stretch.{still_there}
use Rattle.overtaken_check.specs.declared.causes.Cause.{Cause}
use Rattle.overtaken_check.specs.declared.causes.Cause.TheVariants as cause
use Rattle.overtaken_check.specs.Scans.{cause_of, candidate_of, IsTooLate, DelaysPast, IsHindered, IsUnhindered}
use Rattle.overtaken_check.specs.Scans.{IsTakenFrom, IsFree, IsWhy, WereClaimed}

-- claims that were had are on vertices of the graph
pub on_vertices : (vertices : List Vertex) (present : Present) (w : Window) (claims : List Claim) →
    WereClaimed vertices present w claims → All (λ c. vertex_of c < length vertices) claims
on_vertices vertices present w claims was =
    All-from_recursion (λ c. vertex_of c < length vertices) claims
    (all_along (λ c. IsAvailable (no_bars vertices present) w c × (vertex_of c < length vertices))
    (λ c. vertex_of c < length vertices) (λ c h. h.1) claims was)

module _ (vertices : List Vertex) (w : Window) (claims : List Claim) (history : List Entry) (place index : ℕ)
    (gone : IsFirstGone vertices (present_of (state_now history)) w claims index) where
  there : (x : Claim) → Some x ≡ slice_get claims index → gone.0 ≡ x
  there x is = let both : Some x ≡ Some gone.0 = is ∙ gone.1.there in cc

  -- a claim that is gone is there
  pub is_claim : None ≡ slice_get claims index → ⊥
  is_claim is = let both : None ≡ Some gone.0 = is ∙ gone.1.there in cc

  -- and some entry is in its way
  pub is_blocked : (x : Claim) → Some x ≡ slice_get claims index → NoneFrom (Frees history) place →
      WereClaimed vertices (present_of (state_at history place)) w claims →
      NoneFrom (Blocks vertices w x history) place → ⊥
  is_blocked x is frees was none =
      gone.1.taken
      (still_there history place vertices w gone.0 frees
      (subst (λ (c : Claim). NoneFrom (Blocks vertices w c history) place) (sym (there x is)) none)
      (all_at (λ c. IsAvailable (no_bars vertices (present_of (state_at history place))) w c ×
      (vertex_of c < length vertices))
      claims index gone.0 was gone.1.there).0)

  pub taken_from : (x : Claim) → Some x ≡ slice_get claims index → (at : ℕ) →
      IsFirstFrom (Blocks vertices w x history) place at →
      IsTakenFrom vertices (present_of (state_now history)) w claims history place (cause.Taken at index)
  taken_from x is at first = (
    gone.0,
    gone.1,
    subst (λ (c : Claim). IsFirstFrom (Blocks vertices w c history) place at) (sym (there x is)) first,
  )

-- moments that come too late, in the words of a walk and of the definition
module _ (g : Setting) (history : List Entry) (c : Candidate) (last : Option ℕ)
    (to : (m : ℕ) → IsTooLate last m → IsAllocate c.command ⊎ IsPastFor c.verdict m)
    (back : (m : ℕ) → IsAllocate c.command ⊎ IsPastFor c.verdict m → IsTooLate last m) where
  to_delay : (i : ℕ) → DelaysPast last history i → Delays c history i
  to_delay i (e, has, p) = (e, p.0, has, p.1, p.2, to p.0 p.3)

  from_delay : (i : ℕ) → Delays c history i → DelaysPast last history i
  from_delay i d = (d.0, d.2, (d.1, d.3, d.4, back d.1 d.5))

  in_time : IsUnhindered last history c.place → InTime history c
  in_time h = (h.0, λ i lo d. h.1 i lo (from_delay i d))

  late : (at : ℕ) → IsFirstFrom (DelaysPast last history) c.place at → IsFirstFrom (Delays c history) c.place at
  late at f = record {
    after = f.after;
    there = to_delay at f.there;
    before = λ i lo lt d. f.before i lo lt (from_delay i d);
  }

  hinders : CanBeOvertaken c.verdict → (x : Cause) → IsHindered last history c.place x →
      IsOvertaken g history c (cause_of x)
  hinders can (cause.Freed at) h = (can, h)
  hinders can (cause.Late at) h = (can, (h.0, late at h.1))
  hinders can (cause.Taken at index) h = absurd h

module _ (g : Setting) (history : List Entry) (place : ℕ) where
  -- what is told of the candidate: the cause that the definition has, and none where it has none
  abbrev pub Told : Command → Verdict → Option Cause → Type 0
  Told k v o =
      MatchOption o (StillStands g history (candidate_of k place v))
      (λ x. IsOvertaken g history (candidate_of k place v) (cause_of x))

  -- what is told of an allocate that found claims
  pub allocate_told : (id : ℕ) (ask : Ask) (start : ℕ) (claims : List Claim) (o : Option Cause) →
      MatchOption o (IsFree g.graph.vertices (window_of g.horizon ask start) claims None history place)
      (IsWhy g.graph.vertices (window_of g.horizon ask start) claims None history place) →
      Told (command.Allocate id ask) (Found start claims) o
  allocate_told id ask start claims None h =
      let c = candidate_of (command.Allocate id ask) place (Found start claims) in
      stands_still g history place (Found start claims) (command.Allocate id ask)
      (in_time g history c None (λ m u. inl tt) (λ m u. tt) h.0, h.1)
  allocate_told id ask start claims (Some (cause.Freed at)) h =
      hinders g history (candidate_of (command.Allocate id ask) place (Found start claims)) None (λ m u. inl tt)
      (λ m u. tt) tt (cause.Freed at) h
  allocate_told id ask start claims (Some (cause.Late at)) h =
      hinders g history (candidate_of (command.Allocate id ask) place (Found start claims)) None (λ m u. inl tt)
      (λ m u. tt) tt (cause.Late at) h
  allocate_told id ask start claims (Some (cause.Taken at index)) h =
      let c = candidate_of (command.Allocate id ask) place (Found start claims) in
      let t = in_time g history c None (λ m u. inl tt) (λ m u. tt) h.0 in
      (tt, (t.0, t.1, h.1))

  past : (k : Command) (start m : ℕ) → (IsAllocate k → ⊥) → IsAllocate k ⊎ (start < m) → start < m
  past k start m n h = elim h [ inl a ↦ absurd (n a) | inr p ↦ p ]

  -- and of a reserve
  pub reserve_told : (id : ℕ) (ask : Ask) (start : ℕ) (claims : List Claim) (o : Option Cause) →
      MatchOption o (IsFree g.graph.vertices (window_of g.horizon ask start) claims (Some start) history place)
      (IsWhy g.graph.vertices (window_of g.horizon ask start) claims (Some start) history place) →
      Told (command.Reserve id ask) (Found start claims) o
  reserve_told id ask start claims None h =
      let k = command.Reserve id ask in
      let c = candidate_of k place (Found start claims) in
      stands_still g history place (Found start claims) k
      (in_time g history c (Some start) (λ m u. inr u) (λ m. past k start m (λ a. a)) h.0, h.1)
  reserve_told id ask start claims (Some (cause.Freed at)) h =
      let k = command.Reserve id ask in
      hinders g history (candidate_of k place (Found start claims)) (Some start) (λ m u. inr u)
      (λ m. past k start m (λ a. a)) tt (cause.Freed at) h
  reserve_told id ask start claims (Some (cause.Late at)) h =
      let k = command.Reserve id ask in
      hinders g history (candidate_of k place (Found start claims)) (Some start) (λ m u. inr u)
      (λ m. past k start m (λ a. a)) tt (cause.Late at) h
  reserve_told id ask start claims (Some (cause.Taken at index)) h =
      let k = command.Reserve id ask in
      let c = candidate_of k place (Found start claims) in
      let t = in_time g history c (Some start) (λ m u. inr u) (λ m. past k start m (λ a. a)) h.0 in
      (tt, (t.0, t.1, h.1))

  -- and of a command for which nothing fitted
  pub none_told : (k : Command) (o : Option Cause) → MatchOption o (IsUnhindered None history place)
      (IsHindered None history place) → Told k NoFit o
  none_told k None h =
      stands_still g history place NoFit k
      (in_time g history (candidate_of k place NoFit) None (λ m u. inr tt) (λ m u. tt) h)
  none_told k (Some x) h =
      hinders g history (candidate_of k place NoFit) None (λ m u. inr tt) (λ m u. tt) tt x h
