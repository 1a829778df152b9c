-- A candidate is overtaken by one cause at most.
use Rattle.std.proofs.Common.{◌≡◌, ℕ, zero, suc, ◌<◌, List, [], ◌∷◌, length, take, Some, slice_get, inl, inr, sym, ◌∙◌}
use Rattle.std.proofs.Common.{ap, subst, arith}
use Rattle.std.specs.List.{AllByRecursion}
use Rattle.std.proofs.lemmas.Bool.{cases_lt}
use Rattle.std.proofs.lemmas.List.Elements.{recursion_from_All}
use Rattle.flux_defs.specs.declared.vertices.Vertex.{Vertex}
use Rattle.flux_defs.specs.declared.claims.Claim.{Claim}
use Rattle.flux_defs.specs.declared.claims.Job.{Job}
use Rattle.flux_defs.specs.declared.claims.Window.{Window}
use Rattle.flux_defs.specs.declared.journal.Command.{Command}
use Rattle.flux_defs.specs.declared.journal.Command.TheVariants as command
use Rattle.flux_defs.specs.declared.journal.Entry.{Entry}
use Rattle.flux_defs.specs.declared.verdicts.Verdict.{Verdict}
use Rattle.flux_defs.specs.declared.verdicts.Verdict.TheVariants.{Found, NoFit, Unsat, Sat, Long, Known}
use Rattle.flux_defs.specs.Closed.{no_bars}
use Rattle.flux_defs.specs.Available.{IsAvailable}
use Rattle.flux_defs.specs.Asks.{window_of}
use Rattle.flux_defs.specs.Scheduler.{Setting}
use Rattle.flux_defs.specs.Histories.{state_at}
use Rattle.flux_defs.specs.Overtaken.{Candidate, Cause, Freed, Late, Taken, Frees, Delays, Blocks, IsFirstFrom}
use Rattle.flux_defs.specs.Overtaken.{IsFirstTaken, IsTakenBy, IsTakenFor, IsOvertaken}
use Rattle.flux_defs.specs.Present.{up_with}
use Rattle.commit_laws.proofs.Firsts.{first_once}

-- what holds of the first elements of a list holds of one of them
of_first : {X : Type 0} (P : X → Type 0) (xs : List X) (n i : ℕ) (x : X) → i < n → slice_get xs i ≡ Some x →
    AllByRecursion P (take n xs) → P x
of_first P [] n i x lt e all = absurd (cc)
of_first P (y ∷ ys) zero i x lt e all = absurd (omega arith)
of_first P (y ∷ ys) (suc n) zero x lt e all = let same : y ≡ x = cc in subst P same all.0
of_first P (y ∷ ys) (suc n) (suc i) x lt e all = of_first P ys n i x (omega arith) e all.1

module _ (vertices : List Vertex) (jobs : List Job) (w : Window) (claims : List Claim) where
  abbrev Free : Claim → Type 0
  Free = IsAvailable (no_bars vertices (up_with jobs)) w

  not_before : (i j : ℕ) (c d : Claim) → IsFirstTaken vertices (up_with jobs) w claims i c →
      IsFirstTaken vertices (up_with jobs) w claims j d → i < j → ⊥
  not_before i j c d f h lt =
      f.taken (of_first Free claims j i c lt f.there (recursion_from_All Free (take j claims) h.before))

  index_once : (i j : ℕ) (c d : Claim) → IsFirstTaken vertices (up_with jobs) w claims i c →
      IsFirstTaken vertices (up_with jobs) w claims j d → i ≡ j
  index_once i j c d f h = elim (cases_lt i j) [
    | inl less ↦ absurd (not_before i j c d f h less)
    | inr more ↦ elim (cases_lt j i) [ inl less ↦ absurd (not_before j i d c h f less) | inr same ↦ omega arith ]
  ]

module _ (g : Setting) (history : List Entry) (place : ℕ) (w : Window) (claims : List Claim) where
  taken_once : (a i b j : ℕ) → IsTakenBy g history place w claims a i → IsTakenBy g history place w claims b j →
      Taken a i ≡ Taken b j
  taken_once a i b j (c, f, p) (d, h, q) =
      let jobs = (state_at history (length history)).jobs in
      let index : i ≡ j = index_once g.graph.vertices jobs w claims i j c d f h in
      let both : slice_get claims i ≡ Some d = ap (slice_get claims) index ∙ h.there in
      let claim : d ≡ c = (let one : Some d ≡ Some c = sym both ∙ f.there in cc) in
      let entry : a ≡ b = first_once (Blocks g.graph.vertices w c history) place a b p
      (subst (λ (x : Claim). IsFirstFrom (Blocks g.graph.vertices w x history) place b) claim q) in
      cc

taken_for_once : (g : Setting) (history : List Entry) (place : ℕ) (k : Command) (v : Verdict) (a i b j : ℕ) →
    IsTakenFor g history place k v a i → IsTakenFor g history place k v b j → Taken a i ≡ Taken b j
taken_for_once g history place (command.Allocate id ask) (Found start claims) a i b j p q =
    taken_once g history place (window_of g.horizon ask start) claims a i b j p q
taken_for_once g history place (command.Reserve id ask) (Found start claims) a i b j p q =
    taken_once g history place (window_of g.horizon ask start) claims a i b j p q
taken_for_once g history place (command.Allocate id ask) NoFit a i b j p q = absurd p
taken_for_once g history place (command.Allocate id ask) Unsat a i b j p q = absurd p
taken_for_once g history place (command.Allocate id ask) Sat a i b j p q = absurd p
taken_for_once g history place (command.Allocate id ask) Long a i b j p q = absurd p
taken_for_once g history place (command.Allocate id ask) Known a i b j p q = absurd p
taken_for_once g history place (command.Reserve id ask) NoFit a i b j p q = absurd p
taken_for_once g history place (command.Reserve id ask) Unsat a i b j p q = absurd p
taken_for_once g history place (command.Reserve id ask) Sat a i b j p q = absurd p
taken_for_once g history place (command.Reserve id ask) Long a i b j p q = absurd p
taken_for_once g history place (command.Reserve id ask) Known a i b j p q = absurd p
taken_for_once g history place (command.Satisfy ask) v a i b j p q = absurd p
taken_for_once g history place (command.Cancel id) v a i b j p q = absurd p
taken_for_once g history place (command.Info id) v a i b j p q = absurd p
taken_for_once g history place (command.Advance to) v a i b j p q = absurd p
taken_for_once g history place (command.Invalid why) v a i b j p q = absurd p

-- of two causes one kind, and of a kind one entry and one claim
pub cause_once : (g : Setting) (history : List Entry) (c : Candidate) (a b : Cause) → IsOvertaken g history c a →
    IsOvertaken g history c b → a ≡ b
cause_once g history c (Freed a) (Freed b) (_, p) (_, q) = ap Freed (first_once (Frees history) c.place a b p q)
cause_once g history c (Freed a) (Late b) (_, p) (_, q) = absurd (q.0 a p.after p.there)
cause_once g history c (Freed a) (Taken b j) (_, p) (_, q) = absurd (q.0 a p.after p.there)
cause_once g history c (Late a) (Freed b) (_, p) (_, q) = absurd (p.0 b q.after q.there)
cause_once g history c (Late a) (Late b) (_, p) (_, q) = ap Late (first_once (Delays c history) c.place a b p.1 q.1)
cause_once g history c (Late a) (Taken b j) (_, p) (_, q) = absurd (q.1 a p.1.after p.1.there)
cause_once g history c (Taken a i) (Freed b) (_, p) (_, q) = absurd (p.0 b q.after q.there)
cause_once g history c (Taken a i) (Late b) (_, p) (_, q) = absurd (p.1 b q.1.after q.1.there)
cause_once g history c (Taken a i) (Taken b j) (_, p) (_, q) =
    taken_for_once g history c.place c.command c.verdict a i b j p.2 q.2
