-- Walks over the entries of a journal.
use Rattle.std.proofs.Common.{◌≡◌, ℕ, ◌+◌, ◌<◌, ◌≤◌, ◌↔◌, Bool, false, List, [], ◌∷◌, ◌++◌, length, inl, inr, refl, sym}
use Rattle.std.proofs.Common.{◌∙◌, ap, subst, arith, Option, Some, None, MatchOption, slice_get, take, IsTrue}
use Rattle.std.proofs.Common.{true≢false}
use Rattle.std.proofs.lemmas.Bool.{cases_lt}
use Rattle.std.proofs.lemmas.List.{take_more}
use Rattle.std.proofs.lemmas.Option.{get_or_from_slice_get, slice_get_within}
use Rattle.flux_defs.specs.declared.vertices.Vertex.{Vertex}
use Rattle.flux_defs.specs.declared.claims.Claim.{Claim}
use Rattle.flux_defs.specs.declared.claims.Window.{Window}
use Rattle.flux_defs.specs.declared.journal.Command.{Command}
use Rattle.flux_defs.specs.declared.journal.Command.TheVariants as command
use Rattle.flux_defs.specs.declared.journal.Reply.{Reply}
use Rattle.flux_defs.specs.declared.journal.Reply.TheVariants as reply
use Rattle.flux_defs.specs.declared.journal.Entry.{Entry}
use Rattle.flux_defs.specs.Scheduler.{State, first_state, after}
use Rattle.flux_defs.specs.Histories.{state_after, state_at}
use Rattle.flux_defs.specs.Overtaken.{HasEntry, Blocks, NoneFrom}
use Rattle.commit_laws.proofs.Firsts.{none_yet}
use Rattle.commit_laws.proofs.Grown.{state_append}
use Rattle.overtaken_check.specs.Scans.{DelaysPast, MovesPast, AcceptsInWay, moment_past}

-- the entry at a place, as a list tells it
module _ (journal : List Entry) (at : ℕ) (P : Entry → Type 0) where
  abbrev pub HasAt : Type 0
  HasAt = (e : Entry) × HasEntry journal at e × P e

  pub tells_none : None ≡ slice_get journal at → IsTrue false ↔ HasAt
  tells_none is = (λ t. absurd (true≢false (sym t)), λ (e, has, p). absurd (let both : None ≡ Some e = is ∙ has in cc))

  pub same_entry : (x e : Entry) → Some x ≡ slice_get journal at → HasEntry journal at e → e ≡ x
  same_entry x e is has = let both : Some x ≡ Some e = is ∙ has in cc

  pub tells_some : (x : Entry) (b : Bool) → Some x ≡ slice_get journal at → (IsTrue b ↔ P x) → IsTrue b ↔ HasAt
  tells_some x b is h = (λ t. (x, sym is, h.0 t), λ (e, has, p). h.1 (subst P (same_entry x e is has) p))

-- what follows from a test being passed or not is so of what it tests for
pub tells_along : {A B : Type 0} (b : Bool) → (A → B) → (B → A) → (IsTrue b ↔ A) → IsTrue b ↔ B
tells_along b f g h = (λ t. f (h.0 t), λ y. h.1 (g y))

-- what follows of what is told is told
pub told_along : {A B : Type 0} {P Q : ℕ → Type 0} (o : Option ℕ) → (A → B) → ((n : ℕ) → P n → Q n) →
    MatchOption o A P → MatchOption o B Q
told_along None f h a = f a
told_along (Some n) f h p = h n p

-- a block is an entry that accepted a job in the way
module _ (vertices : List Vertex) (w : Window) (claim : Claim) (journal : List Entry) (at : ℕ) where
  pub to_block : HasAt journal at (AcceptsInWay vertices w claim) → Blocks vertices w claim journal at
  to_block (e, has, a) = (e, a.0, has, a.1, a.2.0, a.2.1, a.2.2)

  pub from_block : Blocks vertices w claim journal at → HasAt journal at (AcceptsInWay vertices w claim)
  from_block b = (b.0, b.2, (b.1, b.3, (b.4, b.5, b.6)))

-- what only an entry can do is done at none past the last
pub none_past : (journal : List Entry) (P : ℕ → Type 0) (place at : ℕ) →
    ((i : ℕ) → P i → (e : Entry) × HasEntry journal i e) → (at < length journal → ⊥) →
    ((i : ℕ) → place ≤ i → i < at → P i → ⊥) → NoneFrom P place
none_past journal P place at has past before i lo p = elim (cases_lt i at) [
  | inl earlier ↦ before i lo earlier p
  | inr late ↦
      (let e = has i p in
      let within : i < length journal = slice_get_within journal i e.0 e.1 in
      absurd (past (omega arith)))
]

-- none before a number and not that one: none before the next
pub none_next : (P : ℕ → Type 0) (place at : ℕ) → ((i : ℕ) → place ≤ i → i < at → P i → ⊥) → (P at → ⊥) → (i : ℕ) →
    place ≤ i → i < at + 1 → P i → ⊥
none_next P place at before here i lo lt = none_yet P place at before (λ from p. here p) i lo (omega arith)

-- the moment after an entry
pub moment_after : (s : State) (c : Command) (r : Reply) → (after s c r).moment ≡ moment_past s.moment r
moment_after s c (reply.Now at) = refl
moment_after s c (reply.Allocated job) = refl
moment_after s c (reply.Reserved job) = refl
moment_after s (command.Allocate id ask) reply.Cancelled = refl
moment_after s (command.Reserve id ask) reply.Cancelled = refl
moment_after s (command.Satisfy ask) reply.Cancelled = refl
moment_after s (command.Cancel id) reply.Cancelled = refl
moment_after s (command.Info id) reply.Cancelled = refl
moment_after s (command.Advance to) reply.Cancelled = refl
moment_after s (command.Invalid why) reply.Cancelled = refl
moment_after s c r = refl

take_next : (journal : List Entry) (at : ℕ) (e : Entry) → HasEntry journal at e →
    take (at + 1) journal ≡ take at journal ++ e ∷ []
take_next journal at e has =
    take_more journal at e (slice_get_within journal at e has)
    ∙ ap (λ (x : Entry). take at journal ++ x ∷ []) (get_or_from_slice_get journal at e e has)

pub moment_next : (journal : List Entry) (at moment : ℕ) (e : Entry) → Some e ≡ slice_get journal at →
    moment ≡ (state_at journal at).moment → moment_past moment e.reply ≡ (state_at journal (at + 1)).moment
moment_next journal at moment e is h =
    ap (λ m. moment_past m e.reply) h
    ∙ (sym (moment_after (state_at journal at) e.command e.reply)
    ∙ ap (λ (s : State). s.moment) (sym (ap (state_after first_state) (take_next journal at e (sym is))
    ∙ state_append first_state (take at journal) (e ∷ []))))

-- a delay, by the moment that stood before it
module _ (last : Option ℕ) (journal : List Entry) (at moment : ℕ) (e : Entry) (is : Some e ≡ slice_get journal at)
    (h : moment ≡ (state_at journal at).moment) where
  pub to_delay : MovesPast last moment e.reply → DelaysPast last journal at
  to_delay p = (e, sym is, subst (λ m. MovesPast last m e.reply) h p)

  pub from_delay : DelaysPast last journal at → MovesPast last moment e.reply
  from_delay d =
      subst (λ m. MovesPast last m e.reply) (sym h)
      (subst (λ (x : Entry). MovesPast last (state_at journal at).moment x.reply)
      (same_entry journal at (λ x. Unit {0}) e d.0 is d.1) d.2)
