-- The stretch of a history from a place on, and the entries of it that stand in the way of a claim.
use Rattle.std.proofs.Common.{◌≡◌, ℕ, zero, suc, ◌+◌, ◌<◌, Bool, true, false, List, [], ◌∷◌, ◌++◌, length, ◌⊎◌, inl}
use Rattle.std.proofs.Common.{inr, refl, sym, ◌∙◌, ap, subst, arith, Option, Some, None, slice_get, take, drop, IsTrue}
use Rattle.std.proofs.Common.{true≢false}
use Rattle.std.specs.List.{AllByRecursion, list_any}
use Rattle.std.proofs.Math.Seq.{take-add, take-length}
use Rattle.std.proofs.lemmas.Bool.{cases_lt}
use Rattle.std.proofs.lemmas.List.{take-append-drop}
use Rattle.std.proofs.lemmas.Option.{slice_get_within}
use Rattle.flux_defs.specs.declared.vertices.Vertex.{Vertex}
use Rattle.flux_defs.specs.declared.claims.Claim.{Claim}
use Rattle.flux_defs.specs.declared.claims.Job.{Job}
use Rattle.flux_defs.specs.declared.claims.Window.{Window}
use Rattle.flux_defs.specs.declared.journal.Reply.{Reply}
use Rattle.flux_defs.specs.declared.journal.Reply.TheVariants as reply
use Rattle.flux_defs.specs.declared.journal.Entry.{Entry}
use Rattle.flux_defs.specs.Closed.{no_bars}
use Rattle.flux_defs.specs.Available.{IsAvailable}
use Rattle.flux_defs.specs.Scheduler.{Setting, State, first_state, present_of}
use Rattle.flux_defs.specs.Histories.{state_after, state_at, IsLegal, IsLegalFrom}
use Rattle.flux_defs.specs.Overtaken.{conflicts, Frees, Blocks, IsFirstFrom, NoneFrom}
use Rattle.flux_defs.specs.Present.{up_with}
use Rattle.list_laws.proofs.Lists.{all_append}
use Rattle.commit_laws.specs.CommitLaws.{state_now}
use Rattle.commit_laws.proofs.Firsts.{first_or_none}
use Rattle.commit_laws.proofs.Grown.{state_append, legal_behind, NoCancel, accepted, accepted_of, jobs_grow}
use Rattle.commit_laws.proofs.InTheWay.{IsInTheWay, NoneInTheWay, unblocked}

drop_at : {X : Type 0} (xs : List X) (n k : ℕ) → slice_get (drop n xs) k ≡ slice_get xs (n + k)
drop_at xs zero k = let e : k ≡ 0 + k = omega arith in ap (slice_get xs) e
drop_at [] (suc n) zero = refl
drop_at [] (suc n) (suc k) = refl
drop_at (x ∷ xs) (suc n) k = let e : suc (n + k) ≡ suc n + k = omega arith in drop_at xs n k ∙ ap (slice_get (x ∷ xs)) e

all_none : (P : Entry → Type 0) (entries : List Entry) →
    ((k : ℕ) (e : Entry) → slice_get entries k ≡ Some e → P e → ⊥) → AllByRecursion (λ e. P e → ⊥) entries
all_none P [] f = tt
all_none P (e ∷ es) f = (f 0 e refl, all_none P es (λ k x i. f (suc k) x i))

-- the reply accepts the job
abbrev Accepts : Reply → Job → Type 0
Accepts r job = (r ≡ reply.Allocated job) ⊎ (r ≡ reply.Reserved job)

module _ (vertices : List Vertex) (w : Window) (claim : Claim) where
  abbrev InWay : Job → Type 0
  InWay = IsInTheWay vertices w claim

  -- the reply accepts a job that is in the way
  abbrev StandsIn : Reply → Type 0
  StandsIn r = (job : Job) × Accepts r job × InWay job

  none_of_reply : (r : Reply) → (StandsIn r → ⊥) → NoneInTheWay vertices w claim (accepted_of r)
  none_of_reply (reply.Allocated job) f = (λ h. f (job, inl refl, h), tt)
  none_of_reply (reply.Reserved job) f = (λ h. f (job, inr refl, h), tt)
  none_of_reply r f = tt

  none_accepted : (entries : List Entry) → AllByRecursion (λ e. StandsIn e.reply → ⊥) entries →
      NoneInTheWay vertices w claim (accepted entries)
  none_accepted [] h = tt
  none_accepted (e ∷ es) h =
      all_append (λ job. InWay job → ⊥) (accepted_of e.reply) (accepted es) (none_of_reply e.reply h.0)
      (none_accepted es h.1)

  decide_true : (b : Bool) → IsTrue b ⊎ (IsTrue b → ⊥)
  decide_true true = inl refl
  decide_true false = inr (λ h. true≢false (sym h))

  decide_less : (a b : ℕ) → (a < b) ⊎ (a < b → ⊥)
  decide_less a b = elim (cases_lt a b) [ inl lt ↦ inl lt | inr ge ↦ inr (λ lt. omega arith) ]

  decide_job : (job : Job) → InWay job ⊎ (InWay job → ⊥)
  decide_job job = elim (decide_less job.start w.to) [
    | inr n ↦ inr (λ h. n h.0)
    | inl a ↦ elim (decide_less w.from job.end) [
      | inr n ↦ inr (λ h. n h.1)
      | inl b ↦ elim (decide_true (list_any (conflicts vertices claim) job.claims)) [
        | inr n ↦ inr (λ h. n h.2)
        | inl c ↦ inl (a, b, c)
      ]
    ]
  ]

  decide_reply : (r : Reply) → StandsIn r ⊎ (StandsIn r → ⊥)
  decide_reply (reply.Allocated job) = elim (decide_job job) [
    | inl h ↦ inl (job, inl refl, h)
    | inr n ↦ inr (λ (j, a, h). elim a [
      | inl e ↦ (let same : job ≡ j = cc in n (subst InWay (sym same) h))
      | inr e ↦ absurd (cc)
    ])
  ]
  decide_reply (reply.Reserved job) = elim (decide_job job) [
    | inl h ↦ inl (job, inr refl, h)
    | inr n ↦ inr (λ (j, a, h). elim a [
      | inl e ↦ absurd (cc)
      | inr e ↦ (let same : job ≡ j = cc in n (subst InWay (sym same) h))
    ])
  ]
  decide_reply r = inr (λ (j, a, h). elim a [ inl e ↦ absurd (cc) | inr e ↦ absurd (cc) ])

module _ (history : List Entry) (place : ℕ) where
  abbrev pub stretch : List Entry
  stretch = drop place history

  abbrev pub start : State
  start = state_at history place

  -- what the whole history leaves is what the stretch leaves
  pub whole : state_now history ≡ state_after start stretch
  whole =
      ap (state_after first_state) (take-length history)
      ∙ (ap (state_after first_state) (sym (take-append-drop place history))
      ∙ state_append first_state (take place history) stretch)

  pub legal_stretch : (g : Setting) → IsLegal g history → IsLegalFrom g start stretch
  legal_stretch g l =
      legal_behind g first_state (take place history) stretch
      (subst (IsLegal g) (sym (take-append-drop place history)) l)

  pub no_cancel : NoneFrom (Frees history) place → NoCancel stretch
  no_cancel none =
      all_none (λ e. e.reply ≡ reply.Cancelled) stretch
      (λ k e i c. none (place + k) (omega arith) (e, sym (drop_at history place k) ∙ i, c))

  pub state_there : (k : ℕ) → state_after start (take k stretch) ≡ state_at history (place + k)
  state_there k =
      sym (state_append first_state (take place history) (take k stretch))
      ∙ ap (state_after first_state) (sym (take-add place k history))

  pub entry_there : (k : ℕ) (e : Entry) → slice_get stretch k ≡ Some e → slice_get history (place + k) ≡ Some e
  entry_there k e i = sym (drop_at history place k) ∙ i

  module _ (vertices : List Vertex) (w : Window) (claim : Claim) where
    -- a claim that no entry of the stretch stands in the way of stays available
    pub still_there : NoneFrom (Frees history) place → NoneFrom (Blocks vertices w claim history) place →
        IsAvailable (no_bars vertices (present_of start)) w claim →
        IsAvailable (no_bars vertices (present_of (state_now history))) w claim
    still_there frees blocks a =
        let none = none_accepted vertices w claim stretch
        (all_none (λ e. StandsIn vertices w claim e.reply) stretch
        (λ k e i (job, accepts, h). blocks (place + k) (omega arith)
        (e, job, entry_there k e i, accepts, h.0, h.1, h.2))) in
        let e : (state_now history).jobs ≡ start.jobs ++ accepted stretch =
        ap (λ (x : State). x.jobs) whole ∙ jobs_grow start stretch (no_cancel frees) in
        subst (λ (js : List Job). IsAvailable (no_bars vertices (up_with js)) w claim) (sym e)
        (unblocked vertices w start.jobs (accepted stretch) claim none a)

    decide_entry : (at : ℕ) (found : Option Entry) → slice_get history at ≡ found →
        Blocks vertices w claim history at ⊎ (Blocks vertices w claim history at → ⊥)
    decide_entry at None e = inr (λ h. (let has : slice_get history at ≡ Some h.0 = h.2 in absurd (cc)))
    decide_entry at (Some x) e = elim (decide_reply vertices w claim x.reply) [
      | inl (job, a, h) ↦ inl (x, job, e, a, h.0, h.1, h.2)
      | inr n ↦ inr (λ (y, job, has, a, lo, hi, c).
          let same : y ≡ x = cc in
          n (subst (λ (z : Entry). StandsIn vertices w claim z.reply) same (job, a, (lo, hi, c))))
    ]

    -- and one that isn't available any more has a first entry in its way
    pub first_block : NoneFrom (Frees history) place → IsAvailable (no_bars vertices (present_of start)) w claim →
        (IsAvailable (no_bars vertices (present_of (state_now history))) w claim → ⊥) →
        (at : ℕ) × IsFirstFrom (Blocks vertices w claim history) place at
    first_block frees was gone =
        elim (first_or_none (Blocks vertices w claim history) place (λ i. decide_entry i (slice_get history i) refl)
        (length history)) [
          | inl found ↦ found
          | inr none ↦
              absurd (gone (still_there frees (λ i lo h. none i lo (slice_get_within history i h.0 h.2) h) was))
        ]
