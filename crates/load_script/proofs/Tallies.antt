-- What one entry more adds to the counts of a history.
use Rattle.std.proofs.Common.{◌≡◌, ℕ, ◌+◌, ◌≤◌, ◌<◌, ◌==◌, inl, inr, Bool, true, false, cond, if◌then◌else◌, length}
use Rattle.std.proofs.Common.{MatchOption, Option, None, List, [], ◌∷◌, drop, Some, slice_get, refl, sym, ◌∙◌, ap}
use Rattle.std.proofs.Common.{arith}
use Rattle.std.specs.Str.{bytes_eq}
use Rattle.std.proofs.lemmas.Bool.{cases_lt}
use Rattle.std.proofs.lemmas.List.Sums.{sum_by-cons}
use Rattle.list_laws.proofs.Lists.{drop_here}
use Rattle.flux_defs.specs.declared.claims.Job.{Job}
use Rattle.flux_defs.specs.declared.requests.Ask.{Ask}
use Rattle.flux_defs.specs.declared.journal.Command.{Command}
use Rattle.flux_defs.specs.declared.journal.Command.TheVariants as command
use Rattle.flux_defs.specs.declared.journal.Entry.{Entry}
use Rattle.flux_defs.specs.declared.journal.Reply.{Reply}
use Rattle.flux_defs.specs.declared.journal.Reply.TheVariants as reply
use Rattle.flux_defs.specs.Scheduler.{Setting, State, Replies, AcceptedOrFull, job_with, info_at, after, after_cancel}
use Rattle.flux_defs.specs.Histories.{state_after, IsLegalFrom}
use Rattle.load_script.specs.Counts.{reply_word, replies_called, end_of}
use Rattle.load_script.specs.Tallied.{AreOf, held_by}
use Rattle.load_script.specs.declared.counts.Reached.{Reached}

-- the replies from a place on are the one there and those behind it
pub called_here : (word : List ℕ) (history : List Entry) (at : ℕ) (e : Entry) (is : Bool) →
    slice_get history at ≡ Some e →
    is ≡ bytes_eq (reply_word e.reply) word →
    replies_called word (drop at history) ≡ cond is 1 0 + replies_called word (drop (at + 1) history)
called_here word history at e is there same =
    ap (replies_called word) (drop_here history at e there)
    ∙ sum_by-cons (λ (x : Entry). cond (bytes_eq (reply_word x.reply) word) 1 0) e (drop (at + 1) history)
    ∙ ap (λ t. cond t 1 0 + replies_called word (drop (at + 1) history)) (sym same)

-- ---- states

plus_none : (n : ℕ) → n ≡ n + 0
plus_none n = omega arith

cancel_keeps : (s : State) (c : Command) → (after_cancel s c).claim_count ≡ s.claim_count
cancel_keeps s (command.Allocate job ask) = refl
cancel_keeps s (command.Reserve job ask) = refl
cancel_keeps s (command.Satisfy ask) = refl
cancel_keeps s (command.Cancel job) = refl
cancel_keeps s (command.Info job) = refl
cancel_keeps s (command.Advance to) = refl
cancel_keeps s (command.Invalid why) = refl

-- the claims of an accepted job are added
claims_after : (s : State) (c : Command) (r : Reply) → (after s c r).claim_count ≡ s.claim_count + held_by r
claims_after s c (reply.Allocated job) = refl
claims_after s c (reply.Reserved job) = refl
claims_after s c reply.Busy = plus_none s.claim_count
claims_after s c reply.NoStart = plus_none s.claim_count
claims_after s c reply.Unsatisfiable = plus_none s.claim_count
claims_after s c reply.TooLong = plus_none s.claim_count
claims_after s c reply.Exists = plus_none s.claim_count
claims_after s c reply.Absent = plus_none s.claim_count
claims_after s c reply.Cancelled = cancel_keeps s c ∙ plus_none s.claim_count
claims_after s c reply.Full = plus_none s.claim_count
claims_after s c (reply.Now at) = plus_none s.claim_count
claims_after s c reply.Satisfiable = plus_none s.claim_count
claims_after s c (reply.Info phase start end) = plus_none s.claim_count
claims_after s c reply.Backwards = plus_none s.claim_count
claims_after s c reply.Beyond = plus_none s.claim_count
claims_after s c reply.Invalid = plus_none s.claim_count

-- no entry takes claims off the count
claims_grow : (s : State) (entries : List Entry) → s.claim_count ≤ (state_after s entries).claim_count
claims_grow s [] = omega arith
claims_grow s (e ∷ es) =
    let here = claims_after s e.command e.reply in
    let rest = claims_grow (after s e.command e.reply) es in omega (arith, here, rest)

-- a place leads on to the end by its entry and those behind it
leads_on : (history : List Entry) (at : ℕ) (e : Entry) (s : State) → slice_get history at ≡ Some e →
    state_after s (drop at history) ≡ end_of history →
    state_after (after s e.command e.reply) (drop (at + 1) history) ≡ end_of history
leads_on history at e s there leads = sym (ap (state_after s) (drop_here history at e there)) ∙ leads

-- the claims of the entry at a place are within the last count
pub room_here : (history : List Entry) (at : ℕ) (s : State) (reached : Reached) →
    state_after s (drop at history) ≡ end_of history → AreOf s reached →
    (end_of history).claim_count < 18446744073709551616 →
    (e : Entry) → slice_get history at ≡ Some e → reached.claims + held_by e.reply < 18446744073709551616
room_here history at s reached leads are few e there =
    let next = after s e.command e.reply in
    let here : next.claim_count ≡ s.claim_count + held_by e.reply = claims_after s e.command e.reply in
    let rest : next.claim_count ≤ (state_after next (drop (at + 1) history)).claim_count = claims_grow next (drop
    (at + 1) history) in
    let end : (state_after next (drop (at + 1) history)).claim_count ≡ (end_of history).claim_count =
    ap (λ (x : State). x.claim_count) (leads_on history at e s there leads) in
    let own : reached.claims ≡ s.claim_count = are.claims in
    omega (arith, here, rest, end, own, few)

-- the state behind the entry at a place
pub state_here : (history : List Entry) (at : ℕ) (s : State) (reached next : Reached) (e : Entry) →
    slice_get history at ≡ Some e →
    state_after s (drop at history) ≡ end_of history → AreOf s reached →
    ((x : State) → AreOf x reached → AreOf (after x e.command e.reply) next) →
    (x : State) × (state_after x (drop (at + 1) history) ≡ end_of history) × AreOf x next
state_here history at s reached next e there leads are follows =
    (after s e.command e.reply, leads_on history at e s there leads, follows s are)

-- ---- legal histories

no_claims : (s : State) (most : ℕ) (r answer : Reply) → r ≡ answer → held_by answer ≡ 0 → s.claim_count ≤ most →
    s.claim_count + held_by r ≤ most
no_claims s most r answer is none le = let same : held_by r ≡ held_by answer = ap held_by is in
    omega (arith, same, none, le)

held_accepted : (b : Bool) (job : Job) →
    held_by (if b then reply.Allocated job else reply.Reserved job) ≡ length job.claims
held_accepted true job = refl
held_accepted false job = refl

accepted_few : (g : Setting) (s : State) (id start : ℕ) (ask : Ask) (r : Reply) → AcceptedOrFull g s id ask start r →
    s.claim_count ≤ g.claim_limit → s.claim_count + held_by r ≤ g.claim_limit
accepted_few g s id start ask r (job, made, inl (over, is)) le = no_claims s g.claim_limit r reply.Full is refl le
accepted_few g s id start ask r (job, made, inr (within, is)) le =
    let held : held_by r ≡ length job.claims = ap held_by is ∙ held_accepted (job.start == s.moment) job in
    elim (cases_lt g.claim_limit (s.claim_count + length job.claims)) [
      | inl past ↦ absurd (within past)
      | inr few ↦ omega (arith, held, few)
    ]

-- the claims of all accepted jobs stay within the limit
claims_within : (g : Setting) (s : State) (c : Command) (r : Reply) → Replies g s c r → s.claim_count ≤ g.claim_limit →
    s.claim_count + held_by r ≤ g.claim_limit
claims_within g s (command.Allocate id ask) r (inl h) le = no_claims s g.claim_limit r reply.Exists h.1 refl le
claims_within g s (command.Allocate id ask) r (inr
    (a, inl h)) le = no_claims s g.claim_limit r reply.Unsatisfiable h.1 refl le
claims_within g s (command.Allocate id ask) r (inr (
  a,
  inr
      (b, inl h),
)) le = no_claims s g.claim_limit r reply.TooLong h.1 refl le
claims_within g s (command.Allocate id ask) r (inr (
  a,
  inr (
    b,
    inr
        (c, inl h),
  ),
)) le = no_claims s g.claim_limit r reply.Busy h.1 refl le
claims_within g s (command.Allocate id ask) r (inr (
  a,
  inr (
    b,
    inr (
      c,
      inr
          (d, h),
    ),
  ),
)) le = accepted_few g s id s.moment ask r h le
claims_within g s (command.Reserve id ask) r (inl h) le = no_claims s g.claim_limit r reply.Exists h.1 refl le
claims_within g s (command.Reserve id ask) r (inr
    (a, inl h)) le = no_claims s g.claim_limit r reply.Unsatisfiable h.1 refl le
claims_within g s (command.Reserve id ask) r (inr (
  a,
  inr
      (b, inl h),
)) le = no_claims s g.claim_limit r reply.TooLong h.1 refl le
claims_within g s (command.Reserve id ask) r (inr (
  a,
  inr (
    b,
    inr
        (c, inl h),
  ),
)) le = no_claims s g.claim_limit r reply.NoStart h.1 refl le
claims_within g s (command.Reserve id ask) r (inr (
  a,
  inr (
    b,
    inr (
      c,
      inr (
        d,
        (t, first, h),
      ),
    ),
  ),
)) le = accepted_few g s id t ask r h le
claims_within g s (command.Satisfy ask) r (inl h) le = no_claims s g.claim_limit r reply.Unsatisfiable h.1 refl le
claims_within g s (command.Satisfy ask) r (inr h) le = no_claims s g.claim_limit r reply.Satisfiable h.1 refl le
claims_within g s (command.Cancel id) r (inl h) le = no_claims s g.claim_limit r reply.Absent h.1 refl le
claims_within g s (command.Cancel id) r (inr h) le = no_claims s g.claim_limit r reply.Cancelled h.1 refl le
claims_within g s (command.Info id) r h le = by (job_with id s.jobs) h
  where
    by : (o : Option Job) → MatchOption o (r ≡ reply.Absent) (λ job. r ≡ info_at s.moment job) →
        s.claim_count + held_by r ≤ g.claim_limit
    by None is = no_claims s g.claim_limit r reply.Absent is refl le
    by (Some job) is = no_claims s g.claim_limit r (info_at s.moment job) is refl le
claims_within g s (command.Advance to) r (inl h) le = no_claims s g.claim_limit r reply.Backwards h.1 refl le
claims_within g s (command.Advance to) r (inr (a, inl h)) le = no_claims s g.claim_limit r reply.Beyond h.1 refl le
claims_within g s (command.Advance to) r (inr (a, inr h)) le = no_claims s g.claim_limit r (reply.Now to) h.1 refl le
claims_within g s (command.Invalid why) r h le = no_claims s g.claim_limit r reply.Invalid h refl le

pub legal_claims : (g : Setting) (s : State) (history : List Entry) → IsLegalFrom g s history →
    s.claim_count ≤ g.claim_limit →
    (state_after s history).claim_count ≤ g.claim_limit
legal_claims g s [] legal le = le
legal_claims g s (e ∷ es) legal le =
    let here = claims_after s e.command e.reply in
    let few = claims_within g s e.command e.reply legal.0 le in
    legal_claims g (after s e.command e.reply) es legal.1 (omega (arith, here, few))
