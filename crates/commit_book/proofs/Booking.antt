-- From the core's answers to the book's.
use Rattle.std.proofs.Common.{◌≡◌, ℕ, ◌+◌, ◌-◌, ◌<◌, List, [], ◌∷◌, ◌++◌, length, Some, refl, sym, ap, ◌∙◌}
use Rattle.std.proofs.Common.{subst, arith, length-append, append-nil, Result, Ok, Err, IfOk, IfErr}
use Rattle.std.specs.List.{range_with_len}
use Rattle.std.proofs.lemmas.Option.{slice_get_within}
use mathlib.Core.List.{IsPrefix}
use base.Growing.{prefix_trans}
use Rattle.list_laws.proofs.Lists.{prefix_length, get_last}
use Rattle.flux_defs.specs.declared.journal.Command.{Command}
use Rattle.flux_defs.specs.declared.journal.Command.TheVariants as command
use Rattle.flux_defs.specs.declared.journal.Entry.{Entry}
use Rattle.flux_defs.specs.declared.verdicts.Verdict.{Verdict}
use Rattle.flux_defs.specs.declared.verdicts.Verdict.TheVariants as verdict
use Rattle.flux_defs.specs.Histories.{IsLegal}
use Rattle.flux_defs.specs.Overtaken.{HasEntry, IsTakenFor, IsOvertaken}
use Rattle.flux_defs.specs.Placed.{line_of_any, line_at, IsPlaced}
use Rattle.flux_defs.specs.Scheduler.{Setting}
use Rattle.overtaken_check.specs.declared.causes.Cause.{Cause}
use Rattle.overtaken_check.specs.declared.causes.Cause.TheVariants as cause
use Rattle.overtaken_check.specs.Scans.{cause_of}
use Rattle.sched_core.specs.Answered.{IsDecided}
use Rattle.sched_core.specs.Candidates.{IsFor, IsCommitted}
use Rattle.sched_core.specs.Courses.{Course}
use Rattle.sched_core.specs.Searched.{Searched, candidate_in}
use Rattle.sched_core.specs.declared.candidates.Commit.{Commit}
use Rattle.sched_core.specs.declared.candidates.Commit.TheVariants as commit
use Rattle.commit_book.specs.Books.{course, IsDecidedAt, IsCommittedAt, gained, entry_in, SeesAnswer}

-- the core is one of the setting with this journal
is_course : (g : Setting) (core : Course) (journal : List Entry) →
    core.setting ≡ g → journal ≡ core.journal → core ≡ course g journal
is_course g core journal setting same = λ i. record { setting = setting i; journal = sym same i }

-- what a core has become: the setting stays, and the journal grows
pub record Grown (core core' : Course) : Type 0 where
  pub setting : core'.setting ≡ core.setting
  pub journal : IsPrefix core.journal core'.journal

pub grown_same : (core core' : Course) → core' ≡ core → Grown core core'
grown_same core core' same = record {
  setting = ap (λ (c : Course). c.setting) same;
  journal = ([], append-nil core.journal ∙ ap (λ (c : Course). c.journal) (sym same));
}

-- ---- a decision

module _ (client line : ℕ)
    (command : Command) (core core' : Course) (d : IsDecided core core' client line command) where
  grown_decided : Grown core core'
  grown_decided = record { setting = d.setting; journal = (_, sym d.journal) }

  -- the new entry stands at the end
  decided_line : line_at core'.journal (length core.journal)
      ≡ Some (record { client = client; line = line; command = command })
  decided_line = ap (λ (j : List Entry). line_at j (length core.journal)) d.journal
      ∙ ap line_of_any (get_last core.journal _)

  decided_length : length core'.journal ≡ length core.journal + 1
  decided_length = ap length d.journal ∙ length-append core.journal _

-- one position more, where the journal has one entry more
one_more : (m n at : ℕ) (mine mine' : List ℕ) → n ≡ m + 1 → at ≡ m → mine' ≡ mine ++ range_with_len m (n - m)
    → mine' ≡ mine ++ at ∷ []
one_more m n at mine mine' more place is =
    let one : n - m ≡ 1 = omega arith in
    is ∙ (ap (λ k. mine ++ range_with_len m k) one ∙ ap (λ p. mine ++ p ∷ []) (sym place))

-- none, where it is as long as before
no_more : (m n : ℕ) (mine mine' : List ℕ) → n ≡ m → mine' ≡ mine ++ range_with_len m (n - m) → mine' ≡ mine
no_more m n mine mine' same is =
    let none : n - m ≡ 0 = omega arith in is ∙ (ap (λ k. mine ++ range_with_len m k) none ∙ append-nil mine)

-- the entry that overtook a candidate is there
entry_there : (history : List Entry) (at : ℕ) → (e : Entry) × HasEntry history at e → at < length history
entry_there history at h = slice_get_within history at h.0 h.1

taken_there : (g : Setting) (history : List Entry) (place : ℕ) (c : Command) (v : Verdict) (at index : ℕ)
    → IsTakenFor g history place c v at index → at < length history
taken_there g history place (command.Allocate id ask) (verdict.Found start claims) at index t =
    let b = t.2.there in slice_get_within history at b.0 b.2
taken_there g history place (command.Reserve id ask) (verdict.Found start claims) at index t =
    let b = t.2.there in slice_get_within history at b.0 b.2
taken_there g history place c v at index t = absurd t

overtaken_there : (g : Setting) (history : List Entry) (c : Searched) (why : Cause)
    → IsOvertaken g history (candidate_in c) (cause_of why) → entry_in why < length history
overtaken_there g history c (cause.Freed at) o = let f = o.1.there in slice_get_within history at f.0 f.1
overtaken_there g history c (cause.Late at) o = let d = o.1.1.there in slice_get_within history at d.0 d.2
overtaken_there g history c (cause.Taken at claim) o = taken_there g history c.place c.command c.verdict at claim o.1.2

-- ---- what goes home

module _ {F : Type 0} (P : F → Type 0) (client line : ℕ) (core core' : Course) where
  pub decide_grows : (command : Command) (r : Result ℕ F) → IfOk r (λ _. IsDecided core core' client line command)
      → IfErr r (λ e. (core' ≡ core) × P e) → Grown core core'
  decide_grows command (Ok at) d e = grown_decided client line command core core' d
  decide_grows command (Err f) d e = grown_same core core' e.0

  pub commit_grows : (c : Searched) (r : Result Commit F) → IfOk r (IsCommitted core core' client line c)
      → IfErr r (λ e. (core' ≡ core) × P e) → Grown core core'
  commit_grows c (Ok (commit.Done at)) d e = grown_decided client line c.command core core' d.2
  commit_grows c (Ok (commit.Stale back why)) d e = grown_same core core' d.0
  commit_grows c (Err f) d e = grown_same core core' e.0

-- ---- what the seat sees, and what it gains

-- A core of the setting was taken and another came home: what the seat sees and gains by it.
pub record Went (g : Setting) (core core' : Course) (s s' : List Entry) (m m' : List ℕ) : Type 0 where
  pub setting : core.setting ≡ g
  pub later : IsPrefix s core.journal
  pub sees : s' ≡ core'.journal
  pub mines : m' ≡ m ++ range_with_len (length core.journal) (length core'.journal - length core.journal)

-- from what the turn says of its two calls
pub went : (g : Setting) (core core' : Course) (s between s' : List Entry) (m held m' : List ℕ) →
    IsPrefix s core.journal
    → between ≡ core.journal → core.setting ≡ g → held ≡ m → s' ≡ core'.journal
    → m' ≡ held ++ range_with_len (length between) (length core'.journal - length between) → Went g core core' s s' m m'
went g core core' s between s' m held m' later all setting same sees mines = record {
  setting = setting;
  later = later;
  sees = sees;
  mines = mines ∙ (ap (λ h. h ++ range_with_len (length between) (length core'.journal - length between)) same
      ∙ ap (λ (j : List Entry). m ++ range_with_len (length j) (length core'.journal - length j)) all);
}

module _ (g : Setting) (client line : ℕ) (core core' : Course) (s s' : List Entry) (m m' : List ℕ)
    (w : Went g core core' s s' m m') where
  before_is : core ≡ course g core.journal
  before_is = is_course g core core.journal w.setting refl

  after_is : Grown core core' → core' ≡ course g s'
  after_is grown = is_course g core' s' (grown.setting ∙ w.setting) w.sees

  pub legal_now : Grown core core' → IsLegal core'.setting core'.journal → IsLegal g s'
  legal_now grown legal = subst (λ (c : Course). IsLegal c.setting c.journal) (after_is grown) legal

  pub later_now : Grown core core' → IsPrefix s s'
  later_now grown = prefix_trans s core.journal s' w.later (grown.journal.0, grown.journal.1 ∙ sym w.sees)

  -- from the core's course to the book's
  at_courses : (P : Course → Course → Type 0) →
      Grown core core' → P core core' → P (course g core.journal) (course g s')
  at_courses P grown p =
      subst (P (course g core.journal)) (after_is grown) (subst (λ (c : Course). P c core') before_is p)

  decided_at : (command : Command) (at : ℕ) → at ≡ length core.journal → IsDecided core core' client line command
      → IsDecidedAt g client line command s s' at
  decided_at command at place d = record {
    before = core.journal;
    later = w.later;
    place = place;
    decided =
        at_courses (λ c c'. IsDecided c c' client line command) (grown_decided client line command core core' d) d;
  }

  placed_at : (command : Command) (at : ℕ) → at ≡ length core.journal → IsDecided core core' client line command
      → IsPlaced client line command at s s'
  placed_at command at place d =
      let n = prefix_length s core.journal w.later in (
        omega arith,
        ap (line_at s') place ∙ (ap (λ (j : List Entry). line_at j (length core.journal)) w.sees
            ∙ decided_line client line command core core' d),
      )

  gained_one : (command : Command) (at : ℕ) → at ≡ length core.journal → IsDecided core core' client line command
      → m' ≡ m ++ at ∷ []
  gained_one command at place d =
      one_more (length core.journal)
      (length core'.journal) at m m' (decided_length client line command core core' d) place w.mines

  pub gained_none : core' ≡ core → m' ≡ m
  gained_none same =
      no_more (length core.journal) (length core'.journal) m m' (ap (λ (c : Course). length c.journal) same) w.mines

  module _ {F : Type 0} where
    pub book_decides : (command : Command) (r : Result ℕ F) → IfOk r (λ at. at ≡ length core.journal)
        → IfOk r (λ _. IsDecided core core' client line command) → IfOk r (IsDecidedAt g client line command s s')
    book_decides command (Ok at) place d = decided_at command at place d
    book_decides command (Err f) place d = tt

    pub decide_gains : (command : Command) (r : Result ℕ F) → IfOk r (λ at. at ≡ length core.journal)
        → IfOk r (λ _. IsDecided core core' client line command) → IfOk r (λ at. m' ≡ m ++ at ∷ [])
    decide_gains command (Ok at) place d = gained_one command at place d
    decide_gains command (Err f) place d = tt

    pub gains_nothing : {A : Type 0} (P : F → Type 0) (r : Result A F) → IfErr r (λ e. (core' ≡ core) × P e)
        → IfErr r (λ e. P e × (m' ≡ m))
    gains_nothing P (Ok a) e = tt
    gains_nothing P (Err f) e = (e.1, gained_none e.0)

    pub book_commits : (c : Searched) (r : Result Commit F) →
        IfOk r (IsCommitted core core' client line c) → Grown core core'
        → IfOk r (IsCommittedAt g client line c s s')
    book_commits c (Ok a) d grown = record {
      before = core.journal;
      later = w.later;
      committed = at_courses (λ x x'. IsCommitted x x' client line c a) grown d;
    }
    book_commits c (Err f) d grown = tt

    pub commit_sees : (c : Searched) (r : Result Commit F) → IfOk r (IsCommitted core core' client line c)
        → IfOk r (SeesAnswer client line c.command s s')
    commit_sees c (Ok (commit.Done at)) d = placed_at c.command at d.1 d.2
    commit_sees c (Ok (commit.Stale back why)) d =
        let there = overtaken_there core.setting core.journal c why d.2 in
        let same : length s' ≡ length core.journal = ap length w.sees ∙ ap (λ (x : Course). length x.journal) d.0 in
        omega arith
    commit_sees c (Err f) d = tt

    pub commit_gains : (c : Searched) (r : Result Commit F) → IfOk r (IsCommitted core core' client line c)
        → IfOk r (λ a. m' ≡ m ++ gained a)
    commit_gains c (Ok (commit.Done at)) d = gained_one c.command at d.1 d.2
    commit_gains c (Ok (commit.Stale back why)) d = gained_none d.0 ∙ sym (append-nil m)
    commit_gains c (Err f) d = tt

-- what the turn wants of what comes home: its journal begins with what the seat has seen
pub comes_home : (core core' : Course) (between : List Entry) → between ≡ core.journal → Grown core core'
    → IsPrefix between core'.journal
comes_home core core' between all grown = subst (λ (j : List Entry). IsPrefix j core'.journal) (sym all) grown.journal

-- what was searched is a beginning of what the core has now
pub is_for : (g : Setting) (c : Searched) (core : Course) (s : List Entry) →
    c.snap.setting ≡ g → IsPrefix c.snap.journal s
    → core.setting ≡ g → IsPrefix s core.journal → IsFor core c
is_for g c core s searched begins setting later =
    let all = prefix_trans c.snap.journal s core.journal begins later in record {
      setting = searched ∙ sym setting;
      later = all.0;
      begins = sym all.1;
    }

-- what was placed for a decision
pub decided_places : (g : Setting) (client line : ℕ) (command : Command) (s s' : List Entry) (at : ℕ)
    → IsDecidedAt g client line command s s' at → IsPlaced client line command at s s'
decided_places g client line command s s' at d =
    let n = prefix_length s d.before d.later in (
      omega (arith, d.place),
      ap (line_at s') d.place ∙ decided_line client line command (course g d.before) (course g s') d.decided,
    )
