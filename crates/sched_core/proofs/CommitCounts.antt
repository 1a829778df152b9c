-- How many steps a commit takes.
use Rattle.std.proofs.Common.{◌≡◌, ℕ, ◌+◌, ◌-◌, ◌*◌, ◌≤◌, ◌==◌, not, cond, Bool, true, false, List, [], ◌∷◌, length, ap}
use Rattle.std.proofs.Common.{arith}
use Rattle.std.specs.FinMap.{len}
use Rattle.std.proofs.Math.Nat.{mul-le-mul_left, mul-le-mul_right}
use Rattle.std.proofs.lemmas.List.{length-map}
use Rattle.std.proofs.lemmas.List.Sums.{sum_by-cons}
use Rattle.flux_defs.specs.declared.claims.Job.{Job}
use Rattle.flux_defs.specs.declared.journal.Command.{Command}
use Rattle.flux_defs.specs.declared.journal.Command.TheVariants as command
use Rattle.flux_defs.specs.declared.journal.Reply.{Reply}
use Rattle.flux_defs.specs.declared.journal.Reply.TheVariants as reply
use Rattle.flux_defs.specs.declared.journal.Entry.{Entry}
use Rattle.flux_defs.specs.declared.verdicts.Verdict.{Verdict}
use Rattle.flux_defs.specs.Digits.{dig}
use Rattle.flux_defs.proofs.DigitLaws.{dig_mono}
use Rattle.flux_defs.specs.Scheduler.{State, first_state, without_job, after}
use Rattle.flux_defs.specs.Histories.{state_after}
use Rattle.book_laws.specs.Grouped.{count_claims}
use Rattle.vertex_accounts.proofs.JoinLaws.{count_push}
use Rattle.book_state.specs.declared.held.BookState.{BookState}
use Rattle.book_state.specs.Books.{accounts_of, rules_of, rows_of, cost_of, change_cost_of}
use Rattle.book_state.proofs.CostLaws.{change_sum}
use Rattle.overtaken_check.specs.Costs.{scan_most, claims_found}
use Rattle.sched_core.specs.declared.held.Site.{Site}
use Rattle.sched_core.specs.declared.held.Kept.{Kept}
use Rattle.sched_core.specs.Courses.{Course, left_by, pair_of, journal_in, setting_in, IsCore}
use Rattle.sched_core.specs.Searched.{Searched}
use Rattle.sched_core.specs.Costs.{digits_of, judge_most, append_most, commit_most}

-- the jobs of a state have no more claims than were ever accepted
count_without : (id : ℕ) (jobs : List Job) → count_claims (without_job id jobs) ≤ count_claims jobs
count_without id [] = omega arith
count_without id (job ∷ jobs) = go (not (job.id == id)) (count_without id jobs)
  where
    go : (b : Bool) → count_claims (without_job id jobs) ≤ count_claims jobs →
        count_claims (cond b (job ∷ without_job id jobs) (without_job id jobs)) ≤ count_claims (job ∷ jobs)
    go true rest =
        let a = sum_by-cons (λ (j : Job). length j.claims) job (without_job id jobs) in
        let b = sum_by-cons (λ (j : Job). length j.claims) job jobs in
        omega (arith, rest, a, b)
    go false rest = let b = sum_by-cons (λ (j : Job). length j.claims) job jobs in omega (arith, rest, b)

abbrev HasFew : State → Type 0
HasFew s = count_claims s.jobs ≤ s.claim_count

few_after : (s : State) (c : Command) (r : Reply) → HasFew s → HasFew (after s c r)
few_after s c (reply.Allocated job) few = let more = count_push s.jobs job in omega (arith, more, few)
few_after s c (reply.Reserved job) few = let more = count_push s.jobs job in omega (arith, more, few)
few_after s (command.Cancel id) reply.Cancelled few = let less = count_without id s.jobs in omega (arith, less, few)
few_after s c reply.Cancelled few = few
few_after s c (reply.Now at) few = few
few_after s c r few = few

few_left : (s : State) (journal : List Entry) → HasFew s → HasFew (state_after s journal)
few_left s [] few = few
few_left s (e ∷ journal) few = few_left (after s e.command e.reply) journal (few_after s e.command e.reply few)

-- a change by fewer claims costs no more
pub change_grows : (book : BookState) (claims most old new : ℕ) →
    claims ≤ most → new ≤ old + change_cost_of book claims → new ≤ old + change_cost_of book most
change_grows book claims most old new le work =
    let rules = 1 + length (rules_of book) in
    let b = dig (2 * (accounts_of book).count + len (rows_of book) + 4) in
    let a : 8192 * (claims + 1) ≤ 8192 * (most + 1) = omega (arith, le) in
    let more : 8192 * (claims + 1) * rules * b ≤ 8192 * (most + 1) * rules * b =
    mul-le-mul_right b (mul-le-mul_right rules a) in
    omega (arith, work, more)

-- the products of the bounds
judge_sum : (claims entries b : ℕ) →
    (1024 * claims + 6 * entries + 16) * b ≡ 1024 * (claims * b) + 6 * (entries * b) + 16 * b
judge_sum claims entries b = grind arith

commit_sum : (claims rules b : ℕ) → 16384 * (claims + 1) * (1 + rules) * b
    ≡ 16384 * (claims * b) + 16384 * (rules * (claims * b)) + 16384 * b + 16384 * (rules * b)
commit_sum claims rules b = grind arith

entry_sum : (entries b : ℕ) → 16 * entries * b ≡ 16 * (entries * b)
entry_sum entries b = grind arith

module _ (site : Site) (kept : Kept) (core : IsCore site kept) where
  abbrev course : Course
  course = record { setting = setting_in site kept; journal = journal_in kept }

  abbrev book_digits : ℕ
  book_digits = dig (2 * (accounts_of kept.book).count + len (rows_of kept.book) + 4)

  -- the trees of the book hold no more than the course tells
  book_within : (claims : ℕ) → book_digits ≤ digits_of course claims
  book_within claims =
      let count = core.book-of.jobs.accounts_are.count in
      let few : count_claims (left_by (journal_in kept)).jobs ≤ (left_by (journal_in kept)).claim_count =
      few_left first_state (journal_in kept) (omega arith) in
      let rows = core.book-of.few in
      dig_mono _ _ (omega (arith, count, few, rows))

  rows_within : (claims : ℕ) → dig (len (rows_of kept.book) + 2) ≤ digits_of course claims
  rows_within claims = let rows = core.book-of.few in dig_mono _ _ (omega (arith, rows))

  entries_within : (claims : ℕ) → dig (length (journal_in kept) + 1) ≤ digits_of course claims
  entries_within claims = dig_mono _ _ (omega arith)

  pub judge_covered : (command : Command) (snap : Course) (place : ℕ) (verdict : Verdict) (old new : ℕ) →
      new ≤ old + (2 * cost_of kept.book * length
      (claims_found verdict) + 3 * scan_most (journal_in kept) place + 16 * dig (len (rows_of kept.book) + 2)) →
      new ≤ old + judge_most course (record { command = command; snap = snap; place = place; verdict = verdict })
  judge_covered command snap place verdict old new work =
      let claims = length (claims_found verdict) in
      let entries = length (journal_in kept) - place in
      let b = digits_of course claims in
      let looks : book_digits * claims ≤ b * claims = mul-le-mul_right claims (book_within claims) in
      let turned : b * claims ≡ claims * b = grind arith in
      let opened : 2 * cost_of kept.book * claims ≡ 1024 * (book_digits * claims) = grind arith in
      let scans : dig (length (journal_in kept) + 1) * entries ≤ b * entries =
      mul-le-mul_right entries (entries_within claims) in
      let around : b * entries ≡ entries * b = grind arith in
      let walked : 3 * scan_most (journal_in kept) place ≡ 6 * (dig (length (journal_in kept) + 1) * entries) =
      grind arith in
      let ids = rows_within claims in
      let sum = judge_sum claims entries b in
      omega (arith, work, looks, turned, opened, scans, around, walked, ids, sum)

  pub append_covered : (claims old new : ℕ) →
      new ≤ old + (change_cost_of kept.book claims + 2 * dig (length (journal_in kept) + 1)) →
      new ≤ old + append_most course claims
  append_covered claims old new work =
      let rules = length (rules_of kept.book) in
      let pairs : length (setting_in site kept).rules ≡ rules = length-map (rules_of kept.book) pair_of in
      let same = ap (λ (n : ℕ). 8192 * (claims + 1) * (1 + n) * digits_of course claims) pairs in
      let entries = entries_within claims in
      let more : 8192 * (claims + 1) * (1 + rules) * book_digits ≤ 8192 * (claims + 1) * (1 + rules) * digits_of
      course claims = mul-le-mul_left (8192 * (claims + 1) * (1 + rules)) (book_within claims) in
      omega (arith, work, entries, more, same)

-- what is told of a candidate, and the entry
pub commit_covered : (course : Course) (c : Searched) (old mid new : ℕ) → mid ≤ old + judge_most course c →
    new ≤ mid + append_most course (length (claims_found c.verdict)) → new ≤ old + commit_most course c
commit_covered course c old mid new told added =
    let claims = length (claims_found c.verdict) in
    let entries = length course.journal - c.place in
    let rules = length course.setting.rules in
    let b = digits_of course claims in
    let j = judge_sum claims entries b in
    let a = change_sum claims rules b in
    let k = commit_sum claims rules b in
    let e = entry_sum entries b in
    omega (arith, told, added, j, a, k, e)

-- a candidate that is overtaken
pub told_covered : (course : Course) (c : Searched) (old new : ℕ) →
    new ≤ old + judge_most course c → new ≤ old + commit_most course c
told_covered course c old new told = commit_covered course c old new new told (omega arith)
