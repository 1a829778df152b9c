-- The book of a journal with one entry more.
use Rattle.std.proofs.Common.{◌≡◌, ℕ, List, [], ◌∷◌, ◌++◌, length, length-append, Option, Some, None, inl}
use Rattle.std.proofs.Common.{inr, refl, sym, ◌∙◌, ap, subst, arith, Contains, ◌+◌, ◌≤◌}
use Rattle.std.specs.FinMap.{get, insert, len}
use Rattle.std.proofs.lemmas.Bool.Decides.{eqb_tells}
use Rattle.std.proofs.lemmas.List.Elements.{Contains-push, Contains-append_left, Contains-push_cases}
use Rattle.flux_defs.specs.declared.claims.Job.{Job}
use Rattle.flux_defs.specs.declared.journal.Command.{Command}
use Rattle.flux_defs.specs.declared.journal.Command.TheVariants as command
use Rattle.flux_defs.specs.declared.journal.Reply.{Reply}
use Rattle.flux_defs.specs.declared.journal.Reply.TheVariants as reply
use Rattle.flux_defs.specs.declared.journal.Entry.{Entry}
use Rattle.flux_defs.specs.Scheduler.{Setting, State, first_state, job_with, with_job, without_job, after, after_cancel}
use Rattle.flux_defs.specs.Scheduler.{Replies}
use Rattle.flux_defs.specs.Histories.{state_after, IsLegalFrom}
use Rattle.flux_defs.specs.Overtaken.{HasAccepted}
use Rattle.job_table.specs.declared.tables.Row.{Row}
use Rattle.job_table.specs.Rows.{live_row, cancelled_row}
use Rattle.job_table.proofs.RowLaws.{get_same, get_other}
use Rattle.book_state.specs.declared.held.BookState.{BookState}
use Rattle.book_state.specs.Books.{moment_of, rows_of, StandsFor}
use Rattle.book_state.proofs.BookLaws.{more_rows, same_rows}
use Rattle.sched_core.specs.Courses.{left_by, IsRowOf, IsBookAt, IsBookOf}
use Rattle.sched_core.specs.Answered.{ChangesNothing}
use Rattle.sched_core.proofs.JobLaws.{Told, row_found, row_none, with_other, with_new, gone, stays}
use Rattle.list_laws.proofs.Lists.{get_last, get_old}

-- the state after one entry more
state_snoc : (s : State) (journal : List Entry) (e : Entry) →
    state_after s (journal ++ e ∷ []) ≡ after (state_after s journal) e.command e.reply
state_snoc s [] e = refl
state_snoc s (x ∷ xs) e = state_snoc (after s x.command x.reply) xs e

pub left_snoc : (journal : List Entry) (e : Entry) →
    left_by (journal ++ e ∷ []) ≡ after (left_by journal) e.command e.reply
left_snoc journal e = state_snoc first_state journal e

-- a legal history stays legal with one more reply
pub legal_snoc : (g : Setting) (s : State) (journal : List Entry) (e : Entry) →
    IsLegalFrom g s journal → Replies g (state_after s journal) e.command e.reply → IsLegalFrom g s (journal ++ e ∷ [])
legal_snoc g s [] e legal reply = (reply, tt)
legal_snoc g s (x ∷ xs) e legal reply = (legal.0, legal_snoc g (after s x.command x.reply) xs e legal.1 reply)

module _ (journal : List Entry) (e : Entry) (s t : State)
    (id : ℕ) (up : Contains s.used id → Contains t.used id) (down : Contains t.used id → Contains s.used id)
    (same : job_with id t.jobs ≡ job_with id s.jobs) where
  told_more : (found : Option Row) → Told journal s id found → Told (journal ++ e ∷ []) t id found
  told_more None told = record { unused = λ h. told.unused (down h); none = same ∙ told.none }
  told_more (Some row) told = record {
    job = told.job;
    id-is = told.id-is;
    entry = told.entry;
    there = get_old journal e told.entry row.at told.there;
    accepted = told.accepted;
    used = up told.used;
    left = same ∙ told.left;
  }

told_as : (journal : List Entry) (s : State) (id : ℕ) (found other : Option Row) →
    other ≡ found → Told journal s id found → Told journal s id other
told_as journal s id found other is told = subst (Told journal s id) (sym is) told

module _ (journal : List Entry) (e : Entry) (s : State) (book next : BookState) (at : IsBookAt journal s book) where
  -- one row more at most
  more_few : (new old : ℕ) → new ≡ old → old ≤ len (rows_of book) + 1 → new ≤ length (journal ++ e ∷ [])
  more_few new old is one = let few = at.few in
      let longer = length-append journal (e ∷ []) in omega (arith, is, one, few, longer)

  -- a job was accepted
  accepted_at : (job : Job) → HasAccepted e job → get (rows_of book) job.id ≡ None →
      moment_of next ≡ moment_of book → rows_of next ≡ insert (rows_of book) job.id (live_row (length journal)) →
      StandsFor next (s.jobs ++ job ∷ []) → IsBookAt (journal ++ e ∷ []) (with_job s job) next
  accepted_at job accepted fresh moment rows jobs = record {
    jobs = jobs;
    moment = moment ∙ at.moment;
    table = λ k. elim (eqb_tells k job.id) [
      | inl y ↦ subst (λ (x : ℕ). Told (journal ++ e ∷ []) (with_job s job) x (get (rows_of next) x)) (sym y.1) own
      | inr n ↦ told_as (journal ++ e ∷ []) (with_job s job) k (get (rows_of book) k) (get (rows_of next) k)
          (ap (λ r. get r k) rows ∙ get_other (rows_of book) job.id (live_row (length journal)) k n.1)
          (told_more journal e s (with_job s job) k
          (λ h. Contains-append_left s.used (job.id ∷ []) k h) (λ h. elim (Contains-push_cases s.used job.id k h) [
            | inl x ↦ x
            | inr y ↦ absurd (n.1 (sym y))
          ])
          (with_other k s.jobs job (λ f. n.1 (sym f))) (get (rows_of book) k) (at.table k))
    ];
    few = more_few (len (rows_of next)) (len (rows_of book) + 1)
        (ap len rows ∙ more_rows (rows_of book) job.id (live_row (length journal)) fresh) (omega arith);
  }
    where
      own : Told (journal ++ e ∷ []) (with_job s job) job.id (get (rows_of next) job.id)
      own = told_as (journal ++ e ∷ []) (with_job s job) job.id (Some (live_row (length journal))) (get (rows_of next)
          job.id) (ap (λ r. get r job.id) rows ∙ get_same (rows_of book) job.id (live_row (length journal)))
          (record {
            job = job;
            id-is = refl;
            entry = e;
            there = get_last journal e;
            accepted = accepted;
            used = Contains-push s.used job.id;
            left = with_new s.jobs job
                (row_none journal s job.id (get (rows_of book) job.id) fresh (at.table job.id)).none;
          })

  -- a job was cancelled
  cancelled_at : (id place : ℕ) → get (rows_of book) id ≡ Some (live_row place) →
      moment_of next ≡ moment_of book → rows_of next ≡ insert (rows_of book) id (cancelled_row place) →
      StandsFor next (without_job id s.jobs) →
      IsBookAt (journal ++ e ∷ []) (record s { jobs = without_job id s.jobs }) next
  cancelled_at id place live moment rows jobs = record {
    jobs = jobs;
    moment = moment ∙ at.moment;
    table = λ k. elim (eqb_tells k id) [
      | inl y ↦ subst (λ (x : ℕ). Told (journal ++ e ∷ []) t x (get (rows_of next) x)) (sym y.1) own
      | inr n ↦ told_as (journal ++ e ∷ []) t k (get (rows_of book) k)
          (get (rows_of next) k) (ap (λ r. get r k) rows ∙ get_other (rows_of book) id (cancelled_row place) k n.1)
          (told_more journal e s t k (λ h. h) (λ h. h) (stays id k s.jobs n.1) (get (rows_of book) k) (at.table k))
    ];
    few = more_few (len (rows_of next)) (len (rows_of book))
        (ap len rows ∙ same_rows (rows_of book) id (cancelled_row place) (live_row place) live) (omega arith);
  }
    where
      t : State
      t = record s { jobs = without_job id s.jobs }

      was : IsRowOf journal s id (live_row place)
      was = row_found journal s id (get (rows_of book) id) (live_row place) live (at.table id)

      own : Told (journal ++ e ∷ []) t id (get (rows_of next) id)
      own = told_as (journal ++ e ∷ []) t id (Some (cancelled_row place))
          (get (rows_of next) id) (ap (λ r. get r id) rows ∙ get_same (rows_of book) id (cancelled_row place))
          (record {
            job = was.job;
            id-is = was.id-is;
            entry = was.entry;
            there = get_old journal e was.entry place was.there;
            accepted = was.accepted;
            used = was.used;
            left = gone id s.jobs;
          })

  -- time moved on
  moved_at : (m : ℕ) → moment_of next ≡ m →
      rows_of next ≡ rows_of book → StandsFor next s.jobs → IsBookAt (journal ++ e ∷ []) (record s { moment = m }) next
  moved_at m moment rows jobs = record {
    jobs = jobs;
    moment = moment;
    table = λ k. told_as (journal ++ e ∷ [])
        (record s { moment = m }) k (get (rows_of book) k) (get (rows_of next) k) (ap (λ r. get r k) rows)
        (told_more journal e s (record s { moment = m }) k (λ h. h) (λ h. h) refl (get (rows_of book) k) (at.table k));
    few = more_few (len (rows_of next)) (len (rows_of book)) (ap len rows) (omega arith);
  }

after_nothing : (s : State) (c : Command) (r : Reply) → ChangesNothing r → after s c r ≡ s
after_nothing s c (reply.Allocated job) h = elim h [ ]
after_nothing s c (reply.Reserved job) h = elim h [ ]
after_nothing s c reply.Cancelled h = elim h [ ]
after_nothing s c (reply.Now at) h = elim h [ ]
after_nothing s c r h = refl

module _ (journal : List Entry) (e : Entry) (book next : BookState) (of : IsBookOf journal book) where
  along : (t : State) → after (left_by journal) e.command e.reply ≡ t →
      IsBookAt (journal ++ e ∷ []) t next → IsBookOf (journal ++ e ∷ []) next
  along t is h = subst (λ (x : State). IsBookAt (journal ++ e ∷ []) x next) (sym (left_snoc journal e ∙ is)) h

  accepted_is : (job : Job) →
      HasAccepted e job → after (left_by journal) e.command e.reply ≡ with_job (left_by journal) job
  accepted_is job (inl is) = ap (λ r. after (left_by journal) e.command r) is
  accepted_is job (inr is) = ap (λ r. after (left_by journal) e.command r) is

  pub book_accepted : (job : Job) → HasAccepted e job → get (rows_of book) job.id ≡ None →
      moment_of next ≡ moment_of book → rows_of next ≡ insert (rows_of book) job.id (live_row (length journal)) →
      StandsFor next ((left_by journal).jobs ++ job ∷ []) → IsBookOf (journal ++ e ∷ []) next
  book_accepted job accepted fresh moment rows jobs = along _ (accepted_is job accepted)
      (accepted_at journal e (left_by journal) book next of job accepted fresh moment rows jobs)

  pub book_cancelled : (id place : ℕ) → e.command ≡ command.Cancel id →
      e.reply ≡ reply.Cancelled → get (rows_of book) id ≡ Some (live_row place) → moment_of next ≡ moment_of book →
      rows_of next ≡ insert (rows_of book) id (cancelled_row place) →
      StandsFor next (without_job id (left_by journal).jobs) → IsBookOf (journal ++ e ∷ []) next
  book_cancelled id place commanded replied live moment rows jobs =
      along _ (ap (λ r. after (left_by journal) e.command r) replied ∙ ap (λ c. after_cancel (left_by journal) c)
      commanded) (cancelled_at journal e (left_by journal) book next of id place live moment rows jobs)

  pub book_moved : (m : ℕ) → e.reply ≡ reply.Now m → moment_of next ≡ m →
      rows_of next ≡ rows_of book → StandsFor next (left_by journal).jobs → IsBookOf (journal ++ e ∷ []) next
  book_moved m replied moment rows jobs = along _ (ap (λ r. after (left_by journal) e.command r) replied)
      (moved_at journal e (left_by journal) book next of m moment rows jobs)

  pub book_stays : ChangesNothing e.reply → moment_of next ≡ moment_of book →
      rows_of next ≡ rows_of book → StandsFor next (left_by journal).jobs → IsBookOf (journal ++ e ∷ []) next
  book_stays nothing moment rows jobs =
      along _ (after_nothing (left_by journal) e.command e.reply nothing)
      (moved_at journal e (left_by journal) book next of (left_by journal).moment (moment ∙ of.moment) rows jobs)
