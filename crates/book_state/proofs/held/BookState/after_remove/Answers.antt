use Rattle.std.proofs.Common.{◌≡◌, ℕ, ◌+◌, ◌≤◌, ◌++◌, ◌∷◌, Some, length, sym, subst, ◌∙◌, ap}
use Rattle.std.proofs.lemmas.Result.{IfOk-weaker}
use Rattle.std.specs.Ordering.{nat_cmp}
use Rattle.std.specs.FinMap.{FinMap, get, insert}
use Rattle.job_table.specs.declared.tables.Row.{Row}
use Rattle.job_table.specs.Rows.{live_row, cancelled_row, HasLiveRow}
use Rattle.book_state.proofs.ShareLaws.{stands_along, cost_along, one_setting}
use Rattle.book_state.proofs.held.BookState.after_remove.Goals as goal

pub into_removed-requires-clause-there : goal.into_removed-requires-clause-there
into_removed-requires-clause-there g c =
    let (jobs, x, has) = c.requires.there in (
      jobs,
      stands_along c.args.self.now c.in_ok-same.same c.in_ok-same.ensures.setting c.in_ok-same.ensures.rows
          c.in_ok-same.ensures.parts jobs x,
      has,
    )

pub into_removed-requires-clause-live : goal.into_removed-requires-clause-live
into_removed-requires-clause-live g c =
    subst (λ (t : FinMap nat_cmp Row). HasLiveRow t c.args.job.now.id) (sym c.in_ok-same.ensures.rows) c.requires.live

pub returns-clause-setting : goal.returns-clause-setting
returns-clause-setting g c =
    IfOk-weaker c.into_removed.result _ _ (λ b one. one_setting c.args.self.now c.in_ok-same.same b
    c.in_ok-same.ensures.setting one) c.into_removed.ensures.setting

pub returns-clause-moment : goal.returns-clause-moment
returns-clause-moment g c =
    IfOk-weaker c.into_removed.result _ _ (λ b e. e ∙ c.in_ok-same.ensures.moment) c.into_removed.ensures.moment

pub returns-clause-rows : goal.returns-clause-rows
returns-clause-rows g c =
    let rows = c.in_ok-same.ensures.rows in
    IfOk-weaker c.into_removed.result _ _ (λ b f at live. f at
    (subst (λ (t : FinMap nat_cmp Row). get t c.args.job.now.id ≡ Some (live_row at)) (sym rows) live)
    ∙ ap (λ (t : FinMap nat_cmp Row). insert t c.args.job.now.id (cancelled_row at)) rows) c.into_removed.ensures.rows

pub returns-clause-jobs : goal.returns-clause-jobs
returns-clause-jobs g c =
    IfOk-weaker c.into_removed.result _ _ (λ b f jobs x has. f jobs
    (stands_along c.args.self.now c.in_ok-same.same c.in_ok-same.ensures.setting c.in_ok-same.ensures.rows
    c.in_ok-same.ensures.parts jobs x) has) c.into_removed.ensures.jobs

pub returns-clause-once : goal.returns-clause-once
returns-clause-once g c =
    IfOk-weaker c.into_removed.result _ _ (λ b f before after x. f before after
    (stands_along c.args.self.now c.in_ok-same.same c.in_ok-same.ensures.setting c.in_ok-same.ensures.rows
    c.in_ok-same.ensures.parts (before ++ c.args.job.now ∷ after) x)) c.into_removed.ensures.once

pub returns-clause-work : goal.returns-clause-work
returns-clause-work g c =
    let same = cost_along c.args.self.now c.in_ok-same.same c.in_ok-same.ensures.setting c.in_ok-same.ensures.rows
    c.in_ok-same.ensures.parts (length c.args.job.now.claims) in
    subst (λ (n : ℕ). c.into_removed.new.steps ≤ c.args.steps.now + n) same c.into_removed.ensures.work
