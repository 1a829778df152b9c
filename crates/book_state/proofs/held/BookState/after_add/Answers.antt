use Rattle.std.proofs.Common.{ℕ, ◌+◌, ◌≤◌, length, subst, ◌∙◌, ap}
use Rattle.std.proofs.lemmas.Result.{IfOk-weaker}
use Rattle.std.specs.Ordering.{nat_cmp}
use Rattle.std.specs.FinMap.{FinMap, insert}
use Rattle.job_table.specs.declared.tables.Row.{Row}
use Rattle.job_table.specs.Rows.{live_row}
use Rattle.book_state.proofs.ShareLaws.{stands_along, may_along, cost_along, one_setting}
use Rattle.book_state.proofs.held.BookState.after_add.Goals as goal

pub into_added-requires : goal.into_added-requires
into_added-requires g c =
    may_along c.args.self.now c.in_ok-same.same c.in_ok-same.ensures.setting c.in_ok-same.ensures.rows
    c.in_ok-same.ensures.parts c.args.job.now c.requires

pub returns-clause-setting : goal.returns-clause-setting
returns-clause-setting g c =
    IfOk-weaker c.into_added.result _ _ (λ b one. one_setting c.args.self.now c.in_ok-same.same b
    c.in_ok-same.ensures.setting one) c.into_added.ensures.setting

pub returns-clause-moment : goal.returns-clause-moment
returns-clause-moment g c =
    IfOk-weaker c.into_added.result _ _ (λ b e. e ∙ c.in_ok-same.ensures.moment) c.into_added.ensures.moment

pub returns-clause-rows : goal.returns-clause-rows
returns-clause-rows g c =
    IfOk-weaker c.into_added.result _ _ (λ b e. e ∙ ap (λ (t : FinMap nat_cmp Row). insert t c.args.job.now.id
    (live_row c.args.at)) c.in_ok-same.ensures.rows) c.into_added.ensures.rows

pub returns-clause-jobs : goal.returns-clause-jobs
returns-clause-jobs g c =
    IfOk-weaker c.into_added.result _ _ (λ b f jobs x. f jobs
    (stands_along c.args.self.now c.in_ok-same.same c.in_ok-same.ensures.setting c.in_ok-same.ensures.rows
    c.in_ok-same.ensures.parts jobs x)) c.into_added.ensures.jobs

pub returns-clause-work : goal.returns-clause-work
returns-clause-work g c =
    let same = cost_along c.args.self.now c.in_ok-same.same c.in_ok-same.ensures.setting c.in_ok-same.ensures.rows
    c.in_ok-same.ensures.parts (length c.args.job.now.claims) in
    subst (λ (n : ℕ). c.into_added.new.steps ≤ c.args.steps.now + n) same c.into_added.ensures.work
