use Rattle.std.proofs.Common.{refl}
use Rattle.sched_core.proofs.SharedCore.{same_setting, shared_core}
use Rattle.sched_core.proofs.sharing.shared.Goals as goal

pub returns-clause-core : goal.returns-clause-core
returns-clause-core c =
    let book = c.in_ok-book.ensures in
    shared_core c.args.site.now _ c.args.kept.now _ c.requires c.in_ok-graph.ensures refl refl book.setting
    c.in_ok-journal.ensures book.moment book.rows book.jobs refl

pub returns-clause-setting : goal.returns-clause-setting
returns-clause-setting c =
    same_setting _ _ _ _ _ _ _ _ c.in_ok-graph.ensures c.in_ok-book.ensures.setting.rules refl refl
