use Rattle.job_table.proofs.KeyLaws.{first_level, first_row}
use Rattle.job_table.proofs.parts.Branch.of.Goals as goal

pub returns-clause-level : goal.returns-clause-level
returns-clause-level c = first_level c.vacant-branch.result c.args.key c.args.below c.args.row _
    c.vacant-branch.ensures.parts c.entry.ensures c.vacant-branch.ensures.below c.requires

pub returns-clause-sets : goal.returns-clause-sets
returns-clause-sets c = first_row c.vacant-branch.result c.args.key c.args.below c.args.row _
    c.vacant-branch.ensures.parts c.entry.ensures
