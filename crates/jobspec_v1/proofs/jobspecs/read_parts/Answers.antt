use Rattle.std.proofs.Common.{rules}
use Rattle.jobspec_v1.proofs.PartLaws.{is_read_as}
use Rattle.jobspec_v1.proofs.jobspecs.read_parts.Goals as goal

pub returns-in-Ok-clause-value : goal.returns-in-Ok-clause-value
returns-in-Ok-clause-value c = search (rules, is_read_as)
