use Rattle.std.proofs.Common.{rules}
use Rattle.json_whole.proofs.Numerals.{run_is_utf8}
use Rattle.json_whole.proofs.runs.is_number.Goals as goal

pub returns-in-Err : goal.returns-in-Err
returns-in-Err c = let text = run_is_utf8 c.args.run.now c.requires in search rules
