use Rattle.json_whole.proofs.Numerals.{first_run_bytes}
use Rattle.json_whole.proofs.runs.first_run.Goals as goal

pub returns-clause-bytes : goal.returns-clause-bytes
returns-clause-bytes c = rw c.run_len.ensures.count (first_run_bytes c.args.text.now)
