use Rattle.std.proofs.Common.{ap, ◌∙◌, map}
use Rattle.graph_json.proofs.Sets.{insert_key-now}
use Rattle.graph_json.proofs.raw_lists.add_text.Goals as goal

pub returns : goal.returns
returns c = ap (map (λ s. s.now)) c.in_ok-insert.ensures.keys ∙ insert_key-now c.args.set.now.keys c.args.text
