use Rattle.std.proofs.lemmas.Result.{IfOk-weaker}
use Rattle.json.specs.Value.{value_view}
use Rattle.json_whole.specs.Values.{view}
use Rattle.json_whole.proofs.Agreeing.{whole_is_part}
use Rattle.json_whole.proofs.Trees.{data_of-no_float}
use Rattle.json_whole.proofs.values.read_bytes_part.Goals as goal

pub returns-in-Ok-clause-whole : goal.returns-in-Ok-clause-whole
returns-in-Ok-clause-whole c = data_of-no_float (value_view c.in-Ok.value)

pub returns-in-Err-Other-clause-value : goal.returns-in-Err-Other-clause-value
returns-in-Err-Other-clause-value c =
    IfOk-weaker c.read_other.result _ _
    (λ v is. whole_is_part c.args.wanted.now c.args.bytes.now (view v) is) c.read_other.ensures.value
