use Rattle.std.proofs.Common.{sym, subst, length}
use Rattle.std.proofs.lemmas.Result.{IfOk-weaker}
use Rattle.graph_build.specs.Checks.{graph_in}
use Rattle.graph_build.specs.Keys.{HasEach, IsDeviceKey}
use Rattle.graph_build.specs.contracts.doubles.DeviceKeyOrd.TheImpl as order
use Rattle.graph_build.proofs.KeyLaws.{finds_double_id}
use Rattle.graph_build.proofs.OrderLaws.{same_device, itself_device}
use Rattle.graph_build.proofs.doubles.first_double_id.Goals as goal

pub returns-clause-first : goal.returns-clause-first
returns-clause-first c =
    let g = graph_in c.args.kinds.now c.args.vertices.now in
    IfOk-weaker c.first_repeated.result _ _
    (finds_double_id c.args.kinds.now c.args.vertices.now order.cmp-value.it same_device itself_device
    c.as_slice.result.now
    (subst (HasEach (IsDeviceKey g) (length c.args.vertices.now)) (sym c.as_slice.ensures.value) c.in_ok-keys.ensures)
    c.requires.apart c.requires.unnested)
    c.first_repeated.ensures.first
