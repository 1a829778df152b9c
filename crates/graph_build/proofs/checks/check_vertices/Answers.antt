use Rattle.std.proofs.Common.{◌++◌, rules}
use Rattle.std.proofs.lemmas.Result.{IfErr-weaker}
use Rattle.graph_build.specs.Checks.{graph_in}
use Rattle.graph_build.specs.Table.{link_rows, chain_rows, size_rows, device_rows, IsFirstIn}
use Rattle.graph_build.proofs.RowLaws.{in_left, in_right}
use Rattle.graph_build.proofs.checks.check_vertices.Goals as goal

pub returns-in_err-check_links-clause-err : goal.returns-in_err-check_links-clause-err
returns-in_err-check_links-clause-err c =
    let g = graph_in c.args.kinds.now c.args.vertices.now in
    IfErr-weaker c.from_residual.result (IsFirstIn (link_rows g)) _
    (in_left (link_rows g) (chain_rows g ++ (size_rows g ++ device_rows g))) (search rules)

pub returns-clause-err : goal.returns-clause-err
returns-clause-err c =
    let g = graph_in c.args.kinds.now c.args.vertices.now in
    IfErr-weaker c.check_devices.result (IsFirstIn (device_rows g)) _
    (λ fault first. in_right (link_rows g) (chain_rows g ++ (size_rows g ++ device_rows g))
    c.in_ok-check_links.ensures.ok fault
    (in_right (chain_rows g) (size_rows g ++ device_rows g) c.in_ok-check_chains.ensures.ok fault
    (in_right (size_rows g) (device_rows g) c.in_ok-check_sizes.ensures.ok fault first)))
    c.check_devices.ensures.err
