use Rattle.std.proofs.Common.{◌≡◌, ◌∙◌, ap, arith}
use Rattle.std.specs.Prelude.{min}
use Rattle.graph_from_r.specs.Sizes.{vertex_count}
use Rattle.graph_from_r.proofs.Counted.{no_ranks, has_size}
use Rattle.graph_from_r.proofs.reading.check_size.Goals as goal

pub returns-then-count-eq1-clause-fault : goal.returns-then-count-eq1-clause-fault
returns-then-count-eq1-clause-fault c =
    let rows = c.args.set.now.rows in
    let count : c.vertex_count-count.result ≡ min (vertex_count rows) 65537 =
    c.vertex_count-count.ensures ∙ ap (λ rs. min (vertex_count rs) 65537) c.items.ensures in
    no_ranks rows c.vertex_count-count.result count (omega arith)

pub returns-clause-fits : goal.returns-clause-fits
returns-clause-fits c =
    let rows = c.args.set.now.rows in
    let count : c.vertex_count-count.result ≡ min (vertex_count rows) 65537 =
    c.vertex_count-count.ensures ∙ ap (λ rs. min (vertex_count rs) 65537) c.items.ensures in
    has_size c.args.set.now c.vertex_count-count.result count (λ one. omega arith) (omega arith)
