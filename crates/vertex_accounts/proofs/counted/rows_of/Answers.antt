use Rattle.std.proofs.Common.{length, refl}
use Rattle.std.proofs.lemmas.Option.{slice_get_read}
use Rattle.vertex_planners.specs.Rows.{places_of}
use Rattle.vertex_accounts.proofs.CountLaws.{one_number}
use Rattle.vertex_accounts.proofs.counted.rows_of.Goals as goal

pub loop-quantity-preserved : goal.loop-quantity-preserved
loop-quantity-preserved c =
    one_number c.args.graph.now.resources.vertices
    c.args.quantities.now c.args.claims.now c.loop-quantity.quantity-index
    (places_of c.loop-quantity.rows)
    (places_of c.push.new.self) c.quantity-item.result c.in_ok-amounts.amounts c.loop-quantity.invariant
    (slice_get_read c.args.quantities.now (length c.args.quantities.now)
    c.loop-quantity.quantity-index c.quantity-item.result refl c.loop-quantity-test.true c.quantity-item.is)
    c.in_ok-push.ensures.ok c.in_ok-amounts.ensures.sums
    (c.in_ok-amounts.ensures.keys c.requires.on_vertices) (c.in_ok-amounts.ensures.few c.requires.on_vertices)
