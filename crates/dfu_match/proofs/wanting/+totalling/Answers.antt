use Rattle.dfu_match.proofs.DemandLaws.{count_Vert, count_Spread}
use Rattle.dfu_match.proofs.wanting.+totalling.Goals as goal

pub count_of-returns-in-Vert : goal.count_of-returns-in-Vert
count_of-returns-in-Vert t c =
    rw c.in-Vert.is (count_Vert c.in-Vert.kind c.in-Vert.count c.in-Vert.hold c.in-Vert.needs c.count_all.result
    c.saturating_add.result c.count_all.ensures c.saturating_add.ensures)

pub count_of-returns-in-Spread : goal.count_of-returns-in-Spread
count_of-returns-in-Spread t c =
    rw c.in-Spread.is (count_Spread c.in-Spread.count c.in-Spread.needs c.count_all-in-Spread.result
    c.saturating_add-in-Spread.result c.count_all-in-Spread.ensures c.saturating_add-in-Spread.ensures)
