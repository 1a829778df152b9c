use Rattle.std.proofs.Common.{length, refl}
use Rattle.std.proofs.lemmas.Option.{slice_get_read}
use Rattle.vertex_planners.proofs.RowLaws.{left_later, none_later, none_of_all}
use Rattle.vertex_planners.proofs.rows.last_of.Goals as goal

pub loop-amounts-preserved : goal.loop-amounts-preserved
loop-amounts-preserved c =
    let places = c.args.places.now in
    let i = c.loop-amounts.amounts-index in
    let there =
    slice_get_read places (length places) i c.amounts-item.result refl c.loop-amounts-test.true c.amounts-item.is in
    record {
      some = left_later places i c.amounts-item.result there c.loop-amounts.last c.last.result c.later-last.result
          c.loop-amounts.invariant.some c.last.ensures.some c.later-last.ensures.some;
      none = none_later places i c.amounts-item.result there c.loop-amounts.last c.last.result c.later-last.result
          c.loop-amounts.invariant.none c.last.ensures.none c.later-last.ensures.none;
    }

pub returns-clause-none : goal.returns-clause-none
returns-clause-none c = none_of_all c.args.places.now c.loop-amounts.amounts-index c.loop-amounts.last
    c.loop-amounts-test.false c.loop-amounts.invariant.none
