use Rattle.std.proofs.Common.{◌≡◌, ◌<◌, length, get_or, Some, sym, ◌∙◌, ap, refl, arith}
use Rattle.std.specs.Prelude.{slice_get}
use Rattle.std.proofs.lemmas.List.{length-set}
use Rattle.std.proofs.lemmas.Option.{slice_get-get_or, slice_get_read}
use Rattle.graph_build.proofs.MadeLaws.{arranged_more, slots_stay}
use Rattle.graph_build.proofs.arrange.arranged.Goals as goal

pub loop-at-preserved : goal.loop-at-preserved
loop-at-preserved c =
    let order = c.args.order.now in
    let most = c.loop-at.at-index in
    let i = get_or order most 0 in
    let slots = c.loop-at.slots.items in
    let at : slice_get order most ≡ Some i = slice_get-get_or order most 0 (omega arith) in
    let value = c.in-Some.ensures.value in
    let index = c.index_mut.ensures.value in
    let i_in : i < length slots = (let low : i < length c.args.raw.items = c.requires.known most i at in
    let long = c.loop-at.invariant.as_many in omega arith) in
    let gives = sym (c.loop-at.invariant.left most i (omega arith) at)
    ∙ (slice_get_read slots (length slots) i c.index_mut.result.now refl i_in index ∙ ap Some (sym value)) in
    record {
      taken = arranged_more c.args.raw.items order most i c.loop-at.list.items c.push.new.self.items
          c.in-Some.vertex at gives c.in_ok-push.ensures.items c.loop-at.invariant.taken;
      as_many = length-set slots i c.take-slot.new.self ∙ c.loop-at.invariant.as_many;
      left = slots_stay c.args.raw.items order (length c.args.raw.items) most i slots c.take-slot.new.self c.requires
          at c.loop-at.invariant.left;
    }
