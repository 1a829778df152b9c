use Rattle.std.proofs.Common.{◌∙◌, sym, ap, ◌++◌, ◌∷◌, [], ◌+◌, ◌-◌, arith, append_assoc}
use Rattle.idset_text.specs.Idsets.{ids_from}
use Rattle.resource_set_r.proofs.Filtered.{ids_step}
use Rattle.graph_from_r.proofs.ids.add_ids.Goals as goal

pub one_by_one-preserved : goal.one_by_one-preserved
one_by_one-preserved c =
    let id = c.one_by_one.id in
    let end = c.args.range.now.hi + 1 in
    let rest = ids_from (end - (id + 1)) (id + 1) in
    ap (λ ids. ids ++ rest) c.in_ok-push.ensures.items
    ∙ (append_assoc c.one_by_one.ids.items (id ∷ []) rest
    ∙ (ap (λ ids. c.one_by_one.ids.items ++ ids) (sym (ids_step id end (omega arith)))
    ∙ c.one_by_one.invariant))
