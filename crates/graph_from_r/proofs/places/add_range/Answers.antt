use Rattle.std.proofs.Common.{◌∙◌, sym, ap, ◌++◌, ◌∷◌, [], ◌+◌, ◌-◌, arith, append_assoc}
use Rattle.idset_text.specs.Idsets.{ids_from}
use Rattle.resource_set_r.proofs.Filtered.{ids_step}
use Rattle.graph_from_r.specs.Places.{placed}
use Rattle.graph_from_r.proofs.places.add_range.Goals as goal

pub ranks-preserved : goal.ranks-preserved
ranks-preserved c =
    let rank = c.ranks.rank in
    let end = c.args.hi + 1 in
    let row = c.args.row in
    let rest = placed row (ids_from (end - (rank + 1)) (rank + 1)) in
    ap (λ ps. ps ++ rest) c.in_ok-push.ensures.items
    ∙ (append_assoc c.ranks.places.items (placed row (rank ∷ [])) rest
    ∙ (ap (λ ids. c.ranks.places.items ++ placed row ids) (sym (ids_step rank end (omega arith)))
    ∙ c.ranks.invariant))
