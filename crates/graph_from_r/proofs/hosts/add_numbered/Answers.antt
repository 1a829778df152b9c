use Rattle.std.proofs.Common.{◌∙◌, sym, ap, ◌++◌, ◌∷◌, [], ◌+◌, ◌-◌, arith, append_assoc, map, ℕ, List}
use Rattle.idset_text.specs.Hostlists.{padded, names_from}
use Rattle.resource_set_r.proofs.Filtered.{ids_step}
use Rattle.graph_from_r.proofs.hosts.add_numbered.Goals as goal

pub numbers-preserved : goal.numbers-preserved
numbers-preserved c =
    let number = c.numbers.number in
    let end = c.args.hi + 1 in
    let prefix = c.args.prefix.now in
    let width = c.args.width in
    let old = c.numbers.names.items in
    let rest = names_from prefix width (end - (number + 1)) (number + 1) in
    ap (λ (ns : List (List ℕ)). ns ++ rest) c.in_ok-push.ensures.ok
    ∙ (append_assoc old (c.in_ok-numbered.field-0 ∷ []) rest
    ∙ (ap (λ (n : List ℕ). old ++ (n ∷ rest)) c.in_ok-numbered.ensures
    ∙ (ap (λ ids. old ++ map (λ n. prefix ++ padded width n) ids) (sym (ids_step number end (omega arith)))
    ∙ c.numbers.invariant)))
