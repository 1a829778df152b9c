use Rattle.std.proofs.Common.{ℕ, List, sym, ◌∙◌, subst}
use Rattle.std.specs.List.Sorted.{IsStrictlyIncreasing}
use Rattle.std.proofs.lemmas.Map.Keys.{sorted_from_strictly_increasing}
use Rattle.resource_set_r.proofs.SetLaws.{rising_itself}
use Rattle.resource_set_r.proofs.sets.in_order.Goals as goal

pub returns-then-do_rise : goal.returns-then-do_rise
returns-then-do_rise c =
    let numbers = c.args.numbers.items in
    let up : IsStrictlyIncreasing numbers = subst (λ (l : List ℕ). IsStrictlyIncreasing l) c.as_slice.ensures.value
    (c.do_rise.ensures c.if-do_rise.true) in
    c.of_vec.ensures ∙ sym (rising_itself numbers (sorted_from_strictly_increasing numbers up))
