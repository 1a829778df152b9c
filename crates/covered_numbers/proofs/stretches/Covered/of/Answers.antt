use Rattle.std.proofs.Common.{◌≡◌, List, rules, subst, sym, ap, ◌∙◌}
use Rattle.std.specs.List.Sorted.{IsNonDecreasingBy}
use Rattle.std.proofs.lemmas.List.Sorted.{IsNonDecreasingBy-from_sort_by_key}
use Rattle.covered_numbers.specs.declared.stretches.Stretch.{Stretch}
use Rattle.covered_numbers.specs.Covers.{is_covered, raised}
use Rattle.covered_numbers.proofs.CoverLaws.{in_order, rises, longer_begin, longer_end, same_numbers}
use Rattle.covered_numbers.proofs.stretches.Covered.of.Goals as goal

pub invariant_of-result : goal.invariant_of-result
invariant_of-result c =
    let sorted = c.sort_unstable_by_key.new.self.items in
    let value : c.as_slice.result.now ≡ sorted = c.as_slice.ensures.value in
    let is : c.in_ok-longer.longer.items ≡ raised 0 sorted = c.in_ok-longer.ensures ∙ ap (raised 0) value in
    let up : IsNonDecreasingBy (λ (s : Stretch). s.first) sorted
    = IsNonDecreasingBy-from_sort_by_key (λ (s : Stretch). s.first) sorted c.sort_unstable_by_key.ensures.sorted
    (λ a r q k. search rules) in (
      subst (IsNonDecreasingBy (λ (s : Stretch). s.first)) (sym is)
          (in_order (λ (s : Stretch). s.first) 0 (raised 0 sorted)
          (longer_begin 0 0 sorted (rises (λ (s : Stretch). s.first) sorted up))),
      (
        subst (IsNonDecreasingBy (λ (s : Stretch). s.last)) (sym is)
            (in_order (λ (s : Stretch). s.last) 0 (raised 0 sorted) (longer_end 0 sorted)),
        tt,
      ),
    )

pub returns : goal.returns
returns c number =
    let sorted = c.sort_unstable_by_key.new.self.items in
    let value : c.as_slice.result.now ≡ sorted = c.as_slice.ensures.value in
    let is : c.in_ok-longer.longer.items ≡ raised 0 sorted = c.in_ok-longer.ensures ∙ ap (raised 0) value in
    let up : IsNonDecreasingBy (λ (s : Stretch). s.first) sorted
    = IsNonDecreasingBy-from_sort_by_key (λ (s : Stretch). s.first) sorted c.sort_unstable_by_key.ensures.sorted
    (λ a r q k. search rules) in
    subst (λ (l : List Stretch). is_covered l number ≡ is_covered c.args.stretches.items number) (sym is)
    (same_numbers c.args.stretches.items sorted number c.sort_unstable_by_key.ensures.permutation up)
