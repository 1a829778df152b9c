use Rattle.std.proofs.Common.{◌≡◌, ◌-◌, length, List, Some, None, slice_get, is_some, ap, sym, subst}
use Rattle.vertex_planners.specs.declared.numbers.Number.{Number}
use Rattle.vertex_planners.proofs.RisingLaws.{kept_at_place, none_in_empty}
use Rattle.vertex_planners.proofs.amounts.Amounts.last.Goals as goal

pub returns-in-Some-clause-some : goal.returns-in-Some-clause-some
returns-in-Some-clause-some c =
    let numbers = c.args.self.now.numbers.items in
    let at : slice_get numbers (length numbers - 1) ≡ Some c.in-Some.number.now =
    subst (λ (l : List Number). slice_get l (length l - 1) ≡ Some c.in-Some.number.now) c.as_slice.ensures.value
    (sym c.in-Some.ensures.value) in
    ap is_some (kept_at_place numbers (length numbers - 1) c.in-Some.number.now c.args.self.now.rising at)

pub returns-in-None-clause-none : goal.returns-in-None-clause-none
returns-in-None-clause-none c = λ v. none_in_empty c.args.self.now.numbers.items v
    (subst (λ (l : List Number). slice_get l (length l - 1) ≡ None) c.as_slice.ensures.value
    (sym c.in-None.ensures.value))
