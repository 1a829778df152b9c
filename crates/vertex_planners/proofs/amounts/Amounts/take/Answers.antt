use Rattle.std.proofs.Common.{◌≡◌, ℕ, ◌+◌, None, Some, cond, is_some, length, unwrap_or}
use Rattle.std.proofs.Common.{refl, sym, ◌∙◌, ap, subst, arith}
use Rattle.vertex_planners.specs.declared.numbers.Number.{Number}
use Rattle.vertex_planners.specs.RisingNumbers.{kept_in}
use Rattle.vertex_planners.proofs.RisingLaws.{one_removed, kept_others, one_longer, kept_here, kept_no_more}
use Rattle.vertex_planners.proofs.RisingLaws.{stands_in, gap_in, still_rises, none_at_gap}
use Rattle.vertex_planners.proofs.amounts.Amounts.take.Goals as goal

pub invariant_of-self : goal.invariant_of-self
invariant_of-self c =
    let numbers = c.args.self.now.numbers.items in
    let here = stands_in c.as_slice.result.now numbers c.args.vertex c.in-Ok.place c.as_slice.ensures.value
    c.in-Ok.ensures.here in
    let one = one_removed numbers c.args.vertex c.in-Ok.place c.args.self.now.rising here c.remove.new.self.items
    c.remove.result c.remove.ensures.value c.remove.ensures.by_index.2 in
    record { rising = still_rises numbers c.remove.new.self.items c.remove.result one c.args.self.now.rising }

pub returns-in-Ok : goal.returns-in-Ok
returns-in-Ok c =
    let numbers = c.args.self.now.numbers.items in
    let rest = c.remove.new.self.items in
    let n = c.remove.result in
    let v = c.args.vertex in
    let here = stands_in c.as_slice.result.now numbers v c.in-Ok.place c.as_slice.ensures.value c.in-Ok.ensures.here in
    let one = one_removed numbers v c.in-Ok.place c.args.self.now.rising here rest n
    c.remove.ensures.value c.remove.ensures.by_index.2 in
    let own : n.vertex ≡ v = ap (λ (m : Number). m.vertex) c.remove.ensures.value ∙ here.is n in
    let kept : kept_in numbers v ≡ Some n.amount =
    subst (λ (u : ℕ). kept_in numbers u ≡ Some n.amount) own (kept_here numbers rest n one c.args.self.now.rising) in
    record {
      was = ap (λ o. unwrap_or o 0) kept;
      gone = subst (λ (u : ℕ). kept_in rest u ≡ None) own (kept_no_more numbers rest n one c.args.self.now.rising);
      others = λ u ne. sym (kept_others numbers rest n one u (λ e. ne (sym e ∙ own)));
      fewer = ap (λ o. length rest + cond (is_some o) 1 0) kept ∙ sym (one_longer numbers rest n one);
    }

pub returns-in-Err : goal.returns-in-Err
returns-in-Err c =
    let numbers = c.args.self.now.numbers.items in
    let v = c.args.vertex in
    let gap = gap_in c.as_slice.result.now numbers v c.in-Err.field-0 c.as_slice.ensures.value c.in-Err.ensures.gap in
    let none : kept_in numbers v ≡ None = none_at_gap numbers v c.in-Err.field-0 c.args.self.now.rising gap in
    record {
      was = ap (λ o. unwrap_or o 0) none;
      gone = none;
      others = λ u ne. refl;
      fewer = ap (λ o. length numbers + cond (is_some o) 1 0) none ∙ (omega arith);
    }
