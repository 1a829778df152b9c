use Rattle.std.proofs.Common.{◌≡◌, ℕ, ◌+◌, List, is_ok, refl, sym, ◌∙◌, ap, subst}
use Rattle.std.specs.List.{insert}
use Rattle.vertex_planners.specs.declared.numbers.Number.{Number}
use Rattle.vertex_planners.proofs.RisingLaws.{stands_in, gap_in, rises_changed, sum_changed, keys_changed, rises_either}
use Rattle.vertex_planners.proofs.RisingLaws.{IsOneMore, one_inserted, sum_more, keys_more}
use Rattle.vertex_planners.proofs.amounts.Amounts.add.Goals as goal

put_in : (now numbers : List Number) (k : ℕ) (n : Number) → now ≡ insert numbers k n → IsOneMore now numbers n
put_in now numbers k n e = subst (λ (l : List Number). IsOneMore l numbers n) (sym e) (one_inserted numbers k n)

-- the number is changed
pub invariant_of-self : goal.invariant_of-self
invariant_of-self c =
    let numbers = c.args.self.now.numbers.items in
    let here = stands_in c.as_slice.result.now numbers c.args.vertex c.in-Ok.place c.as_slice.ensures.value
    c.in-Ok.ensures.here in
    record {
      rising = rises_changed numbers c.args.vertex c.in-Ok.place c.args.self.now.rising here
          (record { vertex = c.args.vertex; amount = c.in-Some.amount }) refl;
    }

pub returns-in-Some-clause-sum : goal.returns-in-Some-clause-sum
returns-in-Some-clause-sum c = λ v.
    let numbers = c.args.self.now.numbers.items in
    let here = stands_in c.as_slice.result.now numbers c.args.vertex c.in-Ok.place c.as_slice.ensures.value
    c.in-Ok.ensures.here in
    sum_changed numbers c.args.vertex c.in-Ok.place c.args.self.now.rising here
    (record { vertex = c.args.vertex; amount = c.in-Some.amount }) c.index.result.now c.args.more refl
    (c.in-Some.ensures.1 ∙ ap (λ (n : Number). n.amount + c.args.more) c.index.ensures) v

pub returns-in-Some-clause-keys : goal.returns-in-Some-clause-keys
returns-in-Some-clause-keys c =
    let numbers = c.args.self.now.numbers.items in
    let here = stands_in c.as_slice.result.now numbers c.args.vertex c.in-Ok.place c.as_slice.ensures.value
    c.in-Ok.ensures.here in
    keys_changed numbers c.args.vertex c.in-Ok.place c.args.self.now.rising here
    (record { vertex = c.args.vertex; amount = c.in-Some.amount }) refl

-- the number is put in
pub invariant_of-self-in-Err : goal.invariant_of-self-in-Err
invariant_of-self-in-Err c =
    let numbers = c.args.self.now.numbers.items in
    let gap = gap_in c.as_slice.result.now numbers c.args.vertex c.in-Err.place c.as_slice.ensures.value
    c.in-Err.ensures.gap in
    record {
      rising = rises_either numbers c.insert.new.self.items (record { vertex = c.args.vertex; amount = c.args.more })
          c.in-Err.place (is_ok c.insert.result) c.args.self.now.rising gap c.insert.ensures.items;
    }

pub returns-in-Ok-insert-clause-sum : goal.returns-in-Ok-insert-clause-sum
returns-in-Ok-insert-clause-sum c =
    let numbers = c.args.self.now.numbers.items in
    let now = c.insert.new.self.items in
    let n : Number = record { vertex = c.args.vertex; amount = c.args.more } in
    let gap = gap_in c.as_slice.result.now numbers c.args.vertex c.in-Err.place c.as_slice.ensures.value
    c.in-Err.ensures.gap in
    sum_more now numbers n (put_in now numbers c.in-Err.place n c.in-Ok-insert.ensures.items)
    (rises_either numbers now n c.in-Err.place (is_ok c.insert.result) c.args.self.now.rising gap
    c.insert.ensures.items)

pub returns-in-Ok-insert-clause-keys : goal.returns-in-Ok-insert-clause-keys
returns-in-Ok-insert-clause-keys c =
    let numbers = c.args.self.now.numbers.items in
    let now = c.insert.new.self.items in
    let n : Number = record { vertex = c.args.vertex; amount = c.args.more } in
    keys_more now numbers n (put_in now numbers c.in-Err.place n c.in-Ok-insert.ensures.items)
