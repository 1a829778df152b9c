use Rattle.std.proofs.Common.{◌≡◌, ◌∙◌, sym, ap, ◌++◌, ◌∷◌, ◌+◌, drop, get_or, not, true≢false, arith}
use Rattle.std.proofs.lemmas.List.{drop_more}
use Rattle.std.specs.List.{filter}
use Rattle.node_constraints.proofs.FilterLaws.{passed_over, kept_one}
use Rattle.node_constraints.proofs.nodes.others_of.Goals as goal
use Rattle.node_constraints.proofs.nodes.others_of.Goals.{then-stands_at, else-stands_at+in_ok-push}

pub nodes-preserved : goal.nodes-preserved
nodes-preserved c = λ holds are.
    let xs = c.args.nodes.now in
    let at = c.nodes.node-index in
    let x = get_or xs at 0 in
    let some = c.args.some.now in
    let all = filter (λ v. not (holds v)) xs in
    let here : drop at xs ≡ x ∷ drop (at + 1) xs = drop_more xs at 0 (omega arith) in
    let before = c.nodes.invariant holds are in
    elim c.if-stands_at.branch [
      | then-stands_at w ↦
          let step = passed_over holds xs some c.nodes.others.items at c.nodes.next x all here
          (c.stands_at.ensures.0 w.if-stands_at.true) before in (
            ap (λ n. drop n some) w.next-is
                ∙ step.0,
            ap (λ v. v.items ++ filter (λ y. not (holds y)) (drop (at + 1) xs)) w.others-is ∙ step.1,
          )
      | else-stands_at+in_ok-push w ↦
          let step = kept_one holds xs some c.nodes.others.items at c.nodes.next x all here
          (λ is. true≢false (sym (c.stands_at.ensures.1 is) ∙ w.if-stands_at.false)) before in (
            ap (λ n. drop n some) w.next-is ∙ step.0,
            ap (λ ys. ys ++ filter (λ y. not (holds y)) (drop (at + 1) xs))
                (ap (λ v. v.items) w.others-is ∙ w.in_ok-push.ensures.items) ∙ step.1,
          )
    ]
