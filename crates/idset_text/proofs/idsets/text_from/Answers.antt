use Rattle.std.proofs.Common.{◌≡◌, ℕ, ◌+◌, List, [], ◌∷◌, ◌++◌, get_or, drop, sym, ap, ◌∙◌, arith}
use Rattle.std.proofs.lemmas.List.{drop_more}
use Rattle.idset_text.specs.Idsets.{with_run, runs_of, range_text, runs_text, idset_text}
use Rattle.idset_text.proofs.IdsetLemmas.{ids_go_on, ids_part, same_state}
use Rattle.idset_text.proofs.idsets.text_from.Goals as goal
use Rattle.idset_text.proofs.idsets.text_from.Goals.{then-from+in_ok-push_run+in_ok-push, else-from}

pub ids-preserved : goal.ids-preserved
ids-preserved c =
    let others = c.args.others.now in
    let i = c.ids.id-index in
    let id : ℕ = get_or others i 0 in
    let rest : List ℕ = drop (i + 1) others in
    let lo = c.ids.lo in
    let hi = c.ids.hi in
    let text : List ℕ = c.ids.text.items in
    let all : List ℕ = idset_text (c.args.first ∷ others) in
    let parted : drop i others ≡ id ∷ rest = drop_more others i 0 (omega arith) in
    let so_far : text ++ runs_text (with_run (record { lo = lo; hi = hi }) (runs_of (id ∷ rest))) ≡ all =
    ap (λ (ids : List ℕ). text ++ runs_text (with_run (record { lo = lo; hi = hi }) (runs_of ids))) (sym parted)
    ∙ c.ids.invariant.text in
    elim c.if-from.branch [
      | then-from+in_ok-push_run+in_ok-push w ↦
          let written : List ℕ = (text ++ range_text (record { lo = lo; hi = hi })) ++ 44 ∷ [] in
          let pushed : w.push.new.self.items ≡ written =
          w.in_ok-push.ensures.items ∙ ap (λ (t : List ℕ). t ++ 44 ∷ []) w.in_ok-push_run.ensures.ok in
          record {
            text = same_state written c.if-from.text.items all id c.if-from.lo id c.if-from.hi rest
                (ap (λ v. v.items) w.text-is ∙ pushed) w.lo-is w.hi-is
                (ids_part text all lo hi id rest (λ e. w.if-from.true (omega (arith, e))) so_far);
            small = omega (arith, w.hi-is, c.type_inv.others i);
          }
      | else-from w ↦
          let follows : id ≡ hi + 1 = omega (arith, w.if-from.false) in
          record {
            text = same_state text c.if-from.text.items all lo c.if-from.lo id c.if-from.hi rest
                (ap (λ v. v.items) w.text-is) w.lo-is w.hi-is (ids_go_on text all lo hi id rest follows so_far);
            small = omega (arith, w.hi-is, c.type_inv.others i);
          }
    ]
