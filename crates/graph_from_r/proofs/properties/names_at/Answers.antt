use Rattle.std.proofs.Common.{◌≡◌, ◌∙◌, sym, ap, ◌++◌, ◌∷◌, [], ◌+◌, drop, append_assoc, ℕ, List}
use Rattle.graph_from_r.specs.declared.properties.Property.{Property}
use Rattle.graph_from_r.specs.Properties.{names_at}
use Rattle.graph_from_r.proofs.Steps.{left_first, name_yes, name_no}
use Rattle.graph_from_r.proofs.properties.names_at.Goals as goal
use Rattle.graph_from_r.proofs.properties.names_at.Goals.{then-has+in_ok-copy+in_ok-push, else-has}

pub properties-preserved : goal.properties-preserved
properties-preserved c =
    let ps = c.args.properties.now in
    let k = c.properties.property-index in
    let p = c.property-item.result in
    let rank = c.args.rank in
    let old = c.properties.names.items in
    let left = drop (k + 1) ps in
    let rest = names_at left rank in
    let first : drop k ps ≡ p ∷ left = left_first ps k p c.properties-test.true c.property-item.is in
    let before : old ++ names_at (p ∷ left) rank ≡ names_at ps rank =
    ap (λ (qs : List Property). old ++ names_at qs rank) (sym first) ∙ c.properties.invariant in
    elim c.if-has.branch [
      | then-has+in_ok-copy+in_ok-push w ↦
          ap (λ v. v.items ++ rest) w.names-is
          ∙ (ap (λ (ns : List (List ℕ)). ns ++ rest) w.in_ok-push.ensures.items
          ∙ (append_assoc old (w.in_ok-copy.field-0 ∷ []) rest
          ∙ (ap (λ (n : List ℕ). old ++ (n ∷ rest)) w.in_ok-copy.ensures
          ∙ (ap (λ (ns : List (List ℕ)). old ++ ns) (sym (name_yes p left rank (sym c.has.ensures ∙ w.if-has.true)))
          ∙ before))))
      | else-has w ↦
          ap (λ v. v.items ++ rest) w.names-is
          ∙ (ap (λ (ns : List (List ℕ)). old ++ ns) (sym (name_no p left rank (sym c.has.ensures ∙ w.if-has.false)))
          ∙ before)
    ]
