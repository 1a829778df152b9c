-- An edit of two lists, one after the other.
use Rattle.std.proofs.Common.{◌≡◌, ℕ, zero, suc, ◌-◌, ◌<◌, ◌≤◌, List, [], ◌∷◌, ◌++◌, length, ap, append_assoc, arith}
use Rattle.std.proofs.Common.{sym, ◌∙◌}
use Rattle.balanced_tree.specs.declared.edits.Edit.{Edit}
use Rattle.balanced_tree.specs.Edits.{edited, made}

pub edited_left : {E : Type 0} (xs ys : List E) (at : ℕ) (d : Edit E) → at < length xs →
    edited (xs ++ ys) at d ≡ edited xs at d ++ ys
edited_left [] ys at d h = absurd (omega arith)
edited_left (x ∷ xs) ys zero d h = sym (append_assoc (made d) xs ys)
edited_left (x ∷ xs) ys (suc at) d h = ap (λ l. x ∷ l) (edited_left xs ys at d (omega arith))

pub edited_right : {E : Type 0} (xs ys : List E) (at : ℕ) (d : Edit E) → length xs ≤ at →
    edited (xs ++ ys) at d ≡ xs ++ edited ys (at - length xs) d
edited_right [] ys at d h = let e : at - 0 ≡ at = omega arith in ap (λ n. edited ys n d) (sym e)
edited_right (x ∷ xs) ys zero d h = absurd (omega arith)
edited_right (x ∷ xs) ys (suc at) d h =
    let e : suc at - length (x ∷ xs) ≡ at - length xs = omega arith in
    ap (λ l. x ∷ l) (edited_right xs ys at d (omega arith)) ∙ ap (λ n. x ∷ xs ++ edited ys n d) (sym e)
