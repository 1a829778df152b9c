-- A list before and behind a place.
use Rattle.std.proofs.Common.{◌≡◌, ℕ, zero, suc, ◌<◌, List, [], ◌∷◌, ◌++◌, length, get_or, remove, refl, sym, ap, arith}

pub split : {X : Type 0} (xs : List X) (at : ℕ) (s : X) → at < length xs → s ≡ get_or xs at s →
    (before : List X) × (after : List X) × (xs ≡ before ++ s ∷ after) × (remove xs at ≡ before ++ after)
split [] at s l e = absurd (omega arith)
split (x ∷ xs) zero s l e = ([], xs, ap (λ u. u ∷ xs) (sym e), refl)
split (x ∷ xs) (suc at) s l e =
    let r = split xs at s (omega arith) e in
    (x ∷ r.0, r.1, ap (λ l. x ∷ l) r.2, ap (λ l. x ∷ l) r.3)
