-- The lines of a session, of which the first ones were taken out.
use Rattle.std.proofs.Common.{◌≡◌, ℕ, zero, suc, ◌+◌, List, [], ◌∷◌, ◌++◌, length, map, take, drop, slice_get}
use Rattle.std.proofs.Common.{slice_set, Some, refl, sym, ap, ◌∙◌, subst, arith, All}
use Rattle.std.proofs.lemmas.List.Elements.{All-get_or}
use Rattle.std.proofs.lemmas.Option.{slice_get_within, get_or_from_slice_get}
use Rattle.flux_defs.specs.declared.journal.Line.{Line}
use Rattle.match_workers.specs.Served.{taken_from}

-- the first i lines were taken out
abbrev pub left_of : ℕ → List Line → List Line
left_of i ls = map taken_from (take i ls) ++ drop i ls

pub left_at : (i : ℕ) (ls : List Line) → slice_get (left_of i ls) i ≡ slice_get ls i
left_at zero ls = refl
left_at (suc i) [] = refl
left_at (suc i) (l ∷ ls) = left_at i ls

pub left_length : (i : ℕ) (ls : List Line) → length (left_of i ls) ≡ length ls
left_length zero ls = refl
left_length (suc i) [] = refl
left_length (suc i) (l ∷ ls) = ap suc (left_length i ls)

-- one line more is taken out
pub left_next : (i : ℕ) (ls : List Line) (l : Line) → slice_get ls i ≡ Some l
    → slice_set (left_of i ls) i (taken_from l) ≡ left_of (i + 1) ls
left_next i [] l at = absurd cc
left_next zero (x ∷ ls) l at = let same : x ≡ l = cc in ap (λ y. taken_from y ∷ ls) (sym same)
left_next (suc i) (x ∷ ls) l at =
    let next : suc i + 1 ≡ suc (i + 1) = omega arith in
    ap (λ ys. taken_from x ∷ ys) (left_next i ls l at) ∙ ap (λ n. left_of n (x ∷ ls)) (sym next)

-- and is put back
pub left_back : (i : ℕ) (ls : List Line) (l y : Line) → slice_get ls i ≡ Some l
    → slice_set (slice_set (left_of i ls) i y) i l ≡ left_of i ls
left_back i [] l y at = absurd cc
left_back zero (x ∷ ls) l y at = let same : x ≡ l = cc in ap (λ z. z ∷ ls) (sym same)
left_back (suc i) (x ∷ ls) l y at = ap (λ zs. taken_from x ∷ zs) (left_back i ls l y at)

pub all_there : {A : Type 0} (P : A → Type 0) (xs : List A) (i : ℕ) (x : A) → All P xs → slice_get xs i ≡ Some x → P x
all_there P xs i x all at =
    subst P (get_or_from_slice_get xs i x x at) (All-get_or P xs i x (slice_get_within xs i x at) all)
