-- Lists that are filtered, and what a filter leaves out.
use Rattle.std.proofs.Common.{◌≡◌, ◌≢◌, refl, sym, ◌∙◌, ap, ℕ, ◌+◌, Bool, true, false, not, ◌&&◌, ◌||◌, List}
use Rattle.std.proofs.Common.{[], ◌∷◌, ◌++◌, cond, drop, Some, append_assoc}
use Rattle.std.specs.Prelude.{slice_get}
use Rattle.std.specs.List.{filter}
use Rattle.std.proofs.lemmas.List.Elements.{filter_agree}
use Rattle.std.proofs.Math.Bool.{not-not}
use Rattle.node_constraints.specs.Narrowing.{AreOthers}
use Rattle.list_laws.proofs.Lists.{drop_here, get_first}

pub filter_all : {X : Type 0} (xs : List X) → filter (λ _. true) xs ≡ xs
filter_all [] = refl
filter_all (x ∷ xs) = ap (λ ys. x ∷ ys) (filter_all xs)

pub filter_twice : {X : Type 0} (p q : X → Bool) (xs : List X) → filter q (filter p xs) ≡ filter (λ x. p x && q x) xs
filter_twice p q [] = refl
filter_twice p q (x ∷ xs) = go (p x) (filter_twice p q xs)
  where
    go : (b : Bool) → filter q (filter p xs) ≡ filter (λ y. p y && q y) xs →
        filter q (cond b (x ∷ filter p xs) (filter p xs))
        ≡ cond (b && q x) (x ∷ filter (λ y. p y && q y) xs) (filter (λ y. p y && q y) xs)
    go true others = ap (λ ys. cond (q x) (x ∷ ys) ys) others
    go false others = others

-- what stands first in a filtered list passes
head_passes : (p : ℕ → Bool) (x : ℕ) (left xs : List ℕ) → x ∷ left ≡ filter p xs → p x ≡ true
head_passes p x left [] same = absurd (cc)
head_passes p x left (y ∷ ys) same = go (p y) refl (head_passes p x left ys) same
  where
    go : (b : Bool) → p y ≡ b →
        (x ∷ left ≡ filter p ys → p x ≡ true) → x ∷ left ≡ cond b (y ∷ filter p ys) (filter p ys) → p x ≡ true
    go true is later here = let first : x ≡ y = cc in ap p first ∙ is
    go false is later here = later here

-- the first of a list also stands first in the filtered one: it passes
pub passes_first : (p : ℕ → Bool) (x : ℕ) (left xs : List ℕ) → x ∷ left ≡ filter p (x ∷ xs) →
    (left ≡ filter p xs) × (filter (λ y. not (p y)) (x ∷ xs) ≡ filter (λ y. not (p y)) xs)
passes_first p x left xs same = go (p x) (head_passes p x left (x ∷ xs) same) same
  where
    go : (b : Bool) → b ≡ true → x ∷ left ≡ cond b (x ∷ filter p xs) (filter p xs) → (left ≡ filter p xs)
        × (cond (not b) (x ∷ filter (λ y. not (p y)) xs) (filter (λ y. not (p y)) xs) ≡ filter (λ y. not (p y)) xs)
    go true is here = let more : left ≡ filter p xs = cc in (more, refl)
    go false is here = absurd (cc)

-- the first of a list doesn't stand first in the filtered one: it doesn't pass
pub fails_first : (p : ℕ → Bool) (x : ℕ) (left xs : List ℕ) → left ≡ filter p (x ∷ xs) → ((ys : List ℕ) →
    left ≢ x ∷ ys) → (left ≡ filter p xs) × (filter (λ y. not (p y)) (x ∷ xs) ≡ x ∷ filter (λ y. not (p y)) xs)
fails_first p x left xs same other = go (p x) same
  where
    go : (b : Bool) → left ≡ cond b (x ∷ filter p xs) (filter p xs) → (left ≡ filter p xs)
        × (cond (not b) (x ∷ filter (λ y. not (p y)) xs) (filter (λ y. not (p y)) xs) ≡ x ∷ filter (λ y. not (p y)) xs)
    go true here = absurd (other _ here)
    go false here = (here, refl)

-- ---- one step over a list, with its filtered one beside it

pub passed_over : (p : ℕ → Bool) (xs some others : List ℕ) (at next x : ℕ) (all : List ℕ) →
    drop at xs ≡ x ∷ drop (at + 1) xs → slice_get some next ≡ Some x →
    (drop next some ≡ filter p (drop at xs)) × (others ++ filter (λ v. not (p v)) (drop at xs) ≡ all) →
    (drop (next + 1) some ≡ filter p (drop (at + 1) xs)) × (others ++ filter (λ v. not (p v)) (drop (at + 1) xs) ≡ all)
passed_over p xs some others at next x all here is before =
    let same : x ∷ drop (next + 1) some ≡ filter p (x ∷ drop (at + 1) xs) =
    sym (drop_here some next x is) ∙ (before.0 ∙ ap (filter p) here) in
    let step = passes_first p x (drop (next + 1) some) (drop (at + 1) xs) same in (
      step.0,
      ap (λ ys. others ++ ys) (sym step.1)
          ∙ (ap (λ ys. others ++ filter (λ v. not (p v)) ys) (sym here) ∙ before.1),
    )

pub kept_one : (p : ℕ → Bool) (xs some others : List ℕ) (at next x : ℕ) (all : List ℕ) →
    drop at xs ≡ x ∷ drop (at + 1) xs → slice_get some next ≢ Some x →
    (drop next some ≡ filter p (drop at xs)) × (others ++ filter (λ v. not (p v)) (drop at xs) ≡ all) →
    (drop next some ≡ filter p (drop (at + 1) xs))
    × ((others ++ x ∷ []) ++ filter (λ v. not (p v)) (drop (at + 1) xs) ≡ all)
kept_one p xs some others at next x all here apart before =
    let step = fails_first p x (drop next some)
    (drop (at + 1) xs) (before.0 ∙ ap (filter p) here) (λ ys same. apart (get_first some ys next x same)) in (
      step.0,
      append_assoc others (x ∷ []) (filter (λ v. not (p v)) (drop (at + 1) xs)) ∙ (ap
          (λ ys. others ++ ys) (sym step.1) ∙ (ap (λ ys. others ++ filter (λ v. not (p v)) ys) (sym here) ∙ before.1)),
    )

-- ---- what something is false for

pub not_either : (a b : Bool) → (not a && not b) ≡ not (a || b)
not_either true b = refl
not_either false b = refl

-- those for which it apart false
pub others_of_others : (nodes others new : List ℕ) (p : ℕ → Bool) →
    others ≡ filter (λ v. not (p v)) nodes → AreOthers nodes others new → new ≡ filter p nodes
others_of_others nodes others new p are taken =
    taken (λ v. not (p v)) are ∙ filter_agree (λ v. not (not (p v))) p (λ v. not-not (p v)) nodes
