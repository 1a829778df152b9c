-- Laws of tests.
use Rattle.std.proofs.Common.{◌≡◌, ℕ, ◌<◌, ◌≤◌, ◌||◌, cond, Bool, true, false, not, inl, inr, refl, sym, arith}
use Rattle.std.proofs.Common.{IsTrue, true≢false}
use Rattle.std.proofs.lemmas.Bool.{or_cases, or_left, or_right}
use Rattle.std.proofs.lemmas.Bool.Decides.{nat_tests}
use Rattle.std.specs.Ordering.{nat_cmp}
use Rattle.std.specs.declared.cmp.Ordering.TheVariants.{Less}

-- tests that are passed together are equal
pub same_tests : (a b : Bool) → (IsTrue a → IsTrue b) → (IsTrue b → IsTrue a) → a ≡ b
same_tests true b f g = sym (f refl)
same_tests false true f g = g refl
same_tests false false f g = refl

-- what makes a test pass fails where the test fails
pub not_along : (a b : Bool) → (IsTrue a → IsTrue b) → IsTrue (not b) → IsTrue (not a)
not_along false b f h = refl
not_along true true f h = absurd (true≢false (sym h))
not_along true false f h = absurd (true≢false (sym (f refl)))

-- where each of two facts gives another one, one of them gives one of the others
pub or_along : (a b c d : Bool) → (IsTrue a → IsTrue c) → (IsTrue b → IsTrue d) → IsTrue (a || b) → IsTrue (c || d)
or_along a b c d f g h = elim (or_cases a b h) [ inl x ↦ or_left c d (f x) | inr y ↦ or_right c d (g y) ]

-- what passes a test counts once, and what fails it not at all
pub one_at_most : (b : Bool) → cond b 1 0 ≤ 1
one_at_most true = omega arith
one_at_most false = omega arith

-- a lesser number compares as less, and only such a one
pub below_is_less : (x y : ℕ) → x < y → nat_cmp x y ≡ Less
below_is_less x y lt = grind (arith, nat_tests)

pub less_is_below : (x y : ℕ) → nat_cmp x y ≡ Less → x < y
less_is_below x y less = grind (arith, nat_tests)
