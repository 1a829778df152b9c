-- Members of lists, and tests that some of them pass.
use Rattle.std.proofs.Common.{◌≡◌, ℕ, zero, suc, ◌<◌, Bool, List, [], ◌∷◌, length, get_or}
use Rattle.std.proofs.Common.{◌∙◌, ap, arith, IsTrue, Contains}
use Rattle.std.specs.List.{AllByRecursion, list_any}
use Rattle.std.proofs.lemmas.Bool.{or_left, or_right}
use Rattle.std.proofs.lemmas.List.Elements.{recursion_from_All, All-contains_itself}

-- what holds of every member holds of each, by recursion
pub each_member : {X : Type 0} (P : X → Type 0) (xs : List X) → ((x : X) → Contains xs x → P x) → AllByRecursion P xs
each_member P xs f = recursion_from_All P xs (λ k d lt. f (get_or xs k d) (All-contains_itself xs k d lt))

any_at : {X : Type 0} (test : X → Bool) (xs : List X) (x : X) (k : ℕ) →
    k < length xs → get_or xs k x ≡ x → IsTrue (test x) → IsTrue (list_any test xs)
any_at test [] x k lt e h = absurd (omega arith)
any_at test (y ∷ ys) x zero lt e h = or_left (test y) (list_any test ys) (ap test e ∙ h)
any_at test (y ∷ ys) x (suc k) lt e h = or_right (test y) (list_any test ys) (any_at test ys x k (omega arith) e h)

-- a member that passes a test
pub any_member : {X : Type 0} (test : X → Bool) (xs : List X) (x : X) →
    Contains xs x → IsTrue (test x) → IsTrue (list_any test xs)
any_member test xs x (k, lt, e) h = any_at test xs x k lt e h
