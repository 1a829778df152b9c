-- Lists of values that grow at their end, and what is taken of a list.
use Rattle.std.proofs.Common.{◌≡◌, ◌≤◌, ℕ, List, [], ◌∷◌, ◌++◌, length, take, drop, ◌∙◌, ap, arith}
use Rattle.std.proofs.lemmas.List.{drop-append-le, take-append-le, length-append}

-- of a list that grew by one, from the place on
module _ {A : Type 0} (from : ℕ) (was : List A) (now : List A) (x : A) (within : from ≤ length was)
    (grown : now ≡ was ++ x ∷ []) where
  pub grown_back : drop from now ≡ drop from was ++ x ∷ []
  grown_back = ap (drop from) grown ∙ drop-append-le from was (x ∷ []) within

  pub grown_front : take from now ≡ take from was
  grown_front = ap (take from) grown ∙ take-append-le from was (x ∷ []) within

  pub grown_within : from ≤ length now
  grown_within = omega (arith, ap length grown, length-append was (x ∷ []), within)
