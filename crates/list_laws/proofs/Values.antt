-- Facts on the value in a `Some`, and on an item of a list.
use Rattle.std.proofs.Common.{◌≡◌, ℕ, ◌<◌, List, length, Option, Some, None, refl, sym, subst}
use Rattle.std.specs.Prelude.{slice_get}
use Rattle.std.specs.Option.{IsSomeAnd}
use Rattle.std.proofs.lemmas.Option.{slice_get_within}

-- what a fact on the value in a `Some` says
pub value_of : {X : Type 0} (o : Option X) (P : X → Type 0) → IsSomeAnd o P → (x : X) × (o ≡ Some x) × P x
value_of None P h = absurd h
value_of (Some x) P h = (x, refl, h)

pub at_value : {X : Type 0} (o : Option X) (P : X → Type 0) (x : X) → o ≡ Some x → IsSomeAnd o P → P x
at_value o P x e h = subst (λ o. IsSomeAnd o P) e h

pub from_value : {X : Type 0} (o : Option X) (P : X → Type 0) (x : X) → o ≡ Some x → P x → IsSomeAnd o P
from_value o P x e h = subst (λ o. IsSomeAnd o P) (sym e) h

-- what is true of an item is true of one of the list
pub fact_within : {X : Type 0} (list : List X) (v : ℕ) (P : X → Type 0) → IsSomeAnd (slice_get list v) P →
    v < length list
fact_within list v P h = let x = value_of (slice_get list v) P h in slice_get_within list v x.0 x.1
