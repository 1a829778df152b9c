-- Request vertices (RFC 14): the types that they name, and which lists of them are requests.
-- The request vertices in one appear here as a row (`end_of-RawNeed`, `more_of-RawNeed`), a list within a request
-- vertex.
use Rattle.flux_defs.specs.declared.limits.TheConstants.{GREATEST_NUMBER}
use Rattle.std.specs.Prelude.{ℕ, ◌^◌, ◌≤◌, Bool, ◌||◌, List, [], ◌∷◌, ◌++◌, if◌then◌else◌, IsTrue, IsFalse, codes}
use Rattle.std.specs.Prelude.{bytes_eq}
use Rattle.need_shape.specs.declared.raw.RawNeed.{RawNeed, RawNeed', Row_of-RawNeed, end_of-RawNeed, more_of-RawNeed}

-- a request vertex whose type is called so is a slot
abbrev pub is_slot : List ℕ → Bool
is_slot kind = bytes_eq kind (codes "slot")

abbrev mutual
  -- the types that a request vertex names: its own, unless it is a slot, and then those of the ones in it
  pub types_of : RawNeed → List (List ℕ)
  types_of (RawNeed' kind count exclusive m with) = if is_slot kind then types_row with else kind ∷ types_row with

  pub types_row : {m : _} → Row_of-RawNeed m → List (List ℕ)
  types_row end_of-RawNeed = []
  types_row (more_of-RawNeed raw rest) = types_of raw ++ types_row rest

-- the types that a list of them names, in its order
abbrev pub types_in : List RawNeed → List (List ℕ)
types_in [] = []
types_in (raw ∷ rest) = types_of raw ++ types_in rest

abbrev pub IsSomeRow : {m : _} → Row_of-RawNeed m → Type 0
IsSomeRow end_of-RawNeed = ⊥
IsSomeRow (more_of-RawNeed raw rest) = Unit {0}

abbrev mutual
  -- A request: its count is from 1 to the greatest number; a slot is in no slot, and something is asked for in it; and
  -- so for those in it.
  pub IsRequest : Bool → RawNeed → Type 0
  IsRequest in_slot (RawNeed' kind count exclusive m with) =
      (1 ≤ count) × (count ≤ GREATEST_NUMBER) × (IsTrue (is_slot kind) → IsFalse in_slot × IsSomeRow with)
      × AreRequestsRow (is_slot kind || in_slot) with

  pub AreRequestsRow : Bool → {m : _} → Row_of-RawNeed m → Type 0
  AreRequestsRow in_slot end_of-RawNeed = Unit {0}
  AreRequestsRow in_slot (more_of-RawNeed raw rest) = IsRequest in_slot raw × AreRequestsRow in_slot rest

-- the same of a list of them
abbrev pub AreRequests : Bool → List RawNeed → Type 0
AreRequests in_slot [] = Unit {0}
AreRequests in_slot (raw ∷ rest) = IsRequest in_slot raw × AreRequests in_slot rest
