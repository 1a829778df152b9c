-- From request vertices to needs.
use Rattle.std.specs.Prelude.{ℕ, Bool, true, false, ◌||◌, List, [], ◌∷◌, ◌++◌, if◌then◌else◌, Option, unwrap_or}
use Rattle.std.specs.List.{list_any}
use Rattle.flux_defs.specs.declared.requests.Need.{Need, Vert, Pool, Spread}
use Rattle.flux_defs.specs.Graph.{is_pool_kind}
use Rattle.flux_defs.specs.Needs.{scaled}
use Rattle.need_shape.specs.declared.raw.RawNeed.{RawNeed, RawNeed', Row_of-RawNeed, end_of-RawNeed, more_of-RawNeed}
use Rattle.need_shape.specs.declared.raw.RawNeed.{out-RawNeed}
use Rattle.need_shape.specs.declared.shaping.Within.{Within}
use Rattle.need_shape.specs.Requests.{is_slot, types_row, types_in}
use Rattle.need_shape.specs.Types.{Types, number_of, is_inner, is_upper}

-- where no slot and no other request stands around
abbrev pub outside : Within
outside = record { slot = false; node = false }

-- within a slot, and within a request for the type
abbrev pub in_slot : Within → Within
in_slot within = record { slot = true; node = within.node }

abbrev pub in_type : Types → Within → List ℕ → Within
in_type types within kind = record { slot = within.slot; node = is_inner types kind || within.node }

-- a slot is multiplied out where it stands in a request for nodes or what they contain, or asks for nodes or what
-- contains them
abbrev pub is_multiplied : Types → Within → {m : _} → Row_of-RawNeed m → Bool
is_multiplied types within with = within.node || list_any (is_upper types) (types_row with)

-- a slot's needs: each of its needs, its count times; or copies that each lie whole in one node
abbrev pub slot_needs : Bool → ℕ → List Need → List Need
slot_needs multiplied count needs = if multiplied then scaled count needs else Spread count needs ∷ []

-- the need for a type: a quantity of a pool type, or vertices, held where the request says so, or else where it stands
-- in a slot
abbrev pub type_need : Types → Within → List ℕ → ℕ → Option Bool → List Need → Need
type_need types within kind count exclusive needs =
    if is_pool_kind types.vertices (number_of types kind) then Pool (number_of types kind) count
    else Vert (number_of types kind) count (unwrap_or exclusive within.slot) needs

abbrev mutual
  -- the needs that a request vertex becomes
  pub needs_of : Types → Within → RawNeed → List Need
  needs_of types within (RawNeed' kind count exclusive m with) =
      if is_slot kind then slot_needs (is_multiplied types within with) count (needs_row types (in_slot within) with)
      else type_need types within kind count exclusive (needs_row types (in_type types within kind) with) ∷ []

  pub needs_row : Types → Within → {m : _} → Row_of-RawNeed m → List Need
  needs_row types within end_of-RawNeed = []
  needs_row types within (more_of-RawNeed raw rest) = needs_of types within raw ++ needs_row types within rest

-- the needs that a list of them becomes, member by member
abbrev pub needs_in : Types → Within → List RawNeed → List Need
needs_in types within [] = []
needs_in types within (raw ∷ rest) = needs_of types within raw ++ needs_in types within rest

-- The same of a slot and of a type, by the list of those in them.
abbrev pub slot_needs_in : Types → Within → ℕ → List RawNeed → List Need
slot_needs_in types within count with =
    slot_needs (within.node || list_any (is_upper types) (types_in with)) count (needs_in types (in_slot within) with)

abbrev pub type_need_in : Types → Within → RawNeed → Need
type_need_in types within raw =
    type_need types within (out-RawNeed raw).kind (out-RawNeed raw).count (out-RawNeed raw).exclusive
    (needs_in types (in_type types within (out-RawNeed raw).kind) (out-RawNeed raw).with)
