-- What is wrong with request vertices: the first fault, in the order in which faults are told.
use Rattle.flux_defs.specs.declared.limits.TheConstants.{GREATEST_NUMBER}
use Rattle.std.specs.Prelude.{◌≡◌, ◌⊎◌, ℕ, ◌*◌, ◌^◌, Bool, true, false, ◌||◌, ◌==◌, nat_lt, List, [], ◌∷◌}
use Rattle.std.specs.Prelude.{if◌then◌else◌, Option, Some, None, slice_get, unwrap_or, codes}
use Rattle.std.specs.List.{list_any}
use Rattle.std.specs.Option.{option_or, option_map_or}
use Rattle.flux_defs.specs.declared.requests.Need.{Need, Vert', Pool, Spread'}
use Rattle.flux_defs.specs.Graph.{is_pool_kind}
use Rattle.flux_defs.specs.Needs.{amount_of, kind_of}
use Rattle.need_shape.specs.declared.raw.RawNeed.{RawNeed, RawNeed', Row_of-RawNeed, end_of-RawNeed, more_of-RawNeed}
use Rattle.need_shape.specs.declared.raw.RawNeed.{out-RawNeed}
use Rattle.need_shape.specs.declared.raw.ShapeFault.{ShapeFault}
use Rattle.need_shape.specs.declared.raw.ShapeFault.TheVariants.{SameSiblings, NestedSiblings, HeldPool, PoolWith}
use Rattle.need_shape.specs.declared.raw.ShapeFault.TheVariants.{CountLimit, Memory}
use Rattle.need_shape.specs.declared.shaping.Within.{Within}
use Rattle.need_shape.specs.Requests.{is_slot, types_in}
use Rattle.resource_graph.specs.Tables.{contains_kind}
use Rattle.need_shape.specs.Types.{Types, number_of, is_upper}
use Rattle.need_shape.specs.Shapes.{in_slot, in_type, is_multiplied, needs_row, needs_in}

-- the number of a need's type; a spread has that of nodes
abbrev pub kind_in : Types → Need → ℕ
kind_in types need = unwrap_or (kind_of need) (number_of types (codes "node"))

-- what a need's type is called
abbrev pub name_in : Types → Need → List ℕ
name_in types need = option_map_or (λ kind. unwrap_or (slice_get types.names kind) []) (kind_of need) (codes "node")

-- two siblings: the first fault of the pair
abbrev pub pair_fault : Types → Need → Need → Option ShapeFault
pair_fault types a b =
    if kind_in types a == kind_in types b then Some (SameSiblings (name_in types a))
    else if contains_kind types.vertices (kind_in types a) (kind_in types b)
    then Some (NestedSiblings (name_in types a) (name_in types b))
    else if contains_kind types.vertices (kind_in types b) (kind_in types a)
    then Some (NestedSiblings (name_in types b) (name_in types a))
    else None

-- one sibling beside each of these
abbrev pub row_fault : Types → Need → List Need → Option ShapeFault
row_fault types a [] = None
row_fault types a (b ∷ rest) = option_or (pair_fault types a b) (row_fault types a rest)

-- each pair, by its first and then by its second place
abbrev pub pairs_fault : Types → List Need → Option ShapeFault
pairs_fault types [] = None
pairs_fault types (a ∷ rest) = option_or (row_fault types a rest) (pairs_fault types rest)

-- whether a product of the count and an amount is past the greatest number
abbrev pub is_past : ℕ → List Need → Bool
is_past count needs = list_any (λ need. nat_lt GREATEST_NUMBER (count * amount_of need)) needs

-- the fault, where this is so
abbrev pub fault_where : Bool → ShapeFault → Option ShapeFault
fault_where so fault = if so then Some fault else None

-- whether the type is a pool type
abbrev pub is_pool_type : Types → List ℕ → Bool
is_pool_type types kind = is_pool_kind types.vertices (number_of types kind)

-- whether something is in the row
abbrev pub is_some_row : {m : _} → Row_of-RawNeed m → Bool
is_some_row end_of-RawNeed = false
is_some_row (more_of-RawNeed raw rest) = true

abbrev pub is_some_list : List RawNeed → Bool
is_some_list [] = false
is_some_list (raw ∷ rest) = true

-- A slot: its members, and then the products of one that is multiplied out, or the pairs of one that is spread.
abbrev pub slot_fault : Types → Bool → ℕ → Option ShapeFault → List Need → Option ShapeFault
slot_fault types multiplied count members needs =
    option_or members (if multiplied then fault_where (is_past count needs) CountLimit else pairs_fault types needs)

-- A pool type: asked for exclusively, or with something in it.
abbrev pub pool_fault : List ℕ → Option Bool → Bool → Option ShapeFault
pool_fault kind exclusive some =
    option_or (fault_where (unwrap_or exclusive false) (HeldPool kind)) (fault_where some (PoolWith kind))

-- A type: what is wrong with it where it is a pool type, and then its list: the members, and the pairs of what they
-- become.
abbrev pub type_fault : Types → List ℕ → Option Bool → Bool → Option ShapeFault → List Need → Option ShapeFault
type_fault types kind exclusive some members needs =
    option_or (if is_pool_type types kind then pool_fault kind exclusive some else None)
    (option_or members (pairs_fault types needs))

abbrev mutual
  -- the first fault of a request vertex
  pub fault_of : Types → Within → RawNeed → Option ShapeFault
  fault_of types within (RawNeed' kind count exclusive m with) =
      if is_slot kind then slot_fault types (is_multiplied types within with) count
      (members_fault types (in_slot within) with) (needs_row types (in_slot within) with)
      else type_fault types kind exclusive (is_some_row with)
      (members_fault types (in_type types within kind) with) (needs_row types (in_type types within kind) with)

  -- the members of a list, in its order
  pub members_fault : Types → Within → {m : _} → Row_of-RawNeed m → Option ShapeFault
  members_fault types within end_of-RawNeed = None
  members_fault types within (more_of-RawNeed raw rest) =
      option_or (fault_of types within raw) (members_fault types within rest)

abbrev pub members_fault_in : Types → Within → List RawNeed → Option ShapeFault
members_fault_in types within [] = None
members_fault_in types within (raw ∷ rest) = option_or (fault_of types within raw) (members_fault_in types within rest)

-- a list: its members, and then the pairs of what they become
abbrev pub list_fault : Types → Within → List RawNeed → Option ShapeFault
list_fault types within request =
    option_or (members_fault_in types within request) (pairs_fault types (needs_in types within request))

-- The same of a slot and of a type, by the list of those in them.
abbrev pub slot_fault_in : Types → Within → ℕ → List RawNeed → Option ShapeFault
slot_fault_in types within count with =
    slot_fault types (within.node || list_any (is_upper types) (types_in with)) count
    (members_fault_in types (in_slot within) with) (needs_in types (in_slot within) with)

abbrev pub type_fault_in : Types → Within → RawNeed → Option ShapeFault
type_fault_in types within raw =
    type_fault types (out-RawNeed raw).kind (out-RawNeed raw).exclusive (is_some_list (out-RawNeed raw).with)
    (members_fault_in types (in_type types within (out-RawNeed raw).kind) (out-RawNeed raw).with)
    (needs_in types (in_type types within (out-RawNeed raw).kind) (out-RawNeed raw).with)

-- The fault is told: it is the first one. Of want of memory nothing is said.
abbrev pub IsFirstFault : Option ShapeFault → ShapeFault → Type 0
IsFirstFault first fault = (fault ≡ Memory) ⊎ (first ≡ Some fault)
