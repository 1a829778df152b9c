-- The four forms of RFC 25: one slot, or one request for nodes with one slot in each; and cores, or cores and gpus, in
-- the slot.
use Rattle.std.specs.Prelude.{ℕ, ◌&&◌, ◌||◌, List, [], ◌∷◌, Bool, true, false, codes, bytes_eq}
use Rattle.need_shape.specs.declared.raw.RawNeed.{RawNeed, out-RawNeed}
use Rattle.need_shape.specs.Requests.{is_slot}

-- of this type, with nothing in it
abbrev pub is_bare : List RawNeed → Bool
is_bare [] = true
is_bare (raw ∷ rest) = false

abbrev pub is_leaf : List ℕ → RawNeed → Bool
is_leaf kind raw = bytes_eq (out-RawNeed raw).kind kind && is_bare (out-RawNeed raw).with

-- cores, or cores and gpus in either order
abbrev pub are_cores : List RawNeed → Bool
are_cores [] = false
are_cores (a ∷ []) = is_leaf (codes "core") a
are_cores (a ∷ b ∷ []) =
    (is_leaf (codes "core") a && is_leaf (codes "gpu") b) || (is_leaf (codes "gpu") a && is_leaf (codes "core") b)
are_cores (a ∷ b ∷ c ∷ rest) = false

abbrev pub is_core_slot : RawNeed → Bool
is_core_slot raw = is_slot (out-RawNeed raw).kind && are_cores (out-RawNeed raw).with

-- exactly one, and it is such a slot
abbrev pub is_one_slot : List RawNeed → Bool
is_one_slot [] = false
is_one_slot (raw ∷ []) = is_core_slot raw
is_one_slot (raw ∷ other ∷ rest) = false

-- nodes with such a slot in each
abbrev pub is_node_of_slot : RawNeed → Bool
is_node_of_slot raw = bytes_eq (out-RawNeed raw).kind (codes "node") && is_one_slot (out-RawNeed raw).with

-- exactly one request vertex, of one of the forms
abbrev pub is_v1 : List RawNeed → Bool
is_v1 [] = false
is_v1 (raw ∷ []) = is_core_slot raw || is_node_of_slot raw
is_v1 (raw ∷ other ∷ rest) = false
