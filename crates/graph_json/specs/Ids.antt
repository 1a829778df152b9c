-- The ids of a graph file's nodes.
use Rattle.std.specs.Prelude.{◌≡◌, ℕ, ◌<◌, List, map, take, false, slice_get, IsTrue}
use Rattle.std.specs.List.{IsDistinct}
use Rattle.std.specs.Option.{option_map_or}
use Rattle.std.specs.Str.{bytes_eq}
use Rattle.graph_json.specs.Nodes.{FileNode}
use Rattle.graph_json.specs.Edges.{is_among}

-- the ids of the nodes
abbrev pub ids_of : List FileNode → List (List ℕ)
ids_of nodes = map (λ x. x.id) nodes

-- an earlier text is the same as the one at v
abbrev pub IsRepeated : List (List ℕ) → ℕ → Type 0
IsRepeated texts v = IsTrue (option_map_or (is_among (take v texts)) (slice_get texts v) false)

-- a set's texts are these, and no text is repeated
pub record IsSetOf (list found : List (List ℕ)) : Type 0 where
  pub kept : found ≡ list
  pub distinct : IsDistinct bytes_eq list
  pub each : (v : ℕ) → IsRepeated list v → ⊥

-- the same of the first so many texts
pub record IsSetTo (list : List (List ℕ)) (most : ℕ) (found : List (List ℕ)) : Type 0 where
  pub kept : found ≡ take most list
  pub distinct : IsDistinct bytes_eq found
  pub each : (v : ℕ) → v < most → IsRepeated list v → ⊥
