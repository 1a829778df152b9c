-- The steps in which a list of vertices is arranged.
use Rattle.std.specs.Prelude.{◌≡◌, ℕ, ◌<◌, ◌≤◌, ◌⊎◌, ◌++◌, [], ◌∷◌, List, length, map, Option, Some, None, slice_get}
use Rattle.std.specs.Prelude.{slice_set, slice_index}
use Rattle.std.specs.Option.{option_map}
use Rattle.flux_defs.specs.declared.vertices.Vertex.{Vertex}
use Rattle.graph_build.specs.Raw.{rank_of}
use Rattle.resource_graph.specs.declared.graph.Texts.{Texts}
use Rattle.graph_build.specs.declared.raw.RawVertex.{RawVertex}
use Rattle.graph_build.specs.declared.arrange.KindNumbering.{KindNumbering}

-- by index, its number among the first so many of the order
pub record HasNumbers (order : List ℕ) (most : ℕ) (numbers : List ℕ) : Type 0 where
  pub as_many : length numbers ≡ length order
  pub each : (k i : ℕ) → k < most → slice_get order k ≡ Some i → slice_index numbers i ≡ k

-- the list's items by the first so many indices of the order
pub record IsArrangedList (raw : List RawVertex) (order : List ℕ) (most : ℕ) (list : List RawVertex) : Type 0 where
  pub as_many : length list ≡ most
  pub each : (k i : ℕ) → k < most → slice_get order k ≡ Some i → slice_get list k ≡ slice_get raw i

-- the texts of the vertices
pub record HasTexts (list : List RawVertex) (texts : Texts) : Type 0 where
  pub names : texts.names ≡ map (λ r. r.name) list
  pub bases : texts.bases ≡ map (λ r. r.base) list
  pub units : texts.units ≡ map (λ r. r.unit) list
  pub properties : texts.properties ≡ map (λ r. r.properties) list

-- the kind of the vertex at the index that the order has for k is this one
abbrev pub HasKindAt : List Vertex → List ℕ → ℕ → ℕ → Type 0
HasKindAt vertices order k kind = (i : ℕ) × (x : Vertex) × (slice_get order k ≡ Some i)
    × (slice_get vertices i ≡ Some x) × (x.kind ≡ kind)

-- the kind has this new number
abbrev pub IsNumbered : KindNumbering → ℕ → ℕ → Type 0
IsNumbered numbering kind j = slice_get numbering.numbers.items kind ≡ Some (Some j)

-- The types that the first so many vertices of the order use are numbered by their first vertices.
pub record IsKindNumbering (kinds : List (List ℕ)) (vertices : List Vertex) (order : List ℕ) (most : ℕ)
    (numbering : KindNumbering) : Type 0 where
  pub as_many : length numbering.numbers.items ≡ length kinds
  pub few : length numbering.kinds.items ≤ length kinds
  pub named : (kind j : ℕ) → IsNumbered numbering kind j → slice_get numbering.kinds.items j ≡ slice_get kinds kind
  pub within : (kind j : ℕ) → IsNumbered numbering kind j → j < length numbering.kinds.items
  pub apart : (a b j : ℕ) → IsNumbered numbering a j → IsNumbered numbering b j → a ≡ b
  pub used : (j : ℕ) → j < length numbering.kinds.items → (k : ℕ) × (kind : ℕ) × (k < most)
      × HasKindAt vertices order k kind × IsNumbered numbering kind j
  pub seen : (k kind : ℕ) → k < most → HasKindAt vertices order k kind → (j : ℕ) × IsNumbered numbering kind j
  pub rising : (k kind j lesser : ℕ) → k < most → HasKindAt vertices order k kind → IsNumbered numbering kind j →
      lesser < j →
      (u : ℕ) × (other : ℕ) × (u < k) × HasKindAt vertices order u other × IsNumbered numbering other lesser

-- no kind has a number
pub record AreUnused (count : ℕ) (numbers : List (Option ℕ)) : Type 0 where
  pub as_many : length numbers ≡ count
  pub each : (kind : ℕ) (number : Option ℕ) → slice_get numbers kind ≡ Some number → number ≡ None

-- the kind has a number: its own, or the next one
abbrev pub AddsKind : List (List ℕ) → ℕ → KindNumbering → KindNumbering → Type 0
AddsKind kinds kind old new =
    (((j : ℕ) × IsNumbered old kind j) × (new.kinds.items ≡ old.kinds.items) × (new.numbers.items ≡ old.numbers.items))
    ⊎ ((slice_get old.numbers.items kind ≡ Some None)
    × ((name : List ℕ) × (slice_get kinds kind ≡ Some name) × (new.kinds.items ≡ old.kinds.items ++ name ∷ []))
    × (new.numbers.items ≡ slice_set old.numbers.items kind (Some (length old.kinds.items))))

-- each vertex's kind has a new number
abbrev pub HasKindNumbers : List Vertex → List (Option ℕ) → Type 0
HasKindNumbers vertices numbers = (i : ℕ) (x : Vertex) → slice_get vertices i ≡ Some x → (j : ℕ)
    × (slice_get numbers x.kind ≡ Some (Some j))

-- y is x with its numbers looked up
pub record IsMadeFrom (numbers : List ℕ) (kind_numbers : List (Option ℕ)) (x y : Vertex) : Type 0 where
  pub kind : slice_get kind_numbers x.kind ≡ Some (Some y.kind)
  pub size : y.size ≡ x.size
  pub id : y.id ≡ x.id
  pub parent : y.parent ≡ option_map (slice_index numbers) x.parent

-- the first so many vertices of the order, with their numbers looked up
pub record HasMadeTo (kinds : List (List ℕ)) (vertices : List Vertex) (order numbers : List ℕ)
    (kind_numbers : List (Option ℕ)) (most : ℕ) (made : List Vertex) : Type 0 where
  pub as_many : length made ≡ most
  pub each : (k i : ℕ) (x y : Vertex) → slice_get order k ≡ Some i → slice_get vertices i ≡ Some x →
      slice_get made k ≡ Some y → IsMadeFrom numbers kind_numbers x y
  pub ranks : (k i : ℕ) (x y : Vertex) → slice_get order k ≡ Some i → slice_get vertices i ≡ Some x →
      slice_get made k ≡ Some y → y.rank ≡ rank_of kinds vertices order k x
