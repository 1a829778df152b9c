-- Paths of vertices, and what a vertex is found by.
use Rattle.std.specs.Prelude.{◌≡◌, ◌≢◌, ℕ, ◌<◌, ◌+◌, ◌*◌, ◌%◌, ◌^◌, List, length, reverse, Option, MatchOption}
use Rattle.std.specs.Prelude.{slice_get, slice_index, Some, None}
use Rattle.std.specs.List.{flat_map, fold}
use Rattle.flux_defs.specs.declared.vertices.Vertex.{Vertex}
use Rattle.resource_graph.specs.Chains.{chain_of}
use Rattle.resource_graph.specs.NamedGraph.{NamedGraph, name_step, path_text, vertices_of}

-- a vertex's path, by the vertices and their names
abbrev pub path_in : List Vertex → List (List ℕ) → ℕ → List ℕ
path_in vertices names v = flat_map (name_step names) (reverse (chain_of vertices v))

-- no name has a slash
abbrev pub AreSlashless : List (List ℕ) → Type 0
AreSlashless names = (v i : ℕ) (name : List ℕ) → slice_get names v ≡ Some name → slice_get name i ≢ Some 47

-- paths of different vertices differ, where no name has a slash
abbrev pub PathsDiffer : NamedGraph → Type 0
PathsDiffer g = AreSlashless g.names → (v u : ℕ) → v < length (vertices_of g) → u < length (vertices_of g) →
    path_text g v ≡ path_text g u → v ≡ u

-- the hash of a text with one byte more
abbrev pub mixed : ℕ → ℕ → ℕ
mixed hash byte = (hash * 403 + byte) % 2 ^ 32

-- the hash of a vertex's path
abbrev pub path_hash : List Vertex → List (List ℕ) → ℕ → ℕ
path_hash vertices names v = fold mixed 0 (path_in vertices names v)

-- by vertex, the hash of its path, for the first so many
pub record HasHashes (vertices : List Vertex) (names : List (List ℕ)) (most : ℕ) (hashes : List ℕ) : Type 0 where
  pub as_many : length hashes ≡ most
  pub each : (v : ℕ) → v < most → slice_index hashes v ≡ path_hash vertices names v

-- of the numbers before this one, the greatest that falls into the bucket, and none exactly where none does
abbrev pub IsLastIn : (ℕ → ℕ) → ℕ → ℕ → Option ℕ → Type 0
IsLastIn bucket_of before bucket found =
    MatchOption found ((u : ℕ) → u < before → bucket_of u ≢ bucket) (λ v. (v < before) × (bucket_of v ≡ bucket)
    × ((u : ℕ) → v < u → u < before → bucket_of u ≢ bucket))

-- for the first so many numbers: by bucket the last one that falls into it, and by number the one before it in its
-- bucket
pub record HasPlacesTo (bucket_of : ℕ → ℕ) (buckets most : ℕ) (ends links : List (Option ℕ)) : Type 0 where
  pub as_wide : length ends ≡ buckets
  pub as_many : length links ≡ most
  pub last : (b : ℕ) (found : Option ℕ) → slice_get ends b ≡ Some found → IsLastIn bucket_of most b found
  pub earlier : (v : ℕ) (found : Option ℕ) → slice_get links v ≡ Some found → IsLastIn bucket_of v (bucket_of v) found

-- so many empty buckets
pub record AreEmptyBuckets (places : List (Option ℕ)) (count : ℕ) : Type 0 where
  pub as_many : length places ≡ count
  pub each : (b : ℕ) (found : Option ℕ) → slice_get places b ≡ Some found → found ≡ None

-- the bucket of a hash in a list
abbrev pub bucket_in : List ℕ → ℕ → ℕ
bucket_in hashes v = slice_index hashes v % length hashes

-- the bucket of a vertex: there are as many as vertices
abbrev pub path_bucket : List Vertex → List (List ℕ) → ℕ → ℕ
path_bucket vertices names v = path_hash vertices names v % length vertices

-- vertices can be found by their paths
abbrev pub HasPlaces : List Vertex → List (List ℕ) → List (Option ℕ) → List (Option ℕ) → Type 0
HasPlaces vertices names last earlier =
    HasPlacesTo (path_bucket vertices names) (length vertices) (length vertices) last earlier

-- the vertex with this path, and none exactly where no vertex has it
abbrev pub IsFoundBy : List Vertex → List (List ℕ) → List ℕ → Option ℕ → Type 0
IsFoundBy vertices names path found =
    MatchOption found ((v : ℕ) → v < length vertices → path ≢ path_in vertices names v)
    (λ v. (v < length vertices) × (path ≡ path_in vertices names v))
