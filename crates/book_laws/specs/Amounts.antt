-- What the claims of live jobs amount to at a vertex, moment by moment.
use Rattle.std.specs.Prelude.{◌≡◌, ℕ, ◌≤◌, Bool, true, false, ◌&&◌, ◌==◌, if◌then◌else◌, List, sum_by, slice_get}
use Rattle.std.specs.List.{enumerate_from, list_any}
use Rattle.std.specs.Option.{option_map_or}
use Rattle.flux_defs.specs.declared.vertices.Vertex.{Vertex}
use Rattle.flux_defs.specs.declared.claims.Claim.{Claim}
use Rattle.flux_defs.specs.declared.claims.Claim.TheVariants.{Take, Hold, Pass}
use Rattle.flux_defs.specs.declared.claims.Job.{Job}
use Rattle.flux_defs.specs.Graph.{is_at_or_below, is_pool, size_of}
use Rattle.flux_defs.specs.Jobs.{is_live, is_on_or_below}

-- the sum of a number of each claim, over the claims of the jobs that are live at a moment
abbrev pub live_sum : (Claim → ℕ) → List Job → ℕ → ℕ
live_sum f jobs m = sum_by (λ job. if is_live m job then sum_by f job.claims else 0) jobs

-- the claim holds v itself
abbrev pub is_hold : ℕ → Claim → Bool
is_hold v (Take u q) = false
is_hold v (Hold u) = u == v
is_hold v (Pass u) = false

-- 1 for a hold of v itself, and 0 for every other claim
abbrev pub hold_of : ℕ → Claim → ℕ
hold_of v c = if is_hold v c then 1 else 0

-- the claim holds one of these vertices
abbrev pub holds_along : List ℕ → Claim → Bool
holds_along vs c = list_any (λ v. is_hold v c) vs

-- 1 for a claim on v or below it, and 0 for every other claim
abbrev pub claim_within : List Vertex → ℕ → Claim → ℕ
claim_within vertices v c = if is_on_or_below vertices v c then 1 else 0

-- v is a vertex of this kind
abbrev pub is_of_kind : List Vertex → ℕ → ℕ → Bool
is_of_kind vertices kind v = option_map_or (λ x. x.kind == kind) (slice_get vertices v) false

-- the sum of a number of each vertex, over the vertices of the kind at v and below it
abbrev pub kind_sum : List Vertex → ℕ → ℕ → (ℕ → ℕ) → ℕ
kind_sum vertices kind v f =
    sum_by (λ (u, x). if (x.kind == kind) && is_at_or_below vertices u v then f u else 0) (enumerate_from 0 vertices)

-- the capacity of a kind at v: the units of its vertices at v and below it
abbrev pub capacity : List Vertex → ℕ → ℕ → ℕ
capacity vertices kind v = kind_sum vertices kind v (size_of vertices)

-- what a claim has of a kind: a hold the capacity at its vertex, a take of a pool of that kind its quantity, a pass
-- nothing
abbrev pub part_of : List Vertex → ℕ → Claim → ℕ
part_of vertices kind (Take v q) = if is_of_kind vertices kind v then q else 0
part_of vertices kind (Hold v) = capacity vertices kind v
part_of vertices kind (Pass v) = 0

-- what a claim takes from the total of a kind at v: what it has of the kind, if it is on v or below it
abbrev pub part_within : List Vertex → ℕ → ℕ → Claim → ℕ
part_within vertices kind v c = if is_on_or_below vertices v c then part_of vertices kind c else 0

-- what a claim uses of v alone: a hold of v or of a vertex above it all its units, a take of v its quantity
abbrev pub use_of : List Vertex → ℕ → Claim → ℕ
use_of vertices v (Take u q) = if u == v then q else 0
use_of vertices v (Hold u) = if is_at_or_below vertices v u then size_of vertices v else 0
use_of vertices v (Pass u) = 0

-- no vertex is oversubscribed: at no moment do live jobs use more of it than its units
abbrev pub AreWithinSizes : List Vertex → List Job → Type 0
AreWithinSizes vertices jobs = (m v : ℕ) → live_sum (use_of vertices v) jobs m ≤ size_of vertices v

-- a take is from a pool
abbrev pub TakesFromPool : List Vertex → Claim → Type 0
TakesFromPool vertices (Take v q) = is_pool vertices v ≡ true
TakesFromPool vertices (Hold v) = Unit {0}
TakesFromPool vertices (Pass v) = Unit {0}
