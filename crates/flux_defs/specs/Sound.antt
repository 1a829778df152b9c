-- Sound states: no vertex is oversubscribed.
use Rattle.std.specs.Prelude.{◌≢◌, ℕ, ◌≤◌, List, [], ◌∷◌, Contains, IsTrue}
use Rattle.std.specs.List.{AllByRecursion}
use Rattle.flux_defs.specs.declared.vertices.Vertex.{Vertex}
use Rattle.flux_defs.specs.declared.claims.Claim.{Claim}
use Rattle.flux_defs.specs.declared.claims.Job.{Job}
use Rattle.flux_defs.specs.declared.journal.Entry.{Entry}
use Rattle.flux_defs.specs.Graph.{size_of}
use Rattle.flux_defs.specs.Jobs.{vertex_of, is_live, holds_over}
use Rattle.flux_defs.specs.Free.{taken_at}
use Rattle.flux_defs.specs.Histories.{state_at}

-- neither claim holds the other's vertex or one above it
pub record HoldApart (vertices : List Vertex) (c d : Claim) : Type 0 where
  pub first : IsTrue (holds_over vertices (vertex_of d) c) → ⊥
  pub second : IsTrue (holds_over vertices (vertex_of c) d) → ⊥

-- two claims of one job: of different vertices, and neither below what the other holds
abbrev pub AreSeparate : List Vertex → Claim → Claim → Type 0
AreSeparate vertices c d = (vertex_of c ≢ vertex_of d) × HoldApart vertices c d

-- any two of a job's claims are separate
abbrev pub AreAllSeparate : List Vertex → List Claim → Type 0
AreAllSeparate vertices [] = Unit {0}
AreAllSeparate vertices (c ∷ cs) = AllByRecursion (AreSeparate vertices c) cs × AreAllSeparate vertices cs

-- at no moment while both are live has one job a claim on a vertex that the other holds, or below it
abbrev pub KeepApart : List Vertex → Job → Job → Type 0
KeepApart vertices a b =
    (m : ℕ) → IsTrue (is_live m a) → IsTrue (is_live m b) →
    (c d : Claim) → Contains a.claims c → Contains b.claims d → HoldApart vertices c d

-- any two jobs keep apart
abbrev pub AllKeepApart : List Vertex → List Job → Type 0
AllKeepApart vertices [] = Unit {0}
AllKeepApart vertices (job ∷ jobs) = AllByRecursion (KeepApart vertices job) jobs × AllKeepApart vertices jobs

-- No vertex is oversubscribed: at every moment the live takes of each vertex sum to at most its size; no other live job
-- has a claim on a held vertex or below it; and within one job the claims are separate.
pub record IsSound (vertices : List Vertex) (jobs : List Job) : Type 0 where
  pub takes : (m v : ℕ) → taken_at jobs m v ≤ size_of vertices v
  pub holds : AllKeepApart vertices jobs
  pub apart : AllByRecursion (λ job. AreAllSeparate vertices job.claims) jobs

-- the state after each entry of the history is sound
abbrev pub IsSoundThroughout : List Vertex → List Entry → Type 0
IsSoundThroughout vertices history = (n : ℕ) → IsSound vertices (state_at history n).jobs
