-- What is written of a job is read again.
use Rattle.std.specs.Prelude.{◌≡◌, ◌^◌, ◌<◌, ◌≤◌, length, map, IfSome, IsTrue}
use Rattle.std.specs.List.{AllByRecursion}
use Rattle.flux_defs.specs.declared.vertices.Vertex.{Vertex}
use Rattle.flux_defs.specs.declared.claims.Claim.{Claim}
use Rattle.flux_defs.specs.declared.claims.Claim.TheVariants.{Take, Hold, Pass}
use Rattle.flux_defs.specs.declared.claims.Job.{Job}
use Rattle.flux_defs.specs.declared.limits.TheConstants.{GREATEST_NUMBER, NO_ID}
use Rattle.resource_graph.specs.NamedGraph.{NamedGraph}
use Rattle.idset_text.specs.Idsets.{ids_of, runs_of}
use Rattle.idset_text.specs.Hostlists.{is_host_name, names_of}
use Rattle.resource_set_r.specs.declared.rows.Element.{Element}
use Rattle.resource_set_r.specs.declared.sets_read.RRow.{RRow}
use Rattle.resource_set_r.specs.declared.sets_read.RSet.{RSet}
use Rattle.resource_set_r.specs.Rows.{ranks_in, host_of, elements_of}
use Rattle.resource_set_r.specs.ReadRows.{ranges_in}
use Rattle.resource_set_r.specs.ReadR.{IsRText}
use Rattle.resource_set_r.specs.WrittenR.{r_text}

-- its id and its rank leave the greatest number of 32 bits free
pub record HasIdNumbers (x : Vertex) : Type 0 where
  pub id : IfSome x.id (λ n. n < NO_ID)
  pub rank : IfSome x.rank (λ n. n < NO_ID)

-- what is taken has at most 64 bits
abbrev pub HasSmallQuantity : Claim → Type 0
HasSmallQuantity (Take v q) = q < 2 ^ 64
HasSmallQuantity (Hold v) = Unit {0}
HasSmallQuantity (Pass v) = Unit {0}

-- The graph and the job have texts and numbers that can be read: each vertex has a name in the grammar of hosts, as in
-- every graph of a file; seconds are at most the greatest number.
pub record CanBeRead (g : NamedGraph) (job : Job) : Type 0 where
  pub named : length g.names ≡ length g.resources.vertices
  pub names : AllByRecursion (λ name. IsTrue (is_host_name name)) g.names
  pub numbers : AllByRecursion HasIdNumbers g.resources.vertices
  pub quantities : AllByRecursion HasSmallQuantity job.claims
  pub start : job.start ≤ GREATEST_NUMBER
  pub end : job.end ≤ GREATEST_NUMBER

-- an element as it is read: the longest runs of its ids
abbrev pub row_of_element : Element → RRow
row_of_element e = record { ranks = runs_of e.ranks; cores = runs_of e.children.cores; gpus = runs_of e.children.gpus }

-- the set says of the job: its ranks; by element its cores and its gpus; the names of its nodes in rising order of
-- rank; its start and its end
pub record IsOfJob (g : NamedGraph) (job : Job) (set : RSet) : Type 0 where
  pub rows : set.rows ≡ map row_of_element (elements_of g.resources job.claims)
  pub ranks : map (λ row. ids_of row.ranks) set.rows ≡ map (λ e. e.ranks) (elements_of g.resources job.claims)
  pub cores : map (λ row. ids_of row.cores) set.rows ≡ map (λ e. e.children.cores) (elements_of g.resources job.claims)
  pub gpus : map (λ row. ids_of row.gpus) set.rows ≡ map (λ e. e.children.gpus) (elements_of g.resources job.claims)
  pub all_ranks : ids_of (ranges_in set.rows) ≡ ranks_in g.resources.vertices job.claims
  pub hosts : names_of set.hosts ≡ map (host_of g) (ranks_in g.resources.vertices job.claims)
  pub start : set.start ≡ job.start
  pub end : set.end ≡ job.end

-- R that is written of a job is R of a set that says what the job has
abbrev pub AreReadBack : Type 0
AreReadBack = (g : NamedGraph) (job : Job) →
    CanBeRead g job → (set : RSet) × IsRText (r_text g job) set × IsOfJob g job set
