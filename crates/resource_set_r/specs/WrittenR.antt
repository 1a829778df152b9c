-- What is written of a job: R (RFC 20, version 1).
use Rattle.std.specs.Prelude.{ℕ, List, [], ◌∷◌, map, codes}
use Rattle.std.specs.List.{filter}
use Rattle.std.specs.List.Sorted.{IsStrictlyIncreasing}
use Rattle.serde_json.specs.Data.{Data, number, string, array, object, unsigned, Items, no_items, item, Members}
use Rattle.serde_json.specs.Data.{no_members, member}
use Rattle.serde_json.specs.Written.{compact_text}
use Rattle.flux_defs.specs.declared.claims.Claim.{Claim}
use Rattle.flux_defs.specs.declared.claims.Claim.TheVariants.{Take, Hold, Pass}
use Rattle.flux_defs.specs.declared.claims.Job.{Job}
use Rattle.flux_defs.specs.Jobs.{vertex_of}
use Rattle.resource_graph.specs.NamedGraph.{NamedGraph, path_text}
use Rattle.json_written.specs.Texts.{readable}
use Rattle.idset_text.specs.Idsets.{idset_text}
use Rattle.idset_text.specs.Hostlists.{hostlist_texts}
use Rattle.resource_set_r.specs.declared.rows.Children.{Children}
use Rattle.resource_set_r.specs.declared.rows.Element.{Element}
use Rattle.resource_set_r.specs.Rows.{ranks_in, host_of, elements_of, is_other}

-- ---- execution

-- ids at a key, which is left out where there are none
abbrev pub with_ids : List ℕ → List ℕ → Members → Members
with_ids key [] rest = rest
with_ids key (id ∷ ids) rest = member key (string (readable (idset_text (id ∷ ids)))) rest

-- the ids of cores and of gpus
abbrev pub children_data : Children → Data
children_data c = object (with_ids (codes "core") c.cores (with_ids (codes "gpu") c.gpus no_members))

-- an element of R_lite
abbrev pub element_data : Element → Data
element_data e = object (
    member (codes "children") (children_data e.children) (
    member (codes "rank") (string (readable (idset_text e.ranks))) no_members))

abbrev pub elements_data : List Element → Items
elements_data [] = no_items
elements_data (e ∷ es) = item (element_data e) (elements_data es)

-- texts
abbrev pub texts_data : List (List ℕ) → Items
texts_data [] = no_items
texts_data (t ∷ ts) = item (string (readable t)) (texts_data ts)

-- the names of the nodes, in rising order of rank
abbrev pub nodelist : NamedGraph → List Claim → List (List ℕ)
nodelist g claims = hostlist_texts (map (host_of g) (ranks_in g.resources.vertices claims))

abbrev pub execution_of : List Element → List (List ℕ) → ℕ → ℕ → Data
execution_of elements hosts start end = object (
    member (codes "R_lite") (array (elements_data elements)) (
    member (codes "expiration") (number (unsigned end)) (
    member (codes "nodelist") (array (texts_data hosts)) (
    member (codes "starttime") (number (unsigned start)) no_members))))

abbrev pub execution_data : NamedGraph → Job → Data
execution_data g job = execution_of (elements_of g.resources job.claims) (nodelist g job.claims) job.start job.end

-- ---- scheduling

abbrev pub mode_of : Claim → List ℕ
mode_of (Take v q) = codes "take"
mode_of (Hold v) = codes "hold"
mode_of (Pass v) = codes "pass"

-- how much is taken, of a take alone
abbrev pub quantity_data : Claim → Members
quantity_data (Take v q) = member (codes "quantity") (number (unsigned q)) no_members
quantity_data (Hold v) = no_members
quantity_data (Pass v) = no_members

abbrev pub claim_data : NamedGraph → Claim → Data
claim_data g c = object (
    member (codes "mode") (string (mode_of c)) (
    member (codes "path") (string (readable (path_text g (vertex_of c)))) (quantity_data c)))

abbrev pub claims_data : NamedGraph → List Claim → Items
claims_data g [] = no_items
claims_data g (c ∷ cs) = item (claim_data g c) (claims_data g cs)

-- the claims at a key, which is left out where there are none
abbrev pub with_scheduling : NamedGraph → List Claim → Members → Members
with_scheduling g [] rest = rest
with_scheduling g (c ∷ cs) rest =
    member (codes "scheduling") (object (member (codes "claims") (array (claims_data g (c ∷ cs))) no_members)) rest

-- ---- the whole

-- R of a job as JSON
abbrev pub r_data : NamedGraph → Job → Data
r_data g job = object (
    member (codes "execution") (execution_data g job) (
    with_scheduling g (filter (is_other g.resources) job.claims) (
    member (codes "version") (number (unsigned 1)) no_members)))

-- R of a job as a text: that JSON, with no space
unfoldable pub r_text : NamedGraph → Job → List ℕ
r_text g job = compact_text (r_data g job)

-- the ids of an element rise
pub record RisesWithin (e : Element) : Type 0 where
  pub ranks : IsStrictlyIncreasing e.ranks
  pub cores : IsStrictlyIncreasing e.children.cores
  pub gpus : IsStrictlyIncreasing e.children.gpus
