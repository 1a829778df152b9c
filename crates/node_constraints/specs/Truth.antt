-- What a constraint on nodes says (RFC 31), and for which nodes it is true.
use Rattle.std.specs.Prelude.{ℕ, ◌==◌, ◌&&◌, ◌||◌, List, [], ◌∷◌, Bool, true, false, not, if◌then◌else◌, Option, Some}
use Rattle.std.specs.Prelude.{None, unwrap_or, slice_get, Result, Ok, Err, codes}
use Rattle.std.specs.List.{list_any}
use Rattle.std.specs.Option.{option_map_or}
use Rattle.std.specs.Str.{bytes_eq}
use Rattle.serde_json.specs.Data.{Data, null, boolean, number, string, array, object, Items, no_items, item, Members}
use Rattle.serde_json.specs.Data.{no_members, member}
use Rattle.serde_json.specs.Find.{as_str}
use Rattle.idset_text.specs.declared.hostlists.Hosts.{Hosts}
use Rattle.idset_text.specs.declared.idsets.Range.{Range}
use Rattle.idset_text.specs.Hostlists.{hostlist_of, names_of}
use Rattle.idset_text.specs.Idsets.{idset_of, ids_of}
use Rattle.resource_graph.specs.NamedGraph.{NamedGraph}
use Rattle.resource_graph.specs.Tables.{rank_at, name_at}
use Rattle.node_constraints.specs.declared.keys.Key.{Key}
use Rattle.node_constraints.specs.declared.keys.Key.TheVariants.{Properties, Hostlist, Ranks, And, Or, Not}

-- ---- nodes

-- what a constraint asks of a node: its name, its rank and its properties
pub record NodeFacts : Type 0 where
  pub name : List ℕ
  pub rank : Option ℕ
  pub properties : List (List ℕ)

-- the facts of the vertex with this number
abbrev pub facts_of : NamedGraph → ℕ → NodeFacts
facts_of g v = record {
  name = name_at g v;
  rank = rank_at g.resources.vertices v;
  properties = unwrap_or (slice_get g.properties v) [];
}

-- ---- texts

-- the text is one of these
abbrev pub is_among : List (List ℕ) → List ℕ → Bool
is_among texts text = list_any (bytes_eq text) texts

-- each value is a text that passes
abbrev pub each_text : (List ℕ → Bool) → Items → Bool
each_text passes no_items = true
each_text passes (item d ds) = option_map_or passes (as_str d) false && each_text passes ds

-- some value is a text that passes
abbrev pub some_text : (List ℕ → Bool) → Items → Bool
some_text passes no_items = false
some_text passes (item d ds) = option_map_or passes (as_str d) false || some_text passes ds

-- the node has the property, or behind `^` (94) it lacks the one called so
abbrev pub has_property : List (List ℕ) → List ℕ → Bool
has_property properties [] = is_among properties []
has_property properties (byte ∷ rest) =
    if byte == 94 then not (is_among properties rest) else is_among properties (byte ∷ rest)

abbrev pub is_host_of : List ℕ → Result (List Hosts) ℕ → Bool
is_host_of name (Ok hosts) = is_among (names_of hosts) name
is_host_of name (Err at) = false

-- the name is one of the hosts of a hostlist (RFC 29)
abbrev pub is_listed : List ℕ → List ℕ → Bool
is_listed name text = is_host_of name (hostlist_of text)

abbrev pub is_id_of : ℕ → Result (List Range) ℕ → Bool
is_id_of rank (Ok ranges) = list_any (λ id. id == rank) (ids_of ranges)
is_id_of rank (Err at) = false

-- the rank is one of the ids of an idset (RFC 22)
abbrev pub is_ranked : Option ℕ → List ℕ → Bool
is_ranked rank text = option_map_or (λ r. is_id_of r (idset_of text)) rank false

-- ---- constraints

-- the key that is called so
abbrev pub key_of : List ℕ → Option Key
key_of k =
    if bytes_eq k (codes "properties") then Some Properties
    else if bytes_eq k (codes "hostlist") then Some Hostlist
    else if bytes_eq k (codes "ranks") then Some Ranks
    else if bytes_eq k (codes "and") then Some And
    else if bytes_eq k (codes "or") then Some Or
    else if bytes_eq k (codes "not") then Some Not
    else None

abbrev pub is_empty : Items → Bool
is_empty no_items = true
is_empty (item d ds) = false

-- a key is true for a node, by the list at it; of constraints, by whether each is true and whether some is
abbrev pub list_is_true : NodeFacts → Key → Items → Bool → Bool → Bool
list_is_true n Properties ds each some = each_text (has_property n.properties) ds
list_is_true n Hostlist ds each some = some_text (is_listed n.name) ds
list_is_true n Ranks ds each some = some_text (is_ranked n.rank) ds
list_is_true n And ds each some = each
list_is_true n Or ds each some = is_empty ds || some
list_is_true n Not ds each some = not each

abbrev mutual
  -- a constraint is true for a node: each of its keys is
  pub is_true : NodeFacts → Data → Bool
  is_true n null = false
  is_true n (boolean b) = false
  is_true n (number x) = false
  is_true n (string s) = false
  is_true n (array ds) = false
  is_true n (object ms) = each_key n ms

  pub each_key : NodeFacts → Members → Bool
  each_key n no_members = true
  each_key n (member k d ms) = key_is_true n (key_of k) d && each_key n ms

  pub key_is_true : NodeFacts → Option Key → Data → Bool
  key_is_true n None d = false
  key_is_true n (Some key) null = false
  key_is_true n (Some key) (boolean b) = false
  key_is_true n (Some key) (number x) = false
  key_is_true n (Some key) (string s) = false
  key_is_true n (Some key) (array ds) = list_is_true n key ds (each_true n ds) (some_true n ds)
  key_is_true n (Some key) (object ms) = false

  pub each_true : NodeFacts → Items → Bool
  each_true n no_items = true
  each_true n (item d ds) = is_true n d && each_true n ds

  pub some_true : NodeFacts → Items → Bool
  some_true n no_items = false
  some_true n (item d ds) = is_true n d || some_true n ds
