-- Which values are no constraints (RFC 31), and where the first fault of one stands.
use Rattle.std.specs.Prelude.{ℕ, ◌+◌, List, ◌++◌, Bool, true, false, if◌then◌else◌, Option, Some, None, Result, Ok, Err}
use Rattle.std.specs.Prelude.{codes}
use Rattle.std.specs.Option.{option_or}
use Rattle.serde_json.specs.Data.{Data, null, boolean, number, string, array, object, Items, no_items, item, Members}
use Rattle.serde_json.specs.Data.{no_members, member}
use Rattle.json_fields.specs.Paths.{index}
use Rattle.idset_text.specs.Hostlists.{hostlist_of}
use Rattle.idset_text.specs.Idsets.{idset_of}
use Rattle.node_constraints.specs.declared.keys.Key.{Key}
use Rattle.node_constraints.specs.declared.keys.Key.TheVariants.{Properties, Hostlist, Ranks, And, Or, Not}
use Rattle.node_constraints.specs.Truth.{each_text, key_of}

-- ---- texts

abbrev pub is_ok : {A E : Type 0} → Result A E → Bool
is_ok (Ok x) = true
is_ok (Err e) = false

abbrev pub is_text : List ℕ → Bool
is_text text = true

abbrev pub is_hostlist : List ℕ → Bool
is_hostlist text = is_ok (hostlist_of text)

abbrev pub is_idset : List ℕ → Bool
is_idset text = is_ok (idset_of text)

-- ---- constraints

-- the fault at the path, where something is amiss
abbrev pub unless : List ℕ → Bool → Option (List ℕ)
unless path fine = if fine then None else Some path

-- the path of the list at a key
abbrev pub list_path : List ℕ → List ℕ → List ℕ
list_path path k = path ++ (codes "." ++ k)

-- the fault of the list at a key of the constraint at a path; of constraints, the first one of them
abbrev pub list_fault : List ℕ → Key → Items → Option (List ℕ) → Option (List ℕ)
list_fault path Properties ds inner = unless path (each_text is_text ds)
list_fault path Hostlist ds inner = unless path (each_text is_hostlist ds)
list_fault path Ranks ds inner = unless path (each_text is_idset ds)
list_fault path And ds inner = inner
list_fault path Or ds inner = inner
list_fault path Not ds inner = inner

-- The path of the innermost constraint in which the first fault of the constraint at a path stands: objects and lists
-- are looked at from their beginnings, the keys of an object in the order of their bytes.
abbrev mutual
  pub fault_at : List ℕ → Data → Option (List ℕ)
  fault_at path null = Some path
  fault_at path (boolean b) = Some path
  fault_at path (number x) = Some path
  fault_at path (string s) = Some path
  fault_at path (array ds) = Some path
  fault_at path (object ms) = keys_fault path ms

  pub keys_fault : List ℕ → Members → Option (List ℕ)
  keys_fault path no_members = None
  keys_fault path (member k d ms) = option_or (key_fault path k (key_of k) d) (keys_fault path ms)

  -- of a key that is called so
  pub key_fault : List ℕ → List ℕ → Option Key → Data → Option (List ℕ)
  key_fault path k None d = Some path
  key_fault path k (Some key) null = Some path
  key_fault path k (Some key) (boolean b) = Some path
  key_fault path k (Some key) (number x) = Some path
  key_fault path k (Some key) (string s) = Some path
  key_fault path k (Some key) (array ds) = list_fault path key ds (items_fault (list_path path k) 0 ds)
  key_fault path k (Some key) (object ms) = Some path

  -- of the constraints of a list from an index on
  pub items_fault : List ℕ → ℕ → Items → Option (List ℕ)
  items_fault list at no_items = None
  items_fault list at (item d ds) = option_or (fault_at (list ++ index at) d) (items_fault list (at + 1) ds)
