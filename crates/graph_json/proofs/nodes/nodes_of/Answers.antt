use Rattle.std.proofs.Common.{◌≡◌, refl, sym, ap, ◌∙◌, arith, ℕ, suc, ◌+◌, List, [], ◌∷◌, ◌++◌, length, map, drop}
use Rattle.std.proofs.Common.{Some, Result, Ok, Err, slice_get, append_assoc}
use Rattle.std.proofs.lemmas.List.{map-append}
use Rattle.std.proofs.lemmas.Option.{slice_get_read}
use Rattle.std.specs.Result.{result_map_both}
use Rattle.json.specs.declared.value.Value.{Value}
use Rattle.json_whole.specs.Values.{view, items_view}
use Rattle.json_fields.specs.Values.{result_and_then}
use Rattle.list_laws.proofs.Lists.{drop_here}
use Rattle.graph_json.specs.FieldPaths.{FileMisfit}
use Rattle.graph_json.specs.Nodes.{FileNode, node_held, node_of, nodes_of}
use Rattle.graph_json.proofs.nodes.nodes_of.Goals as goal

-- these nodes, and those that are read of the rest
abbrev with : List FileNode → Result (List FileNode) FileMisfit → Result (List FileNode) FileMisfit
with held rest = result_map_both (λ xs. held ++ xs) (λ m. m) rest

-- one node more
with-more : (held : List FileNode) (x : FileNode) (rest : Result (List FileNode) FileMisfit) →
    with (held ++ x ∷ []) rest ≡ with held (with (x ∷ []) rest)
with-more held x (Ok xs) = ap Ok (append_assoc held (x ∷ []) xs)
with-more held x (Err m) = refl

module _ {A : Type 0} (vs : List (Value A)) (k : ℕ) (v : Value A) (x : FileNode)
    (at : slice_get vs k ≡ Some v) (read : Ok x ≡ node_of k (view v)) where
  abbrev rest : ℕ → Result (List FileNode) FileMisfit
  rest n = nodes_of n (items_view (drop (k + 1) vs))

  step : with (x ∷ []) (rest (k + 1)) ≡ nodes_of k (items_view (drop k vs))
  step =
      let next : k + 1 ≡ suc k = omega arith in
      let split : drop k vs ≡ v ∷ drop (k + 1) vs = drop_here vs k v at in
      ap (λ n. with (x ∷ []) (rest n)) next
      ∙ ap (λ r. result_and_then r (λ y. with (y ∷ []) (rest (suc k)))) read
      ∙ ap (λ ws. nodes_of k (items_view ws)) (sym split)

  stepped : (held : List FileNode) →
      with (held ++ x ∷ []) (rest (k + 1)) ≡ with held (nodes_of k (items_view (drop k vs)))
  stepped held = with-more held x (rest (k + 1)) ∙ ap (with held) step

pub nodes-preserved : goal.nodes-preserved
nodes-preserved c =
    let vs = c.args.items.now in
    let v = c.index-items-at.result in
    let x = c.in-Ok.fields in
    let old = c.nodes.nodes.items in
    let k = c.nodes.at in
    let at : slice_get vs k ≡ Some v = slice_get_read vs (length vs) k v refl (omega arith) c.index-items-at.is in
    let held : map node_held c.push.new.self.items ≡ map node_held old ++ node_held x ∷ [] =
    ap (map node_held) c.in_ok-push-in-Ok.ensures.items ∙ map-append node_held old (x ∷ []) in
    ap (λ xs. with xs (nodes_of (k + 1) (items_view (drop (k + 1) vs)))) held
    ∙ stepped vs k v (node_held x) at c.in-Ok.ensures (map node_held old) ∙ c.nodes.invariant
