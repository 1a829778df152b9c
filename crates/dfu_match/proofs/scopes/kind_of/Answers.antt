use Rattle.std.proofs.Common.{◌≡◌, ◌↔◌, ℕ, List, Option, Some, None, codes, sym, ◌∙◌, subst}
use Rattle.std.specs.Prelude.{MatchOption}
use Rattle.flux_defs.specs.Graph.{ResourceGraph, HasKind, IsNode}
use Rattle.flux_defs.specs.Needs.{kind_of}
use Rattle.flux_defs.specs.ValidGraph.{IsValidGraph}
use Rattle.flux_defs.specs.declared.requests.Need.{Need}
use Rattle.resource_graph.specs.Tables.{IsNamedKind}
use Rattle.dfu_match.specs.Searches.{IsKindOfNeed}
use Rattle.dfu_match.proofs.ScopeLaws.{node_kind, no_node}
use Rattle.dfu_match.proofs.scopes.kind_of.Goals as goal

module _ (g : ResourceGraph) (names : List (List ℕ)) (valid : IsValidGraph g names) (need : Need) where
  -- v is of a need that names this kind, or none
  abbrev Of : ℕ → Option ℕ → Type 0
  Of v named = MatchOption named (IsNode g.vertices v) (λ kind. HasKind g.vertices kind v)

  names_kind : (k : ℕ) → Some k ≡ kind_of need → IsKindOfNeed g.vertices need (Some k)
  names_kind k e v = subst (λ named. Of v named ↔ HasKind g.vertices k v) e ((λ h. h), (λ h. h))

  names_none : (found : Option ℕ) → None ≡ kind_of need → IsNamedKind g (codes "node") found →
      IsKindOfNeed g.vertices need found
  names_none None e none = λ v h. no_node g names valid none v (subst (Of v) (sym e) h)
  names_none (Some k) e is = λ v. subst (λ named. Of v named ↔ HasKind g.vertices k v) e (node_kind g names valid k is
      v)

pub returns-in-Some : goal.returns-in-Some
returns-in-Some c =
    let graph = c.args.graph.now in
    names_kind graph.resources graph.names c.is_valid.ensures.valid c.args.need.now c.in-Some.kind
    (sym c.in-Some.is ∙ c.kind.ensures)

pub returns-in-None : goal.returns-in-None
returns-in-None c =
    let graph = c.args.graph.now in
    names_none graph.resources graph.names c.is_valid.ensures.valid c.args.need.now c.kind_of.result
    (sym c.in-None.is ∙ c.kind.ensures) c.kind_of.ensures
