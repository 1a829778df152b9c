use Rattle.std.proofs.Common.{◌≡◌, ◌<◌, ℕ, List, map, length, sym, ◌∙◌, ap, subst, None}
use Rattle.std.specs.List.{AllByRecursion}
use Rattle.std.specs.List.Sorted.{IsPermutation}
use Rattle.std.proofs.lemmas.Result.{IfOk-weaker}
use Rattle.idset_text.specs.Hostlists.{names_of}
use Rattle.resource_set_r.specs.declared.sets_read.RRow.{RRow}
use Rattle.resource_set_r.specs.ReadRows.{ranges_in, IsRepeatedRank}
use Rattle.graph_from_r.specs.declared.nodes.RNode.{RNode}
use Rattle.graph_from_r.specs.declared.places.Place.{Place}
use Rattle.graph_from_r.specs.Places.{places_from}
use Rattle.graph_from_r.specs.Nodes.{nodes_at, names_for, AreNodesOf}
use Rattle.graph_from_r.specs.Graphs.{AreFairNodes}
use Rattle.graph_from_r.proofs.NodesOf.{rows_there, names_long, are_nodes, are_fair}
use Rattle.graph_from_r.proofs.nodes.nodes_of.Goals as goal

pub places_of-requires : goal.places_of-requires
places_of-requires c =
    subst (λ (rs : List RRow). IsRepeatedRank (ranges_in rs) None) (sym c.items.ensures) c.requires.apart

pub nodes_at-requires : goal.nodes_at-requires
nodes_at-requires c =
    let set = c.args.set.now in
    let places = c.in_ok-places.places.items in
    let rank = λ (p : Place). p.rank in
    let same : IsPermutation (places_from 0 set.rows) places =
    subst (λ (rs : List RRow). IsPermutation (places_from 0 rs) places) c.items.ensures c.in_ok-places.ensures.same in
    let named : c.in_ok-names.names ≡ names_for (map rank places) (names_of set.hosts) =
    c.in_ok-names.ensures ∙ ap (λ (ps : List Place). names_for (map rank ps) (names_of set.hosts))
    c.as_slice.ensures.value in
    let long : length c.in_ok-names.names ≡ length places = ap length named ∙ names_long set places same
    c.requires.hosts in
    record {
      rows = subst (λ (rs : List RRow). AllByRecursion (λ p. p.row < length rs) c.as_slice-2.result.now)
          (sym c.items-2.ensures)
          (subst (λ (ps : List Place). AllByRecursion (λ p. p.row < length set.rows) ps)
          (sym c.as_slice-2.ensures.value)
          (rows_there set places same));
      names = ap length c.items-3.ensures ∙ (long ∙ ap length (sym c.as_slice-2.ensures.value));
    }

pub returns : goal.returns
returns c =
    let set = c.args.set.now in
    let properties = c.args.properties.now in
    let places = c.in_ok-places.places.items in
    let names = c.in_ok-names.names in
    let rank = λ (p : Place). p.rank in
    let same : IsPermutation (places_from 0 set.rows) places =
    subst (λ (rs : List RRow). IsPermutation (places_from 0 rs) places) c.items.ensures c.in_ok-places.ensures.same in
    let rise = c.in_ok-places.ensures.rising in
    let named : names ≡ names_for (map rank places) (names_of set.hosts) =
    c.in_ok-names.ensures ∙ ap (λ (ps : List Place). names_for (map rank ps) (names_of set.hosts))
    c.as_slice.ensures.value in
    let long : length names ≡ length places = ap length named ∙ names_long set places same c.requires.hosts in
    let is : nodes_at c.items-2.result.now properties c.as_slice-2.result.now c.items-3.result.now
    ≡ nodes_at set.rows properties places names =
    ap (λ (rs : List RRow). nodes_at rs properties c.as_slice-2.result.now c.items-3.result.now) c.items-2.ensures
    ∙ (ap (λ (ps : List Place). nodes_at set.rows properties ps c.items-3.result.now) c.as_slice-2.ensures.value
    ∙ ap (λ (ns : List (List ℕ)). nodes_at set.rows properties places ns) c.items-3.ensures) in
    record {
      nodes = IfOk-weaker c.nodes_at.result _ _
          (λ nodes e. subst (λ (ns : List RNode). AreNodesOf set properties ns) (sym (e ∙ is))
          (are_nodes set places same properties names named long rise)) c.nodes_at.ensures;
      fair = IfOk-weaker c.nodes_at.result _ _
          (λ nodes e. subst AreFairNodes (sym (e ∙ is))
          (are_fair set places same properties names long rise c.requires.size c.requires.rows)) c.nodes_at.ensures;
    }
