-- What is known of an own need tells that no claims fit.
use Rattle.std.proofs.Common.{◌≡◌, ℕ, ◌+◌, ◌<◌, List, drop, length, Some, slice_get, ◌∙◌, ap, subst}
use Rattle.flux_defs.specs.declared.vertices.Vertex.{Vertex}
use Rattle.flux_defs.specs.declared.claims.Window.{Window}
use Rattle.flux_defs.specs.declared.requests.Need.{Need}
use Rattle.flux_defs.specs.Graph.{ResourceGraph, Everywhere}
use Rattle.flux_defs.specs.Later.{ReachesOver}
use Rattle.flux_defs.specs.Needs.{amount_of, IsValidNeed, AreValidNeeds}
use Rattle.flux_defs.specs.Present.{Present, InEach}
use Rattle.list_laws.proofs.Lists.{drop_here}
use Rattle.match_laws.specs.Offers.{SomeFits}
use Rattle.match_laws.proofs.NeedLists.{group_at}
use Rattle.dfu_match.specs.declared.knowing.Known.{Known}
use Rattle.dfu_match.specs.Searches.{open_to}
use Rattle.dfu_match.specs.Rows.{served_most, Knows, StandFrom}
use Rattle.dfu_match.proofs.CountLaws.{valid_at}
use Rattle.dfu_match.proofs.RowLaws.{rows_refute}

-- each need of valid ones is valid
pub valid_get : (vertices : List Vertex) (needs : List Need) (i : ℕ) (need : Need) → slice_get needs i ≡ Some need →
    AreValidNeeds vertices needs → IsValidNeed vertices need
valid_get vertices needs i need there valid =
    valid_at vertices needs i need (drop (i + 1) needs) (drop_here needs i need there) valid

-- rows of all vertices of an own need which leave less than its amount tell that no claims fit
pub known_refutes : (g : ResourceGraph) (stands : Present → Type 0) (barred : List ℕ) (needs : List Need)
    (w other : Window) (known : Known) (own : ℕ) (need : Need) (until : ℕ) → AreValidNeeds g.vertices needs →
    Knows g.vertices stands barred needs w known → known.end ≡ length g.vertices → known.own ≡ own →
    slice_get needs own ≡ Some need → served_most need until known.rows.items < amount_of need →
    ReachesOver w until other → InEach stands (λ present. SomeFits g.vertices (open_to g.vertices present barred other)
    Everywhere needs 1 → ⊥)
known_refutes g stands barred needs w other known own need until valid k end same there few reach present here fits =
    let at : slice_get needs known.own ≡ Some need = ap (slice_get needs) same ∙ there in
    rows_refute g stands barred w other need known.rows.items until (valid_get g.vertices needs own need there valid)
    (subst (StandFrom g.vertices need 0 known.rows.items) end (k.order need at)) (k.rows need at) reach few present here
    (group_at g.vertices (open_to g.vertices present barred other) 1 Everywhere needs own need (drop (own + 1) needs)
    (drop_here needs own need there) fits)
