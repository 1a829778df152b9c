-- What asking of one vertex tells: which vertices above it are short, and how much it serves over later windows.
use Rattle.std.proofs.Common.{◌≡◌, ℕ, ◌+◌, ◌<◌, ◌≤◌, Bool, true, false, List, Option, Some, None, length}
use Rattle.std.proofs.Common.{Contains, slice_get, refl, sym, ◌∙◌, ap, subst, arith, IsTrue}
use Rattle.std.specs.Prelude.{IfSome, IfNone, MatchOption}
use Rattle.flux_defs.specs.declared.vertices.Vertex.{Vertex}
use Rattle.flux_defs.specs.declared.claims.Claim.{Claim}
use Rattle.flux_defs.specs.declared.claims.Window.{Window}
use Rattle.flux_defs.specs.declared.requests.Need.{Need, Vert}
use Rattle.flux_defs.specs.Graph.{ResourceGraph, Scope, Beneath, IsIn, parent_of, is_at_or_below}
use Rattle.flux_defs.specs.ValidGraph.{IsValidGraph}
use Rattle.flux_defs.specs.Later.{ReachesOver}
use Rattle.flux_defs.specs.Lowest.{CanServe}
use Rattle.flux_defs.specs.Needs.{IsOfNeed}
use Rattle.flux_defs.specs.Present.{Present, InEach}
use Rattle.flux_laws.proofs.Filling.{lower}
use Rattle.flux_laws.proofs.FitLaws.{TakesLess, serves_less}
use Rattle.graph_laws.proofs.Containment.{at_or_below-opens, on_chain, below_parent, below_trans, below_le}
use Rattle.graph_laws.proofs.Preorder.{parents_first}
use Rattle.match_laws.specs.Offers.{IsGreatest, SomeFits, VertexClaims}
use Rattle.match_laws.proofs.MoreAvailable.{piece_more}
use Rattle.match_laws.proofs.NeedLists.{server, vertex_serves}
use Rattle.prune_filters.specs.Shorts.{IsShortFor}
use Rattle.dfu_match.specs.declared.knowing.Row.{Row}
use Rattle.dfu_match.specs.declared.knowing.Known.{Known}
use Rattle.dfu_match.specs.Pairs.{IsClearBetween}
use Rattle.dfu_match.specs.Reaches.{ServesAtMost}
use Rattle.dfu_match.specs.Rows.{AreLefts, IsRowOf, Knows, whole_of}
use Rattle.dfu_match.specs.Searches.{open_to}
use Rattle.dfu_match.proofs.OpenLaws.{clear_child, clear_upto}

module _ (vertices : List Vertex) (present : Present) (w : Window) (keeps : ℕ → ℕ → Type 0) (need : Need)
    (v low : ℕ) where
  abbrev clear_to : ℕ → Type 0
  clear_to = IsClearBetween vertices present w keeps need v low

  -- where no vertex that is this one or above it is short, this one isn't
  pub own_told : (found : Option ℕ) → v < length vertices → low ≤ v →
      MatchOption found (clear_to (v + 1)) clear_to → IfNone found (IsShortFor vertices present w keeps need v → ⊥)
  own_told None lt lo clear =
      clear v lo (omega arith) (at_or_below-opens vertices v v
      ∙ on_chain vertices 0 (length vertices) v (Some v) (omega (arith, lt)) refl)
  own_told (Some top) lt lo clear = tt

module _ (g : ResourceGraph) (names : List (List ℕ)) (valid : IsValidGraph g names) (v low : ℕ)
    (lt : v < length g.vertices) where
  -- what is above a vertex's parent is above the vertex
  pub above_by_parent : (p : ℕ) → parent_of g.vertices v ≡ Some p → (found : Option ℕ) →
      IfSome found (λ top. (low ≤ top) × IsTrue (is_at_or_below g.vertices p top)) →
      IfSome found (λ top. (low ≤ top) × IsTrue (is_at_or_below g.vertices v top))
  above_by_parent p is None above = tt
  above_by_parent p is (Some top) above =
      let first = parents_first g valid.preorder in (
        above.0,
        below_trans g.vertices first v p top lt (below_parent g.vertices first v p lt is) above.1,
      )

  -- and what is clear up to the parent is clear above the vertex
  module _ (present : Present) (w : Window) (keeps : ℕ → ℕ → Type 0) (need : Need) where
    abbrev clear_of : ℕ → ℕ → Type 0
    clear_of u = IsClearBetween g.vertices present w keeps need u low

    pub clear_by_parent : (p : ℕ) → parent_of g.vertices v ≡ Some p → (found : Option ℕ) →
        IfSome found (λ top. (low ≤ top) × IsTrue (is_at_or_below g.vertices p top)) →
        MatchOption found (clear_of p (p + 1)) (clear_of p) → MatchOption found (clear_of v v) (clear_of v)
    clear_by_parent p is None above clear = clear_upto g names valid present w keeps need v p low lt is clear
    clear_by_parent p is (Some top) above clear =
        let first = parents_first g valid.preorder in
        let less = first v p is in
        let le = below_le g.vertices first p top above.1 in
        clear_child g names valid present w keeps need v p low top lt is (omega (arith, less, le)) clear

-- what is open over a window that begins no later and ends no sooner is open over this one
pub open_within : (vertices : List Vertex) (present : Present) (barred : List ℕ) (w other : Window) →
    ReachesOver w w.from other → (claim : Claim) → open_to vertices present barred other claim →
    open_to vertices present barred w claim
open_within vertices present barred w other reach claim each m lo hi =
    let from = reach.0 in
    let to = reach.1 in
    each m (omega (arith, from, lo)) (omega (arith, to, hi))

module _ (vertices : List Vertex) (ok : Claim → Type 0) where
  -- where less is available, no more is served
  pub at_most_less : (less : Claim → Type 0) → ((claim : Claim) → less claim → ok claim) → (need : Need) (v n : ℕ) →
      ServesAtMost vertices ok need v n → ServesAtMost vertices less need v n
  at_most_less less along need v n most scope q more can =
      most scope q more (can.0, piece_more vertices less ok along scope need v q can.0 can.1)

  -- a vertex below which the needs don't fit serves nothing
  pub at_most_inside : (kind count : ℕ) (hold : Bool) (needs : List Need) (v n : ℕ) → n < 1 →
      IsGreatest (SomeFits vertices ok (Beneath v) needs) 1 n →
      ServesAtMost vertices ok (Vert kind count hold needs) v n
  at_most_inside kind count hold needs v n lt greatest scope q more can =
      let p = (vertex_serves vertices ok scope kind count hold needs v q can).1 in
      let one : 1 ≡ n + 1 = omega arith in
      greatest.full lt (subst (SomeFits vertices ok (Beneath v) needs) one (inside hold p.0 p.1))
    where
      inside : (h : Bool) (claims : List Claim) → VertexClaims vertices ok h needs v claims →
          SomeFits vertices ok (Beneath v) needs 1
      inside true claims p = p.2
      inside false claims p = (p.0, p.3)

  -- where the greatest number that a vertex serves isn't all that was asked, it serves no more
  pub at_most_greatest : TakesLess ok → (need : Need) (v whole n : ℕ) → n < whole →
      ((scope : Scope) → IsIn vertices scope v → IsGreatest (CanServe vertices ok scope need v) whole n) →
      ServesAtMost vertices ok need v n
  at_most_greatest less need v whole n lt greatest scope q more can =
      (greatest scope (server vertices ok scope need v q can).1).full lt
      (lower (CanServe vertices ok scope need) (serves_less vertices ok less scope need) v (n + 1) q (omega arith)
      (omega (arith, more)) can)

-- the row of a vertex that serves no more than so much over this window
pub row_over : (vertices : List Vertex) (stands : Present → Type 0) (barred : List ℕ) (w : Window) (need : Need)
    (v most moment : ℕ) → IsOfNeed vertices need v → (most < whole_of need → moment ≡ w.from) →
    (most < whole_of need → InEach stands (λ present. ServesAtMost vertices (open_to vertices present barred w) need v
    most)) →
    IsRowOf vertices stands barred w need (record { vertex = v; most = most; moment = moment })
row_over vertices stands barred w need v most moment of_need begins bounds = record {
  of_need = of_need;
  bounds = λ lt present holds other reach.
      at_most_less vertices (open_to vertices present barred w) (open_to vertices present barred other)
      (open_within vertices present barred w other (subst (λ (m : ℕ). ReachesOver w m other) (begins lt) reach))
      need v most (bounds lt present holds);
}

-- what is known stays so where only what rows leave is told anew, which is so
pub knows_left : (vertices : List Vertex) (stands : Present → Type 0) (barred : List ℕ) (needs : List Need)
    (w : Window) (old new : Known) (own : ℕ) (need : Need) → slice_get needs own ≡ Some need → old.own ≡ own →
    new.own ≡ old.own → new.rows.items ≡ old.rows.items → new.end ≡ old.end →
    AreLefts need new.rows.items new.blocks.items → Knows vertices stands barred needs w old →
    Knows vertices stands barred needs w new
knows_left vertices stands barred needs w old new own need at is_own same rows end lefts k =
    let was : slice_get needs new.own ≡ slice_get needs old.own = ap (slice_get needs) same in
    record {
      rows = λ other there row within. k.rows other (sym was ∙ there) row
          (subst (λ (rs : List Row). Contains rs row) rows within);
      order = λ other there. rw (rows, end) (k.order other (sym was ∙ there));
      lefts = λ other there.
          let both : Some need ≡ Some other = sym at ∙ ap (slice_get needs) (sym (same ∙ is_own)) ∙ there in
          let one : need ≡ other = cc in
          subst (λ (n : Need). AreLefts n new.rows.items new.blocks.items) one lefts;
    }
