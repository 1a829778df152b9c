-- How many steps asking anew of the vertices of a need takes.
use Rattle.std.proofs.Common.{◌≡◌, ℕ, zero, suc, ◌+◌, ◌-◌, ◌*◌, ◌<◌, ◌≤◌, List, length, refl, arith, inl}
use Rattle.std.proofs.Common.{inr, ◌⊎◌, IsTrue}
use Rattle.std.proofs.Common.{is_some, slice_get, true, [], ◌∷◌, get_or, take, length-append, sym, ◌∙◌}
use Rattle.std.proofs.Common.{ap, subst}
use Rattle.std.proofs.lemmas.Option.{slice_get_within}
use Rattle.std.specs.Prelude.{Contains}
use Rattle.std.proofs.Math.Nat.{mul-le-mul_right}
use Rattle.flux_defs.specs.declared.vertices.Vertex.{Vertex}
use Rattle.flux_defs.specs.declared.claims.Window.{Window}
use Rattle.flux_defs.specs.declared.requests.Need.{Need, Vert', Pool, Spread'}
use Rattle.flux_defs.specs.Graph.{ResourceGraph, is_at_or_below}
use Rattle.flux_defs.specs.Needs.{IsOfNeed, IsSpread, IsValidNeed}
use Rattle.flux_defs.specs.ValidGraph.{IsValidGraph}
use Rattle.flux_defs.specs.Present.{Present}
use Rattle.graph_laws.proofs.Containment.{below_le, below_self}
use Rattle.graph_laws.proofs.Preorder.{parents_first}
use Rattle.prune_filters.specs.Shorts.{IsShortFor}
use Rattle.resource_graph.specs.Tables.{IsPast}
use Rattle.list_laws.proofs.Values.{value_of}
use Rattle.prune_laws.proofs.Demanded.{too_little_none}
use Rattle.dfu_match.specs.Searches.{open_to}
use Rattle.dfu_match.specs.Walks.{ServesNone}
use Rattle.dfu_match.specs.Tables.{all_of, needs_all}
use Rattle.dfu_match.specs.Pairs.{Pair, AsksWithin, HasEachOpen, IsClearWithin, IsClearBetween}
use Rattle.dfu_match.specs.Pairs.{IsClearBefore, IsPlaceOf, TakesEach}
use Rattle.dfu_match.specs.Asked.{IsAsked}
use Rattle.dfu_match.proofs.ApartLaws.{apart_each, takes_behind}
use Rattle.dfu_match.proofs.OpenLaws.{clear_past, clear_within, open_here}
use Rattle.dfu_match.proofs.PairLaws.{takes_none, takes_one, takes_upto, takes_visit, takes_within}
use Rattle.dfu_match.proofs.StepLaws.{look_costs}
use Rattle.dfu_match.proofs.DemandLaws.{all_next}
use Rattle.dfu_match.proofs.TableLaws.{all_some, place_few, place_there, taken_few}

-- a need is a spread or none
pub spread_or : (need : Need) → IsSpread need ⊎ (IsSpread need → ⊥)
spread_or (Vert' kind count hold m needs) = inr (λ is. is)
spread_or (Pool kind quantity) = inr (λ is. is)
spread_or (Spread' count m needs) = inl tt

-- a vertex of a need is one of the graph
pub need_inside : (vertices : List Vertex) (need : Need) (v : ℕ) → IsOfNeed vertices need v → v < length vertices
need_inside vertices (Vert' kind count hold m needs) v is =
    let (x, at, same) = value_of (slice_get vertices v) (λ x. x.kind ≡ kind) is in slice_get_within vertices v x at
need_inside vertices (Pool kind quantity) v is =
    let (x, at, same) = value_of (slice_get vertices v) (λ x. x.kind ≡ kind) is in slice_get_within vertices v x at
need_inside vertices (Spread' count m needs) v is =
    let (x, at, ranked) = value_of (slice_get vertices v) (λ x. is_some x.rank ≡ true) is in
    slice_get_within vertices v x at

-- what lies in a short subtree serves nothing
pub short_dead : (g : ResourceGraph) (names : List (List ℕ)) → IsValidGraph g names → (present : Present)
    (barred : List ℕ) (w : Window) (keeps : ℕ → ℕ → Type 0) (need : Need) → IsValidNeed g.vertices need →
    (top past : ℕ) → IsPast g.vertices top past → IsShortFor g.vertices present w keeps need top →
    ServesNone g.vertices (open_to g.vertices present barred w) need top past
short_dead g names valid present barred w keeps need fine top past is short scope v q lo hi some can =
    too_little_none g names valid present barred w need fine top (short.0, short.1.1) scope v q (is.covered v lo hi)
    some
    can

-- nothing more is asked
pub asked_still : (vertices : List Vertex) (present : Present) (w : Window) (keeps : ℕ → ℕ → Type 0) (all : List Need)
    (need : Need) (place look old low : ℕ) → IsClearBefore vertices present w keeps need low (length vertices) →
    low ≤ length vertices → IsAsked vertices present w keeps all need place look old old low low
asked_still vertices present w keeps all need place look old low clear within = record {
  clear = clear;
  later = omega arith;
  within = within;
  own = 0;
  inner = 0;
  spent = omega arith;
  owns = takes_none (HasEachOpen vertices present w keeps all) look 0 place (place + 1) low low;
  inners = takes_none (HasEachOpen vertices present w keeps all) look 0 (place + 1) (place + length (all_of need)) low
      low;
  none = λ is. refl;
}

module _ (g : ResourceGraph) (names : List (List ℕ)) (valid : IsValidGraph g names) (present : Present) (w : Window)
    (keeps : ℕ → ℕ → Type 0) (all : List Need) (need : Need) (place cost : ℕ) where
  abbrev opened : List Pair → Type 0
  opened = HasEachOpen g.vertices present w keeps all

  abbrev look : ℕ
  look = (length all + 2) * cost

  abbrev asked : ℕ → ℕ → ℕ → ℕ → Type 0
  asked = IsAsked g.vertices present w keeps all need place look

  abbrev before : ℕ → ℕ → Type 0
  before = IsClearBefore g.vertices present w keeps need

  abbrev between : ℕ → ℕ → ℕ → Type 0
  between = IsClearBetween g.vertices present w keeps need

  -- nothing is asked at first
  pub asked_start : (old : ℕ) → asked old old 0 0
  asked_start old = asked_still g.vertices present w keeps all need place look old 0
      (λ v lo hi u ulo uhi above. absurd (omega (arith, ulo, uhi))) (omega arith)

  -- one after another
  pub asked_next : (old mid new from at to : ℕ) → asked old mid from at → asked mid new at to → asked old new from to
  asked_next old mid new from at to a b =
      let low = a.later in
      let high = b.later in
      record {
        clear = b.clear;
        later = omega (arith, low, high);
        within = b.within;
        own = a.own + (b.own - 0);
        inner = a.inner + (b.inner - 0);
        spent = (let x = a.spent in let y = b.spent in omega (arith, x, y));
        owns = takes_upto opened look 0 a.own (a.own + (b.own - 0)) place (place + 1) from at to low high a.owns
            (takes_behind opened look 0 b.own a.own place (place + 1) at to b.owns);
        inners = takes_upto opened look 0 a.inner (a.inner + (b.inner - 0)) (place + 1)
            (place + length (all_of need)) from at to low high a.inners
            (takes_behind opened look 0 b.inner a.inner (place + 1) (place + length (all_of need)) at to b.inners);
        none = λ is. (let x = a.none is in let y = b.none is in omega (arith, x, y));
      }

  -- all together, and of a spread itself alone
  pub asked_all : (old new from to : ℕ) → asked old new from to →
      TakesEach opened look old new place (place + length (all_of need)) from (length g.vertices)
      × (IsSpread need → TakesEach opened look old new place (place + 1) from (length g.vertices))
  asked_all old new from to a = (
    (
        let some = all_some need in
        takes_within opened look look old new place (place + length (all_of need)) from to place
        (place + length (all_of need)) from (length g.vertices) (omega arith) (omega arith) (omega arith) (omega arith)
        a.within
        (apart_each opened look look old new place (place + length (all_of need)) from to (omega arith)
        (omega (arith, some)) (a.own, a.inner, a.spent, a.owns, a.inners))
        ),
    λ is.
        let none = a.none is in
        let spent = a.spent in
        takes_within opened look look old new place (place + 1) from to place (place + 1) from (length g.vertices)
        (omega arith) (omega arith) (omega arith) (omega arith) a.within
        (λ pairs has. let own = a.owns pairs has in omega (arith, own, spent, none)),
  )

  module _ (at : IsPlaceOf all place need) (low v : ℕ) (clear : before low (length g.vertices)) (lo : low ≤ v)
      (lt : v < length g.vertices) where
    abbrev few : length (all_of need) * cost + 2 * cost ≤ look
    few = look_costs (length (all_of need)) (length all) cost (place_few all place need at)

    -- a vertex above is short
    pub asked_short : (old new top past : ℕ) → low ≤ top → IsTrue (is_at_or_below g.vertices v top) →
        between v low top → IsPast g.vertices top past →
        TakesEach opened (length (all_of need) * cost) old new place (place + 1) low (v + 1) → asked old new low past
    asked_short old new top past high above over is t =
        let later = is.later in
        let under = below_le g.vertices (parents_first g valid.preorder) v top above in
        let inside = is.whole v lt above in
        let enough = few in
        record {
          clear = clear_past g names valid present w keeps need low (length g.vertices) v top past (omega arith) clear
              high
              lt lt above over is;
          later = omega (arith, high, later);
          within = is.within;
          own = 0 + (new - old);
          inner = 0;
          spent = omega arith;
          owns = takes_within opened (length (all_of need) * cost) look 0 (0 + (new - old)) place (place + 1) low
              (v + 1) place (place + 1) low past (omega (arith, enough)) (omega arith) (omega arith) (omega arith)
              (omega (arith, inside))
              (takes_behind opened (length (all_of need) * cost) old new 0 place (place + 1) low (v + 1) t);
          inners = takes_none opened look 0 (place + 1) (place + length (all_of need)) low past;
          none = λ spread. refl;
        }

    module _ (over : between v low v) (past : ℕ) (is : IsPast g.vertices v past) where
      abbrev there : (pairs : List Pair) → opened pairs →
          Contains pairs (record { place = place; vertex = v })
      there pairs has = has place v need (place_there all place need at) lt
          (open_here g names valid present w keeps need v low (clear v lo lt) over)

      abbrev after : before past (length g.vertices)
      after = clear_past g names valid present w keeps need low (length g.vertices) v v past (omega arith) clear lo lt
          lt
          (below_self g.vertices (parents_first g valid.preorder) v lt) over is

      -- no vertex above is, and the vertex and what is within it are asked
      pub asked_within : (old found new : ℕ) → (IsSpread need → ⊥) →
          TakesEach opened (length (all_of need) * cost) old found place (place + 1) low (v + 1) →
          TakesEach opened look (found + 2 * cost) new (place + 1) (place + length (all_of need)) (v + 1) past →
          asked old new low past
      asked_within old found new plain s t =
          let later = is.later in
          let enough = few in
          record {
            clear = after;
            later = omega (arith, lo, later);
            within = is.within;
            own = 0 + ((found + 2 * cost) - old);
            inner = 0 + (new - (found + 2 * cost));
            spent = omega arith;
            owns = takes_behind opened look old (found + 2 * cost) 0 place (place + 1) low past
                (takes_visit opened look (length (all_of need) * cost) (2 * cost) old found (found + 2 * cost) place
                (place + 1) low v past (omega (arith, enough)) lo later (omega arith) there s
                (takes_none opened look (found + 2 * cost) (place + 1) (place + 1) (v + 1) past));
            inners = takes_behind opened look (found + 2 * cost) new 0 (place + 1) (place + length (all_of need)) low
                past (takes_within opened look look (found + 2 * cost) new (place + 1) (place + length (all_of need))
                (v + 1) past (place + 1) (place + length (all_of need)) low past (omega arith) (omega arith)
                (omega arith) (omega (arith, lo)) (omega arith) t);
            none = λ spread. absurd (plain spread);
          }

      -- and of a spread its totals
      pub asked_room : (old found new : ℕ) →
          TakesEach opened (length (all_of need) * cost) old found place (place + 1) low v →
          new ≤ found + (length (all_of need) + 1) * cost → asked old new low past
      asked_room old found new s le =
          let later = is.later in
          let enough = few in
          let one : (length (all_of need) + 1) * cost ≤ look = (
          let more : (length (all_of need) + 1) * cost ≤ (length (all_of need) + 2) * cost =
          mul-le-mul_right cost (omega arith) in
          let same : (length (all_of need) + 2) * cost ≡ length (all_of need) * cost + 2 * cost = grind arith in
          omega (arith, more, same, enough)) in
          record {
            clear = after;
            later = omega (arith, lo, later);
            within = is.within;
            own = 0 + (new - old);
            inner = 0;
            spent = omega arith;
            owns = takes_behind opened look old new 0 place (place + 1) low past
                (takes_upto opened look old found new place (place + 1) low v past lo (omega (arith, later))
                (takes_within opened (length (all_of need) * cost) look old found place (place + 1) low v place
                (place + 1) low v (omega (arith, enough)) (omega arith) (omega arith) (omega arith) (omega arith) s)
                (takes_within opened look look found new place (place + 1) v (v + 1) place (place + 1) v past
                (omega arith) (omega arith) (omega arith) (omega arith) (omega (arith, later))
                (takes_one opened look found new place v (omega (arith, le, one)) there)));
            inners = takes_none opened look 0 (place + 1) (place + length (all_of need)) low past;
            none = λ spread. refl;
          }

      -- the vertex is clear, and within it where it isn't short itself
      pub asked_clear : (AsksWithin need → IsShortFor g.vertices present w keeps need v → ⊥) →
          IsClearWithin g.vertices present w keeps need v
      asked_clear own = clear_within g names valid present w keeps need low (length g.vertices) v lt clear lo lt over
          own

module _ (each : List Pair → Type 0) (look to : ℕ) (items : List Need) (i : ℕ) (need : Need) (lt : i < length items)
    (at : need ≡ get_or items i need) (needs : List Need) (same : items ≡ needs) (start old new : ℕ)
    (begun : old ≡ start) where
  -- what is taken for one of the needs is within all of them
  pub known_all :
      TakesEach each look old new (0 + length (needs_all (take i items)))
      (0 + length (needs_all (take i items)) + length (all_of need)) 0 to →
      TakesEach each look start new 0 (length (needs_all needs)) 0 to
  known_all t =
      let place = 0 + length (needs_all (take i items)) in
      let e = ap length (all_next items i need lt at) in
      let a = length-append (needs_all (take i items)) (all_of need) in
      let few = taken_few (i + 1) items in
      let all = ap (λ (ns : List Need). length (needs_all ns)) same in
      subst (λ (k : ℕ). TakesEach each look k new 0 (length (needs_all needs)) 0 to) begun
      (takes_within each look look old new place (place + length (all_of need)) 0 to 0 (length (needs_all needs)) 0 to
      (omega arith) (omega arith) (omega (arith, e, a, few, all)) (omega arith) (omega arith) t)

  first_alone : (xs : List Need) (k : ℕ) (x y : Need) → k < length xs → x ≡ get_or xs k x → xs ≡ y ∷ [] →
      (x ≡ y) × (length (needs_all (take k xs)) ≡ 0)
  first_alone [] k x y lt at e = absurd (cc)
  first_alone (z ∷ []) zero x y lt at e = (cc, refl)
  first_alone (z ∷ []) (suc k) x y lt at e = absurd (omega arith)
  first_alone (z ∷ u ∷ more) k x y lt at e = absurd (cc)

  -- and where it is a spread alone, within it itself
  pub known_alone : (one : Need) → needs ≡ one ∷ [] → IsSpread one →
      (IsSpread need → TakesEach each look old new (0 + length (needs_all (take i items)))
      (0 + length (needs_all (take i items)) + 1) 0 to) → TakesEach each look start new 0 1 0 to
  known_alone one is spread t =
      let found = first_alone items i need one lt at (same ∙ is) in
      subst (λ (k : ℕ). TakesEach each look k new 0 1 0 to) begun
      (subst (λ (k : ℕ). TakesEach each look old new (0 + k) (0 + k + 1) 0 to) found.1
      (t (subst IsSpread (sym found.0) spread)))
