-- Until when a vertex is short, and what that says of later windows.
use Rattle.std.proofs.Common.{◌≡◌, ◌≢◌, ℕ, ◌+◌, ◌<◌, ◌≤◌, List, [], Option, Some, None}
use Rattle.std.proofs.Common.{slice_get, subst, arith}
use Rattle.std.specs.Prelude.{IfSome, MatchOption}
use Rattle.flux_defs.specs.declared.vertices.Vertex.{Vertex}
use Rattle.flux_defs.specs.declared.claims.Window.{Window}
use Rattle.flux_defs.specs.declared.requests.Need.{Need}
use Rattle.prune_filters.specs.declared.shorts.Demand.{Demand}
use Rattle.prune_filters.specs.Shorts.{AreDemandsOf, IsShortOf, IsShortFor}
use Rattle.dfu_match.specs.declared.wanting.Wanted.{Wanted}
use Rattle.dfu_match.specs.Pairs.{asked_totals}
use Rattle.flux_defs.specs.Later.{ReachesOver, IsSoUntil}
use Rattle.dfu_match.specs.Reaches.{FallsWithin, NoneUntil, ServesAtMost}
use Rattle.dfu_match.proofs.DemandLaws.{short_from, short_to}
use Rattle.dfu_match.proofs.TableLaws.{need_there}
use Rattle.dfu_match.specs.Searches.{open_to}
use Rattle.dfu_match.specs.Tables.{AreWantedBy, IsWantedBy, StandsAt}
use Rattle.flux_defs.specs.Free.{total_at, IsTooLittle}
use Rattle.flux_defs.specs.Graph.{ResourceGraph}
use Rattle.flux_defs.specs.Needs.{IsValidNeed}
use Rattle.flux_defs.specs.ValidGraph.{IsValidGraph}
use Rattle.flux_defs.specs.Present.{Present}
use Rattle.prune_filters.specs.Demands.{capped, demand}
use Rattle.prune_laws.proofs.Demanded.{demand_more, piece_total}

module _ (vertices : List Vertex) (present : Present) (w : Window) (kept : ℕ → ℕ → Type 0) (need : Need)
    (demands : List Demand) (are : AreDemandsOf vertices need demands) (v : ℕ) (table : List Wanted)
    (some : table ≢ []) where
  -- until when it is so of the demands of a need, it is so of the need
  pub told_until : (found : Option ℕ) → IsSoUntil (λ w. IsShortOf vertices present w kept demands v) w found →
      IsSoUntil (λ w. IsShortFor vertices present w (asked_totals table kept) need v) w found
  told_until None none = λ is. none (short_from vertices present w kept need demands are v (is.0, (is.1.0.1, is.1.1)))
  told_until (Some m) told = λ other reach.
      let is = short_to vertices present other kept need demands are v (told other reach) in
      (is.0, ((some, is.1.0), is.1.1))

-- what the table tells of a need at its place
pub entry_tells : (vertices : List Vertex) (all : List Need) (table : List Wanted) (index : ℕ) (need : Need)
    (wanted : Wanted) → AreWantedBy vertices all table → StandsAt all table index need →
    slice_get table index ≡ Some wanted → IsWantedBy vertices need wanted
entry_tells vertices all table index need wanted tells stands entry =
    tells index need wanted (need_there all table index need wanted stands entry) entry

-- where a total is below what so many demand at a moment of the window, no more than one fewer can be served
pub few_copies : (g : ResourceGraph) (names : List (List ℕ)) → IsValidGraph g names → (present : Present)
    (barred : List ℕ) (w : Window) (need : Need) → IsValidNeed g.vertices need → (kind v n more : ℕ) → more ≤ n + 1 →
    IsTooLittle g.vertices present w v kind (capped (demand g.vertices kind more need)) →
    ServesAtMost g.vertices (open_to g.vertices present barred w) need v n
few_copies g names valid present barred w need fine kind v n more le (m, lo, hi, few) scope q lt can =
    let there =
    piece_total g names valid present barred w kind m lo hi scope need fine v q can.0 (omega (arith, lt)) can.1 in
    let all : demand g.vertices kind q need ≤ total_at g.vertices present kind m v = there in
    let less : demand g.vertices kind more need ≤ demand g.vertices kind q need =
    demand_more g.vertices kind more q need (omega (arith, le, lt)) in
    let under : total_at g.vertices present kind m v < capped (demand g.vertices kind more need) = few in
    omega (arith, all, less, under)

-- what reaches over from an earlier moment on reaches over from a later one on
pub reach_later : (w other : Window) (sooner later : ℕ) → sooner ≤ later → ReachesOver w sooner other →
    ReachesOver w later other
reach_later w other sooner later le reach = ((let a = reach.0 in omega (arith, a, le)), reach.1, reach.2)

-- the window itself reaches over all of it
pub reach_all : (w : Window) (until : ℕ) → w.from ≤ until → w.from < w.to → ReachesOver w until w
reach_all w until le opens = (le, omega arith, opens)

-- what is so over all windows that reach over it is so over the window, where the moment fell from its start
pub over_own : (w : Window) (until : ℕ) → FallsWithin w w.from until → w.from < w.to → (P : Window → Type 0) →
    ((other : Window) → ReachesOver w until other → P other) → P w
over_own w until falls opens P all = all w (reach_all w until (falls.1 (omega arith)) opens)

-- falling twice
pub falls_twice : (w : Window) (a b c : ℕ) → FallsWithin w a b → FallsWithin w b c → FallsWithin w a c
falls_twice w a b c f g = (let x = f.0 in let y = g.0 in omega (arith, x, y), λ le. g.1 (f.1 le))

-- a moment that is told isn't before the window's start, nor is that start
pub told_later : (w : Window) (told : Option ℕ) (until : ℕ) →
    MatchOption told (until ≡ w.from) (λ m. until ≡ m) → IfSome told (λ m. w.from ≤ m) → w.from ≤ until
told_later w None until is later = omega (arith, is)
told_later w (Some m) until is later = omega (arith, is, later)

-- what is said until a moment that is told, and of the window's start nothing
pub told_or : (P : Window → Type 0) (w : Window) (told : Option ℕ) (until : ℕ) →
    MatchOption told (until ≡ w.from) (λ m. until ≡ m) →
    ((other : Window) → IfSome told (λ m. ReachesOver w m other → P other → ⊥)) → NoneUntil P w until
told_or P w None until is none lt other reach p = omega (arith, is, lt)
told_or P w (Some m) until is none lt other reach p =
    none other (subst (λ (k : ℕ). ReachesOver w k other) is reach) p
