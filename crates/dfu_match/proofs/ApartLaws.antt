-- How many steps a walk takes that looks once at each vertex of a need, and otherwise within it.
use Rattle.std.proofs.Common.{◌≡◌, ℕ, ◌+◌, ◌-◌, ◌*◌, ◌<◌, ◌≤◌, List, Option, length, arith}
use Rattle.std.proofs.Math.Nat.{mul-le-mul_right}
use Rattle.std.specs.Prelude.{Contains}
use Rattle.flux_defs.specs.declared.vertices.Vertex.{Vertex}
use Rattle.flux_defs.specs.declared.claims.Window.{Window}
use Rattle.flux_defs.specs.declared.requests.Need.{Need}
use Rattle.flux_defs.specs.Graph.{ResourceGraph}
use Rattle.flux_defs.specs.ValidGraph.{IsValidGraph}
use Rattle.flux_defs.specs.Present.{Present}
use Rattle.resource_graph.specs.Tables.{IsPast}
use Rattle.dfu_match.specs.Tables.{all_of}
use Rattle.dfu_match.specs.Pairs.{Pair, HasEachOpen, IsClearWithin, IsClearScope, IsClearBefore, IsPlaceOf}
use Rattle.dfu_match.specs.Pairs.{IsSpanOf, TakesApart, TakesEach, count_among}
use Rattle.dfu_match.proofs.OpenLaws.{clear_next, past_within}
use Rattle.dfu_match.proofs.PairLaws.{count_split, takes_none, takes_upto, takes_visit, takes_within}
use Rattle.dfu_match.proofs.StepLaws.{walked_start}
use Rattle.dfu_match.proofs.TableLaws.{place_there}

module _ (each : List Pair → Type 0) where
  -- the same steps after others
  pub takes_behind : (steps old new x first after from to : ℕ) → TakesEach each steps old new first after from to →
      TakesEach each steps x (x + (new - old)) first after from to
  takes_behind steps old new x first after from to t pairs has = let u = t pairs has in omega (arith, u)

  -- within more pairs
  pub apart_within : (own inner old new place after from at to : ℕ) → at ≤ to →
      TakesApart each own inner old new place after from at → TakesApart each own inner old new place after from to
  apart_within own inner old new place after from at to le t = (
    t.0,
    t.1,
    t.2,
    takes_within each own own 0 t.0 place (place + 1) from at place (place + 1) from to (omega arith) (omega arith)
        (omega arith) (omega arith) le t.3,
    takes_within each inner inner 0 t.1 (place + 1) after from at (place + 1) after from to (omega arith) (omega arith)
        (omega arith) (omega arith) le t.4,
  )

  -- no more than the greater number for each pair
  pub apart_each : (own inner old new place after from to : ℕ) → own ≤ inner → place + 1 ≤ after →
      TakesApart each own inner old new place after from to → TakesEach each inner old new place after from to
  apart_each own inner old new place after from to le some t pairs has =
      let x = t.3 pairs has in
      let y = t.4 pairs has in
      let spent = t.2 in
      let split = count_split place (place + 1) after from to pairs (omega arith) some in
      let a = count_among place (place + 1) from to pairs in
      let b = count_among (place + 1) after from to pairs in
      let more : own * a ≤ inner * a = mul-le-mul_right a le in
      let both : inner * (a + b) ≡ inner * a + inner * b = grind arith in
      rw split (omega (arith, x, y, spent, more, both))

  -- the vertex, and then what is within it
  pub apart_visit : (own inner walk look old mid found new place after from at v past : ℕ) → walk + look ≤ own →
      from ≤ at → at ≤ v → v < past →
      ((ps : List Pair) → each ps → Contains ps (record { place = place; vertex = v })) →
      TakesApart each own inner old mid place after from at →
      TakesEach each walk mid found place (place + 1) at (v + 1) →
      TakesEach each inner (found + look) new (place + 1) after (v + 1) past →
      TakesApart each own inner old new place after from past
  apart_visit own inner walk look old mid found new place after from at v past le low lo hi has before s t =
      let x = before.0 + ((found + look) - mid) in
      let y = before.1 + (new - (found + look)) in
      let spent = before.2 in (
        x,
        y,
        omega (arith, spent),
        takes_upto each own 0 before.0 x place (place + 1) from at past low (omega (arith, lo, hi)) before.3
            (takes_behind own mid (found + look) before.0 place (place + 1) at past
            (takes_visit each own walk look mid found (found + look) place (place + 1) at v past le lo hi (omega arith)
            has s (takes_none each own (found + look) (place + 1) (place + 1) (v + 1) past))),
        takes_upto each inner 0 before.1 y (place + 1) after from at past low (omega (arith, lo, hi)) before.4
            (takes_within each inner inner before.1 y (place + 1) after (v + 1) past (place + 1) after at past
            (omega arith) (omega arith) (omega arith) (omega (arith, lo)) (omega arith)
            (takes_behind inner (found + look) new before.1 (place + 1) after (v + 1) past t)),
      )

  -- and none more
  pub apart_over : (own inner walk old mid new place after from at to : ℕ) → walk ≤ own → from ≤ at → at ≤ to →
      TakesApart each own inner old mid place after from at → TakesEach each walk mid new place (place + 1) at to →
      TakesApart each own inner old new place after from to
  apart_over own inner walk old mid new place after from at to le low high before t =
      let x = before.0 + (new - mid) in
      let spent = before.2 in (
        x,
        before.1,
        omega (arith, spent),
        takes_upto each own 0 before.0 x place (place + 1) from at to low high before.3
            (takes_behind own mid new before.0 place (place + 1) at to
            (takes_within each walk own mid new place (place + 1) at to place (place + 1) at to le (omega arith)
            (omega arith) (omega arith) (omega arith) t)),
        takes_within each inner inner 0 before.1 (place + 1) after from at (place + 1) after from to (omega arith)
            (omega arith) (omega arith) (omega arith) high before.4,
      )

-- A walk over the vertices of a need has come to `at`: none before it is short above what follows.
pub record Visited (vertices : List Vertex) (present : Present) (w : Window) (keeps : ℕ → ℕ → Type 0) (all : List Need)
    (need : Need) (place own inner old new from at to : ℕ) : Type 0 where
  pub clear : IsClearBefore vertices present w keeps need at to
  pub low : from ≤ at
  pub high : at ≤ to
  pub taken : TakesApart (HasEachOpen vertices present w keeps all) own inner old new place
      (place + length (all_of need)) from at

module _ (g : ResourceGraph) (names : List (List ℕ)) (valid : IsValidGraph g names) (present : Present) (w : Window)
    (keeps : ℕ → ℕ → Type 0) (all : List Need) (need : Need) (place own inner : ℕ) where
  abbrev opened : List Pair → Type 0
  opened = HasEachOpen g.vertices present w keeps all

  abbrev visited : ℕ → ℕ → ℕ → ℕ → ℕ → Type 0
  visited = Visited g.vertices present w keeps all need place own inner

  pub visited_start : (scope : Option ℕ) (old from to : ℕ) → IsSpanOf g.vertices scope from to →
      to ≤ length g.vertices → IsClearScope g.vertices present w keeps scope need → visited old old from from to
  visited_start scope old from to span most clear =
      let begun = walked_start g names valid present w keeps all need place own scope old from to span most clear in
      record {
        clear = begun.clear;
        low = omega arith;
        high = begun.high;
        taken = (
          0,
          0,
          omega arith,
          takes_none opened own 0 place (place + 1) from from,
          takes_none opened inner 0 (place + 1) (place + length (all_of need)) from from,
        );
      }

  pub visited_next : (scope : Option ℕ) (walk look old mid found new from at to v past : ℕ) →
      IsSpanOf g.vertices scope from to → to ≤ length g.vertices → IsPlaceOf all place need → walk + look ≤ own →
      visited old mid from at to → at ≤ v → v < to → IsClearWithin g.vertices present w keeps need v →
      IsPast g.vertices v past → TakesEach opened walk mid found place (place + 1) at (v + 1) →
      TakesEach opened inner (found + look) new (place + 1) (place + length (all_of need)) (v + 1) past →
      visited old new from past to
  visited_next scope walk look old mid found new from at to v past span most is le before lo hi clear after s t =
      let later = after.later in
      let low = before.low in
      record {
        clear = clear_next g names valid present w keeps need at to v past most before.clear lo hi clear.0 after;
        low = omega (arith, low, later, lo);
        high = past_within g names valid scope from to v past span (omega (arith, low, lo)) hi after;
        taken = apart_visit opened own inner walk look old mid found new place (place + length (all_of need)) from at v
            past le low lo later
            (λ pairs has. has place v need (place_there all place need is) (omega (arith, hi, most)) clear.0)
            before.taken s t;
      }

  pub visited_end : (old new from at to : ℕ) → visited old new from at to →
      TakesApart opened own inner old new place (place + length (all_of need)) from to
  visited_end old new from at to before =
      apart_within opened own inner old new place (place + length (all_of need)) from at to before.high before.taken

  pub visited_none : (walk old mid new from at to : ℕ) → walk ≤ own → visited old mid from at to →
      TakesEach opened walk mid new place (place + 1) at to →
      TakesApart opened own inner old new place (place + length (all_of need)) from to
  visited_none walk old mid new from at to le before t =
      apart_over opened own inner walk old mid new place (place + length (all_of need)) from at to le before.low
      before.high before.taken t
