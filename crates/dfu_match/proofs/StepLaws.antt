-- How many steps a search takes: of a walk over the vertices of a need, and of the needs of a list.
use Rattle.std.proofs.Common.{◌≡◌, ◌≢◌, ℕ, zero, suc, ◌+◌, ◌*◌, ◌<◌, ◌≤◌, Bool, List, [], ◌∷◌, append-nil, inl}
use Rattle.std.proofs.Common.{inr, Option, Some, None, length, length-append, take, drop, get_or, sym}
use Rattle.std.proofs.Common.{ap, subst, arith}
use Rattle.std.specs.Prelude.{Contains, IfSome, IfNone, MatchOption}
use Rattle.std.specs.List.{AllByRecursion}
use Rattle.std.proofs.Math.Nat.{mul-le-mul_right, mul-le-mul_left}
use Rattle.flux_defs.specs.declared.vertices.Vertex.{Vertex}
use Rattle.flux_defs.specs.declared.claims.Window.{Window}
use Rattle.flux_defs.specs.declared.requests.Need.{Need, Vert, Spread}
use Rattle.flux_defs.specs.Graph.{ResourceGraph}
use Rattle.flux_defs.specs.ValidGraph.{IsValidGraph}
use Rattle.flux_defs.specs.Needs.{HasNoSpread, IsValidNeed}
use Rattle.flux_defs.specs.Present.{Present}
use Rattle.graph_laws.proofs.Containment.{below_le, below_to}
use Rattle.graph_laws.proofs.Preorder.{parents_first}
use Rattle.std.proofs.lemmas.Bool.{cases_lt}
use Rattle.std.proofs.lemmas.Option.{slice_get_within}
use Rattle.list_laws.proofs.Lists.{contains_more, get_some}
use Rattle.flux_laws.proofs.Rows.{no_spread_to_list}
use Rattle.resource_graph.specs.Tables.{IsPast}
use Rattle.prune_filters.specs.Shorts.{IsShortFor}
use Rattle.dfu_match.specs.declared.wanting.Wanted.{Wanted}
use Rattle.dfu_match.specs.Tables.{all_of, needs_all}
use Rattle.dfu_match.specs.Pairs.{Pair, HasEachOpen, IsOpenFor, IsClear, IsClearWithin, IsClearScope, IsClearBetween}
use Rattle.dfu_match.specs.Pairs.{IsClearBefore}
use Rattle.dfu_match.specs.Pairs.{IsPlaceOf, IsPlaceOfAll, IsSpanOf, AreLooks, AreLooksAll, TakesEach, asked_totals}
use Rattle.dfu_match.specs.Pairs.{count_among}
use Rattle.dfu_match.proofs.DemandLaws.{all_Vert, all_Spread, all_next}
use Rattle.dfu_match.proofs.CountLaws.{each_at, item_split, plain_copy, valid_copy, valid_inside}
use Rattle.dfu_match.proofs.PairLaws.{count_here, count_most, count_split, count_within, takes_none, takes_one}
use Rattle.dfu_match.proofs.PairLaws.{takes_split, takes_upto, takes_visit, takes_within}
use Rattle.dfu_match.proofs.TableLaws.{all_some, place_Spread, place_Vert, place_first, place_from, place_there}
use Rattle.dfu_match.proofs.TableLaws.{taken_few, asks_Spread, asks_Vert}
use Rattle.dfu_match.proofs.OpenLaws.{clear_Spread, clear_Vert, clear_next, clear_start, past_within}

-- a look at one vertex, with the demands asked_totals on the way to it, costs no more than that of all needs
pub look_costs : (k m cost : ℕ) → k ≤ m → k * cost + 2 * cost ≤ (m + 2) * cost
look_costs k m cost le = let few : (k + 2) * cost ≤ (m + 2) * cost = mul-le-mul_right cost (omega arith) in
    omega (arith, few)

pub times_costs : (times steps : ℕ) → 1 ≤ times → steps ≤ times * steps
times_costs times steps some = let few : 1 * steps ≤ times * steps = mul-le-mul_right steps some in omega (arith, few)

pub looks_some : (times : ℕ) (need : Need) → AreLooks times need → 1 ≤ times
looks_some times need (inl e) = omega (arith, e)
looks_some times need (inr e) = let one = e.0 in omega (arith, one)

-- what is written within a need, and of a need of a list
pub looks_Vert : (times kind count : ℕ) (hold : Bool) (needs : List Need) →
    AreLooks times (Vert kind count hold needs) → AreLooksAll times needs
looks_Vert times kind count hold needs (inl e) = inl e
looks_Vert times kind count hold needs (inr e) = inr (e.0, no_spread_to_list needs e.1)

pub looks_Spread : (times count : ℕ) (needs : List Need) → AreLooks times (Spread count needs) → times ≡ 2
looks_Spread times count needs (inl e) = e
looks_Spread times count needs (inr e) = absurd (elim e.1 [ ])

pub looks_at : (times : ℕ) (needs : List Need) (i : ℕ) (need : Need) (rest : List Need) → drop i needs ≡ need ∷ rest →
    AreLooksAll times needs → AreLooks times need
looks_at times needs i need rest split (inl e) = inl e
looks_at times needs i need rest split (inr e) = inr (e.0, each_at HasNoSpread needs i need rest split e.1)

-- the places within a need
pub after_Vert : (place kind count : ℕ) (hold : Bool) (needs : List Need) →
    place + 1 + length (needs_all needs) ≡ place + length (all_of (Vert kind count hold needs))
after_Vert place kind count hold needs = let e = ap length (all_Vert kind count hold needs) in omega (arith, e)

pub after_Spread : (place count : ℕ) (needs : List Need) →
    place + 1 + length (needs_all needs) ≡ place + length (all_of (Spread count needs))
after_Spread place count needs = let e = ap length (all_Spread count needs) in omega (arith, e)

pub after_alone : (place count : ℕ) (needs : List Need) (need : Need) → needs ≡ need ∷ [] →
    place + 1 + length (all_of need) ≡ place + length (all_of (Spread count needs))
after_alone place count needs need is =
    let same : length (needs_all needs) ≡ length (all_of need) = rw is (ap length (append-nil (all_of need))) in
    let all = after_Spread place count needs in
    omega (arith, same, all)

module _ (each : List Pair → Type 0) where
  -- begun later, and with the places named otherwise
  pub takes_later : (steps old mid new first after past from to : ℕ) → mid ≤ old → after ≡ past →
      TakesEach each steps mid new first after from to → TakesEach each steps old new first past from to
  takes_later steps old mid new first after past from to le e t pairs has =
      let u = subst (λ n. TakesEach each steps mid new first n from to) e t pairs has in omega (arith, u, le)

  -- once is no more than so many times
  pub takes_times : (times steps old new first after from to : ℕ) → 1 ≤ times →
      TakesEach each steps old new first after from to → TakesEach each (times * steps) old new first after from to
  takes_times times steps old new first after from to some t =
      takes_within each steps (times * steps) old new first after from to first after from to
      (times_costs times steps some) (omega arith) (omega arith) (omega arith) (omega arith) t

  -- counted, and then written
  pub takes_twice : (times steps old mid new first after from to : ℕ) → times ≡ 2 →
      TakesEach each steps old mid first after from to → TakesEach each (1 * steps) mid new first after from to →
      TakesEach each (times * steps) old new first after from to
  takes_twice times steps old mid new first after from to e s t pairs has =
      let a = s pairs has in
      let b = t pairs has in
      rw e (omega (arith, a, b))

  -- within all pairs
  pub takes_most : (steps old new first after from to : ℕ) (pairs : List Pair) → each pairs →
      TakesEach each steps old new first after from to → new ≤ old + steps * length pairs
  takes_most steps old new first after from to pairs has t =
      let u = t pairs has in
      let few : steps * count_among first after from to pairs ≤ steps * length pairs =
      mul-le-mul_left steps (count_most first after from to pairs) in
      omega (arith, u, few)

  -- one need of a list after another
  pub listed_next : (steps old mid new place from to : ℕ) (needs rest : List Need) (i : ℕ) (need : Need) →
      i < length needs → need ≡ get_or needs i need →
      TakesEach each steps old mid place (place + length (needs_all (take i needs))) from to →
      TakesEach each steps mid new (place + length (needs_all (take i needs)))
      (place + length (needs_all (take i needs)) + length (all_of need)) from to →
      TakesEach each steps old new place (place + length (needs_all (take (i + 1) needs))) from to
  listed_next steps old mid new place from to needs rest i need lt is s t =
      let e = ap length (all_next needs i need lt is) in
      let a = length-append (needs_all (take i needs)) (all_of need) in
      let same : place + length (needs_all (take i needs)) + length (all_of need)
      ≡ place + length (needs_all (take (i + 1) needs)) = omega (arith, e, a) in
      subst (λ n. TakesEach each steps old new place n from to) same
      (takes_split each steps old mid new place (place + length (needs_all (take i needs)))
      (place + length (needs_all (take i needs)) + length (all_of need)) from to (omega arith) (omega arith) s t)

  pub listed_end : (steps old new place from to : ℕ) (needs : List Need) (i : ℕ) →
      TakesEach each steps old new place (place + length (needs_all (take i needs))) from to →
      TakesEach each steps old new place (place + length (needs_all needs)) from to
  listed_end steps old new place from to needs i t =
      let few = taken_few i needs in
      takes_within each steps steps old new place (place + length (needs_all (take i needs))) from to place
      (place + length (needs_all needs)) from to (omega arith) (omega arith) (omega (arith, few)) (omega arith)
      (omega arith) t

  -- one need more of a list, and no further: its steps are some of those of all of the list
  pub listed_over : (IsOpen : Need → Type 0) (all items : List Need) (i : ℕ) (need : Need) → i < length items →
      need ≡ get_or items i need → (steps old mid new place from to times : ℕ) → IsPlaceOfAll all place items →
      AllByRecursion IsOpen items → AreLooksAll times items →
      TakesEach each steps old mid place (place + length (needs_all (take i items))) from to →
      ((at : ℕ) → IsPlaceOf all at need → IsOpen need → AreLooks times need →
      TakesEach each steps mid new at (at + length (all_of need)) from to) →
      TakesEach each steps old new place (place + length (needs_all items)) from to
  listed_over IsOpen all items i need lt is steps old mid new place from to times here open' look taken more =
      let split = item_split items i need lt is in
      let rest = drop (i + 1) items in
      let at = place + length (needs_all (take i items)) in
      listed_end steps old new place from to items (i + 1)
      (listed_next steps old mid new place from to items rest i need lt is taken
      (more at (place_first all at (drop i items) rest need split (place_from all i place items here))
      (each_at IsOpen items i need rest split open') (looks_at times items i need rest split look)))

-- the vertex, asked_totals after those above it
pub own_clear : (vertices : List Vertex) (present : Present) (w : Window) (keeps : ℕ → ℕ → Type 0) (need : Need)
    (v low : ℕ) (o : Option ℕ) → IfSome o (λ top. top ≡ v) → IsClearBetween vertices present w keeps need v low v →
    IfNone o (IsShortFor vertices present w keeps need v → ⊥) →
    MatchOption o (IsClearBetween vertices present w keeps need v low (v + 1))
    (IsClearBetween vertices present w keeps need v low)
own_clear vertices present w keeps need v low None same above own = λ u lo hi at is. elim (cases_lt u v) [
  | inl less ↦ above u lo less at is
  | inr more ↦ (let e : u ≡ v = omega arith in own (subst (IsShortFor vertices present w keeps need) e is))
]
own_clear vertices present w keeps need v low (Some top) same above own =
    subst (IsClearBetween vertices present w keeps need v low) (sym same) above

module _ (vertices : List Vertex) (present : Present) (w : Window) (keeps : ℕ → ℕ → Type 0) (all : List Need) where
  abbrev pairs_of : List Pair → Type 0
  pairs_of = HasEachOpen vertices present w keeps all

  pub own_takes : (need : Need) (steps old new place v low : ℕ) → new ≤ old + steps → low ≤ v →
      IsPlaceOf all place need → v < length vertices → IsOpenFor vertices present w keeps need v →
      TakesEach pairs_of steps old new place (place + 1) low (v + 1)
  own_takes need steps old new place v low le lo at lt opens =
      takes_within pairs_of steps steps old new place (place + 1) v (v + 1) place (place + 1) low (v + 1) (omega arith)
      (omega arith) (omega arith) lo (omega arith)
      (takes_one pairs_of steps old new place v le (λ pairs has. has place v need
      (place_there all place need at) lt opens))

-- where the needs within a need stand, and that no vertex from v up is short for them
module _ (g : ResourceGraph) (names : List (List ℕ)) (valid : IsValidGraph g names) (present : Present) (w : Window)
    (keeps : ℕ → ℕ → Type 0) (all : List Need) (place : ℕ) where
  pub in_vertex : (kind count : ℕ) (hold : Bool) (needs : List Need) (v : ℕ) →
      IsValidNeed g.vertices (Vert kind count hold needs) → IsPlaceOf all place (Vert kind count hold needs) →
      IsClearWithin g.vertices present w keeps (Vert kind count hold needs) v →
      IsPlaceOfAll all (place + 1) needs × AllByRecursion (λ n. IsClear g.vertices present w keeps n v) needs
  in_vertex kind count hold needs v fine here clear =
      (place_Vert all place kind count hold needs here, within needs fine clear)
    where
      within : (ns : List Need) → IsValidNeed g.vertices (Vert kind count hold ns) →
          IsClearWithin g.vertices present w keeps (Vert kind count hold ns) v →
          AllByRecursion (λ n. IsClear g.vertices present w keeps n v) ns
      within [] fine clear = tt
      within (n ∷ ns) fine clear = clear_Vert g names valid present w keeps kind count hold (n ∷ ns) v
          (valid_inside g.vertices kind count hold (n ∷ ns) fine)
          (clear.1 (asks_Vert kind count hold (n ∷ ns) (omega arith)))

  -- and no spread stands within a copy
  pub in_copy : (count : ℕ) (needs : List Need) (v : ℕ) →
      IsValidNeed g.vertices (Spread count needs) → IsPlaceOf all place (Spread count needs) →
      IsClearWithin g.vertices present w keeps (Spread count needs) v →
      IsPlaceOfAll all (place + 1) needs × AllByRecursion (λ n. IsClear g.vertices present w keeps n v) needs
      × AllByRecursion HasNoSpread needs
  in_copy count needs v fine here clear = (
    place_Spread all place count needs here,
    within needs fine clear,
    plain_copy g.vertices count needs fine,
  )
    where
      within : (ns : List Need) → IsValidNeed g.vertices (Spread count ns) →
          IsClearWithin g.vertices present w keeps (Spread count ns) v →
          AllByRecursion (λ n. IsClear g.vertices present w keeps n v) ns
      within [] fine clear = tt
      within (n ∷ ns) fine clear = clear_Spread g names valid present w keeps count (n ∷ ns) v
          (valid_copy g.vertices count (n ∷ ns) fine) (clear.1 (asks_Spread count (n ∷ ns) (omega arith)))

-- A walk over the vertices of a need has come to `at`: none before it is short above what follows, and so many steps
-- were taken for each open pair.
pub record Walked (vertices : List Vertex) (present : Present) (w : Window) (keeps : ℕ → ℕ → Type 0) (all : List Need)
    (need : Need) (place steps old new from at to : ℕ) : Type 0 where
  pub clear : IsClearBefore vertices present w keeps need at to
  pub low : from ≤ at
  pub high : at ≤ to
  pub taken : TakesEach (HasEachOpen vertices present w keeps all) steps old new place
      (place + length (all_of need)) from at

module _ (g : ResourceGraph) (names : List (List ℕ)) (valid : IsValidGraph g names) (present : Present) (w : Window)
    (keeps : ℕ → ℕ → Type 0) (all : List Need) (need : Need) (place steps : ℕ) where
  abbrev opened : List Pair → Type 0
  opened = HasEachOpen g.vertices present w keeps all

  abbrev walked : ℕ → ℕ → ℕ → ℕ → ℕ → Type 0
  walked = Walked g.vertices present w keeps all need place steps

  pub walked_start : (scope : Option ℕ) (old from to : ℕ) → IsSpanOf g.vertices scope from to →
      to ≤ length g.vertices → IsClearScope g.vertices present w keeps scope need → walked old old from from to
  walked_start scope old from to span most clear = record {
    clear = clear_start g names valid present w keeps need scope from to span most clear;
    low = omega arith;
    high = begins scope span;
    taken = takes_none opened steps old place (place + length (all_of need)) from from;
  }
    where
      begins : (s : Option ℕ) → IsSpanOf g.vertices s from to → from ≤ to
      begins None s = let e = s.0 in omega (arith, e)
      begins (Some u) s = let e = s.0 in let later = s.1.later in omega (arith, e, later)

  pub walked_next : (scope : Option ℕ) (walk look old mid found new from at to v past : ℕ) →
      IsSpanOf g.vertices scope from to → to ≤ length g.vertices → IsPlaceOf all place need → walk + look ≤ steps →
      walked old mid from at to → at ≤ v → v < to → IsClearWithin g.vertices present w keeps need v →
      IsPast g.vertices v past → TakesEach opened walk mid found place (place + 1) at (v + 1) →
      TakesEach opened steps (found + look) new (place + 1) (place + length (all_of need)) (v + 1) past →
      walked old new from past to
  walked_next scope walk look old mid found new from at to v past span most is le before lo hi clear after s t =
      let later = after.later in
      let low = before.low in
      let some = all_some need in
      record {
        clear = clear_next g names valid present w keeps need at to v past most before.clear lo hi clear.0 after;
        low = omega (arith, low, later);
        high = past_within g names valid scope from to v past span (omega (arith, low)) hi after;
        taken = takes_upto opened steps old mid new place (place + length (all_of need)) from at past low
            (omega (arith, later)) before.taken
            (takes_visit opened steps walk look mid found new place (place + length (all_of need)) at v past le lo later
            (omega (arith, some))
            (λ pairs has. has place v need (place_there all place need is) (omega arith) clear.0) s t);
      }

  -- it is over
  pub walked_none : (walk old mid new from at to : ℕ) → walk ≤ steps → walked old mid from at to →
      TakesEach opened walk mid new place (place + 1) at to →
      TakesEach opened steps old new place (place + length (all_of need)) from to
  walked_none walk old mid new from at to le before t =
      let some = all_some need in
      takes_upto opened steps old mid new place (place + length (all_of need)) from at to before.low before.high
      before.taken
      (takes_within opened walk steps mid new place (place + 1) at to place (place + length (all_of need)) at to le
      (omega arith) (omega (arith, some)) (omega arith) (omega arith) t)

  pub walked_end : (old new from at to : ℕ) → walked old new from at to →
      TakesEach opened steps old new place (place + length (all_of need)) from to
  walked_end old new from at to before =
      takes_within opened steps steps old new place (place + length (all_of need)) from at place
      (place + length (all_of need)) from to (omega arith) (omega arith) (omega arith) (omega arith) before.high
      before.taken

-- nothing stands above all
pub clear_everywhere : (vertices : List Vertex) (present : Present) (w : Window) (keeps : ℕ → ℕ → Type 0)
    (needs : List Need) → AllByRecursion (IsClearScope vertices present w keeps None) needs
clear_everywhere vertices present w keeps [] = tt
clear_everywhere vertices present w keeps (need ∷ rest) = (tt, clear_everywhere vertices present w keeps rest)

pub first_place : (needs : List Need) → IsPlaceOfAll (needs_all needs) 0 needs
first_place needs = ([], sym (append-nil (needs_all needs)))

-- where each need has its entry, the totals that a search asks for are those that are kept
pub each_open : (vertices : List Vertex) (present : Present) (w : Window) (keeps : ℕ → ℕ → Type 0) (all : List Need)
    (table : List Wanted) (pairs : List Pair) → length table ≡ length all →
    HasEachOpen vertices present w keeps all pairs → HasEachOpen vertices present w (asked_totals table keeps) all pairs
each_open vertices present w keeps [] table pairs same has place v need at lt opens = absurd (cc)
each_open vertices present w keeps (n ∷ ns) table pairs same has place v need at lt opens =
    let some : table ≢ [] = λ none. (let e = ap length none in omega (arith, e, same)) in
    has place v need at lt (λ u below is. opens u below (is.0, ((some, is.1.0), is.1.1)))

-- every pair of a need and a vertex
abbrev pairs_at : ℕ → ℕ → List Pair → List Pair
pairs_at place zero rest = rest
pairs_at place (suc n) rest = record { place = place; vertex = n } ∷ pairs_at place n rest

abbrev pub every_pair : ℕ → ℕ → List Pair
every_pair zero n = []
every_pair (suc m) n = pairs_at m n (every_pair m n)

length_at : (place n : ℕ) (rest : List Pair) → length (pairs_at place n rest) ≡ n + length rest
length_at place zero rest = omega arith
length_at place (suc n) rest = let r = length_at place n rest in omega (arith, r)

pub every_length : (m n : ℕ) → length (every_pair m n) ≡ m * n
every_length zero n = omega arith
every_length (suc m) n =
    let b = length_at m n (every_pair m n) in
    let c = every_length m n in
    omega (arith, b, c)

there_later : (place n : ℕ) (rest : List Pair) (p : Pair) → Contains rest p → Contains (pairs_at place n rest) p
there_later place zero rest p there = there
there_later place (suc n) rest p there =
    contains_more (record { place = place; vertex = n }) (pairs_at place n rest) p (there_later place n rest p there)

there_at : (place n v : ℕ) (rest : List Pair) → v < n →
    Contains (pairs_at place n rest) (record { place = place; vertex = v })
there_at place zero v rest lt = absurd (omega arith)
there_at place (suc n) v rest lt = elim (cases_lt v n) [
  | inl less ↦ contains_more (record { place = place; vertex = n }) (pairs_at place n rest)
      (record { place = place; vertex = v }) (there_at place n v rest less)
  | inr same ↦ (
      let e : n ≡ v = omega arith in
      let is : record { place = place; vertex = n } ≡ record { place = place; vertex = v } =
      ap (λ u. record { place = place; vertex = u }) e in
      (0, omega arith, is))
]

pub every_there : (m n place v : ℕ) → place < m → v < n →
    Contains (every_pair m n) (record { place = place; vertex = v })
every_there zero n place v lt hi = absurd (omega arith)
every_there (suc m) n place v lt hi = elim (cases_lt place m) [
  | inl less ↦ there_later m n (every_pair m n) (record { place = place; vertex = v })
      (every_there m n place v less hi)
  | inr same ↦ (
      let e : m ≡ place = omega arith in
      subst (λ k. Contains (pairs_at m n (every_pair m n)) (record { place = k; vertex = v })) e
      (there_at m n v (every_pair m n) hi))
]

pub every_open : (vertices : List Vertex) (present : Present) (w : Window) (keeps : ℕ → ℕ → Type 0) (all : List Need) →
    HasEachOpen vertices present w keeps all (every_pair (length all) (length vertices))
every_open vertices present w keeps all place v need at lt opens =
    every_there (length all) (length vertices) place v (slice_get_within all place need at) lt

-- the root is open for each need
roots_open : (g : ResourceGraph) (names : List (List ℕ)) → IsValidGraph g names → (present : Present) (w : Window)
    (keeps : ℕ → ℕ → Type 0) (all : List Need) (pairs : List Pair) →
    HasEachOpen g.vertices present w keeps all pairs → (k : ℕ) → k ≤ length all → k ≤ count_among 0 k 0 1 pairs
roots_open g names valid present w keeps all pairs has zero le = omega arith
roots_open g names valid present w keeps all pairs has (suc k) le =
    let first = parents_first g valid.preorder in
    let before = roots_open g names valid present w keeps all pairs has k (omega arith) in
    let need = get_some all k (omega arith) in
    let here = count_here k 0 pairs (has k 0 need.0 need.1 valid.preorder.some (λ u below is.
    let b = below_to g.vertices first 0 u below in
    let le' = below_le g.vertices first 0 u b.0 in
    b.1 (omega (arith, le')))) in
    let both = count_split 0 k (suc k) 0 1 pairs (omega arith) (omega arith) in
    let one = count_within k (k + 1) 0 (0 + 1) k (suc k) 0 1 pairs (omega arith) (omega arith) (omega arith)
    (omega arith) in
    omega (arith, before, here, both, one)

-- so there are no fewer open pairs than needs
pub needs_open : (g : ResourceGraph) (names : List (List ℕ)) → IsValidGraph g names → (present : Present) (w : Window)
    (keeps : ℕ → ℕ → Type 0) (all : List Need) (pairs : List Pair) →
    HasEachOpen g.vertices present w keeps all pairs → length all ≤ length pairs
needs_open g names valid present w keeps all pairs has =
    let some = roots_open g names valid present w keeps all pairs has (length all) (omega arith) in
    let most = count_most 0 (length all) 0 1 pairs in
    omega (arith, some, most)

-- the look at the root, and then a match
module _ (m cost o looks : ℕ) (enough : (2 * m + 5) * o ≤ looks) (few : m ≤ o) where
  pub look_first : (d old new : ℕ) → d ≤ m → new ≤ old + d * cost → new ≤ old + looks * cost
  look_first d old new le work =
      let a : d * cost ≤ looks * cost = mul-le-mul_right cost (omega (arith, enough, few, le, few_times)) in
      omega (arith, a, work)
    where
      few_times : o ≤ (2 * m + 5) * o
      few_times = omega arith

  pub look_both : (d old mid new : ℕ) → d ≤ m → mid ≤ old + d * cost → new ≤ mid + 2 * (m + 2) * o * cost →
      new ≤ old + looks * cost
  look_both d old mid new le work rest =
      let a : (d + 2 * (m + 2) * o) * cost ≤ looks * cost = mul-le-mul_right cost (omega (arith, enough, few, le)) in
      omega (arith, a, work, rest)

pub look_root : (m cost looks d old new : ℕ) → m ≤ looks → d ≤ m → new ≤ old + d * cost → new ≤ old + looks * cost
look_root m cost looks d old new enough le work =
    let a : d * cost ≤ looks * cost = mul-le-mul_right cost (omega (arith, enough, le)) in omega (arith, a, work)
