-- What becomes of a planner whose vertex's number is added to its spans, or taken from them.
use Rattle.std.specs.Prelude.{◌≡◌, ◌≢◌, ℕ, ◌*◌, ◌<◌, ◌≤◌, List, ◌++◌, length, Some, slice_get}
use Rattle.flux_defs.specs.declared.claims.Window.{Window}
use Rattle.planner_points.specs.declared.spans.Span.{Span}
use Rattle.planner_points.specs.Spans.{HasRoom}
use Rattle.book_laws.specs.Grouped.{some_span}
use Rattle.vertex_planners.specs.declared.amounts.Amounts.{Amounts}
use Rattle.vertex_planners.specs.Numbers.{amount_at}
use Rattle.vertex_planners.specs.Groups.{sixteenths}
use Rattle.vertex_planners.specs.Lists.{at_place}
use Rattle.vertex_planners.specs.Rows.{count_some}

module _ {P : Type 0} (total_of : P → ℕ) (stands_for : P → List Span → Type 0) where
  -- r has the total of p, and stands for the spans of p with so much over the window among them
  pub record Gains (window : Window) (n : ℕ) (p r : P) : Type 0 where
    pub total : total_of r ≡ total_of p
    pub spans : (before after : List Span) →
        stands_for p (before ++ after) → stands_for r (before ++ (some_span window n ++ after))

  -- r has the total of p, and stands for the spans of p without so much over the window
  pub record Loses (window : Window) (n : ℕ) (p r : P) : Type 0 where
    pub total : total_of r ≡ total_of p
    pub spans : (before after : List Span) →
        stands_for p (before ++ (some_span window n ++ after)) → stands_for r (before ++ after)

  -- so much is free over the window beside every list of spans for which p stands
  abbrev pub HasRoomFor : Window → ℕ → P → Type 0
  HasRoomFor window n p = (spans : List Span) → stands_for p spans → HasRoom (total_of p) spans window n

-- p stands for a list of spans that has so much over the window
abbrev pub HasSpanOf : {P : Type 0} → (P → List Span → Type 0) → Window → ℕ → P → Type 0
HasSpanOf stands_for window n p =
    (before : List Span) × (after : List Span) × stands_for p (before ++ (some_span window n ++ after))

-- the planners of one vertex are so of the numbers of a row, place by place
abbrev pub AtNumbers : {P : Type 0} → (ℕ → P → Type 0) → List ℕ → List P → Type 0
AtNumbers {P = P} Q row item = (k n : ℕ) (p : P) → slice_get row k ≡ Some n → slice_get item k ≡ Some p → Q n p

-- each planner of one vertex has room for its number of a row
abbrev pub HaveRoom : {P : Type 0} → (P → ℕ) → (P → List Span → Type 0) → Window → List ℕ → List P → Type 0
HaveRoom total_of stands_for window row item = AtNumbers (HasRoomFor total_of stands_for window) row item

-- each planner of one vertex has a span of its number of a row
abbrev pub HaveSpans : {P : Type 0} → (P → List Span → Type 0) → Window → List ℕ → List P → Type 0
HaveSpans stands_for window row item = AtNumbers (HasSpanOf stands_for window) row item

-- so many steps are enough for the planners of one vertex that have a number of a row, where each takes this cost
abbrev pub IsEnough : {P : Type 0} → (P → ℕ) → List ℕ → List P → ℕ → Type 0
IsEnough {P = P} cost row item steps = (most : ℕ) × ((k : ℕ) (p : P) → slice_get item k ≡ Some p → cost p ≤ most)
    × (count_some row * most ≤ steps)

-- what each planner of one vertex becomes by its number of a row
pub record AtRow {P : Type 0} (Q : ℕ → P → P → Type 0) (row : List ℕ) (old new : List P) : Type 0 where
  pub len : length new ≡ length old
  pub each : (k n : ℕ) (p r : P) →
      slice_get row k ≡ Some n → slice_get old k ≡ Some p → slice_get new k ≡ Some r → Q n p r

-- what the planners of one vertex of a group become by its number of a row, where those of the others stay as they are
pub record AtSlot {P : Type 0}
    (Q : ℕ → P → P → Type 0) (row : List ℕ) (slot : ℕ) (old new : List P) : Type 0 where
  pub here : AtRow Q row (sixteenths old slot) (sixteenths new slot)
  pub others : (other : ℕ) → other < 16 → other ≢ slot → sixteenths new other ≡ sixteenths old other

-- at each vertex the two lists have planners of which this is so
abbrev pub AtEach : {P : Type 0} → (ℕ → P → P → Type 0) → List P → List P → Type 0
AtEach {P = P} Q old new = (v : ℕ) (p r : P) → slice_get old v ≡ Some p → slice_get new v ≡ Some r → Q v p r

-- the planners of each place are so of the numbers of the place, vertex by vertex
abbrev pub AtAmounts : {P : Type 0} → (ℕ → P → Type 0) → List Amounts → List (List P) → Type 0
AtAmounts {P = P} Q places items = (k : ℕ) (amounts : Amounts) → slice_get places k ≡ Some amounts →
    (v : ℕ) (p : P) → slice_get (at_place k items) v ≡ Some p → Q (amount_at amounts v) p

-- each planner of each place has room for its vertex's number
abbrev pub RoomAt : {P : Type 0} → (P → ℕ) → (P → List Span → Type 0) → Window → List Amounts → List (List P) → Type 0
RoomAt total_of stands_for window places items = AtAmounts (HasRoomFor total_of stands_for window) places items

-- each planner of each place has a span of its vertex's number
abbrev pub SpansAt : {P : Type 0} → (P → List Span → Type 0) → Window → List Amounts → List (List P) → Type 0
SpansAt stands_for window places items = AtAmounts (HasSpanOf stands_for window) places items

-- what the planners of each place become by the numbers of the place, vertex by vertex
abbrev pub AtPlaces : {P : Type 0} → (ℕ → P → P → Type 0) → List Amounts → List (List P) → List (List P) → Type 0
AtPlaces Q places old new = (k : ℕ) (amounts : Amounts) → slice_get places k ≡ Some amounts →
    AtEach (λ v. Q (amount_at amounts v)) (at_place k old) (at_place k new)
