-- What a planner's calls rest on: the points of spans, and how many steps a tree of points takes.
use Rattle.std.proofs.Common.{◌≡◌, ℕ, ◌+◌, ◌*◌, ◌<◌, ◌≤◌, ◌^◌, List, [], ◌∷◌, ◌++◌, length, length-append, arith, refl}
use Rattle.std.proofs.Math.Nat.{mul-le-mul_right}
use Rattle.flux_defs.specs.Digits.{dig}
use Rattle.flux_defs.proofs.DigitLaws.{dig_mono}
use Rattle.planner_points.specs.declared.spans.Span.{Span}
use Rattle.planner_points.specs.Spans.{span_of, HasRoom, IsLeastFree}
use Rattle.flux_defs.specs.declared.claims.Window.{Window}
use Rattle.planner_min_tree.specs.declared.points.Point.{Point}
use Rattle.planner_min_tree.specs.Chunks.{flat, AreFilled}
use Rattle.planner_min_tree.specs.Points.{Runs, lowest_in}
use Rattle.planner_min_tree.specs.Marks.{Marks, Tallies, marked, unmarked, start_of, stop_of}
use Rattle.planner_min_tree.proofs.Values as values
use Rattle.planner_min_tree.proofs.Keeps as keeps
use Rattle.planner_min_tree.proofs.Counts as counts

-- there are at most as many chunks as points
pub few_chunks : {X : Type 0} (lists : List (List X)) → AreFilled lists → length lists ≤ length (flat lists)
few_chunks [] f = omega arith
few_chunks (xs ∷ lists) f = omega (arith, f.0, few_chunks lists f.1, length-append xs (flat lists))

pub low_height : {X : Type 0} (h : ℕ) (lists : List (List X)) → AreFilled lists → h + 1 ≤ 2 * dig (length lists) →
    h + 1 ≤ 2 * dig (length (flat lists) + 2)
low_height h lists f l =
    let few = few_chunks lists f in
    omega (arith, dig_mono (length lists) (length (flat lists) + 2) (omega arith))

-- points with the numbers of spans say what these leave
marks_of : (total : ℕ) (points : List Point) (spans : List Span) → Tallies total points spans → Marks total points spans
marks_of total points spans t = record { tallies = t; free = values.marks_value total points spans t }

pub marks_none : (total : ℕ) → Marks total [] []
marks_none total = marks_of total [] [] (record {
  rising = tt;
  some = tt;
  ends = λ t. refl;
  taken = λ t. refl;
  given = λ t. refl;
  proper = tt;
  room = λ m. omega arith;
})

pub marks_run : (total : ℕ) (points : List Point) (spans : List Span) → Marks total points spans → total < 2 ^ 64 →
    Runs points total
marks_run total points spans marks fits = values.marks_run total points spans marks.tallies fits

pub marks_least : (total : ℕ) (points : List Point) (spans : List Span) (w : Window) → w.from < w.to →
    Marks total points spans → IsLeastFree total spans w (lowest_in w.from w.to points total)
marks_least total points spans w lt marks = values.marks_least total points spans w lt marks.tallies

pub few_points : (total : ℕ) (points : List Point) (spans : List Span) → Marks total points spans →
    length points ≤ 2 * length spans
few_points total points spans marks = counts.two_points total points spans marks.tallies

module _ (total : ℕ) (points : List Point) (w : Window) (q : ℕ) (lt : w.from < w.to) (xs ys : List Span) where
  pub marks_with : Marks total points (xs ++ ys) → HasRoom total (xs ++ ys) w q →
      Marks total (marked (start_of w q) (marked (stop_of w q) points)) (xs ++ span_of w q ∷ ys)
  marks_with marks room = marks_of total _ _ (keeps.marks_with total points w q lt xs ys marks.tallies room)

  pub marks_without : Marks total points (xs ++ span_of w q ∷ ys) →
      Marks total (unmarked (stop_of w q) (unmarked (start_of w q) points)) (xs ++ ys)
  marks_without marks = marks_of total _ _ (keeps.marks_without total points w q lt xs ys marks.tallies)

-- the cost of one round of a search, and of all
pub one_more : (k n b : ℕ) → k + 1 ≤ n → k * (6 * b) + 6 * b ≤ n * (6 * b)
one_more k n b h =
    let m : (k + 1) * (6 * b) ≤ n * (6 * b) = mul-le-mul_right (6 * b) h in
    let e : (k + 1) * (6 * b) ≡ k * (6 * b) + 6 * b = grind arith in
    omega arith

pub in_all : (n b : ℕ) → n * (6 * b) + 6 * b ≤ 64 * ((n + 2) * b)
in_all n b =
    let e : n * (6 * b) ≡ 6 * (n * b) = grind arith in
    let f : (n + 2) * b ≡ n * b + 2 * b = grind arith in
    omega arith
