-- What the looks of an answer cost together, and the changes of a job more or less.
use Rattle.std.proofs.Common.{◌≡◌, ℕ, zero, suc, ◌+◌, ◌*◌, ◌/◌, ◌^◌, ◌<◌, ◌≤◌, cond, List, length, Some, slice_get, inl}
use Rattle.std.proofs.Common.{inr, refl, sym, ap, subst, arith}
use Rattle.std.proofs.Math.Nat.{pow-suc, mul-le-mul_right}
use Rattle.std.proofs.lemmas.Bool.Decides.{leb_tells}
use Rattle.std.specs.Arc.{arc_value}
use Rattle.std.proofs.lemmas.Option.{slice_get_within}
use Rattle.flux_defs.specs.declared.limits.TheConstants.{MOST_VERTICES}
use Rattle.flux_defs.specs.declared.vertices.Vertex.{Vertex}
use Rattle.flux_defs.specs.declared.claims.Job.{Job}
use Rattle.flux_defs.specs.Digits.{digits_within, dig}
use Rattle.flux_defs.proofs.DigitLaws.{some_dig, below_dig, dig_mono}
use Rattle.list_laws.proofs.Lists.{get_some}
use Rattle.planner_points.specs.declared.spans.Span.{Span}
use Rattle.planner_min_tree.specs.Plans as Plans
use Rattle.planner_min_tree.specs.Plans.{Plan}
use Rattle.planner_min_tree.proofs.PlanFacts.{few_points}
use Rattle.book_laws.specs.Grouped.{grouped, times_of}
use Rattle.book_laws.proofs.GroupedLaws.{grouped_few, times_many}
use Rattle.planner_points.specs.Work.{renew_cost}
use Rattle.vertex_planners.specs.Lists.{items_of}
use Rattle.vertex_planners.proofs.PlaceLaws.{in_place}
use Rattle.vertex_accounts.specs.declared.books.Accounts.{Accounts}
use Rattle.vertex_accounts.specs.Quantities.{amount_in}
use Rattle.vertex_planners.specs.Work.{change_most, CostWithin}
use Rattle.vertex_accounts.specs.Costs.{look_most, closed_most, accounts_most}
use Rattle.vertex_accounts.specs.Books.{AreAccounts}

-- a number below 2 ^ (k + 1) has at most k + 1 digits
few_digits : (most k n : ℕ) → n < 2 ^ suc k → digits_within most n ≤ suc k
few_digits zero k n lt = omega arith
few_digits (suc most) zero n lt = elim (leb_tells n 1) [
  | inl small ↦ subst (λ b. cond b 1 (suc (digits_within most (n / 2))) ≤ 1) (sym small.0) (omega arith)
  | inr big ↦ absurd (let p = pow-suc 2 0 in let more : 1 < n = big.1 in omega (arith, p, more, lt))
]
few_digits (suc most) (suc k) n lt = elim (leb_tells n 1) [
  | inl small ↦ subst (λ b. cond b 1 (suc (digits_within most (n / 2))) ≤ suc (suc k)) (sym small.0) (omega arith)
  | inr big ↦ (let p = pow-suc 2 (suc k) in
      let half : n / 2 < 2 ^ suc k = omega (arith, p, lt) in
      let rest = few_digits most k (n / 2) half in
      subst (λ b. cond b 1 (suc (digits_within most (n / 2))) ≤ suc (suc k)) (sym big.0) (omega (arith, rest)))
]

pub dig_few : (k n : ℕ) → n < 2 ^ suc k → dig n ≤ suc k
unfolding dig
dig_few k n lt = few_digits n k n lt

-- the looks of one answer, over at most 65,536 vertices
pub looks_cost : (vertices b looks : ℕ) →
    vertices ≤ MOST_VERTICES → 3 ≤ b → looks ≤ 16 * b → closed_most vertices looks + 2 * looks ≤ 512 * b
looks_cost vertices b looks few some le =
    let d = dig_few 16 (vertices + 1) (let p : 2 ^ 17 ≡ 131072 = refl in omega (arith, few, p)) in
    omega (arith, d, some, le)

-- a planner is made ready for the present moment, and changed
abbrev one_change : Plan → ℕ
one_change plan = 128 * dig (length plan.points + 2)

abbrev pub change_cost : Plan → ℕ
change_cost plan = renew_cost one_change one_change plan

module _ (book : Accounts Plan) (vertices : List Vertex)
    (jobs : List Job) (is : AreAccounts (λ (p : Plan). p.total) Plans.StandsFor vertices jobs book) where
  abbrev look_cost : Plan → ℕ
  look_cost plan = 16 * dig (length plan.points + 2)

  points_cost : (plan : Plan) (spans : List Span) (n : ℕ) →
      Plans.StandsFor plan spans → length spans ≤ n → dig (length plan.points + 2) ≤ dig (2 * n + 2)
  points_cost plan spans n stands few =
      let points = few_points plan.total plan.points spans stands in
      dig_mono (length plan.points + 2) (2 * n + 2) (omega (arith, points, few))

  planner_cost : (v k : ℕ) (item : List Plan) (plan : Plan) →
      slice_get (items_of book.planners) v ≡ Some item → slice_get item k ≡ Some plan →
      dig (length plan.points + 2) ≤ dig (2 * book.count + 2)
  planner_cost v k item plan there at =
      let quantities = (arc_value book.counted).quantities in
      let lt : k < length quantities = (let wide = is.graph.places v item there in
      let within = slice_get_within item k plan at in omega (arith, wide, within)) in
      let (q, of) = get_some quantities k lt in
      let among = in_place (length quantities) k lt (items_of book.planners) is.graph.places v item plan there at in
      points_cost plan (grouped (amount_in vertices q v) jobs) book.count ((is.kept k q of).spans v plan among)
      (let few = grouped_few (amount_in vertices q v) jobs in let count = is.count in omega (arith, few, count))

  pub all_cost : CostWithin look_cost (16 * dig (2 * book.count + 2)) (items_of book.planners)
  all_cost v k item plan there at = let d = planner_cost v k item plan there at in omega (arith, d)

  pub all_change : CostWithin change_cost (256 * dig (2 * book.count + 2)) (items_of book.planners)
  all_change v k item plan there at = let d = planner_cost v k item plan there at in omega (arith, d)

  times_points : (g : ℕ) → length jobs ≤ g → dig (length book.times.points + 2) ≤ dig (2 * g + 2)
  times_points g few =
      points_cost book.times (times_of jobs) g is.times (let many = times_many jobs in omega (arith, many, few))

  pub times_cost : (g : ℕ) → length jobs ≤ g → look_cost book.times ≤ 16 * dig (2 * g + 2)
  times_cost g few = let d = times_points g few in omega (arith, d)

  pub times_change : (g : ℕ) → length jobs ≤ g → change_cost book.times ≤ 256 * dig (2 * g + 2)
  times_change g few = let d = times_points g few in omega (arith, d)

-- the digits of twice a number are one more at most
double_digits : (n : ℕ) → dig (2 * n) ≤ suc (dig n)
double_digits n =
    dig_few (dig n) (2 * n) (let p = pow-suc 2 (dig n) in let below = below_dig n in omega (arith, p, below))

four_digits : dig 4 ≡ 3
unfolding dig
four_digits = refl

-- an answer about a vertex, and the next point, within the cost of the book
pub answer_covered : (vertices count g : ℕ) → vertices ≤ MOST_VERTICES →
    closed_most vertices (16 * dig (2 * count + 2)) + 2 * (16 * dig (2 * count + 2)) ≤ 512 * dig (2 * count + g + 4)
answer_covered vertices count g few =
    let four = four_digits in
    let some = dig_mono 4 (2 * count + g + 4) (omega arith) in
    let le = dig_mono (2 * count + 2) (2 * count + g + 4) (omega arith) in
    looks_cost vertices
    (dig (2 * count + g + 4)) (16 * dig (2 * count + 2)) few (omega (arith, four, some)) (omega (arith, le))

pub next_covered : (count g : ℕ) → 16 * dig (2 * g + 2) + 1 ≤ 512 * dig (2 * count + g + 4)
next_covered count g =
    let e : 2 * g + 2 ≡ 2 * (g + 1) = omega arith in
    let same = ap dig e in
    let d = double_digits (g + 1) in
    let le = dig_mono (g + 1) (2 * count + g + 4) (omega arith) in
    let some = some_dig (2 * count + g + 4) in
    omega (arith, same, d, le, some)

-- the next point and a look at the root
pub ample_covered : (vertices count g : ℕ) → vertices ≤ MOST_VERTICES →
    16 * dig (2 * g + 2) + 1 + look_most vertices (16 * dig (2 * count + 2)) ≤ 512 * dig (2 * count + g + 4)
ample_covered vertices count g few =
    let e : 2 * g + 2 ≡ 2 * (g + 1) = omega arith in
    let same = ap dig e in
    let d = double_digits (g + 1) in
    let le = dig_mono (g + 1) (2 * count + g + 4) (omega arith) in
    let more = dig_mono (2 * count + 2) (2 * count + g + 4) (omega arith) in
    let four = four_digits in
    let some = dig_mono 4 (2 * count + g + 4) (omega arith) in
    let n = dig_few 16 (vertices + 1) (let p : 2 ^ 17 ≡ 131072 = refl in omega (arith, few, p)) in
    omega (arith, same, d, le, more, four, some, n)

-- a change of one planner of at most 65,536
planner_change : (vertices b changes : ℕ) →
    vertices ≤ MOST_VERTICES → 3 ≤ b → changes ≤ 256 * b → change_most vertices changes ≤ 279 * b
planner_change vertices b changes few some le =
    let d = dig_few 16 (vertices + 1) (let p : 2 ^ 17 ≡ 131072 = refl in omega (arith, few, p)) in
    omega (arith, d, some, le)

-- what all accounts take, in products of claims, rules and digits
products : (claims types rules b each : ℕ) → types ≤ rules → each ≤ 279 * b →
    (18 + 16 * types) * claims * each ≤ 5022 * (claims * b) + 4464 * (rules * (claims * b))
products claims types rules b each few le =
    let one : each * claims ≤ 279 * b * claims = mul-le-mul_right claims le in
    let c : 279 * b * claims ≡ 279 * (claims * b) = grind arith in
    let parts : (18 + 16 * types) * claims * each ≡ 18 * (each * claims) + 16 * (types * (each * claims)) =
    grind arith in
    let more : types * (each * claims) ≤ rules * (each * claims) = mul-le-mul_right (each * claims) few in
    let up : (each * claims) * rules ≤ (279 * (claims * b)) * rules = mul-le-mul_right rules (omega (arith, one, c)) in
    let d : rules * (each * claims) ≡ (each * claims) * rules = grind arith in
    let e : (279 * (claims * b)) * rules ≡ 279 * (rules * (claims * b)) = grind arith in
    omega (arith, one, c, parts, more, up, d, e)

pub change_sum : (claims rules b : ℕ) → 8192 * (claims + 1) * (1 + rules) * b
    ≡ 8192 * (claims * b) + 8192 * (rules * (claims * b)) + 8192 * b + 8192 * (rules * b)
change_sum claims rules b = grind arith

-- a job more or less within the bound: all accounts, the times and the row
pub change_covered : (vertices count g types rules claims times old mid new : ℕ) →
    vertices ≤ MOST_VERTICES → types ≤ rules → times ≤ 256 * dig (2 * g + 2) →
    mid ≤ old + (accounts_most vertices (256 * dig (2 * count + 2)) types claims + times) →
    new ≤ mid + 256 * dig (g + 2) → new ≤ old + 8192 * (claims + 1) * (1 + rules) * dig (2 * count + g + 4)
change_covered vertices count g types rules claims times old mid new few kept span accounts row =
    let b = dig (2 * count + g + 4) in
    let four = four_digits in
    let some : dig 4 ≤ b = dig_mono 4 (2 * count + g + 4) (omega arith) in
    let le : dig (2 * count + 2) ≤ b = dig_mono (2 * count + 2) (2 * count + g + 4) (omega arith) in
    let each = change_most vertices (256 * dig (2 * count + 2)) in
    let one =
    planner_change vertices b (256 * dig (2 * count + 2)) few (omega (arith, four, some)) (omega (arith, le)) in
    let all = products claims types rules b each kept one in
    let same : 2 * g + 2 ≡ 2 * (g + 1) = omega arith in
    let doubled = double_digits (g + 1) in
    let alike = ap dig same in
    let ids : dig (g + 1) ≤ b = dig_mono (g + 1) (2 * count + g + 4) (omega arith) in
    let rows : dig (g + 2) ≤ b = dig_mono (g + 2) (2 * count + g + 4) (omega arith) in
    let sum = change_sum claims rules b in
    omega (arith, accounts, row, span, all, alike, doubled, ids, rows, sum, four, some)
