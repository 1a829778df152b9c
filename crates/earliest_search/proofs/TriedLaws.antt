-- Counting the steps of the moments that a search tries.
use Rattle.std.proofs.Common.{◌≡◌, ℕ, zero, suc, ◌+◌, ◌*◌, ◌<◌, ◌≤◌, nat_lt, if◌then◌else◌, List, [], ◌∷◌, length}
use Rattle.std.proofs.Common.{get_or, inl, inr, arith}
use Rattle.std.specs.Prelude.{Contains, sum_by}
use Rattle.std.proofs.lemmas.Bool.Decides.{nat_tests}
use Rattle.std.proofs.lemmas.List.Sums.{sum_by-cons}
use Rattle.std.proofs.Math.Nat.{mul-le-mul_left}
use Rattle.flux_defs.specs.declared.vertices.Vertex.{Vertex}
use Rattle.flux_defs.specs.declared.claims.Window.{Window}
use Rattle.flux_defs.specs.declared.requests.Need.{Need}
use Rattle.flux_defs.specs.declared.requests.Ask.{Ask}
use Rattle.flux_defs.specs.Asks.{CountsWithin, window_of}
use Rattle.flux_defs.specs.Present.{Present}
use Rattle.earliest_search.specs.Tried.{IsNowOrPoint, HasEachTried, TakesTries}
use Rattle.dfu_match.specs.Pairs.{IsEnoughFor}

module _ (weight : ℕ → ℕ) where
  -- the weights of the moments before one
  abbrev pub weight_before : ℕ → List ℕ → ℕ
  weight_before s [] = 0
  weight_before s (t ∷ ts) = (if nat_lt t s then weight t else 0) + weight_before s ts

  if_more : (n s u t : ℕ) → s ≤ u →
      (let a : ℕ = (if nat_lt t s then n else 0) in let b : ℕ = (if nat_lt t u then n else 0) in a ≤ b)
  if_more n s u t le = grind (arith, nat_tests)

  if_most : (n s t : ℕ) → (let a : ℕ = (if nat_lt t s then n else 0) in a ≤ n)
  if_most n s t = grind (arith, nat_tests)

  if_here : (n t : ℕ) → (let a : ℕ = (if nat_lt t t then n else 0) in let b : ℕ = (if nat_lt t (t + 1) then n else 0)
      in a + n ≤ b)
  if_here n t = grind (arith, nat_tests)

  pub before_more : (s u : ℕ) (ts : List ℕ) → s ≤ u → weight_before s ts ≤ weight_before u ts
  before_more s u [] le = omega arith
  before_more s u (t ∷ ts) le =
      let one = if_more (weight t) s u t le in let rest = before_more s u ts le in omega (arith, one, rest)

  pub before_all : (s : ℕ) (ts : List ℕ) → weight_before s ts ≤ sum_by weight ts
  before_all s [] = omega arith
  before_all s (t ∷ ts) =
      let one = if_most (weight t) s t in
      let rest = before_all s ts in
      let e = sum_by-cons weight t ts in
      omega (arith, one, rest, e)

  -- one of them more
  pub before_here : (s : ℕ) (ts : List ℕ) → Contains ts s → weight_before s ts + weight s ≤ weight_before (s + 1) ts
  before_here s ts there = at there.0 ts there.1 there.2
    where
      at : (i : ℕ) (xs : List ℕ) → i < length xs → get_or xs i s ≡ s → weight_before s xs + weight s ≤ weight_before
          (s + 1) xs
      at i [] lt e = absurd (omega arith)
      at zero (x ∷ xs) lt e =
          let is : x ≡ s = e in
          let one = if_here (weight s) s in
          let rest = before_more s (s + 1) xs (omega arith) in
          rw is (omega (arith, one, rest))
      at (suc i) (x ∷ xs) lt e =
          let one = if_more (weight x) s (s + 1) x (omega arith) in
          let rest = at i xs (omega arith) e in
          omega (arith, one, rest)

-- the list has each moment that is tried before `start`
abbrev pub HasEachBefore : Present → ℕ → Ask → ℕ → ℕ → List ℕ → Type 0
HasEachBefore present horizon ask now start tried =
    (t : ℕ) → IsNowOrPoint present now t → CountsWithin horizon ask t → t < start → Contains tried t

module _ (present : Present) (horizon : ℕ) (ask : Ask) (now : ℕ) (tried : List ℕ) where
  pub each_before : (last start : ℕ) → start ≤ last + 1 → HasEachTried present horizon ask now last tried →
      HasEachBefore present horizon ask now start tried
  each_before last start le has t is counts lt = has t is counts (omega arith)

  -- no moment past the horizon counts
  pub each_counted : (start : ℕ) → HasEachTried present horizon ask now horizon tried →
      HasEachBefore present horizon ask now start tried
  each_counted start has t is counts lt = let in' : t < horizon = counts.0 in has t is counts (omega arith)

-- a match at one moment more, and the look for the next
module _ (cost : ℕ) (weight : ℕ → ℕ) (tried : List ℕ) (start old mid new looks : ℕ)
    (is : weight start ≡ (looks + 1) * cost) (there : Contains tried start)
    (spent : mid ≤ old + weight_before weight start tried) (work : new ≤ mid + looks * cost) where
  pub try_more : new + cost ≤ old + weight_before weight (start + 1) tried
  try_more = let here = before_here weight start tried there in omega (arith, here, is, spent, work)

  pub try_all : new ≤ old + sum_by weight tried
  try_all =
      let more = try_more in
      let all = before_all weight (start + 1) tried in
      omega (arith, more, all)

-- where fewer totals are kept, what is enough is enough where more are
pub enough_more : (vertices : List Vertex) (present : Present) (w : Window) (few more : ℕ → ℕ → Type 0) →
    ((v kind : ℕ) → few v kind → more v kind) → (needs : List Need) (looks : ℕ) →
    IsEnoughFor vertices present w few needs looks → IsEnoughFor vertices present w more needs looks
enough_more vertices present w few more along needs looks (inl root) =
    inl ((root.0.0, (along 0 root.0.0 root.0.1.0, root.0.1.1)), root.1)
enough_more vertices present w few more along needs looks (inr some) = inr (
  some.0,
  (λ place v need at lt opens. some.1 place v need at lt (λ u below is.
      opens u below (is.0, (along u is.0 is.1.0, is.1.1)))),
  some.2,
)

sum_more : (few more : ℕ → ℕ) → ((t : ℕ) → few t ≤ more t) → (ts : List ℕ) → sum_by few ts ≤ sum_by more ts
sum_more few more le [] = omega arith
sum_more few more le (t ∷ ts) =
    let one = le t in
    let rest = sum_more few more le ts in
    let a = sum_by-cons few t ts in
    let b = sum_by-cons more t ts in
    omega (arith, one, rest, a, b)

module _ (vertices : List Vertex) (present : Present) (horizon : ℕ) (ask : Ask) (now : ℕ) where
  -- fewer steps before, and a later last moment
  pub tries_later : (keeps : ℕ → ℕ → Type 0) (cost last later old start new : ℕ) → last ≤ later → start ≤ old →
      TakesTries vertices present keeps cost horizon ask now last start new →
      TakesTries vertices present keeps cost horizon ask now later old new
  tries_later keeps cost last later old start new le few takes tried looks has enough =
      let t = takes tried looks (λ u is counts most. has u is counts (omega (arith, le, most))) enough in
      omega (arith, t, few)

  -- more totals are kept, and an answer costs less
  pub tries_along : (few more : ℕ → ℕ → Type 0) → ((v kind : ℕ) → few v kind → more v kind) →
      (cost most last old new : ℕ) → cost ≤ most →
      TakesTries vertices present more cost horizon ask now last old new →
      TakesTries vertices present few most horizon ask now last old new
  tries_along few more along cost most last old new le takes tried looks has enough =
      let t = takes tried looks has (λ u there counts.
      enough_more vertices present (window_of horizon ask u) few more along ask.needs (looks u)
      (enough u there counts)) in
      let s = sum_more (λ u. (looks u + 1) * cost) (λ u. (looks u + 1) * most)
      (λ u. mul-le-mul_left (looks u + 1) le) tried in
      omega (arith, t, s)
