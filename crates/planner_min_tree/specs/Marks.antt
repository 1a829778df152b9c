-- Points that mark the starts and ends of spans.
use Rattle.std.specs.Prelude.{◌≡◌, ℕ, ◌+◌, ◌-◌, ◌<◌, ◌≤◌, nat_le, nat_lt, if◌then◌else◌, List, [], ◌∷◌}
use Rattle.flux_defs.specs.declared.claims.Window.{Window}
use Rattle.planner_points.specs.declared.spans.Span.{Span}
use Rattle.planner_points.specs.Spans.{used_at, free_at}
use Rattle.planner_min_tree.specs.declared.points.Point.{Point}
use Rattle.planner_min_tree.specs.Chunks.{Each}
use Rattle.planner_min_tree.specs.Points.{value_at}
use Rattle.planner_min_tree.specs.declared.marking.Mark.{Mark}
use Rattle.planner_min_tree.specs.declared.marking.Change.{Change}
use Rattle.planner_min_tree.specs.declared.marking.Change.TheVariants.{More, Less}

-- one end of a span more at a point
abbrev pub added : Mark → Point → Point
added d p = record { time = p.time; ends = p.ends + 1; taken = p.taken + d.taken; given = p.given + d.given }

-- the point of one end of a span alone
abbrev pub fresh : Mark → Point
fresh d = record { time = d.time; ends = 1; taken = d.taken; given = d.given }

-- one end of a span less
abbrev pub lessened : Mark → Point → Point
lessened d p = record { time = p.time; ends = p.ends - 1; taken = p.taken - d.taken; given = p.given - d.given }

-- the points with one end of a span more: at the point of its time, or at a new one
abbrev pub marked : Mark → List Point → List Point
marked d [] = fresh d ∷ []
marked d (p ∷ ps) =
    if nat_lt p.time d.time then p ∷ marked d ps
    else (if nat_le p.time d.time then added d p ∷ ps else fresh d ∷ p ∷ ps)

-- the points with one end of a span less: a point without ends goes
abbrev pub unmarked : Mark → List Point → List Point
unmarked d [] = []
unmarked d (p ∷ ps) =
    if nat_lt p.time d.time then p ∷ unmarked d ps
    else (if nat_le p.time d.time then (if nat_le p.ends 1 then ps else lessened d p ∷ ps) else p ∷ ps)

-- the sum of a number over a list
abbrev pub summed : {X : Type 0} → (X → ℕ) → List X → ℕ
summed f [] = 0
summed f (x ∷ xs) = f x + summed f xs

-- each point is earlier than those after it
abbrev pub IsRising : List Point → Type 0
IsRising [] = Unit {0}
IsRising (p ∷ ps) = Each (λ q. p.time < q.time) ps × IsRising ps

-- the numbers of what stands at a time
abbrev pub when_at : ℕ → ℕ → ℕ → ℕ
when_at t time n = if nat_le time t then (if nat_le t time then n else 0) else 0

-- the sum of the numbers of what stands at a time
abbrev pub at : {X : Type 0} → (X → ℕ) → (X → ℕ) → ℕ → List X → ℕ
at time f t xs = summed (λ x. when_at t (time x) (f x)) xs

-- how many spans start or end at a time, by the points
abbrev pub ends_at : List Point → ℕ → ℕ
ends_at ps t = at (λ p. p.time) (λ p. p.ends) t ps

-- what the spans that start at a time take, by the points
abbrev pub taken_at : List Point → ℕ → ℕ
taken_at ps t = at (λ p. p.time) (λ p. p.taken) t ps

-- what the spans that end at a time give back, by the points
abbrev pub given_at : List Point → ℕ → ℕ
given_at ps t = at (λ p. p.time) (λ p. p.given) t ps

-- the sum of a number over the spans that start at a time
abbrev pub starts_at : (Span → ℕ) → List Span → ℕ → ℕ
starts_at f spans t = at (λ s. s.window.from) f t spans

-- the sum of a number over the spans that end at a time
abbrev pub stops_at : (Span → ℕ) → List Span → ℕ → ℕ
stops_at f spans t = at (λ s. s.window.to) f t spans

-- the points have the numbers of the spans' starts and ends, and the spans never take more than the total
pub record Tallies (total : ℕ) (points : List Point) (spans : List Span) : Type 0 where
  pub rising : IsRising points
  pub some : Each (λ p. 0 < p.ends) points
  pub ends : (t : ℕ) → ends_at points t ≡ starts_at (λ s. 1) spans t + stops_at (λ s. 1) spans t
  pub taken : (t : ℕ) → taken_at points t ≡ starts_at (λ s. s.quantity) spans t
  pub given : (t : ℕ) → given_at points t ≡ stops_at (λ s. s.quantity) spans t
  pub proper : Each (λ s. s.window.from < s.window.to) spans
  pub room : (m : ℕ) → used_at spans m ≤ total

-- the points are those of the spans, and say at each moment what these leave of the total
pub record Marks (total : ℕ) (points : List Point) (spans : List Span) : Type 0 where
  pub tallies : Tallies total points spans
  pub free : (m : ℕ) → value_at m points total ≡ free_at total spans m

-- the start of so much over a window
abbrev pub start_of : Window → ℕ → Mark
start_of w q = record { time = w.from; taken = q; given = 0 }

-- the end of so much over a window
abbrev pub stop_of : Window → ℕ → Mark
stop_of w q = record { time = w.to; taken = 0; given = q }

-- the second at which the change is
abbrev pub time_of : Change → ℕ
time_of (More d) = d.time
time_of (Less d) = d.time

-- the points with one end of a span more or less
abbrev pub changed : Change → List Point → List Point
changed (More d) ps = marked d ps
changed (Less d) ps = unmarked d ps

-- after the first change the points are as late as the second needs: the first is an end more, or an earlier one less
abbrev pub StaysLate : Change → Change → Type 0
StaysLate (More d) second = Unit {0}
StaysLate (Less d) second = d.time < time_of second
