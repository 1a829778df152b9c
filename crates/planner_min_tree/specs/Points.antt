-- Points of time at which what is free changes, and what a list of them does to a number.
use Rattle.std.specs.Prelude.{ℕ, suc, ◌+◌, ◌-◌, ◌^◌, ◌<◌, ◌≤◌, min, max, nat_le, nat_lt, if◌then◌else◌, Option, Some}
use Rattle.std.specs.Prelude.{None, List, [], ◌∷◌, length}
use Rattle.std.specs.Option.{option_or}
use Rattle.planner_min_tree.specs.declared.points.Point.{Point}
use Rattle.planner_min_tree.specs.declared.points.Dip.{Dip}

-- the latest time of the points
abbrev pub latest_of : List Point → ℕ
latest_of [] = 0
latest_of (p ∷ ps) = max p.time (latest_of ps)

-- the time has its place among the points, where others come behind: there are some, and the latest isn't before it
abbrev pub HasPlace : ℕ → List Point → Type 0
HasPlace t ps = (0 < length ps) × (t ≤ latest_of ps)

-- how far a number falls below where it began, at most
abbrev pub need_of : List Point → ℕ
need_of [] = 0
need_of (p ∷ ps) = (p.taken - p.given) + (need_of ps - (p.given - p.taken))

-- how far it is above its lowest in the end
abbrev pub rest_of : List Point → ℕ
rest_of [] = 0
rest_of (p ∷ ps) = rest_of ps + ((p.given - p.taken) - need_of ps)

-- how far it is above its lowest where it is highest, at the start or later
abbrev pub top_of : List Point → ℕ
top_of [] = 0
top_of (p ∷ ps) = max ((p.taken - p.given) + (need_of ps - (p.given - p.taken)))
    ((p.given - p.taken) - need_of ps + top_of ps)

-- what the points do to a number, whatever it is
abbrev pub dip_of : List Point → Dip
dip_of ps = record { latest = latest_of ps; need = need_of ps; rest = rest_of ps; top = top_of ps }

-- the number after a point
abbrev pub past : Point → ℕ → ℕ
past p x = x + p.given - p.taken

-- the number after all of them
abbrev pub after : List Point → ℕ → ℕ
after [] x = x
after (p ∷ ps) x = after ps (past p x)

-- it never falls below 0 and always fits
abbrev pub Runs : List Point → ℕ → Type 0
Runs [] x = x < 2 ^ 64
Runs (p ∷ ps) x = (x < 2 ^ 64) × (p.taken ≤ x + p.given) × Runs ps (past p x)

-- the number at a moment
abbrev pub value_at : ℕ → List Point → ℕ → ℕ
value_at m [] x = x
value_at m (p ∷ ps) x = if nat_le p.time m then value_at m ps (past p x) else x

-- the lowest that it ever is
abbrev pub lowest : List Point → ℕ → ℕ
lowest [] x = x
lowest (p ∷ ps) x = min x (lowest ps (past p x))

-- the lowest before a moment
abbrev pub lowest_before : ℕ → List Point → ℕ → ℕ
lowest_before to [] x = x
lowest_before to (p ∷ ps) x = if nat_lt p.time to then min x (lowest_before to ps (past p x)) else x

-- the lowest at a moment and later
abbrev pub lowest_from : ℕ → List Point → ℕ → ℕ
lowest_from from [] x = x
lowest_from from (p ∷ ps) x = if nat_le p.time from then lowest_from from ps (past p x) else lowest (p ∷ ps) x

-- the lowest at a moment and later, before another
abbrev pub lowest_in : ℕ → ℕ → List Point → ℕ → ℕ
lowest_in from to [] x = x
lowest_in from to (p ∷ ps) x = if nat_le p.time from then lowest_in from to ps (past p x) else lowest_before to
    (p ∷ ps) x

-- how many points at the front are before a moment
abbrev pub count_before : ℕ → List Point → ℕ
count_before t [] = 0
count_before t (p ∷ ps) = if nat_lt p.time t then suc (count_before t ps) else 0

-- the first point that isn't before a moment
abbrev pub first_from : ℕ → List Point → Option Point
first_from t [] = None
first_from t (p ∷ ps) = if nat_lt p.time t then first_from t ps else Some p

-- the highest that it ever is
abbrev pub highest : List Point → ℕ → ℕ
highest [] x = x
highest (p ∷ ps) x = max x (highest ps (past p x))

-- the time of the first point after which it is so much
abbrev pub first_rise : ℕ → List Point → ℕ → Option ℕ
first_rise q [] x = None
first_rise q (p ∷ ps) x = if nat_le q (past p x) then Some p.time else first_rise q ps (past p x)

-- the same of the points that are later than a moment
abbrev pub rise_after : ℕ → ℕ → List Point → ℕ → Option ℕ
rise_after from q [] x = None
rise_after from q (p ∷ ps) x = if nat_le p.time from then rise_after from q ps (past p x) else first_rise q (p ∷ ps) x

-- a second, where the number is less than so much before it
abbrev pub low_to : ℕ → ℕ → ℕ → Option ℕ
low_to t q x = if nat_lt x q then Some t else None

-- the second at which the last stretch before a moment ends over which it is less: that moment if it lasts so long
abbrev pub low_end : ℕ → ℕ → List Point → ℕ → Option ℕ
low_end to q [] x = low_to to q x
low_end to q (p ∷ ps) x = if nat_lt p.time to then option_or (low_end to q ps (past p x)) (low_to p.time q x)
    else low_to to q x

-- the time of the last point before which it is less
abbrev pub last_rise : ℕ → List Point → ℕ → Option ℕ
last_rise q [] x = None
last_rise q (p ∷ ps) x = option_or (last_rise q ps (past p x)) (low_to p.time q x)
