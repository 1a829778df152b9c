-- Counts of faults: what every answer of the outside that isn't a success rests on.
use Rattle.std.specs.Prelude.{◌+◌, ◌-◌, ◌^◌, ◌≤◌, ℕ, min, OnErr, Result, Ok, Err}

-- a count after one more: it stays at the last value of 64 bits
abbrev pub next_count : ℕ → ℕ
next_count count = min (count + 1) (2 ^ 64 - 1)

-- a count rose, or stands at the last value of 64 bits
abbrev pub Rose : ℕ → ℕ → Type 0
Rose before now = next_count before ≤ now

-- the count of faults never falls, and a failure comes only where it rose
pub record HasCause {T E : Type 0} (before now : ℕ) (result : Result T E) : Type 0 where
  pub later : before ≤ now
  pub failed : OnErr result (Rose before now)

-- a count that goes up by one at each failure, and at nothing else
abbrev pub count_after : {T E : Type 0} → ℕ → Result T E → ℕ
count_after count (Ok value) = count
count_after count (Err fault) = next_count count
