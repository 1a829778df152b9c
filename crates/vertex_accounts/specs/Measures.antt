-- What a claim amounts to at its own vertex.
use Rattle.std.specs.Prelude.{ℕ}
use Rattle.flux_defs.specs.declared.claims.Claim.{Claim}
use Rattle.flux_defs.specs.declared.claims.Claim.TheVariants.{Take, Hold, Pass}

-- 1 for a hold
abbrev pub hold_amount : Claim → ℕ
hold_amount (Take v q) = 0
hold_amount (Hold v) = 1
hold_amount (Pass v) = 0

-- the quantity of a take
abbrev pub take_amount : Claim → ℕ
take_amount (Take v q) = q
take_amount (Hold v) = 0
take_amount (Pass v) = 0
