-- How many steps the walks take.
use Rattle.std.specs.Prelude.{ℕ, ◌+◌, ◌-◌, ◌*◌, List, [], length}
use Rattle.flux_defs.specs.Digits.{dig}
use Rattle.flux_defs.specs.declared.claims.Claim.{Claim}
use Rattle.flux_defs.specs.declared.journal.Entry.{Entry}
use Rattle.flux_defs.specs.declared.verdicts.Verdict.{Verdict}
use Rattle.flux_defs.specs.declared.verdicts.Verdict.TheVariants.{Found}

-- a look at each entry from the place on
abbrev pub scan_most : List Entry → ℕ → ℕ
scan_most history place = (length history - place) * (2 * dig (length history + 1))

-- the claims that were found, if any were
abbrev pub claims_found : Verdict → List Claim
claims_found (Found start claims) = claims
claims_found v = []
