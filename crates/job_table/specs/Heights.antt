-- The parts of a part are lower than it.
use Rattle.std.proofs.Common.{ℕ, ◌+◌, ◌≤◌, arith, List, [], ◌∷◌}
use denote.Param.Weighed.{most}
use Rattle.std.proofs.Math.Nat.{max-le}
use Rattle.job_table.specs.declared.tables.Row.{Row}
use Rattle.job_table.specs.declared.parts.Part.TheInside.{Inside}
use Rattle.job_table.specs.declared.parts.Part.TheDeep.{deep-Part}
use Rattle.job_table.specs.declared.parts.Body.{Body}
use Rattle.job_table.specs.declared.parts.Body.TheVariants.{Empty, Entry, Fork}
use Rattle.job_table.specs.Parts.{height_of, IsLevel, AreParts, parts_in}

-- the greatest height of parts, and one more
low : (digits : ℕ) (parts : List (List (ℕ × Row) × ℕ)) → AreParts digits parts →
    most (λ (part : List (ℕ × Row) × ℕ). part.1 + 1) parts ≤ digits + 1
low digits [] all = omega arith
low digits (part ∷ parts) all = omega (arith, all.0.high, low digits parts all.1)

falls_body : (b : Body) → IsLevel b → deep-Part (record { body = b }) ≤ height_of b
falls_body Empty h = omega arith
falls_body (Entry key row) h = omega arith
falls_body (Fork n) h =
    let highest = low n.below (parts_in n) h.parts in
    let none : 0 ≤ n.below + 1 = omega arith in
    max-le (max-le (max-le (max-le highest none) none) none) none

pub falls : (a : Inside) → IsLevel a.body → deep-Part a ≤ height_of a.body
falls a h = falls_body a.body h
