-- The parts of a part are lower than it.
use Rattle.std.proofs.Common.{ℕ, ◌+◌, ◌≤◌, arith, List, [], ◌∷◌}
use denote.Param.Weighed.{most}
use Rattle.std.proofs.Math.Nat.{max-le}
use Rattle.snapshot_store.specs.declared.parts.Part.TheInside.{Inside}
use Rattle.snapshot_store.specs.declared.parts.Part.TheDeep.{deep-Part}
use Rattle.snapshot_store.specs.declared.parts.Body.{Body}
use Rattle.snapshot_store.specs.declared.parts.Body.TheVariants.{Empty, Item, Fork}
use Rattle.snapshot_store.specs.Parts.{height_of, IsLevel, ArePacked, parts_in}

-- the greatest height of parts, and one more
packed_low : {T : Type 0} (height : ℕ) (parts : List (List T × ℕ)) → ArePacked height parts →
    most (λ (part : List T × ℕ). part.1 + 1) parts ≤ height + 1
packed_low height [] packed = omega arith
packed_low height (part ∷ parts) packed = omega (arith, packed.0.high, packed_low height parts packed.2)

falls_body : {T : Type 0} (b : Body T) → IsLevel b → deep-Part T (record { body = b }) ≤ height_of b
falls_body Empty h = omega arith
falls_body (Item e) h = omega arith
falls_body (Fork n) h =
    let low = packed_low n.below (parts_in n) h.packed in
    let none : 0 ≤ n.below + 1 = omega arith in
    max-le (max-le (max-le (max-le low none) none) none) none

pub falls : {T : Type 0} (a : Inside T) → IsLevel a.body → deep-Part T a ≤ height_of a.body
falls a h = falls_body a.body h
