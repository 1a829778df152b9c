-- What pushes and pulls do to the bytes and the room that a stream tells.
use Rattle.std.specs.Prelude.{◌≡◌, ◌-◌, ◌<◌, ◌≤◌, ◌++◌, ℕ, List, length, Option, IfSome, Some, Result, IfOk, OnErr}
use Rattle.std.specs.Prelude.{IsOk}
use Rattle.std.specs.Io.KnownBytes.{Appends, Consumes}

-- a push takes at most all bytes, and at least one of a piece that isn't empty
abbrev pub TakesSome : {E : Type 0} → Result ℕ E → List ℕ → Type 0
TakesSome result bytes = IfOk result (λ count. (count ≤ length bytes) × (0 < length bytes → 0 < count))

-- where the sink tells a room: it falls by the bytes taken, and a piece no longer than it is taken without a fault
pub record IsRoomAfter {E : Type 0} (before now : Option ℕ) (faults_before faults_now : ℕ) (result : Result ℕ E)
    (bytes : List ℕ) : Type 0 where
  pub taken : IfSome before (λ room. IfOk result (λ count. now ≡ Some (room - count)))
  pub failed : IfSome before (λ room. OnErr result (now ≡ Some room))
  pub fits : IfSome before (λ room. length bytes ≤ room → IsOk result × (faults_now ≡ faults_before))

-- a front of the bytes was taken, and no other byte: told bytes grew by it, and a told room fell by its length
pub record TakesFront (held_before held_now : Option (List ℕ)) (room_before room_now : Option ℕ)
    (bytes : List ℕ) : Type 0 where
  pub front : List ℕ
  pub rest : List ℕ
  pub whole : bytes ≡ front ++ rest
  pub appended : Appends held_before held_now front
  pub room : IfSome room_before (λ room. room_now ≡ Some (room - length front))

-- what is left of a reader is known to be these bytes, where they are known
abbrev pub HasLeft : Option (List ℕ) → Option (List ℕ) → Type 0
HasLeft known left = IfSome known (λ bytes. left ≡ Some bytes)

-- told bytes lost a front, and no other byte
abbrev pub LosesFront : Option (List ℕ) → Option (List ℕ) → Type 0
LosesFront before now = (front : List ℕ) × Consumes before now front
