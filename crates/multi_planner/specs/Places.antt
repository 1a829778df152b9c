-- What is true of the items of lists place by place.
use Rattle.std.specs.Prelude.{◌≡◌, ℕ, Some, List, slice_get}

-- the items of two lists at each place have the relation
abbrev pub AtEach : {X Y : Type 0} → (X → Y → Type 0) → List X → List Y → Type 0
AtEach {X} {Y} R xs ys = (place : ℕ) (x : X) (y : Y) → slice_get xs place ≡ Some x → slice_get ys place ≡ Some y → R x y

-- the items of three lists at each place have the relation
abbrev pub AtEachThree : {X Y Z : Type 0} → (X → Y → Z → Type 0) → List X → List Y → List Z → Type 0
AtEachThree {X} {Y} {Z} R xs ys zs =
    (place : ℕ) (x : X) (y : Y) (z : Z) → slice_get xs place ≡ Some x → slice_get ys place ≡ Some y →
    slice_get zs place ≡ Some z → R x y z
