-- What a reader answers.
use Rattle.std.specs.Prelude.{◌≡◌, ℕ, Result, Ok, Err, ⊤}
use Rattle.idset_text.specs.declared.faults.TextFault.{TextFault}
use Rattle.idset_text.specs.declared.faults.TextFault.TheVariants.{Form, Memory}

-- the answer is what is read there, a value or the place of the first fault; want of memory may come at any time
abbrev pub IsResultOf : {X : Type 0} → Result X TextFault → Result X ℕ → Type 0
IsResultOf (Ok value) read = read ≡ Ok value
IsResultOf (Err (Form at)) read = read ≡ Err at
IsResultOf (Err Memory) read = ⊤
