-- What a run says of a call, told bytes before and after, and its status.
use Rattle.std.specs.Prelude.{◌≡◌, ◌≤◌, ◌⊎◌, ℕ, List, length, Option, IfSome}
use Rattle.std.specs.Io.KnownBytes.{Keeps}
use Rattle.flux_io.specs.Stores.{Stored}
use Rattle.command_words.specs.Givens.{Word}
use Rattle.fluxion_shell.specs.declared.status.Status.{Status}
use Rattle.fluxion_shell.specs.declared.status.Status.TheVariants as status
use Rattle.asked_calls.specs.Calls.{Call, IsCallOf}
use Rattle.fluxion_shell.specs.Causes.{WhereTold, AppendsSome, AppendsFrontOfSome}
use Rattle.fluxion_shell.specs.Outputs.{IsAnswerTo}

-- Usage is the answer exactly where the words are no call, but that memory may have been wanting to read them.
pub record IsUsage (words : List Word) (result : Status) : Type 0 where
  pub no_call : result ≡ status.Usage → (call : Call) → IsCallOf words call → ⊥
  pub told : ((call : Call) → IsCallOf words call → ⊥) → (result ≡ status.Usage) ⊎ (result ≡ status.Memory)

-- where it went well, an answer to the call was appended
abbrev pub IsAnswered : Call → Option Stored → (left held held_now : Option (List ℕ)) → Status → Type 0
IsAnswered call told left held held_now result =
    result ≡ status.Ok → WhereTold call told left (λ file input. AppendsSome held held_now (IsAnswerTo call file input))

-- where the output failed, a front of one was
abbrev pub IsAnsweredInPart : Call → Option Stored → (left held held_now : Option (List ℕ)) → Status → Type 0
IsAnsweredInPart call told left held held_now result =
    result ≡ status.Write → WhereTold call told left (λ file input. AppendsFrontOfSome held held_now
    (IsAnswerTo call file input))

-- after any other answer nothing was
abbrev pub WritesNothing : Option (List ℕ) → Option (List ℕ) → Status → Type 0
WritesNothing held held_now result = (result ≡ status.Ok → ⊥) → (result ≡ status.Write → ⊥) → Keeps held held_now

-- an output with room for each answer has no fault
abbrev pub FitsRoom : Call → Option Stored → Option (List ℕ) → Option ℕ → (faults faults_now : ℕ) → Type 0
FitsRoom call told left room faults faults_now = WhereTold call told left (λ file input.
    IfSome room (λ r. ((text : List ℕ) → IsAnswerTo call file input text → length text ≤ r) → faults_now ≡ faults))
