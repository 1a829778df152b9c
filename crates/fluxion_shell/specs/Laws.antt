-- Laws of answers to calls.
use Rattle.std.specs.Prelude.{◌≡◌, ◌⊎◌, ◌≤◌, ℕ, List, length, Option}
use Rattle.flux_io.specs.Counts.{Rose}
use Rattle.flux_io.specs.Stores.{Stored}
use Rattle.fluxion_lines.specs.Columns.{line_column}
use Rattle.fluxion_lines.specs.Inputs.{clients_of}
use Rattle.fluxion_lines.specs.Scripts.{input_order}
use Rattle.fluxion_shell.specs.declared.status.Status.{Status}
use Rattle.fluxion_shell.specs.declared.status.Status.TheVariants as status
use Rattle.asked_calls.specs.Calls.{Served, Call}
use Rattle.fluxion_shell.specs.Causes.{OfServing, OfNaming, HasCause, IsFirstShown, IsInOrder}
use Rattle.fluxion_shell.specs.Outputs.{Answers, IsSummary, IsAnswerTo}

-- Completeness: where all that a call reads is told and in order and no count of failures rose, all was answered, or
-- memory was wanting. The counts are those of files, of names that they refused, of the input and of the output.
abbrev pub InOrderIsAnswered : Type 0
InOrderIsAnswered = (call : Call) (told : Option Stored) (left : Option (List ℕ))
    (files files_now refused refused_now input input_now out out_now : ℕ)
    (result : Status) →
    HasCause call told left (Rose files files_now) (Rose refused refused_now) (Rose input input_now)
    (Rose out out_now) result →
    IsFirstShown call told left (Rose files files_now) (Rose input input_now) result → IsInOrder call told left →
    ¬ OfNaming call (λ name. Rose files files_now) → ¬ OfServing call (λ served. Rose input input_now) →
    ¬ Rose out out_now →
    (result ≡ status.Ok) ⊎ (result ≡ status.Memory)

-- With one client, or none, the order of an answer is that of the input.
abbrev pub OneClientKeepsInputOrder : Type 0
OneClientKeepsInputOrder = (served : Served) (file input text : List ℕ) (answers : Answers served file input text) →
    length (clients_of input) ≤ 1 → line_column text ≡ input_order answers.graph served.form input

-- Two texts of the counts of one load are equal.
abbrev pub OneLoadHasOneSummary : Type 0
OneLoadHasOneSummary = (commands : ℕ) (a b : List ℕ) → IsSummary commands a → IsSummary commands b → a ≡ b

-- Two texts that answer the same call, graph file and input with its lines in the same order are equal.
abbrev pub OneOrderHasOneOutput : Type 0
OneOrderHasOneOutput = (call : Call) (file input a b : List ℕ) → IsAnswerTo call file input a →
    IsAnswerTo call file input b →
    line_column a ≡ line_column b → a ≡ b

-- An input of one client, or none, has one output; so has a graph file that is written, and a load.
abbrev pub OneClientHasOneOutput : Type 0
OneClientHasOneOutput = (call : Call) (file input a b : List ℕ) → IsAnswerTo call file input a →
    IsAnswerTo call file input b →
    length (clients_of input) ≤ 1 → a ≡ b
