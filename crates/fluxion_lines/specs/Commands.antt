-- What a line commands.
use Rattle.std.specs.Prelude.{ℕ, ◌&&◌, ◌||◌, nat_lt, nat_le, List, [], ◌∷◌, length, Bool, true, false, not, Option}
use Rattle.std.specs.Prelude.{Some, None, Result, Ok, Err, if◌then◌else◌, codes, bytes_eq}
use Rattle.std.specs.List.{list_all}
use Rattle.std.specs.Result.{result_map_both}
use Rattle.std.specs.Char.{is_ascii_digit, is_ascii_lowercase}
use Rattle.flux_defs.specs.declared.requests.Ask.{Ask}
use Rattle.flux_defs.specs.declared.journal.Command.{Command}
use Rattle.flux_defs.specs.declared.journal.Command.TheVariants as command
use Rattle.resource_graph.specs.NamedGraph.{NamedGraph}
use Rattle.jobspec_v1.specs.declared.faults.SpecFault.{SpecFault}
use Rattle.jobspec_v1.specs.Jobspecs.{v1_of}
use Rattle.jobspec_canon.specs.Canonical.{canon_of}
use Rattle.fluxion_lines.specs.declared.commands.Form.{Form}
use Rattle.fluxion_lines.specs.declared.commands.Form.TheVariants as form
use Rattle.fluxion_lines.specs.declared.commands.Verb.{Verb}
use Rattle.fluxion_lines.specs.declared.commands.Verb.TheVariants as verb
use Rattle.fluxion_lines.specs.Words.{skipped, first_word, after_word}
use Rattle.text_forms.specs.Numbers.{number_in}
use Rattle.fluxion_lines.specs.Reasons.{spec_reason}

-- nothing is there
abbrev pub is_none : List ℕ → Bool
is_none [] = true
is_none (b ∷ bytes) = false

-- a client's name: 1 to 16 small letters and digits of ASCII
abbrev pub is_client : List ℕ → Bool
is_client word =
    nat_lt 0 (length word) && nat_le (length word) 16 && list_all (λ b. is_ascii_lowercase b || is_ascii_digit b) word

-- the client that a line belongs to; one whose first word is no name belongs to `-`
abbrev pub client_of : List ℕ → List ℕ
client_of line = if is_client (first_word line) then first_word line else codes "-"

-- the verb that a word is
abbrev pub verb_of : List ℕ → Option Verb
verb_of word =
    if bytes_eq word (codes "allocate") then Some verb.Allocate
    else if bytes_eq word (codes "reserve") then Some verb.Reserve
    else if bytes_eq word (codes "satisfy") then Some verb.Satisfy
    else if bytes_eq word (codes "cancel") then Some verb.Cancel
    else if bytes_eq word (codes "info") then Some verb.Info
    else if bytes_eq word (codes "advance") then Some verb.Advance
    else None

abbrev pub invalid : List ℕ → Command
invalid why = command.Invalid why

-- the ask of a jobspec in its form, or its first fault
abbrev pub spec_of : NamedGraph → Form → List ℕ → Result Ask SpecFault
spec_of g form.V1 spec = v1_of g spec
spec_of g form.Rfc14 spec = canon_of g spec

-- the ask of a jobspec, or why it has none
abbrev pub asked : NamedGraph → Form → List ℕ → Result Ask (List ℕ)
asked g form spec = result_map_both (λ ask. ask) spec_reason (spec_of g form spec)

abbrev pub with_job : Option ℕ → Result Ask (List ℕ) → Result (ℕ × Ask) (List ℕ)
with_job None read = Err (codes "job")
with_job (Some job) read = result_map_both (λ ask. (job, ask)) (λ why. why) read

-- a job and a jobspec: the jobspec is what follows the job from the first byte on that is no space
abbrev pub job_and_ask : NamedGraph → Form → List ℕ → Result (ℕ × Ask) (List ℕ)
job_and_ask g form words =
    if is_none (first_word words) || is_none (skipped (after_word words)) then Err (codes "words")
    else with_job (number_in (first_word words)) (asked g form (skipped (after_word words)))

-- a jobspec alone
abbrev pub ask_alone : NamedGraph → Form → List ℕ → Result Ask (List ℕ)
ask_alone g form words = if is_none (skipped words) then Err (codes "words") else asked g form (skipped words)

abbrev pub number_or : List ℕ → Option ℕ → Result ℕ (List ℕ)
number_or fault None = Err fault
number_or fault (Some n) = Ok n

-- one number and nothing more
abbrev pub number_alone : List ℕ → List ℕ → Result ℕ (List ℕ)
number_alone fault words =
    if is_none (first_word words) || not (is_none (skipped (after_word words)))
    then Err (codes "words") else number_or fault (number_in (first_word words))

-- the command made of what was read, or why nothing was
abbrev pub made : {A : Type 0} → (A → Command) → Result A (List ℕ) → Command
made make (Ok x) = make x
made make (Err why) = invalid why

-- what the words behind a verb command
abbrev pub command_by : NamedGraph → Form → Verb → List ℕ → Command
command_by g form verb.Allocate words = made (λ p. command.Allocate p.0 p.1) (job_and_ask g form words)
command_by g form verb.Reserve words = made (λ p. command.Reserve p.0 p.1) (job_and_ask g form words)
command_by g form verb.Satisfy words = made command.Satisfy (ask_alone g form words)
command_by g form verb.Cancel words = made command.Cancel (number_alone (codes "job") words)
command_by g form verb.Info words = made command.Info (number_alone (codes "job") words)
command_by g form verb.Advance words = made command.Advance (number_alone (codes "time") words)

abbrev pub command_or : NamedGraph → Form → Option Verb → List ℕ → Command
command_or g form None words = invalid (codes "command")
command_or g form (Some v) words = command_by g form v words

-- what a line commands, over a graph, where jobspecs have this form: the client's name, a verb, and the verb's words
abbrev pub command_of : NamedGraph → Form → List ℕ → Command
command_of g form line =
    if is_client (first_word line)
    then command_or g form (verb_of (first_word (after_word line))) (after_word (after_word line))
    else invalid (codes "client")

-- how many nodes the ask of a command bars; a command without an ask bars none
abbrev pub bars_of_command : Command → ℕ
bars_of_command (command.Allocate job ask) = length ask.barred
bars_of_command (command.Reserve job ask) = length ask.barred
bars_of_command (command.Satisfy ask) = length ask.barred
bars_of_command (command.Cancel job) = 0
bars_of_command (command.Info job) = 0
bars_of_command (command.Advance to) = 0
bars_of_command (command.Invalid why) = 0
