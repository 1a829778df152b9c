-- The lines that answer: `POSITION LINE CLIENT REPLY` and a line feed.
use Rattle.std.specs.Prelude.{ℕ, ◌+◌, List, [], ◌∷◌, ◌++◌, slice_get, unwrap_or, codes, decimal}
use Rattle.flux_defs.specs.declared.claims.Job.{Job}
use Rattle.flux_defs.specs.declared.journal.Phase.{Phase}
use Rattle.flux_defs.specs.declared.journal.Phase.TheVariants.{Planned, Running, Ended}
use Rattle.flux_defs.specs.declared.journal.Command.{Command}
use Rattle.flux_defs.specs.declared.journal.Command.TheVariants as command
use Rattle.flux_defs.specs.declared.journal.Reply.{Reply}
use Rattle.flux_defs.specs.declared.journal.Reply.TheVariants as reply
use Rattle.flux_defs.specs.declared.journal.Entry.{Entry}
use Rattle.resource_graph.specs.NamedGraph.{NamedGraph}
use Rattle.resource_set_r.specs.WrittenR.{r_text}

-- an accepted job, after the word for it
abbrev pub job_text : NamedGraph → List ℕ → Job → List ℕ
job_text g word job = word ++ decimal job.id ++ codes " " ++ decimal job.start ++ codes " " ++ r_text g job

abbrev pub phase_text : Phase → List ℕ
phase_text Planned = codes "info planned "
phase_text Running = codes "info running "
phase_text Ended = codes "info ended "

-- why a line can't be read
abbrev pub why_of : Command → List ℕ
why_of (command.Invalid why) = why
why_of c = []

abbrev pub reply_text : NamedGraph → Command → Reply → List ℕ
reply_text g c (reply.Allocated job) = job_text g (codes "allocated ") job
reply_text g c (reply.Reserved job) = job_text g (codes "reserved ") job
reply_text g c reply.Busy = codes "busy"
reply_text g c reply.NoStart = codes "nostart"
reply_text g c reply.Unsatisfiable = codes "unsatisfiable"
reply_text g c reply.Satisfiable = codes "satisfiable"
reply_text g c reply.TooLong = codes "toolong"
reply_text g c reply.Exists = codes "exists"
reply_text g c reply.Absent = codes "absent"
reply_text g c reply.Cancelled = codes "cancelled"
reply_text g c reply.Full = codes "full"
reply_text g c (reply.Info phase start end) = phase_text phase ++ decimal start ++ codes " " ++ decimal end
reply_text g c (reply.Now at) = codes "now " ++ decimal at
reply_text g c reply.Backwards = codes "backwards"
reply_text g c reply.Beyond = codes "beyond"
reply_text g c reply.Invalid = codes "invalid " ++ why_of c

-- the line of an entry at a position of the history
abbrev pub line_text : NamedGraph → ℕ → Entry → List ℕ → List ℕ
line_text g at e client =
    decimal at ++ codes " "
    ++ decimal e.line ++ codes " " ++ client ++ codes " " ++ reply_text g e.command e.reply ++ codes "\n"

-- the name of a client of this number
abbrev pub name_of : List (List ℕ) → ℕ → List ℕ
name_of clients number = unwrap_or (slice_get clients number) []

-- the lines of the entries, from a position on
abbrev pub history_text_from : NamedGraph → List (List ℕ) → ℕ → List Entry → List ℕ
history_text_from g clients at [] = []
history_text_from g clients at (e ∷ es) =
    line_text g at e (name_of clients e.client) ++ history_text_from g clients (at + 1) es

-- the text of a history
abbrev pub history_text : NamedGraph → List (List ℕ) → List Entry → List ℕ
history_text g clients history = history_text_from g clients 0 history
