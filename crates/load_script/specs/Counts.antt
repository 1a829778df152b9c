-- The counts of a history, and their text.
use Rattle.std.specs.Prelude.{ℕ, List, [], ◌++◌, length, count_by, codes, decimal}
use Rattle.std.specs.Str.{bytes_eq}
use Rattle.flux_defs.specs.declared.journal.Entry.{Entry}
use Rattle.flux_defs.specs.declared.journal.Reply.{Reply}
use Rattle.flux_defs.specs.declared.journal.Reply.TheVariants as reply
use Rattle.flux_defs.specs.Scheduler.{State, first_state}
use Rattle.flux_defs.specs.Histories.{state_after}

-- the word under which a reply is counted; those of other commands are counted under none
abbrev pub reply_word : Reply → List ℕ
reply_word (reply.Allocated job) = codes "allocated"
reply_word (reply.Reserved job) = codes "reserved"
reply_word reply.Busy = codes "busy"
reply_word reply.NoStart = codes "nostart"
reply_word reply.Unsatisfiable = codes "unsatisfiable"
reply_word reply.TooLong = codes "toolong"
reply_word reply.Exists = codes "exists"
reply_word reply.Absent = codes "absent"
reply_word reply.Cancelled = codes "cancelled"
reply_word reply.Full = codes "full"
reply_word (reply.Now at) = codes "advanced"
reply_word reply.Satisfiable = []
reply_word (reply.Info phase start end) = []
reply_word reply.Backwards = []
reply_word reply.Beyond = []
reply_word reply.Invalid = []

-- how many replies are counted under this word
abbrev pub replies_called : List ℕ → List Entry → ℕ
replies_called word history = count_by (λ e. bytes_eq (reply_word e.reply) word) history

-- the state that the history leaves
abbrev pub end_of : List Entry → State
end_of history = state_after first_state history

-- a name and a number, in a line
unfoldable pub count_line : List ℕ → ℕ → List ℕ
count_line name number = name ++ codes " " ++ decimal number ++ codes "\n"

-- how often the replies came that are counted under this word
abbrev pub reply_line : List Entry → List ℕ → List ℕ
reply_line history word = count_line word (replies_called word history)

abbrev pub accepting_lines : List Entry → List ℕ
accepting_lines history = reply_line history (codes "allocated") ++ reply_line history (codes "reserved")

abbrev pub refusing_lines : List Entry → List ℕ
refusing_lines history =
    reply_line history (codes "busy") ++ reply_line history (codes "nostart")
    ++ reply_line history (codes "unsatisfiable") ++ reply_line history (codes "toolong")
    ++ reply_line history (codes "exists")

abbrev pub other_lines : List Entry → List ℕ
other_lines history =
    reply_line history (codes "absent") ++ reply_line history (codes "cancelled")
    ++ reply_line history (codes "full") ++ reply_line history (codes "advanced")

-- how many claims all accepted jobs had, and the present moment
abbrev pub state_lines : State → List ℕ
state_lines s = count_line (codes "claims") s.claim_count ++ count_line (codes "now") s.moment

-- The fourteen lines: how many commands were answered, how often each reply came, how many claims all accepted jobs
-- had, and the present moment.
abbrev pub counts_text : List Entry → List ℕ
counts_text history =
    count_line (codes "commands") (length history) ++ accepting_lines history ++ refusing_lines history
    ++ other_lines history ++ state_lines (end_of history)
