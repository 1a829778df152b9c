-- The input of a load: its commands, one a line, all of the client `load`.
use Rattle.std.specs.Prelude.{ℕ, ◌+◌, ◌*◌, ◌/◌, ◌%◌, ◌==◌, nat_lt, List, ◌++◌, map, codes, decimal, if◌then◌else◌}
use Rattle.std.specs.List.{concat, range_with_len}
use Rattle.load_script.specs.Draws.{row_of, extent_of, second_at}
use Rattle.load_script.specs.Jobspecs.{nodes_jobspec, slots_jobspec, memory_jobspec}

-- what an ask of this extent runs for, in seconds
abbrev pub duration_of : ℕ → ℕ
duration_of extent = 60 * (1 + extent / 64)

-- The words of command k, by its row: half of the commands reserve nodes, and an eighth each allocates slots, allocates
-- slots with memory, cancels the job of an earlier command or of this one, and moves the present moment to a second.
abbrev pub command_text : (k row extent second : ℕ) → List ℕ
command_text k row extent second =
    if nat_lt row 4 then codes "reserve " ++ decimal k ++ codes " " ++ nodes_jobspec (1 + extent % 4)
    (1 + extent / 4 % 16) (duration_of extent)
    else if row == 4 then codes "allocate " ++ decimal k ++ codes " " ++ slots_jobspec (1 + extent % 32)
    (duration_of extent)
    else if row == 5 then codes "allocate " ++ decimal k ++ codes " " ++ memory_jobspec (1 + extent % 32)
    (duration_of extent)
    else if row == 6 then codes "cancel " ++ decimal (1 + extent % k)
    else codes "advance " ++ decimal second

-- the line of command k, without its line feed
unfoldable pub load_line : ℕ → ℕ → List ℕ
load_line commands k =
    codes "load " ++ command_text k (row_of commands k) (extent_of commands k) (second_at commands k)

-- the same with its line feed
abbrev pub ended_line : ℕ → ℕ → List ℕ
ended_line commands k = load_line commands k ++ codes "\n"

-- the input of so many commands
abbrev pub load_text : ℕ → List ℕ
load_text commands = concat (map (ended_line commands) (range_with_len 1 commands))
