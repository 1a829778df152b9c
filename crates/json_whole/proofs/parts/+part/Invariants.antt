use Rattle.std.proofs.Common.{◌≡◌, ℕ, ◌+◌, ◌*◌, ◌≤◌, length, take, drop}
use Rattle.json.specs.Json.{value}
use Rattle.json_whole.specs.PlainTokens.{plain_tokens}
use Rattle.json_whole.proofs.Built.{PartGoesOn}
use Rattle.json_whole.proofs.parts.+part.Given as goal

abbrev pub decreases-read_part : goal.decreases-read_part
decreases-read_part l = 4 * length l.wanted.now

abbrev pub decreases-read_object : goal.decreases-read_object
decreases-read_object l = 4 * length l.within.now + 3

abbrev pub decreases-read_wanted : goal.decreases-read_wanted
decreases-read_wanted l = 4 * length l.within.now + 2

abbrev pub decreases-read_member : goal.decreases-read_member
decreases-read_member l = 4 * length l.within.now + 1

-- what was built of the object stands behind what stood there before
abbrev pub invariant-read_wanted-members : goal.invariant-read_wanted-members
invariant-read_wanted-members l =
    (n : ℕ) × (length (plain_tokens l.reader) ≤ n)
    × PartGoesOn (value l.depth) l.wanted l.within (plain_tokens l.initial.reader)
    (drop l.from l.unfinished.members.items) n (plain_tokens l.reader)
    × (length l.reader ≤ length l.initial.reader)
    × (l.from ≤ length l.unfinished.members.items)
    × (take l.from l.unfinished.members.items ≡ l.initial.unfinished.members.items)
    × (l.unfinished.items.items ≡ l.initial.unfinished.items.items)

abbrev pub decreases-read_wanted-members : goal.decreases-read_wanted-members
decreases-read_wanted-members l = length l.reader
