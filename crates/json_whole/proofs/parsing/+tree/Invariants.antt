use Rattle.std.proofs.Common.{◌≡◌, ℕ, ◌+◌, ◌*◌, ◌≤◌, length, take, drop}
use Rattle.json.specs.Json.{items, members, value, parse_map}
use Rattle.json.proofs.Trees.{items_before, members_before}
use Rattle.json_whole.specs.PlainTokens.{plain_tokens}
use Rattle.json_whole.proofs.parsing.+tree.Given as goal

abbrev pub decreases-read_one : goal.decreases-read_one
decreases-read_one l = 2 * l.depth

abbrev pub decreases-read_items : goal.decreases-read_items
decreases-read_items l = 2 * l.depth + 1

abbrev pub decreases-read_members : goal.decreases-read_members
decreases-read_members l = 2 * l.depth + 1

-- what was read of the list stands behind what stood there before
abbrev pub invariant-read_items-items : goal.invariant-read_items-items
invariant-read_items-items l =
    let found = drop l.from l.unfinished.items.items in
    (n : ℕ) × (length (plain_tokens l.reader) ≤ n)
    × (let start = plain_tokens l.initial.reader in items (value l.depth) (length start) start
    ≡ parse_map (items_before found) (items (value l.depth) n (plain_tokens l.reader)))
    × (length l.reader ≤ length l.initial.reader)
    × (l.from ≤ length l.unfinished.items.items)
    × (take l.from l.unfinished.items.items ≡ l.initial.unfinished.items.items)
    × (l.unfinished.members.items ≡ l.initial.unfinished.members.items)

abbrev pub decreases-read_items-items : goal.decreases-read_items-items
decreases-read_items-items l = length l.reader

abbrev pub invariant-read_members-members : goal.invariant-read_members-members
invariant-read_members-members l =
    let found = drop l.from l.unfinished.members.items in
    (n : ℕ) × (length (plain_tokens l.reader) ≤ n)
    × (let start = plain_tokens l.initial.reader in members (value l.depth) (length start) start
    ≡ parse_map (members_before found) (members (value l.depth) n (plain_tokens l.reader)))
    × (length l.reader ≤ length l.initial.reader)
    × (l.from ≤ length l.unfinished.members.items)
    × (take l.from l.unfinished.members.items ≡ l.initial.unfinished.members.items)
    × (l.unfinished.items.items ≡ l.initial.unfinished.items.items)

abbrev pub decreases-read_members-members : goal.decreases-read_members-members
decreases-read_members-members l = length l.reader
