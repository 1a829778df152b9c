use Rattle.std.proofs.Common.{ℕ, ◌+◌, ◌*◌, ◌≤◌, length}
use Rattle.json.specs.Json.{value}
use Rattle.json_whole.specs.PlainTokens.{plain_tokens}
use Rattle.json_whole.proofs.Passed.{ItemsGoOn, MembersGoOn}
use Rattle.json_whole.proofs.passing.+passing.Given as goal

abbrev pub decreases-pass_over : goal.decreases-pass_over
decreases-pass_over l = 2 * l.depth

abbrev pub decreases-pass_items : goal.decreases-pass_items
decreases-pass_items l = 2 * l.depth + 1

abbrev pub decreases-pass_members : goal.decreases-pass_members
decreases-pass_members l = 2 * l.depth + 1

abbrev pub invariant-pass_items-items : goal.invariant-pass_items-items
invariant-pass_items-items l =
    (n : ℕ) × (length (plain_tokens l.reader) ≤ n)
    × ItemsGoOn (value l.depth) (plain_tokens l.initial.reader) n (plain_tokens l.reader)
    × (length l.reader ≤ length l.initial.reader)

abbrev pub decreases-pass_items-items : goal.decreases-pass_items-items
decreases-pass_items-items l = length l.reader

abbrev pub invariant-pass_members-members : goal.invariant-pass_members-members
invariant-pass_members-members l =
    (n : ℕ) × (length (plain_tokens l.reader) ≤ n)
    × MembersGoOn (value l.depth) (plain_tokens l.initial.reader) n (plain_tokens l.reader)
    × (length l.reader ≤ length l.initial.reader)

abbrev pub decreases-pass_members-members : goal.decreases-pass_members-members
decreases-pass_members-members l = length l.reader
