-- How many binary digits a number has: the unit in which work on a tree is bounded.
use Rattle.std.specs.Prelude.{ℕ, zero, suc, ◌/◌, nat_le, if◌then◌else◌}

-- the digits of n, of which at most `most` and one more are counted
abbrev pub digits_within : ℕ → ℕ → ℕ
digits_within zero n = 1
digits_within (suc most) n = if nat_le n 1 then 1 else suc (digits_within most (n / 2))

-- the number of binary digits of n; 0 has one
unfoldable pub dig : ℕ → ℕ
dig n = digits_within n n
