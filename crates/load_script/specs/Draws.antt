-- The numbers that the commands of a load are made of.
use Rattle.std.specs.Prelude.{ℕ, zero, suc, ◌+◌, ◌*◌, ◌/◌, ◌%◌, ◌==◌, if◌then◌else◌}

-- a linear congruence: the count of commands, and then each number from the one before it
abbrev pub drawn : ℕ → ℕ → ℕ
drawn commands zero = commands
drawn commands (suc k) = (1103515245 * drawn commands k + 12345) % 2147483648

-- which of eight rows command k is of, from 0 on
abbrev pub row_of : ℕ → ℕ → ℕ
row_of commands k = drawn commands k / 65536 % 8

-- what the numbers in command k are made of, from 0 to 4,095
abbrev pub extent_of : ℕ → ℕ → ℕ
extent_of commands k = drawn commands k / 65536 / 8

-- by how many seconds a command of this row and extent moves the present moment on
abbrev pub seconds_on : ℕ → ℕ → ℕ
seconds_on row extent = if row == 7 then extent % 120 else 0

-- the second that the first k commands lead to: the sum of what each moves it on
abbrev pub second_at : ℕ → ℕ → ℕ
second_at commands zero = 0
second_at commands (suc k) = second_at commands k + seconds_on (row_of commands (suc k)) (extent_of commands (suc k))
