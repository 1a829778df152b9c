-- Runs of number bytes, and what the plain form writes of each.
use Rattle.std.specs.Prelude.{ℕ, ◌+◌, ◌^◌, ◌&&◌, ◌||◌, ◌==◌, List, [], ◌∷◌, ◌++◌, length, take, drop, slice_index, Bool}
use Rattle.std.specs.Prelude.{false, not, nat_lt, nat_le, if◌then◌else◌}
use Rattle.std.specs.List.{prefix_len, list_all}
use Rattle.std.specs.Option.{option_map_or}
use Rattle.std.specs.Char.{is_ascii_digit}
use Rattle.std.specs.Str.Parse.{digits_value}
use Rattle.json.specs.Word.{after_number}
use Rattle.json.specs.Ascii as ascii

-- a run begins at a digit or a minus sign
abbrev pub begins_run : ℕ → Bool
begins_run x = is_ascii_digit x || (x == ascii.minus)

-- it goes on over digits, `+`, `-`, `.`, `e` and `E`
abbrev pub is_run_byte : ℕ → Bool
is_run_byte x =
    is_ascii_digit x
    || ((x == ascii.plus)
    || ((x == ascii.minus) || ((x == ascii.dot) || ((x == ascii.lower_e) || (x == ascii.upper_e)))))

-- how many run bytes, and how many digits, stand at the front
abbrev pub run_len : List ℕ → ℕ
run_len = prefix_len is_run_byte

abbrev pub digit_count : List ℕ → ℕ
digit_count = prefix_len is_ascii_digit

-- the run at the front
abbrev pub first_run : List ℕ → List ℕ
first_run text = take (run_len text) text

-- the run is a number of RFC 8259, section 6
abbrev pub is_number : List ℕ → Bool
is_number run = option_map_or (λ rest. length rest == 0) (after_number run) false

-- digits alone, of a number of at most 18446744073709551615
abbrev pub is_whole : List ℕ → Bool
is_whole run = list_all is_ascii_digit run && nat_lt (digits_value 10 run) (2 ^ 64)

-- the digits of such a number, a dot, and zeros alone
abbrev pub has_zero_fraction : List ℕ → Bool
has_zero_fraction run = is_whole (take (digit_count run) run)
    && ((slice_index run (digit_count run) == ascii.dot)
    && list_all (λ x. x == ascii.zero) (drop (digit_count run + 1) run))

-- a minus sign and the digits of a number from 1 to 9223372036854775808
abbrev pub is_negative : List ℕ → Bool
is_negative run = (slice_index run 0 == ascii.minus)
    && (list_all is_ascii_digit (drop 1 run)
    && (nat_lt 0 (digits_value 10 (drop 1 run)) && nat_le (digits_value 10 (drop 1 run)) (2 ^ 63)))

-- a list of the one text
abbrev pub listed : List ℕ → List ℕ
listed run = ascii.open_bracket ∷ ascii.quote ∷ (run ++ ascii.quote ∷ ascii.close_bracket ∷ [])

-- what is written of a run. One that is no number stays, so that the text is refused.
unfoldable pub written : List ℕ → List ℕ
written run = if not (is_number run) then run else
    (if is_whole run then run else
    (if has_zero_fraction run then take (digit_count run) run else
    (if is_negative run then run else listed run)))
