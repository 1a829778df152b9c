-- Hostlists (RFC 29): which texts are hostlists, and which names they stand for.
use Rattle.std.specs.Prelude.{◌≡◌, ◌<◌, ◌≤◌, ◌⊎◌, All, IsTrue, ℕ, ◌+◌, ◌-◌, ◌==◌, nat_lt, nat_le, Bool, true, false}
use Rattle.std.specs.Prelude.{not, ◌&&◌, ◌||◌, if◌then◌else◌, List, [], ◌∷◌, ◌++◌, length, take, drop, replicate}
use Rattle.std.specs.Prelude.{slice_index, Option, Some, None, Result, Ok, Err, map, decimal, MatchOption}
use Rattle.std.specs.List.{flat_map, list_all, join_with_byte, position, suffix_len, AllZip}
use Rattle.std.specs.Option.{option_and_then, option_map}
use Rattle.std.specs.Char.{is_ascii_alphanumeric, is_ascii_digit}
use Rattle.std.specs.Str.{bytes_eq}
use Rattle.idset_text.specs.declared.hostlists.Hosts.{Hosts}
use Rattle.idset_text.specs.declared.hostlists.Hosts.TheVariants.{One, Many}
use Rattle.idset_text.specs.declared.hostlists.Numbers.{Numbers}
use Rattle.idset_text.specs.Items.{Item, items_of, pieces, ends_of, with_first}
use Rattle.idset_text.specs.Numbers.{value_of, are_digits, has_leading_zero, number_of}
use Rattle.idset_text.specs.Idsets.{ids_from}
use Rattle.flux_defs.specs.declared.limits.TheConstants.{MOST_NAME_BYTES}
use Rattle.text_forms.specs.Names.{is_name}

-- ---- names and numbers

-- the name of a host
abbrev pub is_host_name : List ℕ → Bool
is_host_name bytes = is_name MOST_NAME_BYTES bytes

-- a number of 1 to 9 digits
abbrev pub host_number : List ℕ → Option ℕ
host_number digits = if nat_le (length digits) 9 then number_of digits else None

-- a number with zeros (48) before it up to a width
abbrev pub padded : ℕ → ℕ → List ℕ
padded width number = replicate (width - length (decimal number)) 48 ++ decimal number

-- the width that digits ask for: all of theirs, where a zero leads them
abbrev pub width_of : List ℕ → ℕ
width_of digits = if has_leading_zero digits then length digits else 0

-- ---- the grammar, item by item

-- the ends don't fall, a padded first end has as many digits as the last, and the longest name isn't too long
abbrev pub fits : ℕ → List ℕ → List ℕ → ℕ → ℕ → Bool
fits prefix_len first last lo hi = nat_le lo hi && (not (has_leading_zero first) || (length last == length first))
    && nat_le (prefix_len + length (padded (width_of first) hi)) MOST_NAME_BYTES

-- numbers behind a prefix of some length: `N` or `LO-HI`
abbrev pub numbers_between : ℕ → List ℕ × List ℕ → Option Numbers
numbers_between prefix_len ends =
    option_and_then
    (λ lo. option_and_then
    (λ hi. if fits prefix_len ends.0 ends.1 lo hi
    then Some (record { lo = lo; hi = hi; width = width_of ends.0 }) else None)
    (host_number ends.1))
    (host_number ends.0)

abbrev pub numbers_of : ℕ → List ℕ → Option Numbers
numbers_of prefix_len piece = numbers_between prefix_len (ends_of piece)

-- the hosts of a prefix with each of the numbers
abbrev pub hosts_of_pieces : List ℕ → List (List ℕ) → Option (List Hosts)
hosts_of_pieces prefix [] = Some []
hosts_of_pieces prefix (piece ∷ others) =
    option_and_then
    (λ numbers.
    option_map (λ hosts. Many prefix numbers.lo numbers.hi numbers.width ∷ hosts) (hosts_of_pieces prefix others))
    (numbers_of (length prefix) piece)

-- a prefix is a name or nothing
abbrev pub hosts_of_list : List ℕ → List ℕ → Option (List Hosts)
hosts_of_list prefix list = if (length prefix == 0) || is_host_name prefix then hosts_of_pieces prefix
    (pieces false list) else None

-- the place of the first '[' (91) in bytes that end with ']' (93)
abbrev pub list_place : List ℕ → Option ℕ
list_place item = if slice_index item (length item - 1) == 93 then position (λ byte. byte == 91) item else None

-- an item: a name, or a prefix and a list of numbers in brackets
abbrev pub hosts_of_item : List ℕ → Option (List Hosts)
hosts_of_item item =
    if is_host_name item then Some (One item ∷ [])
    else option_and_then
    (λ place. hosts_of_list (take place item) (take (length item - 1 - (place + 1)) (drop (place + 1) item)))
    (list_place item)

-- an item's hosts and those behind them; where it has none, its place
abbrev pub with_hosts : ℕ → Option (List Hosts) → Result (List Hosts) ℕ → Result (List Hosts) ℕ
with_hosts at None others = Err at
with_hosts at (Some hosts) others = with_first hosts others

abbrev pub hosts_of : List Item → Result (List Hosts) ℕ
hosts_of [] = Ok []
hosts_of (item ∷ items) = with_hosts item.at (hosts_of_item item.bytes) (hosts_of items)

-- a hostlist: nothing, or items
abbrev pub hostlist_of : List ℕ → Result (List Hosts) ℕ
hostlist_of [] = Ok []
hostlist_of (byte ∷ bytes) = hosts_of (items_of 0 (byte ∷ bytes))

-- ---- the meaning

-- a prefix with each of so many numbers from one on
abbrev pub names_from : List ℕ → ℕ → ℕ → ℕ → List (List ℕ)
names_from prefix width count lo = map (λ number. prefix ++ padded width number) (ids_from count lo)

abbrev pub own_names : Hosts → List (List ℕ)
own_names (One name) = name ∷ []
own_names (Many prefix lo hi width) = names_from prefix width (hi + 1 - lo) lo

-- digits of the width, or more of them with no zero leading
abbrev pub has_width : ℕ → List ℕ → Bool
has_width width digits = (length digits == width) || (nat_lt width (length digits) && not (has_leading_zero digits))

-- whether digits are such a padded number
abbrev pub is_one_of : ℕ → ℕ → Bool → Option ℕ → Bool
is_one_of lo hi is_wide (Some number) = nat_le lo number && nat_le number hi && is_wide
is_one_of lo hi is_wide None = false

-- the digits are one of the numbers, padded to the width
abbrev pub IsOneOf : ℕ → ℕ → ℕ → List ℕ → Type 0
IsOneOf lo hi width digits = (number : ℕ) × (lo ≤ number) × (number ≤ hi) × (digits ≡ padded width number)

-- the names that hosts stand for, in order
abbrev pub names_of : List Hosts → List (List ℕ)
names_of hosts = flat_map own_names hosts

-- ---- the grammar, by what is spelled

-- 1 to 9 digits of this value
pub record IsNumber (bytes : List ℕ) (number : ℕ) : Type 0 where
  pub some : 0 < length bytes
  pub few : length bytes ≤ 9
  pub digits : are_digits bytes ≡ true
  pub value : value_of bytes ≡ number

-- a piece of a list is a number, or two with a dash (45) between that don't fall; where a zero leads the first, both
-- have as many digits, which is the width; no name is longer than 255 bytes
pub record Lists (prefix piece first last : List ℕ) (lo hi width : ℕ) : Type 0 where
  pub low : IsNumber first lo
  pub high : IsNumber last hi
  pub ordered : lo ≤ hi
  pub width_is : width ≡ width_of first
  pub wide : has_leading_zero first ≡ true → length last ≡ length first
  pub short : All (λ name. length name ≤ MOST_NAME_BYTES) (names_from prefix width (hi + 1 - lo) lo)
  pub spelled : ((piece ≡ first) × (last ≡ first)) ⊎ (piece ≡ first ++ 45 ∷ last)

abbrev pub IsPiece : List ℕ → List ℕ → Hosts → Type 0
IsPiece prefix piece (One name) = ⊥
IsPiece prefix piece (Many own lo hi width) =
    (own ≡ prefix) × (first : List ℕ) × (last : List ℕ) × Lists prefix piece first last lo hi width

-- an item is a name, or a name or nothing with a list of pieces between '[' (91) and ']' (93), commas (44) between them
abbrev pub IsHostItem : List ℕ → List Hosts → Type 0
IsHostItem item hosts = (IsTrue (is_host_name item) × (hosts ≡ One item ∷ []))
    ⊎ ((prefix : List ℕ) × (piece : List ℕ) × (others : List (List ℕ)) × ((prefix ≡ []) ⊎ IsTrue (is_host_name prefix))
    × AllZip (IsPiece prefix) (piece ∷ others) hosts
    × (item ≡ prefix ++ 91 ∷ (join_with_byte 44 (piece ∷ others) ++ 93 ∷ [])))

-- the hosts are those of the items, in order
abbrev pub AreHostItems : List (List ℕ) → List Hosts → Type 0
AreHostItems [] hosts = hosts ≡ []
AreHostItems (item ∷ items) hosts = (own : List Hosts)
    × (others : List Hosts) × IsHostItem item own × AreHostItems items others × (hosts ≡ own ++ others)

-- a hostlist is empty, or items with commas between
abbrev pub IsHostlist : List ℕ → List Hosts → Type 0
IsHostlist text hosts =
    ((text ≡ []) × (hosts ≡ []))
    ⊎ ((item : List ℕ) × (items : List (List ℕ))
    × AreHostItems (item ∷ items) hosts × (text ≡ join_with_byte 44 (item ∷ items)))

-- ---- the texts

-- a name's longest end of digits, and what stands before it
abbrev pub digits_place : List ℕ → ℕ
digits_place name = length name - suffix_len is_ascii_digit name

abbrev pub prefix_of : List ℕ → List ℕ
prefix_of name = take (digits_place name) name

abbrev pub digits_of : List ℕ → List ℕ
digits_of name = drop (digits_place name) name

-- the second number is the next one
abbrev pub follows : Option ℕ → Option ℕ → Bool
follows (Some last) (Some next) = next == last + 1
follows (Some last) None = false
follows None next = false

-- equally many digits, or no zero leads either
abbrev pub is_alike : List ℕ → List ℕ → Bool
is_alike first next = (length next == length first) || (not (has_leading_zero first) && not (has_leading_zero next))

-- whether a name continues the run from `first` to `last`
abbrev pub continues : List ℕ → List ℕ → List ℕ → Bool
continues first last next = bytes_eq (prefix_of last) (prefix_of next) && follows
    (host_number (digits_of last)) (host_number (digits_of next)) && is_alike (digits_of first) (digits_of next)

-- a run of one is its name, a longer one has the digits of its ends in brackets (91, 93) with a dash (45) between
abbrev pub run_text : Bool → List ℕ → List ℕ → List ℕ
run_text many first last =
    if many then (prefix_of first ++ 91 ∷ digits_of first ++ 45 ∷ digits_of last ++ 93 ∷ []) else first

-- the texts of a run that goes from `first` to `last` so far, and of the names behind it
abbrev pub texts_from : Bool → List ℕ → List ℕ → List (List ℕ) → List (List ℕ)
texts_from many first last [] = run_text many first last ∷ []
texts_from many first last (next ∷ names) = if continues first last next
    then texts_from true first next names else (run_text many first last ∷ texts_from false next next names)

abbrev pub hostlist_texts : List (List ℕ) → List (List ℕ)
hostlist_texts [] = []
hostlist_texts (name ∷ names) = texts_from false name name names

-- each text is a hostlist, and their hosts' names in order are the names
abbrev pub AreHostlistsOf : List (List ℕ) → List (List ℕ) → Type 0
AreHostlistsOf [] names = names ≡ []
AreHostlistsOf (text ∷ texts) names = (hosts : List Hosts) × (others : List (List ℕ))
    × (hostlist_of text ≡ Ok hosts) × (names ≡ names_of hosts ++ others) × AreHostlistsOf texts others

-- an item that is read adds its hosts, another has none
abbrev pub Adds : Bool → List Hosts → List Hosts → Option (List Hosts) → Type 0
Adds true old new read = MatchOption read ⊥ (λ hosts. new ≡ old ++ hosts)
Adds false old new read = read ≡ None
