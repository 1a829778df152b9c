-- Hostlists as texts and stretches of numbers.
use Rattle.std.specs.Prelude.{◌≡◌, ℕ, ◌+◌, ◌*◌, ◌^◌, ◌<◌, nat_lt, List, [], ◌∷◌, ◌++◌, Bool, true, ◌&&◌, Some}
use Rattle.std.specs.List.{flat_map, list_all}
use Rattle.covered_numbers.specs.declared.stretches.Stretch.{Stretch}
use Rattle.covered_numbers.specs.Covers.{is_covered}
use Rattle.idset_text.specs.declared.hostlists.Hosts.{Hosts}
use Rattle.idset_text.specs.declared.hostlists.Hosts.TheVariants.{One, Many}
use Rattle.idset_text.specs.Hostlists.{has_width}
use Rattle.idset_text.specs.Numbers.{number_of}
use Rattle.text_table.specs.Tables.{index_of, with_texts}
use Rattle.text_table.specs.Tables as table

-- the name of one host, and the prefix of many
abbrev pub own_name : Hosts → List (List ℕ)
own_name (One name) = name ∷ []
own_name (Many prefix lo hi width) = []

abbrev pub own_prefix : Hosts → List (List ℕ)
own_prefix (One name) = []
own_prefix (Many prefix lo hi width) = prefix ∷ []

abbrev pub names_in : List (List Hosts) → List (List ℕ)
names_in lists = flat_map (flat_map own_name) lists

abbrev pub prefixes_in : List (List Hosts) → List (List ℕ)
prefixes_in lists = flat_map (flat_map own_prefix) lists

-- one number for a prefix, by its index, and a width and a number, both below 2^32
abbrev pub code : ℕ → ℕ → ℕ → ℕ
code at width number = at * 2 ^ 64 + width * 2 ^ 32 + number

-- the numbers of many hosts, by the index of their prefix
abbrev pub own_stretch : List (List ℕ) → Hosts → List Stretch
own_stretch prefixes (One name) = []
own_stretch prefixes (Many prefix lo hi width) =
    record { first = code (index_of prefixes prefix) width lo; last = code (index_of prefixes prefix) width hi } ∷ []

abbrev pub stretches_in : List (List ℕ) → List (List Hosts) → List Stretch
stretches_in prefixes lists = flat_map (flat_map (own_stretch prefixes)) lists

-- the numbers of many hosts are below 2^32
abbrev pub is_small : Hosts → Bool
is_small (One name) = true
is_small (Many prefix lo hi width) = nat_lt hi (2 ^ 32) && nat_lt width (2 ^ 32)

abbrev pub are_small : List (List Hosts) → Bool
are_small lists = list_all (list_all is_small) lists

-- the digits, written so wide, are a number that the stretches have for the prefix
pub record IsNumber (prefixes : List (List ℕ)) (stretches : List Stretch) (prefix digits : List ℕ) : Type 0 where
  pub at : ℕ
  pub width : ℕ
  pub number : ℕ
  pub is-prefix : table.number_of prefixes prefix ≡ Some at
  pub is-number : number_of digits ≡ Some number
  pub fits : width < 2 ^ 32
  pub is-wide : has_width width digits ≡ true
  pub is-covered : is_covered stretches (code at width number) ≡ true

-- the name is a prefix and such digits
pub record IsNumbered (prefixes : List (List ℕ)) (stretches : List Stretch) (name : List ℕ) : Type 0 where
  pub prefix : List ℕ
  pub digits : List ℕ
  pub parts : name ≡ prefix ++ digits
  pub number : IsNumber prefixes stretches prefix digits
