-- Which bytes are a resource set and which, and which fault other bytes have.
use Rattle.std.specs.Prelude.{◌≡◌, ◌⊎◌, ℕ, suc, ◌==◌, Bool, true, List, [], ◌++◌, length, if◌then◌else◌, Option, Some}
use Rattle.std.specs.Prelude.{None, Result, Ok, Err, ⊤, codes}
use Rattle.std.specs.Result.{result_map_both}
use Rattle.flux_defs.specs.declared.limits.TheConstants.{GREATEST_NUMBER}
use Rattle.serde_json.specs.Data.{Data, Items, no_items, item}
use Rattle.serde_json.specs.Find.{get, as_str}
use Rattle.json_whole.specs.Field.{text_or_kind, u64_of}
use Rattle.json_whole.specs.Whole.{value_of}
use Rattle.json_whole.specs.declared.fields.FieldFault.TheVariants.{Text}
use Rattle.json_fields.specs.Values.{result_and_then, list_value}
use Rattle.idset_text.specs.declared.hostlists.Hosts.{Hosts}
use Rattle.idset_text.specs.Idsets.{ids_of}
use Rattle.idset_text.specs.Hostlists.{hostlist_of, names_of}
use Rattle.resource_set_r.specs.declared.faults.FieldPath.{FieldPath}
use Rattle.resource_set_r.specs.declared.faults.FieldPath.TheVariants as field
use Rattle.resource_set_r.specs.declared.faults.Misread.{Misread}
use Rattle.resource_set_r.specs.declared.faults.Misread.TheVariants as misread
use Rattle.resource_set_r.specs.declared.faults.RFault.{RFault}
use Rattle.resource_set_r.specs.declared.faults.RFault.TheVariants as fault
use Rattle.resource_set_r.specs.declared.faults.ReadError.{ReadError}
use Rattle.resource_set_r.specs.declared.faults.ReadError.TheVariants as error
use Rattle.resource_set_r.specs.declared.sets_read.RRow.{RRow}
use Rattle.resource_set_r.specs.declared.sets_read.RSet.{RSet}
use Rattle.resource_set_r.specs.Misreads.{field_path, field_misread, at_field}
use Rattle.resource_set_r.specs.ReadRows.{execution_of, rows_in, ranges_in, IsRepeatedRank}

-- ---- hosts

-- what is read of a hostlist at a place
abbrev pub hosts_read : FieldPath → Result (List Hosts) ℕ → Result (List Hosts) Misread
hosts_read at (Ok hosts) = Ok hosts
hosts_read at (Err k) = Err (field_misread at Text)

-- the hosts that the value with this index is
abbrev pub host_value : ℕ → Data → Result (List Hosts) Misread
host_value at d = result_and_then (at_field (field.Host at) (text_or_kind (as_str d)))
    (λ text. hosts_read (field.Host at) (hostlist_of text))

-- the hosts of a list from this index on
abbrev pub hosts_from : ℕ → Items → Result (List Hosts) Misread
hosts_from at no_items = Ok []
hosts_from at (item d ds) = result_and_then
    (host_value at d) (λ hosts. result_map_both (λ others. hosts ++ others) (λ m. m) (hosts_from (suc at) ds))

-- the list at `nodelist`, which is empty where there is none
abbrev pub nodelist_or_none : Option Data → Result Items Misread
nodelist_or_none None = Ok no_items
nodelist_or_none (Some d) = at_field field.Nodelist (list_value d)

-- a list that isn't empty has a host for each rank
abbrev pub hosts_fit : Items → List RRow → List Hosts → Bool
hosts_fit no_items rows hosts = true
hosts_fit (item d ds) rows hosts = length (names_of hosts) == length (ids_of (ranges_in rows))

-- the hosts that a list has for these ranks
abbrev pub hosts_for : List RRow → Items → Result (List Hosts) Misread
hosts_for rows ds =
    result_and_then (hosts_from 0 ds) (λ hosts. if hosts_fit ds rows hosts then Ok hosts else Err misread.Hosts)

-- the hosts of these ranks
abbrev pub hosts_in : List RRow → Data → Result (List Hosts) Misread
hosts_in rows e = result_and_then (nodelist_or_none (get (codes "nodelist") e)) (hosts_for rows)

-- ---- seconds

-- a whole number up to the greatest, by default 0
abbrev pub second_or_zero : FieldPath → Option Data → Result ℕ Misread
second_or_zero at None = Ok 0
second_or_zero at (Some d) = at_field at (u64_of 0 GREATEST_NUMBER (Some d))

-- ---- the whole

-- the start and the end
abbrev pub seconds_of : Data → Result (ℕ × ℕ) Misread
seconds_of e =
    result_and_then (second_or_zero field.Starttime (get (codes "starttime") e)) (λ start.
    result_and_then (second_or_zero field.Expiration (get (codes "expiration") e)) (λ end.
    Ok (start, end)))

-- what is read behind these ranks
abbrev pub set_with : List RRow → Data → Result RSet Misread
set_with rows e =
    result_and_then (hosts_in rows e) (λ hosts.
    result_and_then (seconds_of e) (λ seconds.
    Ok (record { rows = rows; hosts = hosts; start = seconds.0; end = seconds.1 })))

-- the value has this `execution`, with these ranks
abbrev pub HasRows : Data → Data → List RRow → Type 0
HasRows d e rows = (execution_of d ≡ Ok e) × (rows_in e ≡ Ok rows)

-- a value is this resource set
abbrev pub IsSetOf : Data → RSet → Type 0
IsSetOf d set = (e : Data)
    × (rows : List RRow) × HasRows d e rows × IsRepeatedRank (ranges_in rows) None × (set_with rows e ≡ Ok set)

-- the first that is wrong with a value, before its ranks are compared
abbrev pub IsWrongBefore : Data → Misread → Type 0
IsWrongBefore d m = result_and_then (execution_of d) rows_in ≡ Err m

-- or that a rank is repeated
abbrev pub IsRepeatedIn : Data → Misread → Type 0
IsRepeatedIn d m = (e : Data) × (rows : List RRow)
    × HasRows d e rows × (rank : ℕ) × IsRepeatedRank (ranges_in rows) (Some rank) × (m ≡ misread.RepeatedRank rank)

-- or behind them
abbrev pub IsWrongBehind : Data → Misread → Type 0
IsWrongBehind d m = (e : Data)
    × (rows : List RRow) × HasRows d e rows × IsRepeatedRank (ranges_in rows) None × (set_with rows e ≡ Err m)

-- the first that is wrong with a value
abbrev pub IsMisreadOf : Data → Misread → Type 0
IsMisreadOf d m = IsWrongBefore d m ⊎ (IsRepeatedIn d m ⊎ IsWrongBehind d m)

-- the bytes are JSON of a value that is this resource set
abbrev pub IsRText : List ℕ → RSet → Type 0
IsRText bytes set = (d : Data) × (value_of bytes ≡ Some d) × IsSetOf d set

-- the bytes are JSON of a value with which this is wrong
abbrev pub HasMisread : List ℕ → Misread → Type 0
HasMisread bytes m = (d : Data) × (value_of bytes ≡ Some d) × IsMisreadOf d m

-- Which fault the bytes have: what is looked at first is told first. Of want of memory nothing is said.
abbrev pub IsFirstFault : List ℕ → RFault → Type 0
IsFirstFault bytes fault.NotJson = value_of bytes ≡ None
IsFirstFault bytes (fault.Field path f) = (at : FieldPath) × (path ≡ field_path at)
    × HasMisread bytes (field_misread at f)
IsFirstFault bytes fault.Version = HasMisread bytes misread.Version
IsFirstFault bytes (fault.Idset path) = (at : FieldPath) × (path ≡ field_path at) × HasMisread bytes (misread.Idset at)
IsFirstFault bytes fault.Hosts = HasMisread bytes misread.Hosts
IsFirstFault bytes (fault.RepeatedRank rank) = HasMisread bytes (misread.RepeatedRank rank)
IsFirstFault bytes fault.Memory = ⊤

-- ---- for private clauses

-- the fault tells of this misread, or of want of memory
abbrev pub IsToldAs : Misread → RFault → Type 0
IsToldAs m fault.NotJson = ⊥
IsToldAs m (fault.Field path f) = (at : FieldPath) × (path ≡ field_path at) × (m ≡ field_misread at f)
IsToldAs m fault.Version = m ≡ misread.Version
IsToldAs m (fault.Idset path) = (at : FieldPath) × (path ≡ field_path at) × (m ≡ misread.Idset at)
IsToldAs m fault.Hosts = m ≡ misread.Hosts
IsToldAs m (fault.RepeatedRank rank) = m ≡ misread.RepeatedRank rank
IsToldAs m fault.Memory = ⊤

-- the error is the first that is wrong with the value, or want of memory
abbrev pub IsErrorOf : Data → ReadError → Type 0
IsErrorOf d (error.Misread m) = IsMisreadOf d m
IsErrorOf d error.Memory = ⊤
