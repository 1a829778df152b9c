-- The words for faults of fields.
use Rattle.std.specs.Prelude.{ℕ, List, codes}
use Rattle.json_whole.specs.declared.fields.FieldFault.{FieldFault}
use Rattle.json_whole.specs.declared.fields.FieldFault.TheVariants.{Missing, Kind, Small, Large, Text}

abbrev pub field_word : FieldFault → List ℕ
field_word Missing = codes "missing"
field_word Kind = codes "kind"
field_word Small = codes "small"
field_word Large = codes "large"
field_word Text = codes "text"
