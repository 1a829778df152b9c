use Rattle.std.proofs.Common.{◌≡◌, take}
use Rattle.text_table.specs.Tables.{texts_of}
use Rattle.graph_json.proofs.raw_lists.table_texts.Given as goal

abbrev pub invariant-texts : goal.invariant-texts
invariant-texts l = l.list.items ≡ texts_of (take l.text-index l.text-items)
