use Rattle.std.proofs.Common.{sym, ◌∙◌}
use Rattle.text_table.proofs.Texts.{next_index}
use Rattle.text_table.proofs.table.TextTable.index_of.Goals as goal

pub returns-in-None-clause-index : goal.returns-in-None-clause-index
returns-in-None-clause-index c =
    c.len.ensures ∙ sym (next_index c.args.self.now c.args.text.now (sym c.number_of.ensures.value ∙ c.in-None.is))
