use Rattle.std.proofs.Common.{ℕ, List, ap, sym, ◌∙◌}
use Rattle.text_table.specs.Tables.{number_of}
use Rattle.text_table.proofs.Texts.{position-texts, number_within}
use Rattle.text_table.proofs.table.TextTable.number_of.Goals as goal

pub returns-clause-value : goal.returns-clause-value
returns-clause-value c = c.get_index_of.ensures.index
    ∙ (position-texts c.args.text.now c.self.inside.set.keys
    ∙ ap (λ (ts : List (List ℕ)). number_of ts c.args.text.now) c.self.view_is)
