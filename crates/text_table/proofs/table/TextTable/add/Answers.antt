use Rattle.std.proofs.Common.{ℕ, List, ap, sym, ◌∙◌}
use Rattle.text_table.specs.Tables.{texts_of, with_text, index_of}
use Rattle.text_table.proofs.Texts.{texts-added, index-texts, found_text}
use Rattle.text_table.proofs.table.TextTable.add.Goals as goal

pub returns-clause-ok : goal.returns-clause-ok
returns-clause-ok c = ap texts_of c.in_ok-number.ensures.keys
    ∙ (texts-added c.self.inside.set.keys c.in_ok-from_slice.field-0
    ∙ (ap (λ (t : List ℕ). with_text (texts_of c.self.inside.set.keys) t) c.in_ok-from_slice.ensures.items
    ∙ ap (λ (ts : List (List ℕ)). with_text ts c.args.text.now) c.self.view_is))

pub returns-clause-number : goal.returns-clause-number
returns-clause-number c = c.in_ok-number.ensures.index
    ∙ (index-texts c.in_ok-from_slice.field-0.items c.self.inside.set.keys
    ∙ (ap (λ (t : List ℕ). index_of (texts_of c.self.inside.set.keys) t) c.in_ok-from_slice.ensures.items
    ∙ ap (λ (ts : List (List ℕ)). index_of ts c.args.text.now) c.self.view_is))

pub returns-in-Some-clause-ok : goal.returns-in-Some-clause-ok
returns-in-Some-clause-ok c =
    (found_text c.args.self.now c.args.text.now c.in-Some.number (sym c.number_of.ensures.value ∙ c.in-Some.is)).0

pub returns-in-Some-clause-number : goal.returns-in-Some-clause-number
returns-in-Some-clause-number c =
    (found_text c.args.self.now c.args.text.now c.in-Some.number (sym c.number_of.ensures.value ∙ c.in-Some.is)).1
