use Rattle.std.proofs.Common.{◌+◌, ◌++◌, List, drop, append_assoc, sym, ◌∙◌, ap}
use Rattle.list_laws.proofs.Lists.{drop_here}
use Rattle.flux_defs.specs.declared.journal.Entry.{Entry}
use Rattle.fluxion_lines.specs.Texts.{line_text, name_of, history_text_from}
use Rattle.fluxion_lines.proofs.replies.history_text_counted.Goals as goal

pub loop-at-preserved : goal.loop-at-preserved
loop-at-preserved g c =
    let graph = c.args.graph.now in
    let clients = c.args.clients.now in
    let history = c.args.history.now in
    let at = c.loop-at.at in
    let added = c.in_ok-add_entry.ensures in
    let e : Entry = added.0 in
    let line = line_text graph at e (name_of clients e.client) in
    let rest = history_text_from graph clients (at + 1) (drop (at + 1) history) in
    c.loop-at.invariant
    ∙ (ap (λ (es : List Entry). c.loop-at.text.items ++ history_text_from graph clients at es)
    (drop_here history at e added.1)
    ∙ (sym (append_assoc c.loop-at.text.items line rest) ∙ ap (λ t. t ++ rest) (sym added.2)))
