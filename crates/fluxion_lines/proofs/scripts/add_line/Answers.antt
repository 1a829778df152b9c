use Rattle.std.proofs.Common.{◌++◌, ◌∷◌, [], sym, ◌∙◌, ap, slice_set, unwrap_or, Option, List}
use Rattle.flux_defs.specs.declared.journal.Line.{Line}
use Rattle.list_laws.proofs.Lists.{set_twice}
use Rattle.fluxion_lines.proofs.scripts.add_line.Goals as goal

pub returns-in-Ok : goal.returns-in-Ok
returns-in-Ok c =
    let old = c.args.lists.now in
    let client = c.args.client in
    c.put-empty.ensures.new
    ∙ (ap (λ (xs : List (List Line)). slice_set xs client c.push.new.self) c.put-own.ensures.new
    ∙ (set_twice old client c.new.result c.push.new.self
    ∙ ap (slice_set old client) (c.in-Ok.ensures.ok
    ∙ ap (λ (o : Option (List Line)). unwrap_or o [] ++ c.args.line ∷ []) (sym c.put-own.ensures.old))))
