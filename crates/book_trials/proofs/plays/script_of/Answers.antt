use Rattle.std.proofs.Common.{length, refl, sym, ap, subst, arith}
use Rattle.flux_defs.specs.declared.journal.Script.{Script}
use Rattle.flux_defs.specs.declared.limits.Limits.{Limits}
use Rattle.fluxion_lines.specs.declared.commands.Form.TheVariants as form
use Rattle.fluxion_lines.proofs.ClientLaws.{few_clients_within, numbers_apart}
use Rattle.one_history.specs.Together.{NumbersApart}
use Rattle.book_trials.proofs.plays.script_of.Goals as goal

pub returns-in-Ok-clause-few : goal.returns-in-Ok-clause-few
returns-in-Ok-clause-few c =
    let few = few_clients_within c.shipped.result c.args.graph.now form.Rfc14 c.args.input.now
    (c.in-Ok.ensures.within refl) in
    let long = ap (λ (s : Script). length s.lines) c.in-Ok.ensures.script in
    let clients = ap (λ (l : Limits). l.clients) c.shipped.ensures in omega arith

pub returns-in-Ok-clause-apart : goal.returns-in-Ok-clause-apart
returns-in-Ok-clause-apart c =
    subst NumbersApart (sym c.in-Ok.ensures.script) (numbers_apart c.args.graph.now form.Rfc14 c.args.input.now)
