use Rattle.std.proofs.Common.{◌≡◌, ◌<◌, ◌++◌, ◌∷◌, [], length, sym, ◌∙◌, ap, append_assoc, arith}
use Rattle.std.proofs.lemmas.List.FromFn.{length-map-range_with_len}
use Rattle.fluxion_lines.specs.Scripts.{lines_by}
use Rattle.flux_defs.specs.declared.journal.ClientLine.{ClientLine}
use Rattle.fluxion_lines.proofs.ScriptLaws.{at_split, line_added}
use Rattle.fluxion_lines.proofs.scripts.by_client.Goals as goal

pub add_line-requires : goal.add_line-requires
add_line-requires c =
    let split : c.args.lines ≡ c.loop-told.yielded ++ c.in-Some.told ∷ c.next.new.self.rest.items =
    c.loop-told.invariant.2 ∙ ap (λ r. c.loop-told.yielded ++ r) c.in-Some.ensures.steps.0 in
    let small = at_split (λ (l : ClientLine).
    l.client < c.args.count)
    c.args.lines c.loop-told.yielded c.next.new.self.rest.items c.in-Some.told split c.requires in
    let long : length c.loop-told.lists ≡ c.args.count = ap length c.loop-told.invariant.3
    ∙ length-map-range_with_len (λ client. lines_by client c.loop-told.yielded) 0 c.args.count in
    omega (arith, small, long)

pub loop-told-preserved : goal.loop-told-preserved
loop-told-preserved c =
    let split : c.args.lines ≡ c.loop-told.yielded ++ c.in-Some.told ∷ c.next.new.self.rest.items =
    c.loop-told.invariant.2 ∙ ap (λ r. c.loop-told.yielded ++ r) c.in-Some.ensures.steps.0 in
    let small = at_split (λ (l : ClientLine).
    l.client < c.args.count)
    c.args.lines c.loop-told.yielded c.next.new.self.rest.items c.in-Some.told split c.requires in (
      tt,
      tt,
      split ∙ sym (append_assoc c.loop-told.yielded (c.in-Some.told ∷ []) c.next.new.self.rest.items),
      c.in_ok-add_line.ensures
          ∙ line_added c.args.count c.loop-told.yielded c.in-Some.told c.loop-told.lists small c.loop-told.invariant.3,
    )
