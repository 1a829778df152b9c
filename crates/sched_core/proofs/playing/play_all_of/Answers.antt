use Rattle.std.proofs.Common.{◌≡◌, List, [], ◌∷◌, ◌++◌, map, sym, ◌∙◌, ap, subst, append_assoc}
use Rattle.flux_defs.specs.declared.journal.Line.{Line}
use Rattle.flux_defs.specs.Scheduler.{Setting, IsProper}
use Rattle.flux_defs.specs.Scripts.{client_line}
use Rattle.sched_core.specs.Played.{AreProper}
use Rattle.sched_core.proofs.PlayedLines.{proper_at, played_snoc}
use Rattle.sched_core.proofs.playing.play_all_of.Goals as goal

pub decide-requires : goal.decide-requires
decide-requires c =
    let vs = c.args.core.now.setting.graph.vertices in
    let lines : c.args.lines.items ≡ c.loop-told.yielded ++ c.in-Some.told ∷ c.next.new.self.rest.items =
    c.loop-told.invariant.2 ∙ ap (λ r. c.loop-told.yielded ++ r) c.in-Some.ensures.steps.0 in
    let proper = proper_at vs c.args.client c.loop-told.yielded c.next.new.self.rest.items c.in-Some.told
    (subst (λ (ls : List Line). AreProper vs (map (client_line c.args.client) ls)) lines c.requires) in
    record {
      proper = subst (λ (g : Setting). IsProper g.graph.vertices c.in-Some.told.command)
          (sym c.loop-told.invariant.3.setting) proper;
    }

pub loop-told-preserved : goal.loop-told-preserved
loop-told-preserved c = (
  tt,
  tt,
  c.loop-told.invariant.2 ∙ ap (λ r. c.loop-told.yielded ++ r) c.in-Some.ensures.steps.0
      ∙ sym (append_assoc c.loop-told.yielded (c.in-Some.told ∷ []) c.next.new.self.rest.items),
  played_snoc c.args.core.now c.loop-told.core c.decide.new.self
      c.args.client c.loop-told.yielded c.in-Some.told c.loop-told.invariant.3 c.in_default.ensures.decided,
)
