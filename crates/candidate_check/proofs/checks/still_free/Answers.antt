use Rattle.std.proofs.Common.{arith, All, subst, sym, List, true≢false, ◌∙◌}
use Rattle.std.proofs.lemmas.List.Elements.{All-more}
use Rattle.std.proofs.lemmas.List.{take_all}
use Rattle.std.proofs.lemmas.Option.{slice_get-get_or}
use Rattle.flux_defs.specs.declared.claims.Claim.{Claim}
use Rattle.flux_defs.specs.Closed.{no_bars}
use Rattle.flux_defs.specs.Available.{IsAvailable}
use Rattle.candidate_check.specs.Taken.{IsFirstGone}
use Rattle.candidate_check.proofs.checks.still_free.Goals as goal

pub loop-index-preserved : goal.loop-index-preserved
loop-index-preserved g c = record {
  free = λ present stands.
      let told = (c.is_available.ensures.answer present stands).0 in
      All-more (IsAvailable (no_bars (g.F.FreeView.graph c.args.view.now) present) c.args.window)
      c.items-claim-items.result.now c.loop-index.index _ c.loop-index-test.true
      (c.loop-index.invariant.free present stands) (told c.if-not-is_available.false);
  work = omega arith;
}

pub returns-clause-answer : goal.returns-clause-answer
returns-clause-answer g c = λ present stands.
    let Each = All (IsAvailable (no_bars (g.F.FreeView.graph c.args.view.now) present) c.args.window) in
    subst Each (take_all c.loop-index.index c.items-claim-items.result.now c.loop-index-test.false
    ∙ c.items-claim-items.ensures) (c.loop-index.invariant.free present stands)

pub returns-then-not-is_available-clause-answer : goal.returns-then-not-is_available-clause-answer
returns-then-not-is_available-clause-answer g c = λ present stands.
    let vertices = g.F.FreeView.graph c.args.view.now in
    let told = (c.is_available.ensures.answer present stands).1 in
    subst (λ (claims : List Claim). IsFirstGone vertices present c.args.window claims c.loop-index.index)
    c.items-claim-items.ensures (
      _,
      record {
        there = slice_get-get_or c.items-claim-items.result.now c.loop-index.index _ c.loop-index-test.true;
        taken = λ a. true≢false (sym (told a) ∙ c.if-not-is_available.true);
        before = c.loop-index.invariant.free present stands;
      },
    )
