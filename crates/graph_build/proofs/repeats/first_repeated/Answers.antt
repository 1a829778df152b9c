use Rattle.std.proofs.Common.{◌≡◌, ◌<◌, length, true, false, Some, None, sym, ◌∙◌, ap, arith, below_more}
use Rattle.std.proofs.lemmas.Bool.{not-true, not-false}
use Rattle.std.specs.BTreeSet as tree
use Rattle.graph_build.proofs.RepeatLaws.{read_at, sees_skip, sees_more, repeated_here, new_here, no_key_here}
use Rattle.graph_build.proofs.RepeatLaws.{repeated_within}
use Rattle.graph_build.proofs.repeats.first_repeated.Goals as goal
use Rattle.graph_build.proofs.repeats.first_repeated.Goals.{in-Some+in_ok-insert+else-not-branch, in_default}

pub returns-then-not-branch-clause-first : goal.returns-then-not-branch-clause-first
returns-then-not-branch-clause-first g c =
    let keys = c.args.keys.now in
    let v = c.loop-at.at in
    let at = read_at g.K.Ord.cmp keys v _ (Some c.in-Some.key) (omega arith) c.in-Some.is in
    let old : tree.contains g.K.Ord.cmp c.loop-at.seen c.in-Some.key ≡ true =
    not-false _ (sym c.in_ok-insert.ensures.added ∙ c.if-not-branch.true) in (
      repeated_here g.K.Ord.cmp keys v c.in-Some.key (tree.contains g.K.Ord.cmp c.loop-at.seen) at
          c.loop-at.invariant.sees old,
      c.loop-at.invariant.none,
    )

pub loop-at-preserved : goal.loop-at-preserved
loop-at-preserved g c =
    let keys = c.args.keys.now in
    let v = c.loop-at.at in
    let before = c.loop-at.invariant in
    let cmp = g.K.Ord.cmp in
    elim c.match-keys-at.branch [
      | in-Some+in_ok-insert+else-not-branch w ↦ (
          let at = read_at cmp keys v _ (Some w.in-Some.key) (omega arith) w.in-Some.is in
          let new : tree.contains cmp c.loop-at.seen w.in-Some.key ≡ false =
          not-true _ (sym w.in_ok-insert.ensures.added ∙ w.if-not-branch.false) in
          record {
            sees = sees_more cmp keys v w.in-Some.key (tree.contains cmp c.loop-at.seen)
                (tree.contains cmp c.match-keys-at.seen) at
                (λ q. ap (λ s. tree.contains cmp s q) w.seen-is ∙ w.in_ok-insert.ensures.updates.0 q) before.sees;
            none = below_more _ _ before.none (new_here cmp keys v w.in-Some.key (tree.contains cmp c.loop-at.seen)
                at before.sees new);
          })
      | in_default w ↦ (
          let at = read_at cmp keys v _ None (omega arith) w.in_default.is in
          record {
            sees = (λ q. let same = ap (λ s. tree.contains cmp s q) w.seen-is in
                let skipped = sees_skip cmp keys v (tree.contains cmp c.loop-at.seen) at before.sees q in
                ((λ h. skipped.0 (sym same ∙ h)), (λ seen. same ∙ skipped.1 seen)));
            none = below_more _ _ before.none (no_key_here cmp keys v at);
          })
    ]

pub returns-clause-first : goal.returns-clause-first
returns-clause-first g c = λ v bad.
    let lt : v < length c.args.keys.now = repeated_within g.K.Ord.cmp c.args.keys.now v bad in
    c.loop-at.invariant.none v (omega arith) bad
