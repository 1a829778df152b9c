use Rattle.std.proofs.Common.{◌+◌, ◌<◌, length, Some, None, arith, below_more, sym, subst}
use Rattle.graph_build.proofs.RepeatLaws.{EndsWith, read_at, no_key_here, repeated_within}
use Rattle.graph_build.proofs.RepeatLaws.{ends_more, ends_skip, greater_is_new}
use Rattle.graph_build.proofs.repeats.keys_rise.Goals as goal
use Rattle.graph_build.proofs.repeats.keys_rise.Goals.{in-Some+else-not-is_greater, in_default}

pub loop-at-preserved : goal.loop-at-preserved
loop-at-preserved g c =
    let cmp = g.K.Ord.cmp in
    let total = g.met.K.Ord.total in
    let keys = c.args.keys.now in
    let v = c.loop-at.at in
    let before = c.loop-at.invariant in
    elim c.match-keys-at.branch [
      | in-Some+else-not-is_greater w ↦ (
          let key = w.in-Some.key in
          let at = read_at cmp keys v _ (Some key) (omega arith) w.in-Some.is in
          let greater = w.is_greater.ensures w.if-not-is_greater.false in
          record {
            ends = subst (EndsWith cmp keys (v + 1)) (sym w.last-is)
                (ends_more cmp total keys v key c.loop-at.last at before.ends greater);
            none = below_more _ _ before.none
                (greater_is_new cmp total keys v key c.loop-at.last at before.ends greater);
          })
      | in_default w ↦ (
          let at = read_at cmp keys v _ None (omega arith) w.in_default.is in
          record {
            ends = subst (EndsWith cmp keys (v + 1)) (sym w.last-is)
                (ends_skip cmp total keys v c.loop-at.last at before.ends);
            none = below_more _ _ before.none (no_key_here cmp keys v at);
          })
    ]

pub returns : goal.returns
returns g c = λ _ v bad.
    let lt : v < length c.args.keys.now = repeated_within g.K.Ord.cmp c.args.keys.now v bad in
    c.loop-at.invariant.none v (omega arith) bad
