use Rattle.std.proofs.Common.{◌≡◌, drop}
use Rattle.dfu_match.specs.Tables.{needs_all, StandAt}
use Rattle.dfu_match.proofs.asking.ask_known.Given as goal

-- none of the needs so far is the one that is known of
abbrev pub invariant-loop-need : goal.invariant-loop-need
invariant-loop-need g l = record {
  stand : StandAt (needs_all l.s.needs.now) l.s.wanted.now l.at (drop l.need-index l.need-items);
  own : l.own ≡ l.need-index;
  known : l.known ≡ l.initial.known;
  steps : l.steps ≡ l.initial.steps;
}
