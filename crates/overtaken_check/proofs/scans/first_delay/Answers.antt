use Rattle.std.proofs.Common.{◌≡◌, ◌≤◌, length, arith, ◌+◌, ◌*◌, ◌<◌}
use Rattle.overtaken_check.specs.Scans.{DelaysPast}
use Rattle.flux_defs.specs.Digits.{dig}
use Rattle.overtaken_check.proofs.Counts.{scan_next, scan_ends}
use Rattle.overtaken_check.proofs.Walks.{none_next, none_past}
use Rattle.overtaken_check.proofs.scans.first_delay.Goals as goal

pub loop-at-preserved : goal.loop-at-preserved
loop-at-preserved g c = record {
  moment = c.in-Some.ensures.answer.0;
  none = none_next (DelaysPast c.args.last c.args.journal.now) c.args.place c.loop-at.at c.loop-at.invariant.none
      c.in-Some.ensures.answer.1;
  low = (let low = c.loop-at.invariant.low in omega (arith, low));
  within = (let low = c.loop-at.invariant.low in
      let here : c.loop-at.at < c.len-at-end.result = c.loop-at-test.true in
      let len : c.len-at-end.result ≡ length c.args.journal.now = c.len-at-end.ensures in
      omega (arith, low, here, len));
  work = scan_next c.args.place c.loop-at.at (2 * dig (length c.args.journal.now + 1)) c.args.steps.now c.loop-at.steps
      c.moment_past.new.steps c.loop-at.invariant.low c.loop-at.invariant.work c.moment_past.ensures.work;
}

pub returns-clause-answer : goal.returns-clause-answer
returns-clause-answer g c =
    let journal = c.args.journal.now in
    let past : c.len-at-end.result ≤ c.loop-at.at = c.loop-at-test.false in
    let len : c.len-at-end.result ≡ length journal = c.len-at-end.ensures in
    none_past journal (DelaysPast c.args.last journal) c.args.place
    c.loop-at.at (λ i p. (p.0, p.1)) (λ lt. omega arith) c.loop-at.invariant.none

pub returns-clause-work : goal.returns-clause-work
returns-clause-work g c =
    scan_ends c.args.place c.loop-at.at (length c.args.journal.now) (2 * dig (length c.args.journal.now + 1))
    c.args.steps.now c.loop-at.steps c.loop-at.invariant.within c.loop-at.invariant.work
