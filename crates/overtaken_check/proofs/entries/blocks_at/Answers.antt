use Rattle.std.proofs.Common.{false}
use Rattle.overtaken_check.specs.Scans.{AcceptsInWay}
use Rattle.overtaken_check.proofs.Walks.{tells_none, tells_some, tells_along, to_block, from_block}
use Rattle.overtaken_check.proofs.entries.blocks_at.Goals as goal

pub returns-in-None-clause-answer : goal.returns-in-None-clause-answer
returns-in-None-clause-answer g c =
    let vs = c.args.graph.now.resources.vertices in
    let journal = c.args.journal.now in
    tells_along false (to_block vs c.args.window c.args.claim journal c.args.at)
    (from_block vs c.args.window c.args.claim journal c.args.at)
    (tells_none journal c.args.at (AcceptsInWay vs c.args.window c.args.claim) c.in-None.ensures.value)

pub returns-in-Some-clause-answer : goal.returns-in-Some-clause-answer
returns-in-Some-clause-answer g c =
    let vs = c.args.graph.now.resources.vertices in
    let journal = c.args.journal.now in
    tells_along c.accepts_in_way.result (to_block vs c.args.window c.args.claim journal c.args.at)
    (from_block vs c.args.window c.args.claim journal c.args.at)
    (tells_some journal c.args.at (AcceptsInWay vs c.args.window c.args.claim) c.in-Some.entry.now
    c.accepts_in_way.result c.in-Some.ensures.value c.accepts_in_way.ensures)
