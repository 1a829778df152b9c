use Rattle.overtaken_check.proofs.Reasons.{is_blocked}
use Rattle.overtaken_check.proofs.overtaking.blocked.Goals as goal

pub unreachable-requires-in-None-first_block : goal.unreachable-requires-in-None-first_block
unreachable-requires-in-None-first_block g c =
    is_blocked c.args.graph.now.resources.vertices c.args.window c.args.claims.now c.args.journal.now c.args.place
    c.args.index c.requires.gone c.in-Some.claim.now c.in-Some.ensures.value c.requires.frees c.requires.was
    c.in-None-first_block.ensures.answer
