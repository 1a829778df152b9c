use Rattle.std.proofs.Common.{length, sym}
use Rattle.graph_build.specs.Checks.{graph_in}
use Rattle.graph_build.proofs.AboveLaws.{housed_at, unhoused_at}
use Rattle.graph_build.proofs.above.is_loose.Goals as goal

pub returns : goal.returns
returns c = (
  (λ h. (
    c.is_device_at.ensures.0 h,
    unhoused_at (graph_in c.args.kinds.now c.args.vertices.now)
        (length c.args.vertices.now) c.args.houses.now c.args.v c.requires.houses c.requires.within
        (sym c.if-is_some.ensures),
  )),
  (λ loose. c.is_device_at.ensures.1 loose.0),
)

pub returns-then-is_some : goal.returns-then-is_some
returns-then-is_some c = (
  (λ h. absurd (let clash = h in cc)),
  (λ loose. absurd (loose.1 (housed_at (graph_in c.args.kinds.now c.args.vertices.now) (length c.args.vertices.now)
      c.args.houses.now c.args.v c.requires.houses c.requires.within (sym c.if-is_some.ensures)))),
)
