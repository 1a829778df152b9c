use Rattle.std.proofs.Common.{◌++◌, take}
use Rattle.std.proofs.KnownBytes.{Consumes-trans}
use Rattle.flux_io.proofs.whole.take_all.Goals as goal

pub returns-then-count-largest-clause-taken : goal.returns-then-count-largest-clause-taken
returns-then-count-largest-clause-taken g c =
    let i = c.pieces.invariant in
    let piece = take c.in-Ok-pull.count c.pull.new.into in
    (i.0 ++ piece, Consumes-trans _ _ _ i.0 piece i.1 c.in-Ok-pull.ensures.bytes.0, tt)

pub returns-then-is_err-clause-taken : goal.returns-then-is_err-clause-taken
returns-then-is_err-clause-taken g c =
    let i = c.pieces.invariant in
    let piece = take c.in-Ok-pull.count c.pull.new.into in
    (i.0 ++ piece, Consumes-trans _ _ _ i.0 piece i.1 c.in-Ok-pull.ensures.bytes.0, tt)
