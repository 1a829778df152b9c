use Rattle.interleave_law.proofs.Kept.{running_first, machine_first}
use Rattle.std.proofs.Common.{◌∙◌, ap}
use Rattle.interleave_law.specs.Machines.{machine_of}
use Rattle.interleave_law.proofs.machines.Machine.new.Goals as goal

pub invariant_of-result : goal.invariant_of-result
invariant_of-result c =
    running_first c.args.core c.args.script c.in_ok-clients.clients.items c.requires.empty c.requires.proper
    (c.in_ok-clients.ensures.count ∙ c.len-count.ensures)
    c.in_ok-clients.ensures.rest

pub returns-clause-machine : goal.returns-clause-machine
returns-clause-machine c =
    ap (λ h. machine_of h c.in_ok-clients.clients.items) c.requires.empty
    ∙ machine_first c.args.script c.in_ok-clients.clients.items
    (c.in_ok-clients.ensures.count ∙ c.len-count.ensures) c.in_ok-clients.ensures.rest
