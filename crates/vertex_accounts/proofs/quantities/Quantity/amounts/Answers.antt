use Rattle.std.proofs.Common.{length}
use Rattle.vertex_accounts.proofs.quantities.Quantity.amounts.Goals as goal

pub returns-in-Holds-clause-keys : goal.returns-in-Holds-clause-keys
returns-in-Holds-clause-keys c = c.in_ok-amounts_on-in-Holds.ensures.keys (length c.args.graph.now.resources.vertices)

pub returns-in-Takes-clause-keys : goal.returns-in-Takes-clause-keys
returns-in-Takes-clause-keys c = c.in_ok-amounts_on-in-Takes.ensures.keys (length c.args.graph.now.resources.vertices)
