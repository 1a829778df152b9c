use Rattle.flux_defs.proofs.EmptyGraph.{free_read}
use Rattle.flux_defs.proofs.views.NoJobsFreeView.free_over.Goals as goal

pub returns-clause-answer : goal.returns-clause-answer
returns-clause-answer g c = λ present none.
    free_read c.args.self.now.vertices.now c.items-vertices.result.now
    present c.args._window c.args.vertex _ none c.items-vertices.ensures c.requires.asked.opens c.requires.asked.within
