use Rattle.graph_laws.proofs.Preorder.{parents_first}
use Rattle.commit_laws.proofs.Commits.{stands_as, fresh_now}
use Rattle.commit_laws.proofs.commit_is_fresh.Goals as goal

pub returns : goal.returns
returns c = λ g names valid history legal candidate found stands r yields.
    fresh_now g history candidate.place (parents_first g.graph valid.preorder) legal candidate.command
    candidate.verdict r found
    (stands_as g history candidate.place candidate.verdict candidate.command found stands) yields
