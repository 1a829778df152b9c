use Rattle.resource_graph.proofs.paths.+is_path.Given as goal

abbrev pub decreases-is_path : goal.decreases-is_path
decreases-is_path l = l.vertex
