use Rattle.snapshot_store.proofs.parts.Part.+path.Given as goal

abbrev pub decreases-path : goal.decreases-path
decreases-path g l = l.height
