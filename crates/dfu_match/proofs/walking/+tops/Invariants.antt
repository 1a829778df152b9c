use Rattle.dfu_match.proofs.walking.+tops.Given as goal

abbrev pub decreases-top_short : goal.decreases-top_short
decreases-top_short g l = l.vertex
