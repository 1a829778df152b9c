-- A run, of which a loop goes through the points.
use Rattle.std.proofs.Common.{ℕ, ◌+◌, ◌^◌, ◌<◌, List, [], ◌∷◌, length, get_or, drop, subst}
use Rattle.std.proofs.lemmas.List.{drop_more}
use Rattle.planner_min_tree.specs.declared.points.Point.{Point}
use Rattle.planner_min_tree.specs.Points.{past, Runs}

run_fits : (ps : List Point) (x : ℕ) → Runs ps x → x < 2 ^ 64
run_fits [] x run = run
run_fits (p ∷ ps) x run = run.0

-- what is free after the next of them fits
pub next_fits : (ps : List Point) (i : ℕ) (z : Point) (x : ℕ) → i < length ps → Runs (drop i ps) x →
    past (get_or ps i z) x < 2 ^ 64
next_fits ps i z x lt run =
    let more = subst (λ (l : List Point). Runs l x) (drop_more ps i z lt) run in
    run_fits (drop (i + 1) ps) (past (get_or ps i z) x) more.2
