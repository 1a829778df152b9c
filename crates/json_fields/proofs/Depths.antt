-- How deep the members of a list go.
use Rattle.std.proofs.Common.{ℕ, zero, suc, ◌<◌, ◌≤◌, List, [], ◌∷◌, length, get_or, arith}
use Rattle.json.specs.declared.value.Value.{Value}
use Rattle.json_whole.specs.Values.{view, items_view}
use Rattle.serde_json.specs.Data.{depth, items_depth}

-- a member goes no deeper than the list of members
pub at_depth : {A : Type 0} (vs : List (Value A)) (k : ℕ) (x : Value A) → k < length vs →
    depth (view (get_or vs k x)) ≤ items_depth (items_view vs)
at_depth [] k x within = absurd (omega (arith, within))
at_depth (v ∷ vs) zero x within = omega arith
at_depth (v ∷ vs) (suc k) x within = let below = at_depth vs k x (omega (arith, within)) in omega (arith, below)
