use Rattle.std.proofs.Common.{◌≡◌, refl, ◌≤◌, length, List, [], ◌∷◌, Ok, arith}
use Rattle.json.specs.declared.value.Value.{Value}
use Rattle.json_whole.specs.Values.{items_view}
use Rattle.json_fields.specs.Values.{some_items}
use Rattle.json_fields.proofs.values.some_values.Goals as goal

some : {A : Type 0} (vs : List (Value A)) → 1 ≤ length vs → Ok (items_view vs) ≡ some_items (items_view vs)
some [] long = absurd (absurd (omega (arith, long)))
some (v ∷ vs) long = refl

pub returns-in-len1-up : goal.returns-in-len1-up
returns-in-len1-up c = some c.args.values.now c.in-len1-up.len_at_least
