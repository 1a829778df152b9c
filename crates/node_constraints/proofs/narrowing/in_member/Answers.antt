use Rattle.std.proofs.Common.{◌≡◌, sym, ◌∙◌, subst, ℕ, List, ◌++◌}
use Rattle.json_fields.specs.Paths.{index}
use Rattle.node_constraints.specs.Narrowing.{Means}
use Rattle.node_constraints.proofs.narrowing.in_member.Goals as goal

pub returns-in-Ok : goal.returns-in-Ok
returns-in-Ok c = λ list meant means.
    let front : index c.args.at ≡ c.bytes.result.now = sym (c.bytes.ensures ∙ c.in-Ok.ensures) in
    c.behind.ensures list meant (subst (λ (f : List ℕ). Means (list ++ f) meant c.args.fault) front means)
