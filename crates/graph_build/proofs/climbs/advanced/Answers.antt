use Rattle.std.proofs.Common.{ℕ, ◌+◌, cond, sym, ap, subst}
use Rattle.std.proofs.lemmas.Result.{IfOk-weaker}
use Rattle.graph_build.specs.Checks.{HasClimbs}
use Rattle.graph_build.proofs.climbs.advanced.Goals as goal

pub returns : goal.returns
returns c = IfOk-weaker c.followed.result _ _ (λ climbs leads. λ vertices a b has_first has_second.
    subst (λ (n : ℕ). HasClimbs vertices n climbs.items) (ap (λ t. cond t (a + b) a) (sym c.if-not-odd.false))
    (leads vertices a b (subst (HasClimbs vertices a) (sym c.as_slice.ensures.value) has_first) has_second))
    c.followed.ensures
