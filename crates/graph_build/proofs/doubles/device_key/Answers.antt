use Rattle.std.proofs.Common.{◌≡◌, refl, Some, sym, ap, ◌∙◌, subst, length}
use Rattle.std.specs.Prelude.{is_some}
use Rattle.std.proofs.lemmas.Option.{none-some}
use Rattle.graph_build.specs.Checks.{graph_in}
use Rattle.graph_build.specs.Keys.{IsDeviceKey}
use Rattle.graph_build.proofs.AboveLaws.{unhoused_at}
use Rattle.graph_build.proofs.OwnLaws.{fact_here, fact_read}
use Rattle.graph_build.proofs.KeyLaws.{house_at}
use Rattle.graph_build.proofs.doubles.device_key.Goals as goal

pub returns-in_err-houses : goal.returns-in_err-houses
returns-in_err-houses c =
    let g = graph_in c.args.kinds.now c.args.vertices.now in
    subst (IsDeviceKey g c.args.v) (sym c.from_residual.ensures)
    (λ n id device node below has. unhoused_at g (length c.args.vertices.now) c.args.houses.now c.args.v
    c.requires.houses c.requires.within (ap is_some c.in_err-houses.was) (n, node, below))

pub returns-in_err-vertices : goal.returns-in_err-vertices
returns-in_err-vertices c =
    subst (IsDeviceKey (graph_in c.args.kinds.now c.args.vertices.now) c.args.v)
    (sym c.from_residual-in_err-vertices.ensures)
    (λ n id device node below has. none-some id
    (sym c.in_err-vertices.was ∙ fact_read c.args.vertices.now c.args.v (λ x. x.id ≡ Some id) c.requires.within
    has))

pub returns : goal.returns
returns c =
    let g = graph_in c.args.kinds.now c.args.vertices.now in
    let vertices = c.args.vertices.now in
    let house = house_at g (length vertices) c.args.houses.now c.args.v c.in_ok-houses.field-0 c.requires.houses
    c.requires.within c.in_ok-houses.was in (
      c.is_device_at.ensures.0 c.if-not-is_device_at.false,
      house.0,
      house.1,
      fact_here vertices c.args.v (λ x. x.kind ≡ _) c.requires.within refl,
      fact_here vertices c.args.v (λ x. x.id ≡ Some c.in_ok-vertices.field-0) c.requires.within c.in_ok-vertices.was,
    )
