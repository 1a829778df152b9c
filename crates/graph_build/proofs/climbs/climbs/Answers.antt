use Rattle.std.proofs.Common.{◌≡◌, ℕ, ◌+◌, ◌*◌, ◌%◌, nat_eq, cond, Option, List, length, sym, ◌∙◌, ap, subst, arith}
use Rattle.graph_build.specs.Checks.{HasClimbs, LeadsWithin}
use Rattle.graph_build.proofs.ClimbLaws.{leads_within, halved}
use Rattle.graph_build.proofs.climbs.climbs.Goals as goal

pub advanced-requires : goal.advanced-requires
advanced-requires c =
    let same = c.as_slice.ensures.value in
    let long : length c.args.vertices.now ≡ length c.as_slice.result.now = sym c.loop-left.invariant.3.as_many
    ∙ ap length (sym same) in
    subst (LeadsWithin c.loop-left.reached.items) long
    (leads_within c.args.vertices.now c.requires.known c.loop-left.invariant.0 c.loop-left.reached.items
    c.loop-left.invariant.2)

pub followed-requires : goal.followed-requires
followed-requires c =
    let a = c.as_slice-in-loop-left.ensures.value in
    let b = c.as_slice-in-loop-left-2.ensures.value in
    let long : length c.args.vertices.now ≡ length c.as_slice-in-loop-left-2.result.now =
    sym c.loop-left.invariant.3.as_many ∙ ap length (sym b) in
    subst (LeadsWithin c.as_slice-in-loop-left.result.now) long
    (subst (λ (l : List (Option ℕ)). LeadsWithin l (length c.args.vertices.now)) (sym a)
    (leads_within c.args.vertices.now c.requires.known c.loop-left.invariant.1 c.loop-left.jumps.items
    c.loop-left.invariant.3))

pub loop-left-preserved : goal.loop-left-preserved
loop-left-preserved c =
    let vertices = c.args.vertices.now in
    let a = c.loop-left.invariant.0 in
    let k = c.loop-left.invariant.1 in
    let jumps : HasClimbs vertices k c.as_slice.result.now =
    subst (HasClimbs vertices k) (sym c.as_slice.ensures.value) c.loop-left.invariant.3 in
    let first : HasClimbs vertices k c.as_slice-in-loop-left.result.now =
    subst (HasClimbs vertices k) (sym c.as_slice-in-loop-left.ensures.value) c.loop-left.invariant.3 in
    let second : HasClimbs vertices k c.as_slice-in-loop-left-2.result.now =
    subst (HasClimbs vertices k) (sym c.as_slice-in-loop-left-2.ensures.value) c.loop-left.invariant.3 in (
      cond (nat_eq (c.loop-left.left % 2) 1) (a + k) a,
      k + k,
      c.in_ok-reached-2.ensures vertices a k c.loop-left.invariant.2 jumps,
      c.in_ok-jumps-2.ensures vertices k k first second,
      halved a c.loop-left.left k c.args.steps c.loop-left.invariant.4,
    )

pub returns : goal.returns
returns c =
    let none : c.loop-left.left ≡ 0 = omega arith in
    let product : c.loop-left.left * c.loop-left.invariant.1 ≡ 0 * c.loop-left.invariant.1 =
    ap (λ n. n * c.loop-left.invariant.1) none in
    let whole : c.loop-left.invariant.0 ≡ c.args.steps = omega (arith, product, c.loop-left.invariant.4) in
    subst (λ (n : ℕ). HasClimbs c.args.vertices.now n c.loop-left.reached.items) whole c.loop-left.invariant.2
