use Rattle.std.proofs.Common.{[], ◌≡◌, ℕ, ◌<◌, Some, get_or, length, inl, inr, refl, sym, ◌∙◌, ap, subst, arith}
use Rattle.std.specs.Prelude.{slice_get}
use Rattle.std.proofs.lemmas.Bool.{cases_lt}
use Rattle.std.proofs.lemmas.Option.{slice_get-get_or, same_Some}
use Rattle.flux_defs.specs.Graph.{HasKind}
use Rattle.graph_build.proofs.AboveLaws.{nested_here, nested_nowhere, kinds_differ}
use Rattle.graph_build.proofs.above.is_nested.Goals as goal

pub returns-then-vertices-u : goal.returns-then-vertices-u
returns-then-vertices-u c =
    let i = c.loop-above.above-index in
    let u = get_or c.args.chain.now i 0 in
    let at : slice_get c.args.chain.now i ≡ Some u = slice_get-get_or c.args.chain.now i 0 (omega arith) in
    let u_in : u < length c.args.vertices.now = c.requires.below i u at in (
      (λ _. nested_here [] c.args.vertices.now c.args.v u i c.requires.within u_in
          (ap (λ l. slice_get l i) (sym c.requires.chain) ∙ at) c.if-u-v.false c.if-vertices-u.true),
      (λ _. refl),
    )

pub loop-above-preserved : goal.loop-above-preserved
loop-above-preserved c = λ i u lt e differ kind at_v at_u.
    let here = c.loop-above.above-index in
    let at : slice_get c.args.chain.now here ≡ Some (get_or c.args.chain.now here 0) = slice_get-get_or c.args.chain.now
    here 0 (omega arith) in
    elim (cases_lt i here) [
      | inl before ↦ c.loop-above.invariant i u before e differ kind at_v at_u
      | inr last ↦ (
          let is : here ≡ i = omega arith in
          let same : u ≡ get_or c.args.chain.now here 0 =
          same_Some _ _ (sym e ∙ (ap (slice_get c.args.chain.now) (sym is) ∙ at)) in
          kinds_differ [] c.args.vertices.now c.args.v (get_or c.args.chain.now here 0) kind c.requires.within
          (c.requires.below here _ at) c.if-vertices-u.false at_v
          (subst (λ (w : ℕ). HasKind c.args.vertices.now kind w) same at_u))
    ]

pub returns : goal.returns
returns c = (
  (λ h. absurd (let clash = h in cc)),
  (λ bad. absurd (nested_nowhere [] c.args.vertices.now c.args.v c.args.chain.now c.requires.chain
      (λ i u lt e. c.loop-above.invariant i u (omega arith) e) bad)),
)
