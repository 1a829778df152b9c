use Rattle.std.proofs.Common.{◌≡◌, ℕ, ◌+◌, ◌<◌, [], inl, inr, refl, subst, arith}
use Rattle.std.proofs.lemmas.Bool.{lt-ltb, ltb-true, cases_lt}
use Rattle.match_laws.specs.Offers.{IsGreatest}
use Rattle.dfu_match.proofs.BarLaws.{rises, nodes_of}
use Rattle.std.proofs.Common.{◌*◌, ap, length}
use Rattle.dfu_match.specs.Tables.{needs_all}
use Rattle.dfu_match.specs.Pairs.{asked_totals}
use Rattle.dfu_match.proofs.StepLaws.{clear_everywhere, every_length, every_open, every_pair, first_place, takes_most}
use Rattle.dfu_match.proofs.matching.some_fit.Goals as goal

pub invariant_of-search : goal.invariant_of-search
invariant_of-search g c = record {
  over = c.requires.over;
  tells = λ i need wanted at entry. absurd (cc);
  fits = omega arith;
  whole = λ some. absurd (some refl);
  shuts = rw c.items.ensures at c.bars_all-shut.ensures;
  opens = c.requires.opens;
  rising = rises 0 c.args.ask.now.barred c.requires.proper.rising;
  nodes = nodes_of c.args.graph.now.resources.vertices c.args.ask.now.barred c.requires.proper.nodes;
}

pub copies-requires-clause-stand : goal.copies-requires-clause-stand
copies-requires-clause-stand g c = inl refl

pub copies-requires-clause-may : goal.copies-requires-clause-may
copies-requires-clause-may g c = inl refl

-- one copy can be had exactly where the greatest number of at most one is not 0
one_can_be : (can : ℕ → Type 0) (n : ℕ) → IsGreatest can 1 n → (0 < n → can 1)
one_can_be can n g lt = let le = g.within in let is : n ≡ 1 = omega arith in subst can is (g.can_be (omega arith))

none_can_be : (can : ℕ → Type 0) (n : ℕ) → IsGreatest can 1 n → can 1 → 0 < n
none_can_be can n g one = elim (cases_lt 0 n) [
  | inl more ↦ more
  | inr none ↦ absurd (let is : 1 ≡ n + 1 = omega arith in g.full (omega arith) (subst can is one))
]

pub returns-clause-answer : goal.returns-clause-answer
returns-clause-answer g c = λ present stands.
    let greatest = c.copies.ensures.greatest present stands in (
      (λ h. one_can_be _ c.copies.result greatest (ltb-true 0 c.copies.result h)),
      (λ fit. lt-ltb 0 c.copies.result (none_can_be _ c.copies.result greatest fit)),
    )

pub returns-clause-work : goal.returns-clause-work
returns-clause-work g c = λ present stands.
    let vs = c.args.graph.now.resources.vertices in
    let needs = c.args.ask.now.needs in
    let all = needs_all needs in
    let keeps = asked_totals [] (g.F.FreeView.keeps c.args.view.now) in
    let pairs = every_pair (length all) (length vs) in
    let many = every_length (length all) (length vs) in
    let work = takes_most _ ((length all + 2) * g.F.FreeView.cost c.args.view.now) c.args.steps.now
    c.copies.new.steps 0 (0 + length all) 0 (length vs) pairs
    (every_open vs present c.args.window keeps all)
    (c.copies.ensures.work present stands 0 0 (length vs) (first_place needs)
    (clear_everywhere vs present c.args.window keeps needs) (refl, refl)) in
    let same = ap (λ n. (length all + 2) * n * g.F.FreeView.cost c.args.view.now) many in
    omega (arith, work, same)
