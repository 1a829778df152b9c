use Rattle.std.proofs.Common.{◌≡◌, ℕ, ◌<◌, ◌++◌, ◌∷◌, [], length, Some, None, vec_len, sym, ◌∙◌, ap, subst, arith, List}
use Rattle.flux_defs.specs.declared.limits.TheConstants.{MOST_LEVELS}
use Rattle.flux_defs.specs.Graph.{chain}
use Rattle.resource_graph.specs.Chains.{AllBelow}
use Rattle.resource_graph.proofs.ChainLaws.{parent_at, climb_step, AllBelow-push, chain_min, climb_all, climb_past}
use Rattle.resource_graph.proofs.chains.chain_into.Goals as goal

pub loop-at-preserved : goal.loop-at-preserved
loop-at-preserved c =
    let vertices = c.args.vertices.now in
    let v = c.in-Some.v in
    let within : v < length vertices = c.loop-at.invariant.known v c.in-Some.is in
    let parent = parent_at vertices v (record { kind = 0; size = 0; parent = None; id = None; rank = None }) within in
    record {
      climbed = climb_step vertices c.min-most.result (vec_len c.loop-at.chain)
          (vec_len c.push.new.self) v c.loop-at.chain.items c.push.new.self.items _ c.loop-at.at _ (omega arith)
          c.in-Some.is parent c.in_ok-push.ensures.items c.in_ok-push.ensures.len c.loop-at.invariant.climbed;
      within = omega (arith, c.in_ok-push.ensures.len);
      known = λ p e. c.requires.known v p (sym parent ∙ e);
      below = let items : c.push.new.self.items ≡ c.loop-at.chain.items ++ v ∷ [] = c.in_ok-push.ensures.items in
          subst (λ (l : List ℕ). AllBelow (length vertices) l)
          (sym items) (AllBelow-push (length vertices) v c.loop-at.chain.items within c.loop-at.invariant.below);
    }

pub returns-after-loop-at-clause-chain : goal.returns-after-loop-at-clause-chain
returns-after-loop-at-clause-chain c =
    let vertices = c.args.vertices.now in
    climb_all vertices c.min-most.result (vec_len c.loop-at.chain) c.loop-at.chain.items _ c.loop-at.at (omega arith)
    c.loop-at.invariant.climbed
    ∙ (ap (λ m. chain vertices m (Some c.args.vertex)) c.min-most.ensures
    ∙ chain_min vertices MOST_LEVELS c.args.vertex c.requires.short)

pub returns-in_default-clause-chain : goal.returns-in_default-clause-chain
returns-in_default-clause-chain c =
    let vertices = c.args.vertices.now in
    climb_past vertices _ c.loop-at.chain.items _ c.loop-at.at c.in_default.not-Some c.loop-at.invariant.climbed
    ∙ (ap (λ m. chain vertices m (Some c.args.vertex)) c.min-most.ensures
    ∙ chain_min vertices MOST_LEVELS c.args.vertex c.requires.short)
