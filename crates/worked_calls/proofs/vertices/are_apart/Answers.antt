use Rattle.std.proofs.Common.{◌≡◌, ℕ, ◌<◌, List, length, Option, Some, None, inl, inr, sym, ◌∙◌, ap, subst, refl, arith}
use Rattle.std.proofs.Common.{below_more, true≢false}
use Rattle.std.specs.Prelude.{slice_get, IsSome}
use Rattle.std.proofs.lemmas.Bool.{cases_order}
use Rattle.std.proofs.lemmas.Option.{slice_get_within}
use Rattle.worked_calls.proofs.vertices.are_apart.Goals as goal

there : (kinds : List (List ℕ)) (k : ℕ) → IsSome (slice_get kinds k) → k < length kinds
there kinds k some = go (slice_get kinds k) refl some
  where
    go : (o : Option (List ℕ)) → slice_get kinds k ≡ o → IsSome o → k < length kinds
    go None e s = absurd (true≢false (sym s))
    go (Some name) e s = slice_get_within kinds k name e

pub loop-k-preserved : goal.loop-k-preserved
loop-k-preserved c =
    let first = c.in-Some.ensures.found in
    below_more _ _ c.loop-k.invariant (λ j lt same. first.1 j (omega arith)
    (same ∙ (ap (slice_get c.args.kinds.now) (sym c.if-first-k.false) ∙ first.0)))

pub returns : goal.returns
returns c = λ _ j k some same.
    let kinds = c.args.kinds.now in
    let j_in : j < length kinds = there kinds j some in
    let k_in : k < length kinds = there kinds k (subst IsSome same some) in
    elim (cases_order j k) [
      | inl equal ↦ equal
      | inr differ ↦ elim differ [
        | inl less ↦ absurd (c.loop-k.invariant k (omega arith) j less same)
        | inr more ↦ absurd (c.loop-k.invariant j (omega arith) k more (sym same))
      ]
    ]
