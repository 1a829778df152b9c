-- From what a test answers to the first number of which a fact is true.
use Rattle.std.proofs.Common.{◌↔◌, ℕ, ◌<◌, ◌≤◌, Bool, true, false, Option, Some, None, IsTrue, refl, true≢false, sym}
use Rattle.resource_graph.specs.Finds.{IsFirstOf}
use Rattle.graph_build.specs.Checks.{IsFirstWhere}

-- the test tells the fact of each number before `to`, which is true of none before `from` and none from `to` on
pub first_fact : (P : ℕ → Type 0) (Answers : ℕ → Bool → Type 0) (from to : ℕ) (found : Option ℕ) →
    IsFirstWhere Answers from to found → ((v : ℕ) (b : Bool) → from ≤ v → v < to → Answers v b → (IsTrue b ↔ P v)) →
    ((v : ℕ) → P v → (from ≤ v) × (v < to)) → IsFirstOf P found
first_fact P Answers from to None none tells within =
    λ v p. let range = within v p in
    true≢false (sym ((tells v false range.0 range.1 (none.is v range.0 range.1)).1 p))
first_fact P Answers from to (Some v) some tells within =
    let (low, high, is, before) = some.is in (
      (tells v true low high is).0 refl,
      λ u lt p. let range = within u p in
          true≢false (sym ((tells u false range.0 range.1 (before u range.0 lt)).1 p)),
    )
