-- What is so at a moment of a window is so at one of each later window that reaches that far.
use Rattle.std.proofs.Common.{ℕ, ◌<◌, ◌≤◌, inl, inr, arith}
use Rattle.std.proofs.lemmas.Bool.{cases_lt}
use Rattle.flux_defs.specs.declared.claims.Window.{Window}
use Rattle.flux_defs.specs.Jobs.{SomeMoment}
use Rattle.flux_defs.specs.Later.{ReachesOver}

module _ (P : ℕ → Type 0) (w other : Window) where
  -- what is so from a moment of the window through another one
  pub so_through : (t m : ℕ) → t < w.to → t ≤ m → ((u : ℕ) → t ≤ u → u ≤ m → P u) → ReachesOver w m other →
      SomeMoment other P
  so_through t m lt le so reach =
      let from : other.from ≤ m = reach.0 in
      let to : w.to ≤ other.to = reach.1 in
      let opens : other.from < other.to = reach.2 in elim (cases_lt t other.from) [
        | inl before ↦ (other.from, omega arith, opens, so other.from (omega (arith, before)) from)
        | inr after ↦ (t, after, omega (arith, lt, to), so t (omega arith) le)
      ]

  -- what is so at a moment of the window, from its start on
  pub so_from_start : SomeMoment w P → ReachesOver w w.from other → SomeMoment other P
  so_from_start some reach =
      let low : w.from ≤ some.0 = some.1 in
      let high : some.0 < w.to = some.2 in
      let from : other.from ≤ w.from = reach.0 in
      let to : w.to ≤ other.to = reach.1 in
      (some.0, omega (arith, low, from), omega (arith, high, to), some.3)
