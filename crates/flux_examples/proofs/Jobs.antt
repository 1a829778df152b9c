-- A job on a node, and an ask that bars one.
use Rattle.std.proofs.Common.{◌≡◌, ℕ, ◌<◌, ◌≤◌, Bool, true, false, not, ◌&&◌, ◌||◌, [], ◌∷◌, refl, sym, arith}
use Rattle.std.proofs.Common.{IsTrue, true≢false, lit<, lit≤}
use Rattle.std.proofs.lemmas.Bool.Decides.{nat_tests}
use mathlib.Core.Path.{transport, transport⁻¹}
use Rattle.flux_defs.specs.declared.claims.Claim.{Claim}
use Rattle.flux_defs.specs.declared.claims.Claim.TheVariants.{Hold}
use Rattle.flux_defs.specs.declared.claims.Window.{Window}
use Rattle.flux_defs.specs.Graph.{Everywhere, Beneath, is_at_or_below}
use Rattle.flux_defs.specs.Jobs.{is_live}
use Rattle.flux_defs.specs.Available.{IsAvailable}
use Rattle.flux_defs.specs.Fits.{Fits}
use Rattle.flux_defs.specs.Lowest.{CanServe}
use Rattle.flux_defs.specs.Present.{Present}
use Rattle.flux_laws.proofs.Filling.{run}
use Rattle.flux_laws.proofs.Rows.{piece_Vert}
use Rattle.flux_examples.specs.Examples.{two_nodes, cores, first_core, whole_node, beside_first_core, without_node0}
use Rattle.flux_examples.proofs.TwoNodes.{nodes_at, first_node}
use Rattle.flux_examples.proofs.Slots.{core_piece}

live_before : (m : ℕ) → m < 100 → is_live m first_core ≡ true
live_before m lt = grind (arith, nat_tests)

live_after : (m : ℕ) → 100 ≤ m → is_live m first_core ≡ false
live_after m le = grind (arith, nat_tests)

-- touched by a live job
not_held : (closed live on below : Bool) →
    live ≡ true → on ≡ true → IsTrue (not closed && not ((live && (on || (below || false))) || false || false)) → ⊥
not_held true live on below e f h = true≢false (sym h)
not_held false true true below e f h = true≢false (sym h)
not_held false false on below e f h = true≢false (sym e)
not_held false true false below e f h = true≢false (sym f)

-- with no live job
held_after : (live closes touches : Bool) →
    live ≡ false → IsTrue (not ((live && closes) || false || false) && not ((live && touches) || false || false))
held_after true closes touches e = absurd (true≢false e)
held_after false closes touches e = refl

-- touched by a bar
not_over_bar : (closed other bar down : Bool) → bar ≡ true →
    IsTrue (not closed && not (other || ((bar || false) || down))) → ⊥
not_over_bar true other bar down e h = true≢false (sym h)
not_over_bar false true bar down e h = true≢false (sym h)
not_over_bar false false true down e h = true≢false (sym h)
not_over_bar false false false down e h = true≢false (sym e)

module _ (w : Window) where
  abbrev ok : Claim → Type 0
  ok = IsAvailable beside_first_core w

  pub node_waits : w.from < w.to → w.from < 100 → CanServe two_nodes ok Everywhere whole_node 1 1 → ⊥
  node_waits opens before c =
      let p = transport (piece_Vert two_nodes ok Everywhere 1 1 true (cores 4 ∷ []) 1 1 c.0) c.1 in
      not_held _ (is_live w.from first_core) (is_at_or_below two_nodes 1 1)
      (is_at_or_below two_nodes 2 1) (live_before w.from before) nodes_at.0 (p.3.1 w.from (omega arith) opens)

  module _ (late : 100 ≤ w.from) where
    held_late : (v : ℕ) → ok (Hold v)
    held_late v m lo hi = held_after (is_live m first_core) _ _ (live_after m (omega arith))

    four_cores : Fits two_nodes ok 1 (Beneath 1) (cores 4 ∷ []) (Hold 2 ∷ Hold 3 ∷ Hold 4 ∷ Hold 5 ∷ [])
    four_cores =
        let core = λ (v : ℕ) (lo : 1 < v) (hi : v ≤ 5). core_piece ok 1 4 v first_node (lo, hi) (held_late v) in (
          Hold 2 ∷ Hold 3 ∷ Hold 4 ∷ Hold 5 ∷ [],
          [],
          refl,
          (
            run 2 4,
            (
              (λ e. omega arith, (λ e. omega arith, (λ e. omega arith, tt))),
              ((λ e. omega arith, (λ e. omega arith, tt)), ((λ e. omega arith, tt), (tt, tt))),
            ),
            (lit≤ tt, (lit≤ tt, (lit≤ tt, (lit≤ tt, tt)))),
            refl,
            (
              Hold 2 ∷ [],
              _,
              refl,
              core 2 (lit< tt) (lit≤ tt),
              (
                Hold 3 ∷ [],
                _,
                refl,
                core 3 (lit< tt) (lit≤ tt),
                (
                  Hold 4 ∷ [],
                  _,
                  refl,
                  core 4 (lit< tt) (lit≤ tt),
                  (Hold 5 ∷ [], [], refl, core 5 (lit< tt) (lit≤ tt), refl),
                ),
              ),
            ),
          ),
          refl,
        )

    pub node_fits : CanServe two_nodes ok Everywhere whole_node 1 1
    node_fits = (
      Hold 1 ∷ [],
      transport⁻¹ (piece_Vert two_nodes ok Everywhere 1 1 true (cores 4 ∷ []) 1 1 (Hold 1 ∷ []))
          (refl, lit< tt, refl, (refl, held_late 1, (Hold 2 ∷ Hold 3 ∷ Hold 4 ∷ Hold 5 ∷ [], four_cores))),
    )

pub not_over_node0 : (present : Present) (w : Window) → w.from < w.to →
    IsAvailable (without_node0 present) w (Hold 0) → ⊥
not_over_node0 present w opens h =
    not_over_bar _ _ (is_at_or_below two_nodes 1 0) _ nodes_at.1 (h w.from (omega arith) opens)
