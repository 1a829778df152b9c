-- Slots of three cores on two nodes of four.
use Rattle.std.proofs.Common.{◌≡◌, ℕ, zero, suc, ◌+◌, ◌-◌, ◌<◌, ◌≤◌, ◌==◌, ◌||◌, if◌then◌else◌, true, List, [], ◌∷◌}
use Rattle.std.proofs.Common.{◌⊎◌, inl, inr, refl, subst, arith, lit≤}
use mathlib.Core.Path.{transport, transport⁻¹}
use Rattle.flux_defs.specs.declared.claims.Claim.{Claim}
use Rattle.flux_defs.specs.declared.claims.Claim.TheVariants.{Hold, Pass}
use Rattle.flux_defs.specs.declared.claims.Window.{Window}
use Rattle.flux_defs.specs.declared.requests.Need.{Need, Spread}
use Rattle.flux_defs.specs.Graph.{Everywhere, Beneath}
use Rattle.flux_defs.specs.Closed.{no_bars}
use Rattle.flux_defs.specs.Available.{IsAvailable}
use Rattle.flux_defs.specs.Fits.{Pick, Piece, Pieces}
use Rattle.flux_defs.specs.Lowest.{FillsFrom, CanServe, LowestPiece, Lowest}
use Rattle.flux_defs.specs.Asks.{SomeFit, IsLowestFirst}
use Rattle.flux_defs.specs.Present.{bare}
use Rattle.flux_laws.proofs.Filling.{CanFill, IsDownward, can_fill_from, run, fills_run, fills_past, within_supply}
use Rattle.flux_laws.proofs.FitLaws.{serves_less, group_fills}
use Rattle.flux_laws.proofs.Lists.{lowest_list_fits}
use Rattle.flux_laws.proofs.Rows.{piece_Vert, piece_Spread, lowest_Vert, lowest_Spread}
use Rattle.flux_laws.proofs.Takes.{takes_less}
use Rattle.flux_examples.specs.Examples.{two_nodes, cores, slots}
use Rattle.flux_examples.proofs.TwoNodes.{HasFourCores, IsCoreOf, first_node, second_node, node_is}

-- one pick a vertex, held
abbrev holds : List Pick → List Claim
holds [] = []
holds (p ∷ ps) = Hold p.0 ∷ holds ps

-- a core of a node is a piece where it may be held
pub core_piece : (ok : Claim → Type 0) (n count v : ℕ) →
    HasFourCores n → IsCoreOf n v → ok (Hold v) → Piece two_nodes ok (Beneath n) (cores count) v 1 (Hold v ∷ [])
core_piece ok n count v four is may =
    let fits : n + 4 < 11 = four.fits in
    let within : v < 11 = (let hi : v ≤ n + 4 = is.1 in omega arith) in
    let e = four.each v within is in
    transport⁻¹ (piece_Vert two_nodes ok (Beneath n) 2 count true [] v 1 (Hold v ∷ []))
    (refl, (within, e.0), e.1, (refl, may, ([], refl)))

module _ (w : Window) where
  abbrev ok : Claim → Type 0
  ok = IsAvailable (no_bars two_nodes bare) w

  pub core_serves : (n count v : ℕ) →
      HasFourCores n → IsCoreOf n v → CanServe two_nodes ok (Beneath n) (cores count) v 1
  core_serves n count v four is = (Hold v ∷ [], core_piece ok n count v four is (λ m lo hi. refl))

  core_opens : (n count v q : ℕ) →
      HasFourCores n → CanServe two_nodes ok (Beneath n) (cores count) v q → (q ≡ 1) × IsCoreOf n v
  core_opens n count v q four c =
      let p = transport (piece_Vert two_nodes ok (Beneath n) 2 count true [] v q c.0) c.1 in
      (p.0, four.only v p.1.0 p.1.1)

  core_down : (n count : ℕ) → IsDownward (CanServe two_nodes ok (Beneath n) (cores count))
  core_down n count = serves_less two_nodes ok (takes_less (no_bars two_nodes bare) w) (Beneath n) (cores count)

  past_to : (n count missing : ℕ) (picks : List Pick) → HasFourCores n →
      (low : ℕ) → low ≤ n + 1 → FillsFrom (CanServe two_nodes ok (Beneath n) (cores count)) (n + 1) missing picks →
      FillsFrom (CanServe two_nodes ok (Beneath n) (cores count)) (n + 1 - low) missing picks
  past_to n count missing picks four zero le f =
      let e : n + 1 ≡ n + 1 - 0 = omega arith in
      subst (λ (x : ℕ). FillsFrom (CanServe two_nodes ok (Beneath n) (cores count)) x missing picks) e f
  past_to n count missing picks four (suc low) le f =
      let e : n + 1 - low ≡ (n + 1 - suc low) + 1 = omega arith in
      fills_past (CanServe two_nodes ok (Beneath n) (cores count)) (core_down n count) (n + 1 - suc low) missing picks
      (λ c. let is = (core_opens n count (n + 1 - suc low) 1 four c).1 in
      let lo : n < n + 1 - suc low = is.0 in omega arith)
      (subst (λ (x : ℕ). FillsFrom (CanServe two_nodes ok (Beneath n) (cores count)) x missing picks) e
      (past_to n count missing picks four low (omega arith) f))

  -- the first three cores of a node
  three_cores : (n : ℕ) → HasFourCores n → FillsFrom (CanServe two_nodes ok (Beneath n) (cores 3)) 0 3 (run (n + 1) 3)
  three_cores n four =
      let e : n + 1 - (n + 1) ≡ 0 = omega arith in
      subst (λ (x : ℕ). FillsFrom (CanServe two_nodes ok (Beneath n) (cores 3)) x 3 (run (n + 1) 3)) e
      (past_to n 3 3 (run (n + 1) 3) four (n + 1) (omega arith)
      (fills_run (CanServe two_nodes ok (Beneath n) (cores 3))
      (core_down n 3) (λ v c. let one : 2 ≡ 1 = (core_opens n 3 v 2 four c).0 in absurd (omega arith)) 3 (n + 1)
      (λ v lo hi. core_serves n 3 v four (omega arith, omega arith))))

  core_holds : (count v : ℕ) → LowestPiece two_nodes ok (cores count) v 1 (Hold v ∷ [])
  core_holds count v = transport⁻¹ (lowest_Vert two_nodes ok 2 count true [] v 1 (Hold v ∷ [])) refl

  three_pieces : (n : ℕ) → Pieces (LowestPiece two_nodes ok (cores 3)) (run (n + 1) 3) (holds (run (n + 1) 3))
  three_pieces n = (
    Hold (n + 1) ∷ [],
    _,
    refl,
    core_holds 3 (n + 1),
    (
      Hold (n + 1 + 1) ∷ [],
      _,
      refl,
      core_holds 3 (n + 1 + 1),
      (Hold (n + 1 + 1 + 1) ∷ [], [], refl, core_holds 3 (n + 1 + 1 + 1), refl),
    ),
  )

  one_slot : (n : ℕ) → HasFourCores n → Lowest two_nodes ok 1 (Beneath n) (cores 3 ∷ []) (holds (run (n + 1) 3))
  one_slot n four = (run (n + 1) 3, holds (run (n + 1) 3), [], refl, three_cores n four, three_pieces n, refl)

  abbrev slot : ℕ → Need
  slot k = Spread k (cores 3 ∷ [])

  pub node_serves : (k n : ℕ) → HasFourCores n → CanServe two_nodes ok Everywhere (slot k) n 1
  node_serves k n four =
      let claims = Pass n ∷ holds (run (n + 1) 3) in (
        claims,
        transport⁻¹ (piece_Spread two_nodes ok Everywhere k (cores 3 ∷ []) n 1 claims) (
          four.within,
          four.node,
          (
            holds (run (n + 1) 3),
            refl,
            (λ m lo hi. refl),
            lowest_list_fits two_nodes ok 1 (Beneath n) (cores 3 ∷ []) (holds (run (n + 1) 3)) (one_slot n four),
          ),
        ),
      )

  -- six cores of four are too many
  pub node_full : (k n : ℕ) → HasFourCores n → CanServe two_nodes ok Everywhere (slot k) n 2 → ⊥
  node_full k n four c =
      let p = transport (piece_Spread two_nodes ok Everywhere k (cores 3 ∷ []) n 2 c.0) c.1 in
      let fit = p.2.3 in
      let can = CanServe two_nodes ok (Beneath n) (cores 3) in
      let filled : CanFill can 0 6 = group_fills (Piece two_nodes ok (Beneath n) (cores 3)) 6 fit.0 fit.3 in
      let later : CanFill can (n + 1) 6 = can_fill_from can 0 (n + 1) 6
      (λ v q some s. let is = (core_opens n 3 v q four s).1 in let lo : n < v = is.0 in omega arith) filled in
      let few : 6 ≤ 1 + (1 + (1 + (1 + 0))) = within_supply can (core_down n 3) (λ v. 1)
      (λ v s. let one : 1 + 1 ≡ 1 = (core_opens n 3 v 2 four s).0 in absurd (omega arith)) 4 (n + 1) 6
      (λ v q some s. let is = (core_opens n 3 v q four s).1 in let hi : v ≤ n + 4 = is.1 in omega arith) later in
      omega arith

  node_opens : (k v q : ℕ) → CanServe two_nodes ok Everywhere (slot k) v q → (v < 11) × ((v ≡ 1) ⊎ (v ≡ 6))
  node_opens k v q c =
      let p = transport (piece_Spread two_nodes ok Everywhere k (cores 3 ∷ []) v q c.0) c.1 in
      (p.0, node_is v p.0 p.1)

  between : (k u low high : ℕ) → low ≤ u →
      u < high → (low ≡ 0) × (high ≡ 1) ⊎ (low ≡ 2) × (high ≡ 6) → CanServe two_nodes ok Everywhere (slot k) u 1 → ⊥
  between k u low high lo hi (inl (a, b)) c = elim (node_opens k u 1 c).1 [ inl e ↦ omega arith | inr e ↦ omega arith ]
  between k u low high lo hi (inr (a, b)) c = elim (node_opens k u 1 c).1 [ inl e ↦ omega arith | inr e ↦ omega arith ]

  two_picks : FillsFrom (CanServe two_nodes ok Everywhere (slot 2)) 0 2 ((1, 1) ∷ (6, 1) ∷ [])
  two_picks = (
    lit≤ tt,
    (λ u lo hi. between 2 u 0 1 lo hi (inl (refl, refl))),
    lit≤ tt,
    lit≤ tt,
    node_serves 2 1 first_node,
    (λ lt. node_full 2 1 first_node),
    (
      lit≤ tt,
      (λ u lo hi. between 2 u 2 6 lo hi (inr (refl, refl))),
      lit≤ tt,
      lit≤ tt,
      node_serves 2 6 second_node,
      (λ lt c. absurd (omega arith)),
      refl,
    ),
  )

  slot_writes : (k n : ℕ) → HasFourCores n → LowestPiece two_nodes ok (slot k) n 1 (Pass n ∷ holds (run (n + 1) 3))
  slot_writes k n four = transport⁻¹ (lowest_Spread two_nodes ok k (cores 3 ∷ []) n 1 (Pass n ∷ holds (run (n + 1) 3)))
      (holds (run (n + 1) 3), refl, one_slot n four)

  pub two_slots : IsLowestFirst two_nodes bare
      (slots 2) w (Pass 1 ∷ Hold 2 ∷ Hold 3 ∷ Hold 4 ∷ Pass 6 ∷ Hold 7 ∷ Hold 8 ∷ Hold 9 ∷ [])
  two_slots = (
    (1, 1) ∷ (6, 1) ∷ [],
    Pass 1 ∷ Hold 2 ∷ Hold 3 ∷ Hold 4 ∷ Pass 6 ∷ Hold 7 ∷ Hold 8 ∷ Hold 9 ∷ [],
    [],
    refl,
    two_picks,
    (
      Pass 1 ∷ holds (run 2 3),
      _,
      refl,
      slot_writes 2 1 first_node,
      (Pass 6 ∷ holds (run 7 3), [], refl, slot_writes 2 6 second_node, refl),
    ),
    refl,
  )

  abbrev copies_on : ℕ → ℕ
  copies_on v = if (v == 1) || (v == 6) then 1 else 0

  no_more : (k v : ℕ) → CanServe two_nodes ok Everywhere (slot k) v (copies_on v + 1) → ⊥
  no_more k v c =
      elim (node_opens k v (copies_on v + 1) c).1 [
        | inl first ↦ node_full k 1 first_node
            (subst (λ (x : ℕ). CanServe two_nodes ok Everywhere (slot k) x (copies_on x + 1)) first c)
        | inr second ↦ node_full k 6 second_node
            (subst (λ (x : ℕ). CanServe two_nodes ok Everywhere (slot k) x (copies_on x + 1)) second c)
      ]

  pub three_slots : SomeFit two_nodes bare (slots 3) w → ⊥
  three_slots s =
      let fit = s.1 in
      let can = CanServe two_nodes ok Everywhere (slot 3) in
      let filled : CanFill can 0 3 = group_fills (Piece two_nodes ok Everywhere (slot 3)) 3 fit.0 fit.3 in
      let few : 3 ≤ 2 = within_supply can (serves_less two_nodes ok (takes_less (no_bars two_nodes bare) w) Everywhere
      (slot 3)) copies_on (no_more 3) 11 0 3 (λ v q some c. (node_opens 3 v q c).0) filled in
      omega arith
