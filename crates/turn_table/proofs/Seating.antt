-- A seat is split, and two are joined.
use Rattle.std.proofs.Common.{◌≡◌, ℕ, ◌+◌, ◌≤◌, List, [], ◌∷◌, ◌++◌, length, set, Option, Some, refl, sym, ap, ◌∙◌}
use Rattle.std.proofs.Common.{subst}
use mathlib.Core.Option.{some}
use lib.ListN.{get_elem?}
use Rattle.atomic_table.specs.Table.{State, Me, Splits, Joins}
use Rattle.atomic_table.proofs.Lists.{set_else}
use Rattle.turn_table.specs.declared.view.View.{View}
use Rattle.turn_table.specs.declared.view.TurnPhase.TheVariants.{Idle}
use Rattle.turn_table.specs.Rule.{spent, Fits, IsKept}
use Rattle.turn_table.specs.Positions.{times}
use Rattle.turn_table.specs.Plays.{looks, kept_share, given_share, joined}
use Rattle.turn_table.proofs.Positions.{times_merged}
use Rattle.turn_table.proofs.Views.{each_kept, each_push, fits_kept, fits_given, fits_joined, fits_spent}
use Rattle.turn_table.proofs.Views.{counted_split, counted_joined, apart}
use Rattle.turn_table.proofs.Places.{place_same, place_push}

module _ {V E K : Type 0} (history : V → List E) (setting : V → K) (k : K) where
  abbrev Rule : State (Option V) (View E K) → Type 0
  Rule = IsKept history setting k

  pub split_allows : (i : ℕ) (v : View E K) → v.setting ≡ Some k → 2 ≤ v.share
      → Splits Rule i v (kept_share v) (given_share v)
  split_allows i v is room s r at =
      let fit : Fits r.log k v = r.fits i v at in
      let w : View E K = kept_share v in
      let x : View E K = given_share v in
      let views : List (View E K) = set s.views i w in
      let After : List ℕ → Type 0 = λ ws. Rule record { words = ws; homes = s.homes; views = views ++ x ∷ [] } in
      subst After (sym r.words) record {
        log = r.log;
        turn = r.turn;
        words = refl;
        fits = each_push (Fits r.log k) views x
            (each_kept (Fits r.log k) s.views i w r.fits (fits_kept k r.log v fit is room))
            (fits_given k r.log v fit is);
        counted = counted_split (length r.log) s.views i v at room r.counted;
        place = place_push history setting k r.log r.turn s.homes views x refl
            (place_same history setting k r.log r.turn s.homes s.views i v w at refl r.place);
      }

  pub join_allows : (i j : ℕ) (v w : View E K) → v.setting ≡ Some k → w.setting ≡ Some k → v.phase ≡ Idle
      → w.phase ≡ Idle → Joins Rule i v j w (joined v w) spent
  join_allows i j v w is is' idle idle' s r at ne at' =
      let here : get_elem? s.views j ≡ some w = sym (set_else s.views i j (joined v w) ne) ∙ at' in
      let both : View E K = joined v w in
      let views : List (View E K) = set s.views i both in
      let fit : Fits r.log k both = fits_joined k r.log v (r.fits i v at) w (r.fits j w here) is idle
      (apart (length r.log) s.views i j v w ne at here r.counted) in
      let After : List ℕ → Type 0 = λ ws. Rule record { words = ws; homes = s.homes; views = set views j spent } in
      subst After (sym r.words) record {
        log = r.log;
        turn = r.turn;
        words = refl;
        fits = each_kept (Fits r.log k) views j spent (each_kept (Fits r.log k) s.views i both r.fits fit)
            (fits_spent k r.log);
        counted = counted_joined (length r.log) s.views i j v w at at' r.counted;
        place = place_same history setting k r.log r.turn s.homes views j w spent at' (sym idle')
            (place_same history setting k r.log r.turn s.homes s.views i v both at refl r.place);
      }

-- a position stands as often in the one seat's list as in the lists of the two
pub mine_joined : {V E K : Type 0} (p : ℕ) (log : List E) (c : List (ℕ × Option V)) (v w : View E K)
    (m m' : Me (Option V) (View E K)) → m ≡ (joined v w, c) → m' ≡ (looks log m.0, m.1)
    → times p m'.0.mine ≡ times p v.mine + times p w.mine
mine_joined {V} {E} {K} p log c v w m m' joins sees =
    ap (λ (x : Me (Option V) (View E K)). times p x.0.mine) sees
    ∙ (ap (λ (x : Me (Option V) (View E K)). times p x.0.mine) joins ∙ times_merged p v.mine w.mine)
