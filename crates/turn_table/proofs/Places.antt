-- Where the value is: at home, or out with one seat.
use Rattle.std.proofs.Common.{◌≡◌, ◌≢◌, ◌⊎◌, ℕ, List, [], ◌∷◌, ◌++◌, length, set, Option, refl, sym, ap, ◌∙◌, subst}
use Rattle.std.proofs.Common.{inl, inr, ⊎_elim}
use mathlib.Core.Logic.{dite}
use mathlib.Core.Option.{some, none, some-injective}
use mathlib.Core.Option as maybe
use native.Mathlib.Decide.{ℕ_discrete}
use lib.ListN.{get_elem?}
use Rattle.atomic_table.specs.Table.{State}
use Rattle.atomic_table.proofs.Lists.{at_set, set_else, at_longer}
use Rattle.turn_table.specs.declared.view.View.{View}
use Rattle.turn_table.specs.declared.view.TurnPhase.TheVariants.{Idle}
use Rattle.turn_table.specs.Rule.{Fits, IsIdle, EachOther, IsFree, IsTaken, IsKept}
use Rattle.turn_table.proofs.Views.{set_at, each_kept, each_push, other_set, other_push, counted_same}

module _ {V E K : Type 0} (history : V → List E) (setting : V → K) (k : K) where
  abbrev Homes : Type 0
  Homes = List (maybe.Option (Option V))

  abbrev Place : List E → ℕ → Homes → List (View E K) → Type 0
  Place log turn homes views =
      IsFree history setting k log turn homes views ⊎ IsTaken history setting k turn homes views

  -- what a seat that has the turn knows
  pub record HasIt (turn : ℕ) (homes : Homes) (views : List (View E K)) (i : ℕ) : Type 0 where
    pub turn_is : turn ≢ 0
    pub home : homes ≡ none ∷ []
    pub others : EachOther i IsIdle views

  pub has_it : (log : List E) (turn : ℕ) (homes : Homes) (views : List (View E K)) (i : ℕ) (v : View E K)
      → get_elem? views i ≡ some v → v.phase ≢ Idle → Place log turn homes views → HasIt turn homes views i
  has_it log turn homes views i v at busy place = ⊎_elim
      (λ (free : IsFree history setting k log turn homes views). absurd (busy (free.idle i v at)))
      (λ (taken : IsTaken history setting k turn homes views).
      let here : taken.holder ≡ i = dite (ℕ_discrete taken.holder i) (λ e. e)
      (λ ne. absurd (busy (taken.others i v (λ e. ne (sym e)) at))) in record {
        turn_is = taken.turn_is;
        home = taken.home;
        others = subst (λ (h : ℕ). EachOther h IsIdle views) here taken.others;
      })
      place

  -- the seat that has the turn keeps it
  pub still_taken : (turn : ℕ) (homes : Homes) (views : List (View E K)) (i : ℕ) (v w : View E K)
      → get_elem? views i ≡ some v → w.phase ≢ Idle → HasIt turn homes views i
      → IsTaken history setting k turn homes (set views i w)
  still_taken turn homes views i v w at busy it = record {
    holder = i;
    holds = w;
    turn_is = it.turn_is;
    home = it.home;
    at = set_at views i v w at;
    busy = busy;
    others = other_set IsIdle views i w it.others;
  }

  -- one view changes, but for its phase
  pub place_same : (log : List E) (turn : ℕ) (homes : Homes) (views : List (View E K)) (i : ℕ) (v w : View E K)
      → get_elem? views i ≡ some v → w.phase ≡ v.phase → Place log turn homes views
      → Place log turn homes (set views i w)
  place_same log turn homes views i v w at same place = ⊎_elim
      (λ (free : IsFree history setting k log turn homes views). inl record {
        value = free.value;
        turn_is = free.turn_is;
        home = free.home;
        stands_for = free.stands_for;
        setting_is = free.setting_is;
        idle = each_kept IsIdle views i w free.idle (same ∙ free.idle i v at);
      })
      (λ (taken : IsTaken history setting k turn homes views). inr (dite (ℕ_discrete taken.holder i)
      (λ e.
      let mine : taken.holds ≡ v =
      some-injective taken.holds v (sym taken.at ∙ (ap (λ (z : ℕ). get_elem? views z) e ∙ at)) in
      still_taken turn homes views i v w at
      (λ idle. taken.busy (ap (λ (u : View E K). u.phase) mine ∙ (sym same ∙ idle)))
      record {
        turn_is = taken.turn_is;
        home = taken.home;
        others = subst (λ (h : ℕ). EachOther h IsIdle views) e taken.others;
      })
      (λ ne. record {
        holder = taken.holder;
        holds = taken.holds;
        turn_is = taken.turn_is;
        home = taken.home;
        at = set_else views i taken.holder w ne ∙ taken.at;
        busy = taken.busy;
        others = λ j u n a. ⊎_elim
            (λ (here : (j ≡ i) × (w ≡ u)).
            ap (λ (x : View E K). x.phase) (sym here.1) ∙ (same ∙ taken.others i v (λ e. ne (sym e)) at))
            (λ (away : (j ≢ i) × (get_elem? views j ≡ some u)). taken.others j u n away.1)
            (at_set views i j w u a);
      })))
      place

  -- a view comes that has no turn
  pub place_push : (log : List E) (turn : ℕ) (homes : Homes) (views : List (View E K)) (x : View E K)
      → x.phase ≡ Idle → Place log turn homes views → Place log turn homes (views ++ x ∷ [])
  place_push log turn homes views x idle place = ⊎_elim
      (λ (free : IsFree history setting k log turn homes views). inl record {
        value = free.value;
        turn_is = free.turn_is;
        home = free.home;
        stands_for = free.stands_for;
        setting_is = free.setting_is;
        idle = each_push IsIdle views x free.idle idle;
      })
      (λ (taken : IsTaken history setting k turn homes views). inr record {
        holder = taken.holder;
        holds = taken.holds;
        turn_is = taken.turn_is;
        home = taken.home;
        at = at_longer views (x ∷ []) taken.holder taken.holds taken.at;
        busy = taken.busy;
        others = other_push IsIdle views x taken.holder taken.others idle;
      })
      place

  -- no word changes, and one view keeps its positions, its share and its phase
  pub unmoved : (s : State (Option V) (View E K)) (r : IsKept history setting k s) (i : ℕ) (v w : View E K)
      → get_elem? s.views i ≡ some v → w.mine ≡ v.mine → w.share ≡ v.share → w.phase ≡ v.phase → Fits r.log k w
      → IsKept history setting k
      record { words = r.turn ∷ length r.log ∷ []; homes = s.homes; views = set s.views i w }
  unmoved s r i v w at mine share phase fit = record {
    log = r.log;
    turn = r.turn;
    words = refl;
    fits = each_kept (Fits r.log k) s.views i w r.fits fit;
    counted = counted_same (length r.log) s.views i v w at mine share r.counted;
    place = place_same r.log r.turn s.homes s.views i v w at phase r.place;
  }
