-- The turn is taken and given up.
use Rattle.std.proofs.Common.{◌≡◌, ◌≢◌, ℕ, ◌==◌, List, [], ◌∷◌, length, get_or, set, Option, Some, refl, sym, ap, ◌∙◌}
use Rattle.std.proofs.Common.{subst, inl, inr, ⊎_elim, arith, Bool, true, false}
use Rattle.std.proofs.lemmas.Bool.Decides.{eqb_tells}
use mathlib.Core.Option.{some, none}
use mathlib.Core.Option as maybe
use mathlib.Core.List.{IsPrefix}
use lib.ListN.{get_elem?}
use prog.Atomic.{either}
use Rattle.atomic_table.specs.Table.{State, Me, step, Act, keeps, gives, takes, Valid, homes_after, carried_after}
use Rattle.atomic_table.specs.Table.{Allows}
use Rattle.turn_table.specs.declared.view.View.{View}
use Rattle.turn_table.specs.declared.view.TurnPhase.TheVariants.{Idle, Stored}
use Rattle.turn_table.specs.Positions.{RisesBelow}
use Rattle.turn_table.specs.Rule.{Fits, IsIdle, IsFree, IsTaken, IsKept}
use Rattle.turn_table.specs.Plays.{holds, rests, IsTurnTaken, IsTurnGiven, IsNothingTold}
use Rattle.turn_table.proofs.Views.{each_kept, each_again, counted_same, fits_holds, fits_rests, rises}
use Rattle.turn_table.proofs.Places.{HasIt, has_it, still_taken, place_same, unmoved}

not_zero : (n : ℕ) → n ≢ 0 → (n == 0) ≡ false
not_zero n taken = ⊎_elim (λ (zero : ((n == 0) ≡ true) × (n ≡ 0)). absurd (taken zero.1))
    (λ (other : ((n == 0) ≡ false) × (n ≢ 0)). other.0) (eqb_tells n 0)

module _ {V E K : Type 0} (history : V → List E) (setting : V → K) (k : K) where
  abbrev Rule : State (Option V) (View E K) → Type 0
  Rule = IsKept history setting k

  -- how a step on the turn word goes that makes it `to` where it is 0, from these words
  abbrev Goes : State (Option V) (View E K) → ℕ → ℕ → View E K → List (ℕ × Option V) → List ℕ → Type 0
  Goes s to i v c ws =
      (w : View E K) × (a : Act (Option V)) × Valid s.homes c a
      × Rule record {
        words = set ws 0 (either (get_or ws 0 0 == 0) to (get_or ws 0 0));
        homes = homes_after s.homes c a;
        views = set s.views i w;
      }
      × IsTurnTaken history setting (step 1 0 0 to none) (v, c) (get_or ws 0 0) (w, carried_after c a)

  -- the turn is free: it is taken, with the value
  take_free : (s : State (Option V) (View E K)) (r : Rule s) (to : ℕ) → to ≢ 0 → (i : ℕ) (v : View E K)
      (c : List (ℕ × Option V)) → v.setting ≡ Some k → get_elem? s.views i ≡ some v
      → IsFree history setting k r.log r.turn s.homes s.views
      → Goes s to i v c (0 ∷ length r.log ∷ [])
  take_free s r to set_to i v c is at free =
      let w : View E K = holds r.log v in
      let fit : Fits r.log k v = r.fits i v at in (
        w,
        takes 0 (Some free.value),
        ap (λ (h : List (maybe.Option (Option V))). get_elem? h 0) free.home,
        record {
          log = r.log;
          turn = to;
          words = refl;
          fits = each_kept (Fits r.log k) s.views i w r.fits (fits_holds k r.log v fit is);
          counted = counted_same (length r.log) s.views i v w at refl refl r.counted;
          place = inr (still_taken history setting k to (set s.homes 0 none) s.views i v w at (λ e. cc) record {
            turn_is = set_to;
            home = ap (λ (h : List (maybe.Option (Option V))). set h 0 none) free.home;
            others = λ j u n a. free.idle j u a;
          });
        },
        (
          (λ _. (
            free.value,
            ap (λ (l : List E). (holds l v, (0, Some free.value) ∷ c)) (sym free.stands_for),
            subst (IsPrefix v.seen) (sym free.stands_for) fit.seen,
            is ∙ ap Some (sym free.setting_is),
            subst (λ (l : List E). RisesBelow (length l) v.mine) (sym free.stands_for) (rises k r.log v fit),
          )),
          (λ busy. absurd (busy refl)),
        ),
      )

  -- some seat has the turn: nothing changes
  take_none : (s : State (Option V) (View E K)) (r : Rule s) (to i : ℕ) (v : View E K) (c : List (ℕ × Option V))
      → get_elem? s.views i ≡ some v → r.turn ≢ 0 → Goes s to i v c (r.turn ∷ length r.log ∷ [])
  take_none s r to i v c at busy = (
    v,
    keeps,
    tt,
    subst (λ (b : Bool).
        Rule record { words = either b to r.turn ∷ length r.log ∷ []; homes = s.homes; views = set s.views i v })
        (sym (not_zero r.turn busy)) (unmoved history setting k s r i v v at refl refl refl (r.fits i v at)),
    ((λ free. absurd (busy free)), (λ _. refl)),
  )

  pub take_allows : (slots to : ℕ) → to ≢ 0 → (i : ℕ) (v : View E K) (c : List (ℕ × Option V)) → v.setting ≡ Some k
      → Allows Rule slots i (v, c) 0 (λ n. either (n == 0) to n)
      (IsTurnTaken history setting (step slots 0 0 to none) (v, c))
  take_allows slots to set_to i v c is s r _ at _ =
      let Ready : ℕ → Type 0 = λ n. Goes s to i v c (n ∷ length r.log ∷ []) in
      subst (Goes s to i v c) (sym r.words) (⊎_elim
      (λ (free : IsFree history setting k r.log r.turn s.homes s.views).
      subst Ready (sym free.turn_is) (take_free s r to set_to i v c is at free))
      (λ (taken : IsTaken history setting k r.turn s.homes s.views).
      take_none s r to i v c at taken.turn_is)
      r.place)

  -- the turn word may become 2 where it is 1: somebody has the turn before and after
  asked : (s : State (Option V) (View E K)) (r : Rule s) (i : ℕ) (v : View E K) → get_elem? s.views i ≡ some v
      → Rule record {
        words = either (r.turn == 1) 2 r.turn ∷ length r.log ∷ [];
        homes = s.homes;
        views = set s.views i v;
      }
  asked s r i v at =
      let After : Bool → Type 0 = λ b.
      Rule record { words = either b 2 r.turn ∷ length r.log ∷ []; homes = s.homes; views = set s.views i v } in
      ⊎_elim
      (λ (one : ((r.turn == 1) ≡ true) × (r.turn ≡ 1)).
      subst After (sym one.0) record {
        log = r.log;
        turn = 2;
        words = refl;
        fits = each_kept (Fits r.log k) s.views i v r.fits (r.fits i v at);
        counted = counted_same (length r.log) s.views i v v at refl refl r.counted;
        place = place_same history setting k r.log 2 s.homes s.views i v v at refl (⊎_elim
            (λ (free : IsFree history setting k r.log r.turn s.homes s.views).
            absurd (let none = free.turn_is in let is = one.1 in omega arith))
            (λ (taken : IsTaken history setting k r.turn s.homes s.views). inr record {
              holder = taken.holder;
              holds = taken.holds;
              turn_is = λ e. cc;
              home = taken.home;
              at = taken.at;
              busy = taken.busy;
              others = taken.others;
            })
            r.place);
      })
      (λ (other : ((r.turn == 1) ≡ false) × (r.turn ≢ 1)).
      subst After (sym other.0) (unmoved history setting k s r i v v at refl refl refl (r.fits i v at)))
      (eqb_tells r.turn 1)

  pub ask_allows : (slots i : ℕ) (m : Me (Option V) (View E K))
      → Allows Rule slots i m 0 (λ n. either (n == 1) 2 n) (IsNothingTold (step slots 0 1 2 none) m)
  ask_allows slots i m s r _ at _ =
      let Goes : List ℕ → Type 0 = λ ws.
      (w : View E K) × (a : Act (Option V)) × Valid s.homes m.1 a
      × Rule record {
        words = set ws 0 (either (get_or ws 0 0 == 1) 2 (get_or ws 0 0));
        homes = homes_after s.homes m.1 a;
        views = set s.views i w;
      }
      × IsNothingTold (step slots 0 1 2 none) m (get_or ws 0 0) (w, carried_after m.1 a) in
      subst Goes (sym r.words) (m.0, keeps, tt, asked s r i m.0 at, refl)

  give_allows_of : (slots i : ℕ) (v : View E K) (b : V) → v.setting ≡ Some k → v.phase ≡ Stored → v.seen ≡ history b
      → setting b ≡ k
      → Allows Rule slots i (v, (0, Some b) ∷ []) 0 (λ _. 0)
      (IsTurnGiven (step slots 0 0 0 none) (v, (0, Some b) ∷ []))
  give_allows_of slots i v b is stored here set_is s r _ at _ =
      let busy : v.phase ≢ Idle = λ e. cc in
      let fit : Fits r.log k v = r.fits i v at in
      let w : View E K = rests v in
      let it : HasIt history setting k r.turn s.homes s.views i =
      has_it history setting k r.log r.turn s.homes s.views i v at busy r.place in
      let homes : List (maybe.Option (Option V)) = set s.homes 0 (some (Some b)) in
      let After : List ℕ → Type 0 = λ ws.
      Rule record { words = set ws 0 0; homes = homes; views = set s.views i w } in (
        w,
        gives,
        tt,
        subst After (sym r.words) record {
          log = r.log;
          turn = 0;
          words = refl;
          fits = each_kept (Fits r.log k) s.views i w r.fits (fits_rests k r.log v fit is);
          counted = counted_same (length r.log) s.views i v w at refl refl r.counted;
          place = inl record {
            value = b;
            turn_is = refl;
            home = ap (λ (h : List (maybe.Option (Option V))). set h 0 (some (Some b))) it.home;
            stands_for = sym here ∙ fit.current busy;
            setting_is = set_is;
            idle = each_again IsIdle s.views i w it.others refl;
          };
        },
        refl,
      )

  -- the same of a seat whose hand is known by an equation
  pub give_allows : (slots i : ℕ) (m : Me (Option V) (View E K)) (b : V) → m.1 ≡ (0, Some b) ∷ []
      → m.0.setting ≡ Some k → m.0.phase ≡ Stored → m.0.seen ≡ history b → setting b ≡ k
      → Allows Rule slots i m 0 (λ _. 0) (IsTurnGiven (step slots 0 0 0 none) m)
  give_allows slots i m b hand is stored here set_is =
      subst (λ (c : List (ℕ × Option V)).
      Allows Rule slots i (m.0, c) 0 (λ _. 0) (IsTurnGiven (step slots 0 0 0 none) (m.0, c)))
      (sym hand) (give_allows_of slots i m.0 b is stored here set_is)
