-- The count is stored and loaded.
use Rattle.std.proofs.Common.{◌≡◌, ◌≢◌, ℕ, ◌-◌, List, [], ◌∷◌, ◌++◌, length, get_or, set, Option, Some, refl, sym, ap}
use Rattle.std.proofs.Common.{subst, inr}
use Rattle.std.specs.List.{range_with_len}
use mathlib.Core.Option.{some, none}
use mathlib.Core.List.{IsPrefix}
use lib.ListN.{get_elem?}
use Rattle.atomic_table.specs.Table.{State, Me, step, Act, keeps, Valid, homes_after, carried_after, Allows}
use Rattle.turn_table.specs.declared.view.View.{View}
use Rattle.turn_table.specs.declared.view.TurnPhase.TheVariants.{Idle, Holding}
use Rattle.turn_table.specs.Positions.{RisesBelow}
use Rattle.turn_table.specs.Rule.{Fits, IsKept}
use Rattle.turn_table.specs.Plays.{stores, looks, IsCountStored, IsCountSeen}
use Rattle.list_laws.proofs.Lists.{prefix_length}
use Rattle.turn_table.proofs.Views.{each_set, counted_more, fits_more, fits_stores, fits_looks, rises}
use Rattle.turn_table.proofs.Places.{HasIt, has_it, still_taken, unmoved}

in_hand : {V : Type 0} (b x : V) (c : List (ℕ × Option V)) → (0, Some b) ∷ c ≡ (0, Some x) ∷ [] → b ≡ x
in_hand {V} b x c e =
    let first : ◌≡◌ {A = ℕ × Option V} (0, Some b) (0, Some x) = cc in
    let content : Some b ≡ Some x = ap (λ (z : ℕ × Option V). z.1) first in cc

module _ {V E K : Type 0} (history : V → List E) (setting : V → K) (k : K) where
  abbrev Rule : State (Option V) (View E K) → Type 0
  Rule = IsKept history setting k

  -- the history grows to more, which begins with it
  grows : (s : State (Option V) (View E K)) (r : Rule s) (i : ℕ) (v : View E K) (more : List E)
      → get_elem? s.views i ≡ some v → v.setting ≡ Some k → v.phase ≢ Idle → v.seen ≡ r.log → IsPrefix r.log more
      → Rule record { words = r.turn ∷ length more ∷ []; homes = s.homes; views = set s.views i (stores more v) }
  grows s r i v more at is busy same p =
      let w : View E K = stores more v in
      let it : HasIt history setting k r.turn s.homes s.views i =
      has_it history setting k r.log r.turn s.homes s.views i v at busy r.place in
      let gained : w.mine ≡ v.mine ++ range_with_len (length r.log) (length more - length r.log) =
      ap (λ (l : List E). v.mine ++ range_with_len (length l) (length more - length l)) same in record {
        log = more;
        turn = r.turn;
        words = refl;
        fits = each_set (Fits r.log k) (Fits more k) s.views i w r.fits
            (fits_stores k r.log v (r.fits i v at) more is same p)
            (λ j u n a fit. fits_more k r.log u fit more p (it.others j u n a));
        counted = counted_more (length r.log) (length more) s.views i v w at (prefix_length r.log more p) gained refl
            r.counted;
        place = inr (still_taken history setting k r.turn s.homes s.views i v w at (λ e. cc) it);
      }

  store_allows_of : (slots i n : ℕ) (v : View E K) (b : V) (c : List (ℕ × Option V)) → v.setting ≡ Some k
      → v.phase ≡ Holding → IsPrefix v.seen (history b) → length (history b) ≡ n
      → Allows Rule slots i (v, (0, Some b) ∷ c) 1 (λ _. n)
      (λ _. IsCountStored history (step slots 1 n 0 none) (v, (0, Some b) ∷ c) n)
  store_allows_of slots i n v b c is holding later count s r _ at _ =
      let busy : v.phase ≢ Idle = λ e. cc in
      let more : List E = history b in
      let same : v.seen ≡ r.log = (r.fits i v at).current busy in
      let p : IsPrefix r.log more = subst (λ (l : List E). IsPrefix l more) same later in
      let w : View E K = stores more v in
      let After : List ℕ → Type 0 = λ ws. Rule record { words = ws; homes = s.homes; views = set s.views i w } in
      let fit : Fits more k w = fits_stores k r.log v (r.fits i v at) more is same p in
      let Tells : V → Type 0 = λ x.
      ◌≡◌ {A = Me (Option V) (View E K)} (w, (0, Some b) ∷ c) (stores (history x) v, (0, Some b) ∷ c)
      × RisesBelow (length (history x)) w.mine in (
        w,
        keeps,
        tt,
        subst (λ (ws : List ℕ). After (set ws 1 n)) (sym r.words)
            (subst (λ (z : ℕ). After (r.turn ∷ z ∷ [])) count (grows s r i v more at is busy same p)),
        (λ x e. subst Tells (in_hand b x c e) (refl, fit.mine)),
      )

  -- the same of a seat whose hand is known by an equation
  pub store_allows : (slots i n : ℕ) (m : Me (Option V) (View E K)) (b : V) → m.1 ≡ (0, Some b) ∷ []
      → m.0.setting ≡ Some k → m.0.phase ≡ Holding → IsPrefix m.0.seen (history b) → length (history b) ≡ n
      → Allows Rule slots i m 1 (λ _. n) (λ _. IsCountStored history (step slots 1 n 0 none) m n)
  store_allows slots i n m b hand is holding later count =
      subst (λ (c : List (ℕ × Option V)).
      Allows Rule slots i (m.0, c) 1 (λ _. n) (λ _. IsCountStored history (step slots 1 n 0 none) (m.0, c) n))
      (sym hand) (store_allows_of slots i n m.0 b [] is holding later count)

  pub load_allows : (slots i : ℕ) (v : View E K) (c : List (ℕ × Option V)) → v.setting ≡ Some k
      → Allows Rule slots i (v, c) 1 (λ n. n) (IsCountSeen (step slots 1 0 0 none) (v, c))
  load_allows slots i v c is s r _ at _ =
      let w : View E K = looks r.log v in
      let fit : Fits r.log k v = r.fits i v at in
      let Goes : List ℕ → Type 0 = λ ws.
      (w : View E K) × (a : Act (Option V)) × Valid s.homes c a
      × Rule record { words = set ws 1 (get_or ws 1 0); homes = homes_after s.homes c a; views = set s.views i w }
      × IsCountSeen (step slots 1 0 0 none) (v, c) (get_or ws 1 0) (w, carried_after c a) in
      subst Goes (sym r.words) (
        w,
        keeps,
        tt,
        unmoved history setting k s r i v w at refl refl refl (fits_looks k r.log v fit is),
        (r.log, refl, refl, fit.seen, fit.earlier, rises k r.log v fit),
      )
