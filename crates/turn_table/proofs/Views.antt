-- Views: each fits the history, and together they have its positions and all the shares.
use Rattle.std.proofs.Common.{◌≡◌, ◌≢◌, ℕ, zero, suc, ◌+◌, ◌-◌, ◌≤◌, nat_lt, Bool, true, false, if◌then◌else◌, List}
use Rattle.std.proofs.Common.{[], ◌∷◌, ◌++◌, length, set, Some, None, refl, sym, ap, ◌∙◌, subst, ⊎_elim, arith}
use Rattle.std.specs.List.{range_with_len, sum_by}
use Rattle.std.proofs.lemmas.Bool.Decides.{nat_tests}
use Rattle.std.proofs.lemmas.List.Elements.{All-nil, All-cons, All-append, All-weaker}
use Rattle.std.proofs.lemmas.List.Sums.{sum_by-append}
use Rattle.turn_table.specs.declared.view.TheConstants.{ALL_SHARES}
use mathlib.Core.Option.{some, some-injective, some-ne-none}
use mathlib.Core.List.{IsPrefix}
use lib.ListN.{get_elem?}
use base.Growing.{prefix_refl, prefix_trans}
use Rattle.atomic_table.proofs.Lists.{at_set, set_else, at_snoc}
use Rattle.list_laws.proofs.Lists.{prefix_length}
use Rattle.turn_table.specs.declared.view.View.{View}
use Rattle.turn_table.specs.declared.view.TurnPhase.TheVariants.{Idle}
use Rattle.turn_table.specs.Positions.{times, RisesBelow}
use Rattle.turn_table.specs.Rule.{first_view, spent, Fits, Each, EachOther, IsCounted}
use Rattle.turn_table.specs.Plays.{longer, holds, stores, rests, looks, kept_share, given_share, joined}
use Rattle.turn_table.proofs.Positions.{times_append, times_once, times_range, times_merged}
use Rattle.turn_table.proofs.Rising.{none_rises, all_rises, still_rises, longer_rises, is_range, merged_rises}
use Rattle.turn_table.proofs.Sums.{sum_set, two_within, sum_alone}

pub set_at : {A : Type 0} (l : List A) (i : ℕ) (v w : A) → get_elem? l i ≡ some v → get_elem? (set l i w) i ≡ some w
set_at [] i v w e = absurd (some-ne-none v (sym e))
set_at (x ∷ xs) zero v w e = refl
set_at (x ∷ xs) (suc i) v w e = set_at xs i v w e

-- the longer of two beginnings of the history
longer_begins : {E : Type 0} (log xs ys : List E) (b : Bool) → IsPrefix xs log → IsPrefix ys log
    → IsPrefix (if b then ys else xs) log
longer_begins log xs ys true p q = q
longer_begins log xs ys false p q = p

longer_by : {E : Type 0} (xs ys : List E) (b : Bool) → nat_lt (length xs) (length ys) ≡ b
    → (length xs ≤ length (if b then ys else xs)) × (length ys ≤ length (if b then ys else xs))
longer_by xs ys true is = let l : length xs ≤ length ys = grind (arith, nat_tests) in (l, omega arith)
longer_by xs ys false is = let l : length ys ≤ length xs = grind (arith, nat_tests) in (omega arith, l)

longer_long : {E : Type 0} (xs ys : List E)
    → (length xs ≤ length (longer xs ys)) × (length ys ≤ length (longer xs ys))
longer_long xs ys = longer_by xs ys (nat_lt (length xs) (length ys)) refl

module _ {E K : Type 0} where
  -- ---- a fact of each view

  -- one view changes, and the fact may change for the others
  pub each_set : (P Q : View E K → Type 0) (views : List (View E K)) (i : ℕ) (w : View E K) → Each P views → Q w
      → ((j : ℕ) (u : View E K) → j ≢ i → get_elem? views j ≡ some u → P u → Q u) → Each Q (set views i w)
  each_set P Q views i w all mine others j u at = ⊎_elim
      (λ (here : (j ≡ i) × (w ≡ u)). subst Q here.1 mine)
      (λ (away : (j ≢ i) × (get_elem? views j ≡ some u)). others j u away.0 away.1 (all j u away.1))
      (at_set views i j w u at)

  -- one view changes, and the others keep the fact
  pub each_kept : (P : View E K → Type 0) (views : List (View E K)) (i : ℕ) (w : View E K) → Each P views → P w
      → Each P (set views i w)
  each_kept P views i w all mine = each_set P P views i w all mine (λ j u n at holds. holds)

  pub each_push : (P : View E K → Type 0) (views : List (View E K)) (x : View E K) → Each P views → P x
      → Each P (views ++ x ∷ [])
  each_push P views x all mine j u at = ⊎_elim
      (λ (old : get_elem? views j ≡ some u). all j u old)
      (λ (new : x ≡ u). subst P new mine)
      (at_snoc views x u j at)

  pub each_one : (P : View E K → Type 0) (v : View E K) → P v → Each P (v ∷ [])
  each_one P v holds zero u e = subst P (some-injective v u e) holds
  each_one P v holds (suc j) u e = absurd (some-ne-none u (sym e))

  pub other_set : (P : View E K → Type 0) (views : List (View E K)) (i : ℕ) (w : View E K) → EachOther i P views
      → EachOther i P (set views i w)
  other_set P views i w all j u n at = all j u n (sym (set_else views i j w n) ∙ at)

  pub other_push : (P : View E K → Type 0) (views : List (View E K)) (x : View E K) (i : ℕ) → EachOther i P views
      → P x → EachOther i P (views ++ x ∷ [])
  other_push P views x i all mine j u n at = ⊎_elim
      (λ (old : get_elem? views j ≡ some u). all j u n old)
      (λ (new : x ≡ u). subst P new mine)
      (at_snoc views x u j at)

  -- the one that was left out has the fact too
  pub each_again : (P : View E K → Type 0) (views : List (View E K)) (i : ℕ) (w : View E K) → EachOther i P views
      → P w → Each P (set views i w)
  each_again P views i w all mine j u at = ⊎_elim
      (λ (here : (j ≡ i) × (w ≡ u)). subst P here.1 mine)
      (λ (away : (j ≢ i) × (get_elem? views j ≡ some u)). all j u away.0 away.1)
      (at_set views i j w u at)

  -- ---- a view that fits

  module _ (k : K) (log : List E) (v : View E K) (fit : Fits log k v) where
    -- a view with a setting is not spent
    pub not_spent : {P : Type 0} → v.setting ≡ Some k → v.share ≡ 0 → P
    not_spent is none =
        let lost : v.setting ≡ None = ap (λ (u : View E K). u.setting) (fit.left none) in absurd cc

    pub rises : RisesBelow (length log) v.mine
    rises = still_rises (length v.seen) (length log) v.mine fit.mine (prefix_length v.seen log fit.seen)

    -- all of the history is seen
    pub fits_holds : v.setting ≡ Some k → Fits log k (holds log v)
    fits_holds is = record {
      seen = prefix_refl log;
      earlier = fit.earlier;
      current = λ _. refl;
      mine = rises;
      left = λ none. not_spent is none;
      setting = λ _. is;
    }

    pub fits_looks : v.setting ≡ Some k → Fits log k (looks log v)
    fits_looks is = record {
      seen = prefix_refl log;
      earlier = All-nil (λ old. IsPrefix old log);
      current = λ _. refl;
      mine = rises;
      left = λ none. not_spent is none;
      setting = λ _. is;
    }

    -- the turn is given up
    pub fits_rests : v.setting ≡ Some k → Fits log k (rests v)
    fits_rests is = record {
      seen = fit.seen;
      earlier = fit.earlier;
      current = λ busy. absurd (busy refl);
      mine = fit.mine;
      left = λ none. not_spent is none;
      setting = λ _. is;
    }

    -- the history grows, and the seat has no turn
    pub fits_more : (more : List E) → IsPrefix log more → v.phase ≡ Idle → Fits more k v
    fits_more more p idle = record {
      seen = prefix_trans v.seen log more fit.seen p;
      earlier = All-weaker (λ old. IsPrefix old log) (λ old. IsPrefix old more)
          (λ old q. prefix_trans old log more q p) v.earlier fit.earlier;
      current = λ busy. absurd (busy idle);
      mine = fit.mine;
      left = fit.left;
      setting = fit.setting;
    }

    -- the history grows by what the seat adds
    pub fits_stores : (more : List E) → v.setting ≡ Some k → v.seen ≡ log → IsPrefix log more
        → Fits more k (stores more v)
    fits_stores more is same p = record {
      seen = prefix_refl more;
      earlier = All-weaker (λ old. IsPrefix old log) (λ old. IsPrefix old more)
          (λ old q. prefix_trans old log more q p) v.earlier fit.earlier;
      current = λ _. refl;
      mine = longer_rises (length v.seen) (length more) v.mine fit.mine
          (let n = prefix_length log more p in let here = ap length same in omega arith);
      left = λ none. not_spent is none;
      setting = λ _. is;
    }

    -- one share is given away
    pub fits_kept : v.setting ≡ Some k → 2 ≤ v.share → Fits log k (kept_share v)
    fits_kept is room = record {
      seen = fit.seen;
      earlier = fit.earlier;
      current = fit.current;
      mine = fit.mine;
      left = λ none. absurd (omega arith);
      setting = λ _. is;
    }

    pub fits_given : v.setting ≡ Some k → Fits log k (given_share v)
    fits_given is = record {
      seen = fit.seen;
      earlier = All-nil (λ old. IsPrefix old log);
      current = λ busy. absurd (busy refl);
      mine = none_rises (length v.seen);
      left = λ none. absurd (omega arith);
      setting = λ _. is;
    }

    -- another seat is taken in
    pub fits_joined : (w : View E K) → Fits log k w → v.setting ≡ Some k → v.phase ≡ Idle
        → ((p : ℕ) → times p v.mine + times p w.mine ≤ 1) → Fits log k (joined v w)
    fits_joined w other is idle once =
        let long = longer_long v.seen w.seen in
        let n = length (longer v.seen w.seen) in record {
          seen = longer_begins log v.seen w.seen (nat_lt (length v.seen) (length w.seen)) fit.seen other.seen;
          earlier = All-cons (λ old. IsPrefix old log) v.seen (w.seen ∷ (v.earlier ++ w.earlier)) fit.seen
              (All-cons (λ old. IsPrefix old log) w.seen (v.earlier ++ w.earlier) other.seen
              (All-append (λ old. IsPrefix old log) v.earlier w.earlier fit.earlier other.earlier));
          current = λ busy. absurd (busy idle);
          mine = merged_rises n v.mine w.mine (still_rises (length v.seen) n v.mine fit.mine long.0)
              (still_rises (length w.seen) n w.mine other.mine long.1) once;
          left = λ none. not_spent is (omega arith);
          setting = λ _. is;
        }

  pub fits_spent : (k : K) (log : List E) → Fits log k spent
  fits_spent k log = record {
    seen = (log, refl);
    earlier = All-nil (λ old. IsPrefix old log);
    current = λ busy. absurd (busy refl);
    mine = none_rises 0;
    left = λ _. refl;
    setting = λ some_share. absurd (omega arith);
  }

  pub fits_first : (k : K) (log : List E) → Fits log k (first_view log k)
  fits_first k log = record {
    seen = prefix_refl log;
    earlier = All-nil (λ old. IsPrefix old log);
    current = λ busy. absurd (busy refl);
    mine = all_rises (length log);
    left = λ none. absurd (omega arith);
    setting = λ _. refl;
  }

  pub first_rises : (k : K) (log : List E) (v : View E K) → v ≡ first_view log k → RisesBelow (length v.seen) v.mine
  first_rises k log v first =
      subst (λ (u : View E K). RisesBelow (length u.seen) u.mine) (sym first) (all_rises (length log))

  -- ---- what the views have together

  -- how often p stands among the positions of a view
  abbrev own : ℕ → View E K → ℕ
  own p v = times p v.mine

  abbrev part : View E K → ℕ
  part v = v.share

  sum_same : (f : View E K → ℕ) (views : List (View E K)) (i : ℕ) (v w : View E K) → get_elem? views i ≡ some v
      → f w ≡ f v → sum_by f (set views i w) ≡ sum_by f views
  sum_same f views i v w at e = let h = sum_set f views i v w at in omega arith

  -- a view changes, but for its positions and its share
  pub counted_same : (n : ℕ) (views : List (View E K)) (i : ℕ) (v w : View E K) → get_elem? views i ≡ some v
      → w.mine ≡ v.mine → w.share ≡ v.share → IsCounted n views → IsCounted n (set views i w)
  counted_same n views i v w at mine share c = record {
    positions = λ p. sum_same (own p) views i v w at (ap (times p) mine) ∙ c.positions p;
    shares = sum_same part views i v w at share ∙ c.shares;
  }

  -- the history grows, and one view has the new positions
  pub counted_more : (m n : ℕ) (views : List (View E K)) (i : ℕ) (v w : View E K) → get_elem? views i ≡ some v
      → m ≤ n → w.mine ≡ v.mine ++ range_with_len m (n - m) → w.share ≡ v.share → IsCounted m views
      → IsCounted n (set views i w)
  counted_more m n views i v w at l mine share c = record {
    positions = λ p.
        let sums = sum_set (own p) views i v w at in
        let gained = ap (times p) mine ∙ times_append p v.mine (range_with_len m (n - m)) in
        let before = c.positions p in
        let range = times_range p m n l in omega arith;
    shares = sum_same part views i v w at share ∙ c.shares;
  }

  pub counted_split : (n : ℕ) (views : List (View E K)) (i : ℕ) (v : View E K) → get_elem? views i ≡ some v
      → 2 ≤ v.share → IsCounted n views → IsCounted n (set views i (kept_share v) ++ given_share v ∷ [])
  counted_split n views i v at room c = record {
    positions = λ p.
        let pushed = sum_by-append (own p) (set views i (kept_share v)) (given_share v ∷ []) in
        let kept = sum_same (own p) views i v (kept_share v) at refl in
        let before = c.positions p in omega arith;
    shares =
        let pushed = sum_by-append part (set views i (kept_share v)) (given_share v ∷ []) in
        let kept = sum_set part views i v (kept_share v) at in
        let before = c.shares in omega arith;
  }

  pub counted_joined : (n : ℕ) (views : List (View E K)) (i j : ℕ) (v w : View E K) → get_elem? views i ≡ some v
      → get_elem? (set views i (joined v w)) j ≡ some w → IsCounted n views
      → IsCounted n (set (set views i (joined v w)) j spent)
  counted_joined n views i j v w at at' c =
      let sums : (f : View E K → ℕ) → f (joined v w) ≡ f v + f w → f spent ≡ 0
      → sum_by f (set (set views i (joined v w)) j spent) ≡ sum_by f views = λ f both none.
      let first = sum_set f views i v (joined v w) at in
      let second = sum_set f (set views i (joined v w)) j w spent at' in omega arith in record {
        positions = λ p. sums (own p) (times_merged p v.mine w.mine) refl ∙ c.positions p;
        shares = sums part refl refl ∙ c.shares;
      }

  pub counted_first : (k : K) (log : List E) → IsCounted (length log) (first_view log k ∷ [])
  counted_first k log = record { positions = λ p. omega arith; shares = omega arith }

  -- two views share no position
  pub apart : (n : ℕ) (views : List (View E K)) (i j : ℕ) (v w : View E K) → j ≢ i → get_elem? views i ≡ some v
      → get_elem? views j ≡ some w → IsCounted n views → (p : ℕ) → times p v.mine + times p w.mine ≤ 1
  apart n views i j v w ne at at' c p =
      let both = two_within (own p) views i j v w ne at at' in
      let all = c.positions p in
      let once = times_once p 0 n in omega arith

  -- where one view has all the shares, every other is spent, and it has all positions
  module _ (k : K) (log : List E) (views : List (View E K)) (i : ℕ) (v : View E K) (at : get_elem? views i ≡ some v)
      (fits : Each (Fits log k) views) (c : IsCounted (length log) views) (last : v.share ≡ ALL_SHARES) where
    pub others_spent : (j : ℕ) (u : View E K) → j ≢ i → get_elem? views j ≡ some u → u ≡ spent
    others_spent j u ne a =
        let both = two_within part views i j v u ne at a in
        let all = c.shares in (fits j u a).left (omega arith)

    pub has_all : v.mine ≡ range_with_len 0 (length log)
    has_all = is_range (length log) v.mine (rises k log v (fits i v at)) (λ p.
        sym (sum_alone (own p) views i v at (λ j u ne a. ap (own p) (others_spent j u ne a))) ∙ c.positions p)
