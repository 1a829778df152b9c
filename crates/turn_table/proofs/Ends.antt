-- The table as it is made, and as it is closed.
use Rattle.std.proofs.Common.{◌≡◌, ℕ, List, [], ◌∷◌, length, Option, Some, refl, sym, ap, ◌∙◌, subst, inl, ⊎_elim}
use Rattle.std.specs.List.{range_with_len}
use Rattle.turn_table.specs.declared.view.TheConstants.{ALL_SHARES}
use mathlib.Core.Logic.{dite}
use mathlib.Core.Option.{some, some-injective}
use mathlib.Core.Option as maybe
use mathlib.Core.List.{IsPrefix}
use native.Mathlib.Decide.{ℕ_discrete}
use lib.ListN.{get_elem?}
use Rattle.atomic_table.specs.Table.{State, opening, Final, Seen}
use Rattle.turn_table.specs.declared.view.View.{View}
use Rattle.turn_table.specs.declared.view.TurnPhase.TheVariants.{Idle}
use Rattle.turn_table.specs.Rule.{first_view, Fits, IsIdle, IsFree, IsTaken, IsKept}
use Rattle.turn_table.proofs.Views.{each_one, fits_first, counted_first, others_spent, has_all}

module _ {V E K : Type 0} (history : V → List E) (setting : V → K) where
  opens_at : (b : V) → IsKept history setting (setting b)
      (opening (0 ∷ length (history b) ∷ []) (Some b ∷ []) (first_view (history b) (setting b)))
  opens_at b =
      let log : List E = history b in
      let v : View E K = first_view log (setting b) in record {
        log = log;
        turn = 0;
        words = refl;
        fits = each_one (Fits log (setting b)) v (fits_first (setting b) log);
        counted = counted_first (setting b) log;
        place = inl record {
          value = b;
          turn_is = refl;
          home = refl;
          stands_for = refl;
          setting_is = refl;
          idle = each_one IsIdle v refl;
        };
      }

  -- a is the value as the snapshot has it, b the value in the slot
  pub opens : (a b : V) (n : ℕ) (slots : List (Option V)) → a ≡ b → slots ≡ Some b ∷ [] → n ≡ length (history b)
      → IsKept history setting (setting a) (opening (0 ∷ n ∷ []) slots (first_view (history a) (setting a)))
  opens a b n slots same e count =
      let Opens : ℕ → List (Option V) → Type 0 = λ n xs.
      IsKept history setting (setting a) (opening (0 ∷ n ∷ []) xs (first_view (history a) (setting a))) in
      subst (Opens n) (sym e) (subst (λ (m : ℕ). Opens m (Some b ∷ [])) (sym count)
      (subst (λ (x : V). Opens (length (history x)) (Some x ∷ [])) same (opens_at a)))

module _ {V E K : Type 0} (history : V → List E) (setting : V → K) (k : K) where
  abbrev Rule : State (Option V) (View E K) → Type 0
  Rule = IsKept history setting k

  -- what the last seat knows of the value
  pub record IsLast (v : View E K) (b : V) : Type 0 where
    pub later : IsPrefix v.seen (history b)
    pub setting_is : setting b ≡ k
    pub mine : v.mine ≡ range_with_len 0 (length (history b))

  -- the last seat has no turn, so the value is at home
  at_home : (s : State (Option V) (View E K)) (i : ℕ) (v : View E K) → Seen Rule i v s → v.share ≡ ALL_SHARES
      → v.phase ≡ Idle → (b : V) × (get_elem? s.homes 0 ≡ some (some (Some b))) × IsLast v b
  at_home s i v found last idle =
      let r : Rule s = found.0 in
      let at : get_elem? s.views i ≡ some v = found.1 in
      ⊎_elim
      (λ (free : IsFree history setting k r.log r.turn s.homes s.views). (
        free.value,
        ap (λ (h : List (maybe.Option (Option V))). get_elem? h 0) free.home,
        record {
          later = subst (IsPrefix v.seen) (sym free.stands_for) (r.fits i v at).seen;
          setting_is = free.setting_is;
          mine = has_all k r.log s.views i v at r.fits r.counted last
              ∙ ap (λ (l : List E). range_with_len 0 (length l)) (sym free.stands_for);
        },
      ))
      (λ (taken : IsTaken history setting k r.turn s.homes s.views). absurd (dite (ℕ_discrete taken.holder i)
      (λ e.
      let mine : taken.holds ≡ v =
      some-injective taken.holds v (sym taken.at ∙ (ap (λ (z : ℕ). get_elem? s.views z) e ∙ at)) in
      taken.busy (ap (λ (u : View E K). u.phase) mine ∙ idle))
      (λ ne. taken.busy (ap (λ (u : View E K). u.phase)
      (others_spent k r.log s.views i v at r.fits r.counted last taken.holder taken.holds ne taken.at)))))
      r.place

  -- what is in the slot at the end
  pub closes : (ws : List ℕ) (slots : List (Option V)) (i : ℕ) (v : View E K) (o : Option V)
      → Final (Seen Rule i v) ws slots → v.share ≡ ALL_SHARES → v.phase ≡ Idle → get_elem? slots 0 ≡ some o
      → (b : V) × (o ≡ Some b) × IsLast v b
  closes ws slots i v o final last idle at =
      let h = at_home final.0 i v final.1 last idle in
      let there : get_elem? slots 0 ≡ some (Some h.0) = final.4 0 (Some h.0) h.1 in
      (h.0, some-injective o (Some h.0) (sym at ∙ there), h.2)

  pub closes_with : (ws : List ℕ) (slots : List (Option V)) (i : ℕ) (v : View E K) (o : Option V) (b : V)
      → Final (Seen Rule i v) ws slots → v.share ≡ ALL_SHARES → v.phase ≡ Idle → get_elem? slots 0 ≡ some o → o ≡ Some b
      → IsLast v b
  closes_with ws slots i v o b final last idle at is =
      let h = closes ws slots i v o final last idle at in
      let same : h.0 ≡ b = let e = h.1 in cc in subst (IsLast v) same h.2
