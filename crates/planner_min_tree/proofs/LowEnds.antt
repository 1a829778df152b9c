-- The last moment of a window at which less than so much is free, by the points.
use Rattle.std.proofs.Common.{◌≡◌, ℕ, suc, ◌+◌, ◌-◌, ◌<◌, ◌≤◌, List, [], ◌∷◌, sym, ◌∙◌, arith, inl, inr, Some}
use Rattle.std.proofs.Common.{None, Option, refl}
use Rattle.std.specs.Prelude.{IfSome}
use Rattle.std.proofs.lemmas.Bool.{cases_lt}
use Rattle.flux_defs.specs.declared.claims.Window.{Window}
use Rattle.flux_defs.proofs.DigitLaws.{if_le, if_gt}
use Rattle.planner_points.specs.declared.spans.Span.{Span}
use Rattle.planner_points.specs.Spans.{HasRoom, IsLastBelow}
use Rattle.planner_min_tree.specs.declared.points.Point.{Point}
use Rattle.planner_min_tree.specs.Chunks.{Each}
use Rattle.planner_min_tree.specs.Points.{past, value_at, low_to, low_end}
use Rattle.planner_min_tree.specs.Marks.{IsRising, Marks}
use Rattle.planner_min_tree.proofs.Lows.{or_neither, or_one, low_less, low_much}

-- right before the one moment the number is less, and from it on up to the other it is so much
pub record IsLowEnd (ps : List Point) (x to q end : ℕ) : Type 0 where
  pub within : end ≤ to
  pub less : (u : ℕ) → u + 1 ≡ end → value_at u ps x < q
  pub much : (u : ℕ) → end ≤ u → u < to → q ≤ value_at u ps x

-- behind a moment that is before all points the stretch ends later
end_later : (m to q : ℕ) (ps : List Point) (x end : ℕ) → Each (λ p. m < p.time) ps → m < to →
    low_end to q ps x ≡ Some end → m < end
end_later m to q [] x end later lt e = let is = low_less to q x end e in omega (arith, is.1)
end_later m to q (p ∷ ps) x end later lt e =
    elim (cases_lt p.time to) [
      | inl early ↦ elim (or_one (low_end to q ps (past p x)) (low_to p.time q x) end
          (sym (if_le {a = suc p.time} {b = to} _ _ early) ∙ e)) [
            | inl f ↦ end_later m to q ps (past p x) end later.1 lt f
            | inr f ↦ (let is = low_less p.time q x end f.1 in omega (arith, is.1, later.0))
          ]
      | inr late ↦ (
          let is = low_less to q x end (sym (if_gt {a = suc p.time} {b = to} _ _ (omega arith)) ∙ e) in
          omega (arith, is.1))
    ]

much_always : (to q : ℕ) (ps : List Point) (x : ℕ) → low_end to q ps x ≡ None → (u : ℕ) → u < to →
    q ≤ value_at u ps x
much_always to q [] x e u hi = low_much to q x e
much_always to q (p ∷ ps) x e u hi =
    let before : u < p.time → value_at u (p ∷ ps) x ≡ x = λ h. if_gt {a = p.time} {b = u} _ _ h in
    elim (cases_lt p.time to) [
      | inl early ↦ (
          let neither = or_neither (low_end to q ps (past p x)) (low_to p.time q x)
          (sym (if_le {a = suc p.time} {b = to} _ _ early) ∙ e) in
          elim (cases_lt u p.time) [
            | inl lt ↦ omega (arith, before lt, low_much p.time q x neither.1)
            | inr ge ↦ (let v : value_at u (p ∷ ps) x ≡ value_at u ps (past p x)
                = if_le {a = p.time} {b = u} _ _ ge in
                omega (arith, v, much_always to q ps (past p x) neither.0 u hi))
          ])
      | inr late ↦ omega (
        arith,
        before (omega arith),
        low_much to q x (sym (if_gt {a = suc p.time} {b = to} _ _ (omega arith)) ∙ e),
      )
    ]

end_is : (to q : ℕ) (ps : List Point) (x end : ℕ) → IsRising ps → low_end to q ps x ≡ Some end →
    IsLowEnd ps x to q end
end_is to q [] x end rise e =
    let is = low_less to q x end e in
    record {
      within = omega (arith, is.1);
      less = λ u h. is.0;
      much = λ u lo hi. absurd (omega (arith, is.1));
    }
end_is to q (p ∷ ps) x end rise e =
    let before : (u : ℕ) → u < p.time → value_at u (p ∷ ps) x ≡ x = λ u h. if_gt {a = p.time} {b = u} _ _ h in
    let on : (u : ℕ) → p.time ≤ u → value_at u (p ∷ ps) x ≡ value_at u ps (past p x)
    = λ u h. if_le {a = p.time} {b = u} _ _ h in
    elim (cases_lt p.time to) [
      | inl early ↦ elim (or_one (low_end to q ps (past p x)) (low_to p.time q x) end
          (sym (if_le {a = suc p.time} {b = to} _ _ early) ∙ e)) [
            | inl f ↦ (
                let ih = end_is to q ps (past p x) end rise.1 f in
                let later = end_later p.time to q ps (past p x) end rise.0 early f in
                record {
                  within = ih.within;
                  less = λ u h. omega (arith, on u (omega arith), ih.less u h);
                  much = λ u lo hi. omega (arith, on u (omega arith), ih.much u lo hi);
                })
            | inr f ↦ (
                let is = low_less p.time q x end f.1 in
                record {
                  within = omega (arith, is.1);
                  less = λ u h. omega (arith, before u (omega (arith, is.1)), is.0);
                  much = λ u lo hi. omega (
                    arith,
                    on u (omega (arith, is.1)),
                    much_always to q ps (past p x) f.0 u hi,
                  );
                })
          ]
      | inr late ↦ (
          let is = low_less to q x end (sym (if_gt {a = suc p.time} {b = to} _ _ (omega arith)) ∙ e) in
          record {
            within = omega (arith, is.1);
            less = λ u h. omega (arith, before u (omega (arith, is.1)), is.0);
            much = λ u lo hi. absurd (omega (arith, is.1));
          })
    ]

-- and of a planner's points
module _ (total : ℕ) (points : List Point) (spans : List Span) (marks : Marks total points spans) (w : Window)
    (q : ℕ) where
  pub room_always : low_end w.to q points total ≡ None → HasRoom total spans w q
  room_always e = λ m a b. (let f = marks.free m in let l = much_always w.to q points total e m b in omega arith)

  module _ (end : ℕ) (e : low_end w.to q points total ≡ Some end) where
    there : IsLowEnd points total w.to q end
    there = end_is w.to q points total end marks.tallies.rising e

    pub room_after : end ≤ w.from → HasRoom total spans w q
    room_after early = λ m a b. (let f = marks.free m in let l = there.much m (omega arith) b in omega arith)

    pub last_there : w.from < end → IsLastBelow total spans w q (end - 1)
    last_there late = record {
      later = omega arith;
      sooner = let l = there.within in omega arith;
      less = let f = marks.free (end - 1) in let l = there.less (end - 1) (omega arith) in omega arith;
      last = λ u a b. (let f = marks.free u in let l = there.much u (omega arith) b in omega arith);
    }

  -- no such stretch ends behind the window's start
  pub room_before : IfSome (low_end w.to q points total) (λ end. end ≤ w.from) → HasRoom total spans w q
  room_before h = go (low_end w.to q points total) refl h
    where
      go : (o : Option ℕ) → low_end w.to q points total ≡ o → IfSome o (λ end. end ≤ w.from) → HasRoom total spans w q
      go None e h = room_always e
      go (Some end) e h = room_after end e h
