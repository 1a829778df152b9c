-- What the next stretches of time tell, and how the points go on with them.
use Rattle.std.proofs.Common.{◌≡◌, ℕ, ◌-◌, ◌^◌, ◌+◌, ◌<◌, ◌≤◌, ◌⊎◌, nat_le, Bool, true, false, List, [], ◌∷◌, ◌++◌, ◌∙◌}
use Rattle.std.proofs.Common.{append-nil, sym, refl, ap, subst, arith, inl, inr, MatchBool, length, take, drop}
use Rattle.std.proofs.Common.{slice_index_or}
use Rattle.std.proofs.Math.Seq.{take-length}
use Rattle.std.specs.Prelude.{Option, Some, None, IfSome}
use Rattle.std.proofs.lemmas.Bool.{cases_lt}
use Rattle.std.proofs.lemmas.Bool.Decides.{nat_tests}
use Rattle.flux_defs.specs.Jobs.{EachMoment, SomeMoment}
use Rattle.flux_defs.specs.declared.claims.Window.{Window}
use Rattle.flux_defs.proofs.DigitLaws.{if_le, if_gt}
use Rattle.planner_points.proofs.Starts.{same_free}
use Rattle.planner_points.specs.declared.spans.Span.{Span}
use Rattle.planner_points.specs.Spans.{free_at, HasRoom, IsLeastFree, IsEnd, IsFirstFree}
use Rattle.planner_min_tree.specs.Points.{past, Runs, value_at, latest_of, need_of, rest_of}
use Rattle.planner_min_tree.specs.Chunks.{flat}
use Rattle.planner_min_tree.specs.declared.points.Point.{Point}
use Rattle.planner_min_tree.specs.declared.near.Stretch.{Stretch}
use Rattle.planner_min_tree.specs.Nears.{AreStretches, end_of, GoOn, IsFirstHigh}
use Rattle.planner_min_tree.specs.Marks.{Marks}
use Rattle.planner_min_tree.proofs.TwoSides as two

-- a list of some items is its first and the others
pub split : {X : Type 0} (xs : List X) (d : X) → 1 ≤ length xs →
    xs ≡ slice_index_or xs 0 d ∷ take (length xs - 1) (drop 1 xs)
split [] d some = absurd (omega (arith, some))
split (x ∷ xs) d some =
    let e : length (x ∷ xs) - 1 ≡ length xs = omega arith in
    ap (λ l. x ∷ l) (sym (ap (λ n. take n xs) e ∙ take-length xs))

-- a stretch to a moment
abbrev pub stretch_to : ℕ → ℕ → Stretch
stretch_to to level = record { to = to; level = level }

-- one stretch more behind the others
pub stretch_more : (f : ℕ → ℕ) (start to level : ℕ) (ss : List Stretch) → AreStretches f start ss →
    end_of start ss ≤ to → ((m : ℕ) → end_of start ss ≤ m → m < to → f m ≡ level) →
    AreStretches f start (ss ++ stretch_to to level ∷ [])
stretch_more f start to level [] are h is = (h, is, tt)
stretch_more f start to level (s ∷ ss) are h is = (are.0, are.1, stretch_more f s.to to level ss are.2 h is)

pub end_more : (start : ℕ) (ss : List Stretch) (s : Stretch) → end_of start (ss ++ s ∷ []) ≡ s.to
end_more start [] s = refl
end_more start (r ∷ ss) s = end_more r.to ss s

-- the same stretches, and one more, go on with what they have
pub go_same : (g : ℕ → ℕ) (from : ℕ) (ss : List Stretch) → GoOn g ss from ss
go_same g from ss = λ f start are end is. are

pub go_more : (g : ℕ → ℕ) (from to level : ℕ) (ss : List Stretch) → from ≤ to →
    ((m : ℕ) → from ≤ m → m < to → g m ≡ level) → GoOn g ss from (ss ++ stretch_to to level ∷ [])
go_more g from to level ss h each = λ f start are end is.
    stretch_more f start to level ss are (omega (arith, end))
    (λ m lo hi. is m (omega (arith, end)) ∙ each m (omega (arith, end)) hi)

-- they go on the same where the points are others that say the same from there on
pub go_like : (g h : ℕ → ℕ) (old new : List Stretch) (from : ℕ) → ((m : ℕ) → from ≤ m → h m ≡ g m) →
    GoOn g old from new → GoOn h old from new
go_like g h old new from like on = λ f start are end is. on f start are end (λ m lo. is m lo ∙ like m lo)

-- where no point is left, or the next one is reached already, or comes later
module _ (x from : ℕ) (old new : List Stretch) where
  go_end : (points : List Point) → length points < 1 → from ≤ 2 ^ 64 - 1 →
      (new ≡ old ++ stretch_to (2 ^ 64 - 1) x ∷ []) ⊎ (new ≡ old) → GoOn (λ m. value_at m points x) old from new
  go_end (p ∷ ps) none h put = absurd (omega (arith, none))
  go_end [] none h (inl e) = rw e (go_more (λ m. x) from (2 ^ 64 - 1) x old h (λ m lo hi. refl))
  go_end [] none h (inr e) = rw e (go_same (λ m. x) from old)

  module _ (p : Point) (ps : List Point) where
    go_past : p.time ≤ from → GoOn (λ m. value_at m ps (past p x)) old from new →
        GoOn (λ m. value_at m (p ∷ ps) x) old from new
    go_past h on = λ f start are end is.
        on f start are end (λ m lo. is m lo ∙ if_le {a = p.time} {b = m} _ _ (omega arith))

    go_later : from < p.time →
        GoOn (λ m. value_at m ps (past p x)) (old ++ stretch_to p.time x ∷ []) p.time new →
        GoOn (λ m. value_at m (p ∷ ps) x) old from new
    go_later h on = λ f start are end is.
        on f start
        (go_more (λ m. value_at m (p ∷ ps) x) from p.time x old (omega arith)
        (λ m lo hi. if_gt {a = p.time} {b = m} _ _ hi) f start are end is)
        (end_more start old (stretch_to p.time x))
        (λ m lo. is m (omega arith) ∙ if_le {a = p.time} {b = m} _ _ lo)

-- the same of some points and more behind them
module _ (x from : ℕ) (old new : List Stretch) (points more : List Point) where
  pub went_end : length points < 1 → more ≡ [] → from ≤ 2 ^ 64 - 1 →
      (new ≡ old ++ stretch_to (2 ^ 64 - 1) x ∷ []) ⊎ (new ≡ old) →
      GoOn (λ m. value_at m (points ++ more) x) old from new
  went_end none e h put =
      subst (λ l. GoOn (λ m. value_at m l x) old from new) (sym (rw e (append-nil points)))
      (go_end x from old new points none h put)

  pub went_past : (d : Point) → 1 ≤ length points → (slice_index_or points 0 d).time ≤ from →
      GoOn (λ m. value_at m (take (length points - 1) (drop 1 points) ++ more) (past (slice_index_or points 0 d) x))
      old from new →
      GoOn (λ m. value_at m (points ++ more) x) old from new
  went_past d some h on =
      subst (λ l. GoOn (λ m. value_at m (l ++ more) x) old from new) (sym (split points d some))
      (go_past x from old new (slice_index_or points 0 d) (take (length points - 1) (drop 1 points) ++ more) h on)

  pub went_later : (d : Point) → 1 ≤ length points → from < (slice_index_or points 0 d).time →
      GoOn (λ m. value_at m (take (length points - 1) (drop 1 points) ++ more) (past (slice_index_or points 0 d) x))
      (old ++ stretch_to (slice_index_or points 0 d).time x ∷ []) (slice_index_or points 0 d).time new →
      GoOn (λ m. value_at m (points ++ more) x) old from new
  went_later d some h on =
      subst (λ l. GoOn (λ m. value_at m (l ++ more) x) old from new) (sym (split points d some))
      (go_later x from old new (slice_index_or points 0 d) (take (length points - 1) (drop 1 points) ++ more) h on)

-- the same of chunks side by side: those of the second where the first are past, and else those of the first
module _ (xs ys : List (List Point)) (x from : ℕ) (old new : List Stretch) where
  pub went_right : (more : List Point) → Runs (flat (xs ++ ys)) x → latest_of (flat xs) ≤ from →
      GoOn (λ m. value_at m (flat ys ++ more) (x - need_of (flat xs) + rest_of (flat xs))) old from new →
      GoOn (λ m. value_at m (flat (xs ++ ys) ++ more) x) old from new
  went_right more runs le =
      go_like _ _ old new from (λ m lo. two.value_behind xs ys x runs m more (omega arith))

  pub went_left : (more : List Point) → GoOn (λ m. value_at m (flat xs ++ (flat ys ++ more)) x) old from new →
      GoOn (λ m. value_at m (flat (xs ++ ys) ++ more) x) old from new
  went_left more on = subst (λ l. GoOn (λ m. value_at m l x) old from new) (sym (two.three xs ys more)) on

  pub went_coming : Runs (flat (xs ++ ys)) x → latest_of (flat xs) ≤ from →
      GoOn (λ m. value_at m (flat ys ++ []) (x - need_of (flat xs) + rest_of (flat xs))) old from new →
      GoOn (λ m. value_at m (flat (xs ++ ys)) x) old from new
  went_coming runs le on =
      go_like _ _ old new from
      (λ m lo. two.value_right xs ys x runs m (omega arith)
      ∙ ap (λ l. value_at m l (x - need_of (flat xs) + rest_of (flat xs))) (sym (append-nil (flat ys)))) on

-- so much is free over a window where it is over its first part and the rest, and less where it is over the rest
pub room_behind : (f : ℕ → ℕ) (w : Window) (to q level : ℕ) (told : Option Bool) → w.from < to → to < w.to →
    ((m : ℕ) → w.from ≤ m → m < to → f m ≡ level) → q ≤ level →
    IfSome told (λ room. MatchBool room (EachMoment (record { from = to; to = w.to }) (λ m. q ≤ f m))
    (SomeMoment (record { from = to; to = w.to }) (λ m. f m < q))) →
    IfSome told (λ room. MatchBool room (EachMoment w (λ m. q ≤ f m)) (SomeMoment w (λ m. f m < q)))
room_behind f w to q level None lt le is much told = tt
room_behind f w to q level (Some true) lt le is much told = λ m lo hi.
    elim (cases_lt m to) [
      | inl first ↦ (let e = is m lo first in omega arith)
      | inr behind ↦ told m behind hi
    ]
room_behind f w to q level (Some false) lt le is much told = (told.0, omega (arith, told.1), told.2, told.3)

-- so much is free over the window exactly where the least that is free is so much
pub room_or_less : (total : ℕ) (spans : List Span) (w : Window) (q least : ℕ) → IsLeastFree total spans w least →
    MatchBool (nat_le q least) (HasRoom total spans w q) (SomeMoment w (λ m. free_at total spans m < q))
room_or_less total spans w q least is =
    let at = λ (b : Bool). MatchBool b (HasRoom total spans w q) (SomeMoment w (λ m. free_at total spans m < q)) in
    elim (cases_lt least q) [
      | inl less ↦ (let no : nat_le q least ≡ false = grind (arith, nat_tests) in
          let some = is.reached in
          subst at (sym no) (some.0, some.1, some.2, (let e = some.3 in omega arith)))
      | inr much ↦ (let yes : nat_le q least ≡ true = grind (arith, nat_tests) in
          subst at (sym yes) (λ m lo hi. (let each = is.each m lo hi in omega arith)))
    ]

-- what the points say of a window's moments the spans say too
module _ (total : ℕ) (points : List Point) (spans : List Span) (marks : Marks total points spans) (w : Window) where
  pub room_told : (q : ℕ) (room : Bool) →
      MatchBool room (EachMoment w (λ m. q ≤ value_at m points total))
      (SomeMoment w (λ m. value_at m points total < q)) →
      MatchBool room (HasRoom total spans w q) (SomeMoment w (λ m. free_at total spans m < q))
  room_told q true told = λ m lo hi. (let e = marks.free m in let t = told m lo hi in omega arith)
  room_told q false told = (let e = marks.free told.0 in (told.0, told.1, told.2, omega (arith, told.3)))

  pub least_told : (level : ℕ) → w.from < w.to → EachMoment w (λ m. value_at m points total ≡ level) →
      IsLeastFree total spans w level
  least_told level lt each = record {
    each = λ m lo hi. (let e = marks.free m in let t = each m lo hi in omega arith);
    reached = (
      w.from,
      omega arith,
      lt,
      (let e = marks.free w.from in let t = each w.from (omega arith) lt in omega arith),
    );
  }

-- a moment is a start or an end of the spans, or none
same_or_not : (a b : ℕ) → (a ≡ b) ⊎ (a ≡ b → ⊥)
same_or_not a b = elim (cases_lt a b) [
  | inl lt ↦ inr (λ e. absurd (omega arith))
  | inr ge ↦ elim (cases_lt b a) [ inl gt ↦ inr (λ e. absurd (omega arith)) | inr le ↦ inl (omega arith) ]
]

end_or_not : (t : ℕ) (spans : List Span) → IsEnd spans t ⊎ (IsEnd spans t → ⊥)
end_or_not t [] = inr (λ end. end)
end_or_not t (s ∷ spans) =
    elim (end_or_not t spans) [
      | inl end ↦ inl (inr end)
      | inr none ↦ elim (same_or_not t s.window.from) [
        | inl from ↦ inl (inl (inl from))
        | inr later ↦ elim (same_or_not t s.window.to) [
          | inl to ↦ inl (inl (inr to))
          | inr other ↦ inr (λ end. elim end [
            | inl here ↦ elim here [ inl e ↦ later e | inr e ↦ other e ]
            | inr there ↦ none there
          ])
        ]
      ]
    ]

-- what is free changes at a start or an end alone
pub first_told : (total : ℕ) (points : List Point) (spans : List Span) → Marks total points spans →
    (from q t : ℕ) → IsFirstHigh (λ m. value_at m points total) from q t → IsFirstFree total spans from q t
first_told total points spans marks from q t is = record {
  later = is.later;
  free = let e = marks.free t in omega (arith, is.high);
  least = λ u lo hi. (let e = marks.free u in let l = is.first u lo hi in omega arith);
  at = elim (cases_lt from t) [
    | inr ge ↦ inl (omega (arith, is.later))
    | inl lt ↦ elim (end_or_not t spans) [
      | inl end ↦ inr end
      | inr none ↦ absurd (
          let before = is.first (t - 1) (omega arith) (omega arith) in
          let e = marks.free (t - 1) in
          let i = marks.free t in
          let same =
          same_free total spans (t - 1) t (omega arith)
          (λ u lo hi end. none (subst (λ n. IsEnd spans n) (let at : u ≡ t = omega arith in at) end)) in
          omega (arith, is.high))
    ]
  ];
}
