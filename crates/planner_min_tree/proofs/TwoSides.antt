-- What two lists of chunks, one after the other, say: what a walk over a tree of chunks rests on.
use Rattle.std.proofs.Common.{◌≡◌, ℕ, suc, ◌+◌, ◌-◌, ◌^◌, ◌<◌, ◌≤◌, min, List, [], ◌∷◌, ◌++◌, length, Some, None, refl}
use Rattle.std.specs.Prelude.{Option, IfSome, IfNone}
use Rattle.std.proofs.Common.{sym, ◌∙◌, ap, subst, arith, append_assoc, inl, inr}
use Rattle.std.proofs.lemmas.Bool.{cases_lt}
use Rattle.flux_defs.proofs.DigitLaws.{if_le, if_gt}
use Rattle.planner_min_tree.specs.declared.points.Point.{Point}
use Rattle.planner_min_tree.specs.Points.{latest_of, need_of, rest_of, after, Runs, lowest_before, lowest_from}
use Rattle.planner_min_tree.specs.Points.{lowest_in, first_from, top_of, highest, value_at, first_rise, rise_after}
use Rattle.planner_min_tree.specs.Points.{low_end, last_rise}
use Rattle.planner_min_tree.specs.Chunks.{flat, chunk_at}
use Rattle.planner_min_tree.proofs.Dips as dips
use Rattle.planner_min_tree.proofs.Lows as lows

pub flat_append : {X : Type 0} (xs ys : List (List X)) → flat (xs ++ ys) ≡ flat xs ++ flat ys
flat_append [] ys = refl
flat_append (x ∷ xs) ys = ap (λ l. x ++ l) (flat_append xs ys) ∙ sym (append_assoc x (flat xs) (flat ys))

abbrev Chunks : Type 0
Chunks = List (List Point)

-- the place of a time in two lists of chunks
pub place_right : (t : ℕ) (xs ys : Chunks) → latest_of (flat xs) < t → 0 < length ys →
    chunk_at t (xs ++ ys) ≡ length xs + chunk_at t ys
place_right t [] ys h s = omega arith
place_right t (c ∷ []) [] h s = absurd (omega arith)
place_right t (c ∷ []) (d ∷ ys) h s =
    let l = dips.latest_append c [] in
    let e : chunk_at t (c ∷ d ∷ ys) ≡ suc (chunk_at t (d ∷ ys)) = if_le {a = suc (latest_of c)} {b = t} _ _
    (omega arith) in
    omega arith
place_right t (c ∷ d ∷ xs) ys h s =
    let l = dips.latest_append c (flat (d ∷ xs)) in
    let e : chunk_at t (c ∷ d ∷ xs ++ ys) ≡ suc (chunk_at t (d ∷ xs ++ ys))
    = if_le {a = suc (latest_of c)} {b = t} _ _ (omega arith) in
    omega (arith, place_right t (d ∷ xs) ys (omega arith) s)

pub place_left : (t : ℕ) (xs ys : Chunks) → t ≤ latest_of (flat xs) → 0 < length xs → 0 < length ys →
    chunk_at t (xs ++ ys) ≡ chunk_at t xs
place_left t [] ys h s r = absurd (omega arith)
place_left t (c ∷ []) [] h s r = absurd (omega arith)
place_left t (c ∷ []) (d ∷ ys) h s r =
    let l = dips.latest_append c [] in
    if_gt {a = suc (latest_of c)} {b = t} _ _ (omega arith)
place_left t (c ∷ d ∷ xs) ys h s r =
    let l = dips.latest_append c (flat (d ∷ xs)) in
    elim (cases_lt (latest_of c) t) [
      | inl lt ↦ if_le {a = suc (latest_of c)} {b = t} _ _ lt
          ∙ ap suc (place_left t (d ∷ xs) ys (omega arith) (omega arith) r)
          ∙ sym (if_le {a = suc (latest_of c)} {b = t} _ _ lt)
      | inr ge ↦ if_gt {a = suc (latest_of c)} {b = t} _ _ (omega arith)
          ∙ sym (if_gt {a = suc (latest_of c)} {b = t} _ _ (omega arith))
    ]

-- the points of two lists of chunks, and more behind them
pub three : (xs ys : Chunks) (more : List Point) → flat (xs ++ ys) ++ more ≡ flat xs ++ (flat ys ++ more)
three xs ys more = ap (λ l. l ++ more) (flat_append xs ys) ∙ append_assoc (flat xs) (flat ys) more

module _ (xs ys : Chunks) where
  both : flat xs ++ flat ys ≡ flat (xs ++ ys)
  both = sym (flat_append xs ys)

  pub first_right : (t : ℕ) → latest_of (flat xs) < t → first_from t (flat (xs ++ ys)) ≡ first_from t (flat ys)
  first_right t h = ap (first_from t) (flat_append xs ys) ∙ dips.first_right t (flat xs) (flat ys) h

  pub first_left : (t : ℕ) → t ≤ latest_of (flat xs) → 0 < t → first_from t (flat (xs ++ ys)) ≡ first_from t (flat xs)
  first_left t h s = ap (first_from t) (flat_append xs ys) ∙ dips.first_left t (flat xs) (flat ys) h s

  module _ (x : ℕ) (r : Runs (flat (xs ++ ys)) x) where
    runs : Runs (flat xs ++ flat ys) x
    runs = subst (λ ps. Runs ps x) (flat_append xs ys) r

    pub runs_left : Runs (flat xs) x
    runs_left = dips.runs_left (flat xs) (flat ys) x runs

    -- the number after the first list
    after_is : after (flat xs) x ≡ x - need_of (flat xs) + rest_of (flat xs)
    after_is = dips.runs_after (flat xs) x runs_left

    pub runs_right : Runs (flat ys) (x - need_of (flat xs) + rest_of (flat xs))
    runs_right = subst (Runs (flat ys)) after_is (dips.runs_right (flat xs) (flat ys) x runs)

    pub need_left : need_of (flat xs) ≤ x
    need_left = dips.runs_need (flat xs) x runs_left

    pub fits_left : x - need_of (flat xs) + rest_of (flat xs) < 2 ^ 64
    fits_left = let f = dips.runs_fit (flat xs) x runs_left in let a = after_is in omega arith

    pub need_right : need_of (flat ys) ≤ x - need_of (flat xs) + rest_of (flat xs)
    need_right = dips.runs_need (flat ys) _ runs_right

    pub before_right : (to : ℕ) → latest_of (flat xs) < to →
        lowest_before to (flat (xs ++ ys)) x
        ≡ min (x - need_of (flat xs)) (lowest_before to (flat ys) (x - need_of (flat xs) + rest_of (flat xs)))
    before_right to h = ap (λ ps. lowest_before to ps x) (flat_append xs ys)
        ∙ dips.before_right to (flat xs) (flat ys) x h runs
        ∙ ap (λ n. min (x - need_of (flat xs)) (lowest_before to (flat ys) n)) after_is

    pub before_left : (to : ℕ) → to ≤ latest_of (flat xs) → 0 < to →
        lowest_before to (flat (xs ++ ys)) x ≡ lowest_before to (flat xs) x
    before_left to h s = ap (λ ps. lowest_before to ps x) (flat_append xs ys)
        ∙ dips.before_left to (flat xs) (flat ys) x h s

    pub from_right : (from : ℕ) → latest_of (flat xs) ≤ from →
        lowest_from from (flat (xs ++ ys)) x
        ≡ lowest_from from (flat ys) (x - need_of (flat xs) + rest_of (flat xs))
    from_right from h = ap (λ ps. lowest_from from ps x) (flat_append xs ys)
        ∙ dips.from_right from (flat xs) (flat ys) x h
        ∙ ap (lowest_from from (flat ys)) after_is

    pub from_left : (from : ℕ) → from < latest_of (flat xs) →
        lowest_from from (flat (xs ++ ys)) x
        ≡ min (lowest_from from (flat xs) x) (x - need_of (flat xs) + rest_of (flat xs) - need_of (flat ys))
    from_left from h = ap (λ ps. lowest_from from ps x) (flat_append xs ys)
        ∙ dips.from_left from (flat xs) (flat ys) x h runs
        ∙ ap (λ n. min (lowest_from from (flat xs) x) (n - need_of (flat ys))) after_is

    pub in_right : (from to : ℕ) → latest_of (flat xs) ≤ from →
        lowest_in from to (flat (xs ++ ys)) x
        ≡ lowest_in from to (flat ys) (x - need_of (flat xs) + rest_of (flat xs))
    in_right from to h = ap (λ ps. lowest_in from to ps x) (flat_append xs ys)
        ∙ dips.in_right from to (flat xs) (flat ys) x h
        ∙ ap (lowest_in from to (flat ys)) after_is

    pub in_left : (from to : ℕ) → from < to → to ≤ latest_of (flat xs) →
        lowest_in from to (flat (xs ++ ys)) x ≡ lowest_in from to (flat xs) x
    in_left from to lt h = ap (λ ps. lowest_in from to ps x) (flat_append xs ys)
        ∙ dips.in_left from to (flat xs) (flat ys) x lt h

    pub in_both : (from to : ℕ) → from < latest_of (flat xs) → latest_of (flat xs) < to →
        lowest_in from to (flat (xs ++ ys)) x
        ≡ min (lowest_from from (flat xs) x) (lowest_before to (flat ys) (x - need_of (flat xs) + rest_of (flat xs)))
    in_both from to a b = ap (λ ps. lowest_in from to ps x) (flat_append xs ys)
        ∙ dips.in_both from to (flat xs) (flat ys) x a b runs
        ∙ ap (λ n. min (lowest_from from (flat xs) x) (lowest_before to (flat ys) n)) after_is

    pub value_right : (m : ℕ) → latest_of (flat xs) ≤ m →
        value_at m (flat (xs ++ ys)) x ≡ value_at m (flat ys) (x - need_of (flat xs) + rest_of (flat xs))
    value_right m h = ap (λ ps. value_at m ps x) (flat_append xs ys)
        ∙ dips.value_right m (flat xs) (flat ys) x h
        ∙ ap (value_at m (flat ys)) after_is

    pub value_behind : (m : ℕ) (more : List Point) → latest_of (flat xs) ≤ m →
        value_at m (flat (xs ++ ys) ++ more) x
        ≡ value_at m (flat ys ++ more) (x - need_of (flat xs) + rest_of (flat xs))
    value_behind m more h = ap (λ ps. value_at m ps x) (three xs ys more)
        ∙ dips.value_right m (flat xs) (flat ys ++ more) x h
        ∙ ap (value_at m (flat ys ++ more)) after_is

    pub value_left : (m : ℕ) → m < latest_of (flat xs) → value_at m (flat (xs ++ ys)) x ≡ value_at m (flat xs) x
    value_left m h = ap (λ ps. value_at m ps x) (flat_append xs ys) ∙ dips.value_left m (flat xs) (flat ys) x h

    -- where the first list never comes so high
    module _ (q : ℕ) (low : x - need_of (flat xs) + top_of (flat xs) < q) where
      low_left : highest (flat xs) x < q
      low_left = let h = dips.runs_highest (flat xs) x runs_left in omega arith

      pub rise_right : first_rise q (flat (xs ++ ys)) x
          ≡ first_rise q (flat ys) (x - need_of (flat xs) + rest_of (flat xs))
      rise_right = ap (λ ps. first_rise q ps x) (flat_append xs ys)
          ∙ dips.rise_low q (flat xs) (flat ys) x low_left
          ∙ ap (first_rise q (flat ys)) after_is

      pub less_right : x - need_of (flat xs) + rest_of (flat xs) < q
      less_right =
          let a = after_is in
          let l = dips.after_low q (flat xs) x low_left in
          omega arith

    pub rise_left : (q : ℕ) → x < q → q ≤ x - need_of (flat xs) + top_of (flat xs) →
        first_rise q (flat (xs ++ ys)) x ≡ first_rise q (flat xs) x
    rise_left q less high = ap (λ ps. first_rise q ps x) (flat_append xs ys)
        ∙ dips.rise_high q (flat xs) (flat ys) x less
        (let h = dips.runs_highest (flat xs) x runs_left in omega arith)

    pub later_right : (from q : ℕ) → latest_of (flat xs) ≤ from →
        rise_after from q (flat (xs ++ ys)) x
        ≡ rise_after from q (flat ys) (x - need_of (flat xs) + rest_of (flat xs))
    later_right from q h = ap (λ ps. rise_after from q ps x) (flat_append xs ys)
        ∙ dips.later_right from q (flat xs) (flat ys) x h
        ∙ ap (rise_after from q (flat ys)) after_is

    module _ (from q : ℕ) (later : from < latest_of (flat xs)) where
      pub later_first : (t : ℕ) → rise_after from q (flat xs) x ≡ Some t →
          rise_after from q (flat (xs ++ ys)) x ≡ Some t
      later_first t e = ap (λ ps. rise_after from q ps x) (flat_append xs ys)
          ∙ dips.later_first from q (flat xs) (flat ys) x t later e

      module _ (none : rise_after from q (flat xs) x ≡ None) where
        pub later_second : rise_after from q (flat (xs ++ ys)) x
            ≡ first_rise q (flat ys) (x - need_of (flat xs) + rest_of (flat xs))
        later_second = ap (λ ps. rise_after from q ps x) (flat_append xs ys)
            ∙ dips.later_second from q (flat xs) (flat ys) x later none
            ∙ ap (first_rise q (flat ys)) after_is

        pub later_less : value_at from (flat (xs ++ ys)) x < q → x - need_of (flat xs) + rest_of (flat xs) < q
        later_less less =
            let a = after_is in
            let v = value_left from later in
            let l = dips.later_less from q (flat xs) x later (omega arith) none in
            omega arith

    pub end_left : (to q : ℕ) → to ≤ latest_of (flat xs) → 0 < to →
        low_end to q (flat (xs ++ ys)) x ≡ low_end to q (flat xs) x
    end_left to q h s = ap (λ ps. low_end to q ps x) (flat_append xs ys) ∙ lows.end_left to q (flat xs) (flat ys) x h s

    module _ (to q : ℕ) (early : latest_of (flat xs) < to) where
      pub end_first : (t : ℕ) → low_end to q (flat ys) (x - need_of (flat xs) + rest_of (flat xs)) ≡ Some t →
          low_end to q (flat (xs ++ ys)) x ≡ Some t
      end_first t e = ap (λ ps. low_end to q ps x) (flat_append xs ys)
          ∙ lows.end_first to q (flat xs) (flat ys) x t early (ap (low_end to q (flat ys)) after_is ∙ e)

      module _ (none : low_end to q (flat ys) (x - need_of (flat xs) + rest_of (flat xs)) ≡ None) where
        pub end_second : low_end to q (flat (xs ++ ys)) x ≡ last_rise q (flat xs) x
        end_second = ap (λ ps. low_end to q ps x) (flat_append xs ys)
            ∙ lows.end_second to q (flat xs) (flat ys) x early (ap (low_end to q (flat ys)) after_is ∙ none)

        pub end_much : q ≤ after (flat xs) x
        end_much = let a = after_is in let m = lows.end_much to q (flat ys) _ none in omega arith

    -- where the first list is past by a moment, what ends later is of the second; nothing does where that is never low
    module _ (from to q : ℕ) (over : latest_of (flat xs) ≤ from) (opens : from < to) where
      pub end_past : (found : Option ℕ) → IfSome found (λ t. (from < t)
          × (low_end to q (flat ys) (x - need_of (flat xs) + rest_of (flat xs)) ≡ Some t)) →
          IfNone found (IfSome (low_end to q (flat ys) (x - need_of (flat xs) + rest_of (flat xs))) (λ t. t ≤ from)) →
          IfSome found (λ t. (from < t) × (low_end to q (flat (xs ++ ys)) x ≡ Some t))
          × IfNone found (IfSome (low_end to q (flat (xs ++ ys)) x) (λ t. t ≤ from))
      end_past found some none = subst (λ ps. IfSome found (λ t. (from < t) × (low_end to q ps x ≡ Some t))
          × IfNone found (IfSome (low_end to q ps x) (λ t. t ≤ from))) both
          (lows.end_past from to q (flat xs) (flat ys) x over opens found
          (subst (λ n. IfSome found (λ t. (from < t) × (low_end to q (flat ys) n ≡ Some t))) (sym after_is) some)
          (subst (λ n. IfNone found (IfSome (low_end to q (flat ys) n) (λ t. t ≤ from))) (sym after_is) none))

      pub end_never : q ≤ x - need_of (flat xs) + rest_of (flat xs) - need_of (flat ys) →
          IfSome (low_end to q (flat (xs ++ ys)) x) (λ t. t ≤ from)
      end_never high =
          let none = lows.end_not to q (flat ys) (x - need_of (flat xs) + rest_of (flat xs)) runs_right high in
          (end_past None tt (subst (λ o. IfSome o (λ t. t ≤ from)) (sym none) tt)).1

    -- where the second list comes lower than so much, and where it doesn't
    pub last_right : (q : ℕ) → x - need_of (flat xs) + rest_of (flat xs) - need_of (flat ys) < q →
        q ≤ after (flat (xs ++ ys)) x →
        last_rise q (flat (xs ++ ys)) x ≡ last_rise q (flat ys) (x - need_of (flat xs) + rest_of (flat xs))
    last_right q low much = ap (λ ps. last_rise q ps x) (flat_append xs ys)
        ∙ lows.rise_right q (flat xs) (flat ys) x (dips.runs_right (flat xs) (flat ys) x runs)
        (let a = after_is in omega arith)
        (let b = ap (λ ps. after ps x) (flat_append xs ys) ∙ lows.after_append (flat xs) (flat ys) x in omega arith)
        ∙ ap (last_rise q (flat ys)) after_is

    pub much_right : (q : ℕ) → q ≤ after (flat (xs ++ ys)) x →
        q ≤ after (flat ys) (x - need_of (flat xs) + rest_of (flat xs))
    much_right q much =
        let b = ap (λ ps. after ps x) (flat_append xs ys) ∙ lows.after_append (flat xs) (flat ys) x
        ∙ ap (after (flat ys)) after_is in
        omega arith

    module _ (q : ℕ) (high : q ≤ x - need_of (flat xs) + rest_of (flat xs) - need_of (flat ys)) where
      pub last_left : last_rise q (flat (xs ++ ys)) x ≡ last_rise q (flat xs) x
      last_left = ap (λ ps. last_rise q ps x) (flat_append xs ys)
          ∙ lows.rise_left q (flat xs) (flat ys) x (dips.runs_right (flat xs) (flat ys) x runs)
          (let a = after_is in omega arith)

      pub much_left : q ≤ after (flat xs) x
      much_left = let a = after_is in omega arith

pub ruleset place_facts = (place_right, place_left)

pub ruleset first_facts = (first_right, first_left)

pub ruleset before_facts = (before_right, before_left, runs_left, runs_right, need_left, fits_left)

pub ruleset from_facts = (from_right, from_left, runs_left, runs_right, need_left, fits_left, need_right)

pub ruleset in_facts = (in_right, in_left, in_both, runs_left, runs_right, need_left, fits_left)

pub ruleset value_facts = (value_right, value_left, runs_left, runs_right, need_left, fits_left)

pub ruleset rise_facts = (rise_right, rise_left, less_right, runs_left, runs_right, need_left, fits_left)

pub ruleset after_facts = (
  later_right,
  later_first,
  later_second,
  later_less,
  value_right,
  value_left,
  runs_left,
  runs_right,
  need_left,
  fits_left,
  need_right,
)

pub ruleset some_facts = (dips.rise_not, dips.runs_need)

pub ruleset low_facts = (
  end_left,
  end_first,
  end_second,
  end_much,
  runs_left,
  runs_right,
  need_left,
  fits_left,
)

pub ruleset past_facts = (runs_left, runs_right, need_left, fits_left, need_right)

pub ruleset last_facts = (
  last_right,
  last_left,
  much_right,
  much_left,
  runs_left,
  runs_right,
  need_left,
  fits_left,
  need_right,
)

pub ruleset any_facts = (lows.rise_not, dips.runs_need)
