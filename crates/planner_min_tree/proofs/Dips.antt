-- What two lists of points, one after the other, do to a number.
use Rattle.std.proofs.Common.{◌≡◌, ℕ, zero, suc, ◌+◌, ◌-◌, ◌^◌, ◌<◌, ◌≤◌, min, max, List, [], ◌∷◌, ◌++◌, Some}
use Rattle.std.proofs.Common.{length, get_or, None, refl, sym, ◌∙◌, ap, arith, inl, inr}
use Rattle.std.specs.Prelude.{Option, IfNone}
use Rattle.std.proofs.lemmas.Bool.{cases_lt}
use Rattle.flux_defs.proofs.DigitLaws.{if_le, if_gt}
use Rattle.planner_min_tree.specs.declared.points.Point.{Point}
use Rattle.planner_min_tree.specs.Points.{latest_of, need_of, rest_of, past, after, Runs, lowest, lowest_before}
use Rattle.planner_min_tree.specs.Points.{lowest_from, lowest_in, first_from, top_of, highest, value_at, first_rise}
use Rattle.planner_min_tree.specs.Points.{rise_after}

pub latest_append : (xs ys : List Point) → latest_of (xs ++ ys) ≡ max (latest_of xs) (latest_of ys)
latest_append [] ys = omega arith
latest_append (p ∷ xs) ys = omega (arith, latest_append xs ys)

-- no point is later than the latest
pub latest_at : (xs : List Point) (at : ℕ) (z : Point) → at < length xs → (get_or xs at z).time ≤ latest_of xs
latest_at [] at z l = absurd (omega arith)
latest_at (p ∷ xs) zero z l = omega arith
latest_at (p ∷ xs) (suc at) z l = omega (arith, latest_at xs at z (omega arith))

pub need_append : (xs ys : List Point) → need_of (xs ++ ys) ≡ need_of xs + (need_of ys - rest_of xs)
need_append [] ys = omega arith
need_append (p ∷ xs) ys = omega (arith, need_append xs ys)

pub rest_append : (xs ys : List Point) → rest_of (xs ++ ys) ≡ rest_of ys + (rest_of xs - need_of ys)
rest_append [] ys = omega arith
rest_append (p ∷ xs) ys = omega (arith, rest_append xs ys, need_append xs ys)

-- the start is one of the places where it may be highest, and the end another
pub need_top : (xs : List Point) → need_of xs ≤ top_of xs
need_top [] = omega arith
need_top (p ∷ xs) = omega arith

pub rest_top : (xs : List Point) → rest_of xs ≤ top_of xs
rest_top [] = omega arith
rest_top (p ∷ xs) = omega (arith, rest_top xs)

-- of numbers: a point before what two lists do
of_numbers : (taken given need rest top more high : ℕ) →
    max (taken + (need + (more - rest) - given))
    (given - (need + (more - rest)) + max (top + (more - rest)) (high + (rest - more)))
    ≡ max (max (taken + (need - given)) (given - need + top) + (more - (rest + (given - need))))
    (high + (rest + (given - need) - more))
of_numbers taken given need rest top more high =
    elim (cases_lt rest more) [
      | inl lt ↦ elim (cases_lt need given) [
        | inl less ↦ elim (cases_lt (more - rest) (given - need)) [
          | inl small ↦ omega arith
          | inr great ↦ omega arith
        ]
        | inr most ↦ omega arith
      ]
      | inr le ↦ omega arith
    ]

pub top_append : (xs ys : List Point) →
    top_of (xs ++ ys) ≡ max (top_of xs + (need_of ys - rest_of xs)) (top_of ys + (rest_of xs - need_of ys))
top_append [] ys = omega (arith, need_top ys)
top_append (p ∷ xs) ys =
    rw (top_append xs ys, need_append xs ys)
    (of_numbers (p.taken - p.given) (p.given - p.taken) (need_of xs) (rest_of xs) (top_of xs) (need_of ys) (top_of ys))

pub ruleset append_facts = (latest_append, need_append, rest_append, top_append)

-- the parts of a run
pub runs_left : (xs ys : List Point) (x : ℕ) → Runs (xs ++ ys) x → Runs xs x
runs_left [] [] x h = h
runs_left [] (q ∷ ys) x h = h.0
runs_left (p ∷ xs) ys x h = (h.0, h.1, runs_left xs ys (past p x) h.2)

pub runs_right : (xs ys : List Point) (x : ℕ) → Runs (xs ++ ys) x → Runs ys (after xs x)
runs_right [] ys x h = h
runs_right (p ∷ xs) ys x h = runs_right xs ys (past p x) h.2

-- a run by its dip
pub runs_need : (xs : List Point) (x : ℕ) → Runs xs x → need_of xs ≤ x
runs_need [] x h = omega arith
runs_need (p ∷ xs) x h = omega (arith, runs_need xs (past p x) h.2, h.1)

pub runs_after : (xs : List Point) (x : ℕ) → Runs xs x → after xs x ≡ x - need_of xs + rest_of xs
runs_after [] x h = omega arith
runs_after (p ∷ xs) x h = omega (arith, runs_after xs (past p x) h.2, runs_need xs (past p x) h.2, h.1)

pub runs_fit : (xs : List Point) (x : ℕ) → Runs xs x → after xs x < 2 ^ 64
runs_fit [] x h = h
runs_fit (p ∷ xs) x h = runs_fit xs (past p x) h.2

pub runs_lowest : (xs : List Point) (x : ℕ) → Runs xs x → lowest xs x ≡ x - need_of xs
runs_lowest [] x h = omega arith
runs_lowest (p ∷ xs) x h = omega (arith, runs_lowest xs (past p x) h.2, runs_need xs (past p x) h.2, h.1)

-- both lists before or at the moment, or the second not needed
pub first_right : (t : ℕ) (xs ys : List Point) → latest_of xs < t → first_from t (xs ++ ys) ≡ first_from t ys
first_right t [] ys h = refl
first_right t (p ∷ xs) ys h = if_le {a = suc p.time} {b = t} _ _ (omega arith) ∙ first_right t xs ys (omega arith)

pub first_left : (t : ℕ) (xs ys : List Point) → t ≤ latest_of xs → 0 < t → first_from t (xs ++ ys) ≡ first_from t xs
first_left t [] ys h s = absurd (omega arith)
first_left t (p ∷ xs) ys h s =
    elim (cases_lt p.time t) [
      | inl lt ↦ if_le {a = suc p.time} {b = t} _ _ lt ∙ first_left t xs ys (omega arith) s
          ∙ sym (if_le {a = suc p.time} {b = t} _ _ lt)
      | inr ge ↦ if_gt {a = suc p.time} {b = t} _ _ (omega arith)
          ∙ sym (if_gt {a = suc p.time} {b = t} _ _ (omega arith))
    ]

before_le : (to : ℕ) (ys : List Point) (x : ℕ) → lowest_before to ys x ≤ x
before_le to [] x = omega arith
before_le to (p ∷ ys) x =
    elim (cases_lt p.time to) [
      | inl lt ↦ rw (if_le {a = suc p.time} {b = to} _ _ lt) (omega arith)
      | inr ge ↦ rw (if_gt {a = suc p.time} {b = to} _ _ (omega arith)) (omega arith)
    ]

pub before_right : (to : ℕ) (xs ys : List Point) (x : ℕ) → latest_of xs < to → Runs (xs ++ ys) x →
    lowest_before to (xs ++ ys) x ≡ min (x - need_of xs) (lowest_before to ys (after xs x))
before_right to [] ys x h r = omega (arith, before_le to ys x)
before_right to (p ∷ xs) ys x h r =
    let ih = before_right to xs ys (past p x) (omega arith) r.2 in
    let n = runs_need xs (past p x) (runs_left xs ys (past p x) r.2) in
    if_le {a = suc p.time} {b = to} _ _ (omega arith) ∙ omega (arith, ih, n, r.1)

pub before_left : (to : ℕ) (xs ys : List Point) (x : ℕ) → to ≤ latest_of xs → 0 < to →
    lowest_before to (xs ++ ys) x ≡ lowest_before to xs x
before_left to [] ys x h s = absurd (omega arith)
before_left to (p ∷ xs) ys x h s =
    elim (cases_lt p.time to) [
      | inl lt ↦ if_le {a = suc p.time} {b = to} _ _ lt
          ∙ ap (min x) (before_left to xs ys (past p x) (omega arith) s)
          ∙ sym (if_le {a = suc p.time} {b = to} _ _ lt)
      | inr ge ↦ if_gt {a = suc p.time} {b = to} _ _ (omega arith)
          ∙ sym (if_gt {a = suc p.time} {b = to} _ _ (omega arith))
    ]

pub from_right : (from : ℕ) (xs ys : List Point) (x : ℕ) → latest_of xs ≤ from →
    lowest_from from (xs ++ ys) x ≡ lowest_from from ys (after xs x)
from_right from [] ys x h = refl
from_right from (p ∷ xs) ys x h = if_le {a = p.time} {b = from} _ _ (omega arith)
    ∙ from_right from xs ys (past p x) (omega arith)

lowest_append : (xs ys : List Point) (x : ℕ) → Runs (xs ++ ys) x →
    lowest (xs ++ ys) x ≡ min (lowest xs x) (after xs x - need_of ys)
lowest_append xs ys x r =
    let l = runs_left xs ys x r in
    omega (
      arith,
      runs_lowest (xs ++ ys) x r,
      runs_lowest xs x l,
      need_append xs ys,
      runs_after xs x l,
      runs_need xs x l,
    )

pub from_left : (from : ℕ) (xs ys : List Point) (x : ℕ) → from < latest_of xs → Runs (xs ++ ys) x →
    lowest_from from (xs ++ ys) x ≡ min (lowest_from from xs x) (after xs x - need_of ys)
from_left from [] ys x h r = absurd (omega arith)
from_left from (p ∷ xs) ys x h r =
    elim (cases_lt from p.time) [
      | inl lt ↦ if_gt {a = p.time} {b = from} _ _ lt ∙ lowest_append (p ∷ xs) ys x r
          ∙ ap (λ n. min n (after (p ∷ xs) x - need_of ys)) (sym (if_gt {a = p.time} {b = from} _ _ lt))
      | inr le ↦ if_le {a = p.time} {b = from} _ _ le ∙ from_left from xs ys (past p x) (omega arith) r.2
          ∙ ap (λ n. min n (after (p ∷ xs) x - need_of ys)) (sym (if_le {a = p.time} {b = from} _ _ le))
    ]

pub in_right : (from to : ℕ) (xs ys : List Point) (x : ℕ) → latest_of xs ≤ from →
    lowest_in from to (xs ++ ys) x ≡ lowest_in from to ys (after xs x)
in_right from to [] ys x h = refl
in_right from to (p ∷ xs) ys x h = if_le {a = p.time} {b = from} _ _ (omega arith)
    ∙ in_right from to xs ys (past p x) (omega arith)

pub in_left : (from to : ℕ) (xs ys : List Point) (x : ℕ) → from < to → to ≤ latest_of xs →
    lowest_in from to (xs ++ ys) x ≡ lowest_in from to xs x
in_left from to [] ys x lt h = absurd (omega arith)
in_left from to (p ∷ xs) ys x lt h =
    elim (cases_lt from p.time) [
      | inl a ↦ if_gt {a = p.time} {b = from} _ _ a ∙ before_left to (p ∷ xs) ys x h (omega arith)
          ∙ sym (if_gt {a = p.time} {b = from} _ _ a)
      | inr le ↦ if_le {a = p.time} {b = from} _ _ le ∙ in_left from to xs ys (past p x) lt (omega arith)
          ∙ sym (if_le {a = p.time} {b = from} _ _ le)
    ]

pub in_both : (from to : ℕ) (xs ys : List Point) (x : ℕ) → from < latest_of xs → latest_of xs < to → Runs (xs ++ ys) x →
    lowest_in from to (xs ++ ys) x ≡ min (lowest_from from xs x) (lowest_before to ys (after xs x))
in_both from to [] ys x a b r = absurd (omega arith)
in_both from to (p ∷ xs) ys x a b r =
    elim (cases_lt from p.time) [
      | inl lt ↦ if_gt {a = p.time} {b = from} _ _ lt ∙ before_right to (p ∷ xs) ys x b r
          ∙ ap (λ n. min n (lowest_before to ys (after (p ∷ xs) x)))
          (sym (runs_lowest (p ∷ xs) x (runs_left (p ∷ xs) ys x r)) ∙ sym (if_gt {a = p.time} {b = from} _ _ lt))
      | inr le ↦ if_le {a = p.time} {b = from} _ _ le ∙ in_both from to xs ys (past p x) (omega arith) (omega arith) r.2
          ∙ ap (λ n. min n (lowest_before to ys (after (p ∷ xs) x))) (sym (if_le {a = p.time} {b = from} _ _ le))
    ]

-- where it is highest, by its dip
pub runs_highest : (xs : List Point) (x : ℕ) → Runs xs x → highest xs x ≡ x - need_of xs + top_of xs
runs_highest [] x h = omega arith
runs_highest (p ∷ xs) x h =
    omega (arith, runs_highest xs (past p x) h.2, runs_need xs (past p x) h.2, need_top xs, h.1)

le_highest : (xs : List Point) (x : ℕ) → x ≤ highest xs x
le_highest [] x = omega arith
le_highest (p ∷ xs) x = omega arith

after_highest : (xs : List Point) (x : ℕ) → after xs x ≤ highest xs x
after_highest [] x = omega arith
after_highest (p ∷ xs) x = omega (arith, after_highest xs (past p x))

-- both lists before or at the moment, or the second not needed
pub value_right : (m : ℕ) (xs ys : List Point) (x : ℕ) → latest_of xs ≤ m →
    value_at m (xs ++ ys) x ≡ value_at m ys (after xs x)
value_right m [] ys x h = refl
value_right m (p ∷ xs) ys x h = if_le {a = p.time} {b = m} _ _ (omega arith)
    ∙ value_right m xs ys (past p x) (omega arith)

pub value_left : (m : ℕ) (xs ys : List Point) (x : ℕ) → m < latest_of xs →
    value_at m (xs ++ ys) x ≡ value_at m xs x
value_left m [] ys x h = absurd (omega arith)
value_left m (p ∷ xs) ys x h =
    elim (cases_lt m p.time) [
      | inl lt ↦ if_gt {a = p.time} {b = m} _ _ lt ∙ sym (if_gt {a = p.time} {b = m} _ _ lt)
      | inr le ↦ if_le {a = p.time} {b = m} _ _ le ∙ value_left m xs ys (past p x) (omega arith)
          ∙ sym (if_le {a = p.time} {b = m} _ _ le)
    ]

-- a list that never comes so high has no such point, and neither has its end
pub rise_low : (q : ℕ) (xs ys : List Point) (x : ℕ) → highest xs x < q →
    first_rise q (xs ++ ys) x ≡ first_rise q ys (after xs x)
rise_low q [] ys x h = refl
rise_low q (p ∷ xs) ys x h =
    if_gt {a = q} {b = past p x} _ _ (omega (arith, le_highest xs (past p x)))
    ∙ rise_low q xs ys (past p x) (omega arith)

pub rise_none : (q : ℕ) (xs : List Point) (x : ℕ) → highest xs x < q → first_rise q xs x ≡ None
rise_none q [] x h = refl
rise_none q (p ∷ xs) x h =
    if_gt {a = q} {b = past p x} _ _ (omega (arith, le_highest xs (past p x)))
    ∙ rise_none q xs (past p x) (omega arith)

pub after_low : (q : ℕ) (xs : List Point) (x : ℕ) → highest xs x < q → after xs x < q
after_low q xs x h = omega (arith, after_highest xs x)

-- one that comes so high, but not at its start, has the point
pub rise_high : (q : ℕ) (xs ys : List Point) (x : ℕ) → x < q → q ≤ highest xs x →
    first_rise q (xs ++ ys) x ≡ first_rise q xs x
rise_high q [] ys x less h = absurd (omega arith)
rise_high q (p ∷ xs) ys x less h =
    elim (cases_lt (past p x) q) [
      | inl lt ↦ if_gt {a = q} {b = past p x} _ _ lt ∙ rise_high q xs ys (past p x) lt (omega arith)
          ∙ sym (if_gt {a = q} {b = past p x} _ _ lt)
      | inr ge ↦ if_le {a = q} {b = past p x} _ _ ge ∙ sym (if_le {a = q} {b = past p x} _ _ ge)
    ]

-- the same by the dip
pub rise_not : (xs : List Point) (x q : ℕ) → Runs xs x → x - need_of xs + top_of xs < q → first_rise q xs x ≡ None
rise_not xs x q r low = rise_none q xs x (let h = runs_highest xs x r in omega arith)

found : (xs : List Point) (x q : ℕ) → x < q → q ≤ highest xs x → first_rise q xs x ≡ None → ⊥
found [] x q less high e = absurd (omega arith)
found (p ∷ xs) x q less high e =
    elim (cases_lt (past p x) q) [
      | inl lt ↦ found xs (past p x) q lt (omega arith) (sym (if_gt {a = q} {b = past p x} _ _ lt) ∙ e)
      | inr ge ↦ (let some : first_rise q (p ∷ xs) x ≡ Some p.time = if_le {a = q} {b = past p x} _ _ ge in
          absurd (cc))
    ]

pub rise_found : (xs : List Point) (x q : ℕ) → Runs xs x → x < q → q ≤ x - need_of xs + top_of xs →
    first_rise q xs x ≡ None → ⊥
rise_found xs x q r less high = found xs x q less (let h = runs_highest xs x r in omega arith)

pub none_never : (P : Type 0) (o : Option ℕ) → (o ≡ None → ⊥) → IfNone o P
none_never P None no_none = absurd (no_none refl)
none_never P (Some t) no_none = tt

-- the point of the first list, or that of the second
rise_first : (q : ℕ) (xs ys : List Point) (x t : ℕ) → first_rise q xs x ≡ Some t →
    first_rise q (xs ++ ys) x ≡ Some t
rise_first q [] ys x t e = absurd (cc)
rise_first q (p ∷ xs) ys x t e =
    elim (cases_lt (past p x) q) [
      | inl lt ↦ if_gt {a = q} {b = past p x} _ _ lt
          ∙ rise_first q xs ys (past p x) t (sym (if_gt {a = q} {b = past p x} _ _ lt) ∙ e)
      | inr ge ↦ if_le {a = q} {b = past p x} _ _ ge ∙ sym (if_le {a = q} {b = past p x} _ _ ge) ∙ e
    ]

rise_second : (q : ℕ) (xs ys : List Point) (x : ℕ) → first_rise q xs x ≡ None →
    first_rise q (xs ++ ys) x ≡ first_rise q ys (after xs x)
rise_second q [] ys x e = refl
rise_second q (p ∷ xs) ys x e =
    elim (cases_lt (past p x) q) [
      | inl lt ↦ if_gt {a = q} {b = past p x} _ _ lt
          ∙ rise_second q xs ys (past p x) (sym (if_gt {a = q} {b = past p x} _ _ lt) ∙ e)
      | inr ge ↦ (let some : first_rise q (p ∷ xs) x ≡ Some p.time = if_le {a = q} {b = past p x} _ _ ge in
          absurd (cc))
    ]

rise_less : (q : ℕ) (xs : List Point) (x : ℕ) → x < q → first_rise q xs x ≡ None → after xs x < q
rise_less q [] x less e = less
rise_less q (p ∷ xs) x less e =
    elim (cases_lt (past p x) q) [
      | inl lt ↦ rise_less q xs (past p x) lt (sym (if_gt {a = q} {b = past p x} _ _ lt) ∙ e)
      | inr ge ↦ (let some : first_rise q (p ∷ xs) x ≡ Some p.time = if_le {a = q} {b = past p x} _ _ ge in
          absurd (cc))
    ]

-- the same of the points later than a moment
pub later_right : (from q : ℕ) (xs ys : List Point) (x : ℕ) → latest_of xs ≤ from →
    rise_after from q (xs ++ ys) x ≡ rise_after from q ys (after xs x)
later_right from q [] ys x h = refl
later_right from q (p ∷ xs) ys x h = if_le {a = p.time} {b = from} _ _ (omega arith)
    ∙ later_right from q xs ys (past p x) (omega arith)

pub later_first : (from q : ℕ) (xs ys : List Point) (x t : ℕ) → from < latest_of xs →
    rise_after from q xs x ≡ Some t → rise_after from q (xs ++ ys) x ≡ Some t
later_first from q [] ys x t h e = absurd (omega arith)
later_first from q (p ∷ xs) ys x t h e =
    elim (cases_lt from p.time) [
      | inl lt ↦ if_gt {a = p.time} {b = from} _ _ lt
          ∙ rise_first q (p ∷ xs) ys x t (sym (if_gt {a = p.time} {b = from} _ _ lt) ∙ e)
      | inr le ↦ if_le {a = p.time} {b = from} _ _ le
          ∙ later_first from q xs ys (past p x) t (omega arith) (sym (if_le {a = p.time} {b = from} _ _ le) ∙ e)
    ]

pub later_second : (from q : ℕ) (xs ys : List Point) (x : ℕ) → from < latest_of xs →
    rise_after from q xs x ≡ None → rise_after from q (xs ++ ys) x ≡ first_rise q ys (after xs x)
later_second from q [] ys x h e = absurd (omega arith)
later_second from q (p ∷ xs) ys x h e =
    elim (cases_lt from p.time) [
      | inl lt ↦ if_gt {a = p.time} {b = from} _ _ lt
          ∙ rise_second q (p ∷ xs) ys x (sym (if_gt {a = p.time} {b = from} _ _ lt) ∙ e)
      | inr le ↦ if_le {a = p.time} {b = from} _ _ le
          ∙ later_second from q xs ys (past p x) (omega arith) (sym (if_le {a = p.time} {b = from} _ _ le) ∙ e)
    ]

pub later_less : (from q : ℕ) (xs : List Point) (x : ℕ) → from < latest_of xs → value_at from xs x < q →
    rise_after from q xs x ≡ None → after xs x < q
later_less from q [] x h less e = absurd (omega arith)
later_less from q (p ∷ xs) x h less e =
    elim (cases_lt from p.time) [
      | inl lt ↦ (let v : value_at from (p ∷ xs) x ≡ x = if_gt {a = p.time} {b = from} _ _ lt in
          rise_less q (p ∷ xs) x (omega arith) (sym (if_gt {a = p.time} {b = from} _ _ lt) ∙ e))
      | inr le ↦ (let v : value_at from (p ∷ xs) x ≡ value_at from xs (past p x)
          = if_le {a = p.time} {b = from} _ _ le in
          later_less from q xs (past p x) (omega arith) (omega arith)
          (sym (if_le {a = p.time} {b = from} _ _ le) ∙ e))
    ]
