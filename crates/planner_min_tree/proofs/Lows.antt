-- Where a number is less than so much for the last time, over two lists of points, one after the other.
use Rattle.std.proofs.Common.{◌≡◌, ℕ, suc, ◌-◌, ◌<◌, ◌≤◌, List, [], ◌∷◌, ◌++◌, Some, None, refl, sym, ◌∙◌, ap}
use Rattle.std.proofs.Common.{◌⊎◌, inl, inr, subst, arith}
use Rattle.std.specs.Prelude.{Option, IfSome, IfNone}
use Rattle.std.specs.Option.{option_or}
use Rattle.std.proofs.lemmas.Bool.{cases_lt}
use Rattle.flux_defs.proofs.DigitLaws.{if_le, if_gt}
use Rattle.planner_min_tree.specs.declared.points.Point.{Point}
use Rattle.planner_min_tree.specs.Points.{latest_of, need_of, past, after, Runs, lowest, low_to, low_end, last_rise}
use Rattle.planner_min_tree.proofs.Dips.{runs_lowest}

-- the one answer or the other
or_none : (o : Option ℕ) → option_or o None ≡ o
or_none None = refl
or_none (Some t) = refl

or_both : (o p r : Option ℕ) → option_or (option_or o p) r ≡ option_or o (option_or p r)
or_both None p r = refl
or_both (Some t) p r = refl

pub or_neither : (o p : Option ℕ) → option_or o p ≡ None → (o ≡ None) × (p ≡ None)
or_neither None p e = (refl, e)
or_neither (Some t) p e = absurd (cc)

pub or_one : (o p : Option ℕ) (t : ℕ) → option_or o p ≡ Some t → (o ≡ Some t) ⊎ ((o ≡ None) × (p ≡ Some t))
or_one None p t e = inr (refl, e)
or_one (Some s) p t e = inl e

-- a second, and none, by the number before it
pub low_less : (t q x end : ℕ) → low_to t q x ≡ Some end → (x < q) × (t ≡ end)
low_less t q x end e =
    elim (cases_lt x q) [
      | inl lt ↦ (let some : low_to t q x ≡ Some t = if_le {a = suc x} {b = q} _ _ lt in (lt, cc))
      | inr ge ↦ (let none : low_to t q x ≡ None = if_gt {a = suc x} {b = q} _ _ (omega arith) in absurd (cc))
    ]

pub low_much : (t q x : ℕ) → low_to t q x ≡ None → q ≤ x
low_much t q x e =
    elim (cases_lt x q) [
      | inl lt ↦ (let some : low_to t q x ≡ Some t = if_le {a = suc x} {b = q} _ _ lt in absurd (cc))
      | inr ge ↦ ge
    ]

low_not : (t q x : ℕ) → q ≤ x → low_to t q x ≡ None
low_not t q x h = if_gt {a = suc x} {b = q} _ _ (omega arith)

-- the first list ends at the moment or later, or is before it
pub end_left : (to q : ℕ) (xs ys : List Point) (x : ℕ) → to ≤ latest_of xs → 0 < to →
    low_end to q (xs ++ ys) x ≡ low_end to q xs x
end_left to q [] ys x h s = absurd (omega arith)
end_left to q (p ∷ xs) ys x h s =
    elim (cases_lt p.time to) [
      | inl lt ↦ if_le {a = suc p.time} {b = to} _ _ lt
          ∙ ap (λ o. option_or o (low_to p.time q x)) (end_left to q xs ys (past p x) (omega arith) s)
          ∙ sym (if_le {a = suc p.time} {b = to} _ _ lt)
      | inr ge ↦ if_gt {a = suc p.time} {b = to} _ _ (omega arith)
          ∙ sym (if_gt {a = suc p.time} {b = to} _ _ (omega arith))
    ]

end_right : (to q : ℕ) (xs ys : List Point) (x : ℕ) → latest_of xs < to →
    low_end to q (xs ++ ys) x ≡ option_or (low_end to q ys (after xs x)) (last_rise q xs x)
end_right to q [] ys x h = sym (or_none (low_end to q ys x))
end_right to q (p ∷ xs) ys x h = if_le {a = suc p.time} {b = to} _ _ (omega arith)
    ∙ ap (λ o. option_or o (low_to p.time q x)) (end_right to q xs ys (past p x) (omega arith))
    ∙ or_both (low_end to q ys (after xs (past p x))) (last_rise q xs (past p x)) (low_to p.time q x)

pub end_first : (to q : ℕ) (xs ys : List Point) (x t : ℕ) → latest_of xs < to →
    low_end to q ys (after xs x) ≡ Some t → low_end to q (xs ++ ys) x ≡ Some t
end_first to q xs ys x t h e = end_right to q xs ys x h ∙ ap (λ o. option_or o (last_rise q xs x)) e

pub end_second : (to q : ℕ) (xs ys : List Point) (x : ℕ) → latest_of xs < to →
    low_end to q ys (after xs x) ≡ None → low_end to q (xs ++ ys) x ≡ last_rise q xs x
end_second to q xs ys x h e = end_right to q xs ys x h ∙ ap (λ o. option_or o (last_rise q xs x)) e

-- without such a stretch it is so much at the start
pub end_much : (to q : ℕ) (ps : List Point) (x : ℕ) → low_end to q ps x ≡ None → q ≤ x
end_much to q [] x e = low_much to q x e
end_much to q (p ∷ ps) x e =
    elim (cases_lt p.time to) [
      | inl lt ↦ low_much p.time q x
          (or_neither (low_end to q ps (past p x)) _ (sym (if_le {a = suc p.time} {b = to} _ _ lt) ∙ e)).1
      | inr ge ↦ low_much to q x (sym (if_gt {a = suc p.time} {b = to} _ _ (omega arith)) ∙ e)
    ]

-- the last point of both lists is that of the second, or that of the first
rise_both : (q : ℕ) (xs ys : List Point) (x : ℕ) →
    last_rise q (xs ++ ys) x ≡ option_or (last_rise q ys (after xs x)) (last_rise q xs x)
rise_both q [] ys x = sym (or_none (last_rise q ys x))
rise_both q (p ∷ xs) ys x = ap (λ o. option_or o (low_to p.time q x)) (rise_both q xs ys (past p x))
    ∙ or_both (last_rise q ys (after xs (past p x))) (last_rise q xs (past p x)) (low_to p.time q x)

-- there is none where it is always so much, and one where it isn't but is in the end
rise_none : (q : ℕ) (xs : List Point) (x : ℕ) → q ≤ lowest xs x → last_rise q xs x ≡ None
rise_none q [] x h = refl
rise_none q (p ∷ xs) x h =
    ap (λ o. option_or o (low_to p.time q x)) (rise_none q xs (past p x) (omega arith))
    ∙ low_not p.time q x (omega arith)

rise_some : (q : ℕ) (xs : List Point) (x : ℕ) → lowest xs x < q → q ≤ after xs x → last_rise q xs x ≡ None → ⊥
rise_some q [] x low much e = absurd (omega arith)
rise_some q (p ∷ xs) x low much e =
    let neither = or_neither (last_rise q xs (past p x)) (low_to p.time q x) e in
    let here = low_much p.time q x neither.1 in
    rise_some q xs (past p x) (omega arith) much neither.0

-- the same by the dip
pub rise_not : (xs : List Point) (x q : ℕ) → Runs xs x → q ≤ x - need_of xs → last_rise q xs x ≡ None
rise_not xs x q r high = rise_none q xs x (let l = runs_lowest xs x r in omega arith)

pub rise_found : (xs : List Point) (x q : ℕ) → Runs xs x → x - need_of xs < q → q ≤ after xs x →
    last_rise q xs x ≡ None → ⊥
rise_found xs x q r low much = rise_some q xs x (let l = runs_lowest xs x r in omega arith) much

first_of : (o p : Option ℕ) → (o ≡ None → ⊥) → option_or o p ≡ o
first_of None p some = absurd (some refl)
first_of (Some t) p some = refl

pub rise_right : (q : ℕ) (xs ys : List Point) (x : ℕ) → Runs ys (after xs x) → after xs x - need_of ys < q →
    q ≤ after ys (after xs x) → last_rise q (xs ++ ys) x ≡ last_rise q ys (after xs x)
rise_right q xs ys x r low much = rise_both q xs ys x
    ∙ first_of (last_rise q ys (after xs x)) (last_rise q xs x) (rise_found ys (after xs x) q r low much)

pub rise_left : (q : ℕ) (xs ys : List Point) (x : ℕ) → Runs ys (after xs x) → q ≤ after xs x - need_of ys →
    last_rise q (xs ++ ys) x ≡ last_rise q xs x
rise_left q xs ys x r high = rise_both q xs ys x
    ∙ ap (λ o. option_or o (last_rise q xs x)) (rise_not ys (after xs x) q r high)

pub after_append : (xs ys : List Point) (x : ℕ) → after (xs ++ ys) x ≡ after ys (after xs x)
after_append [] ys x = refl
after_append (p ∷ xs) ys x = after_append xs ys (past p x)

-- the last point before which it is less is no later than the latest
rise_within : (q : ℕ) (xs : List Point) (x t : ℕ) → last_rise q xs x ≡ Some t → t ≤ latest_of xs
rise_within q [] x t e = absurd (cc)
rise_within q (p ∷ xs) x t e = elim (or_one (last_rise q xs (past p x)) (low_to p.time q x) t e) [
  | inl f ↦ (let le = rise_within q xs (past p x) t f in omega (arith, le))
  | inr f ↦ (let is = low_less p.time q x t f.1 in omega (arith, is.1))
]

-- behind points that are past by a moment, a stretch that ends later is one of the points to come
pub end_past : (from to q : ℕ) (xs ys : List Point) (x : ℕ) → latest_of xs ≤ from → from < to →
    (found : Option ℕ) → IfSome found (λ t. (from < t) × (low_end to q ys (after xs x) ≡ Some t)) →
    IfNone found (IfSome (low_end to q ys (after xs x)) (λ t. t ≤ from)) →
    IfSome found (λ t. (from < t) × (low_end to q (xs ++ ys) x ≡ Some t))
    × IfNone found (IfSome (low_end to q (xs ++ ys) x) (λ t. t ≤ from))
end_past from to q xs ys x le lt (Some t) some none =
    ((some.0, end_first to q xs ys x t (omega (arith, le, lt)) some.1), tt)
end_past from to q xs ys x le lt None some none = (
  tt,
  subst (λ o. IfSome o (λ t. t ≤ from)) (sym (end_right to q xs ys x (omega (arith, le, lt))))
      (both (low_end to q ys (after xs x)) (last_rise q xs x) none
      (λ t e. (let within = rise_within q xs x t e in omega (arith, within, le)))),
)
  where
    both : (o p : Option ℕ) → IfSome o (λ t. t ≤ from) → ((t : ℕ) → p ≡ Some t → t ≤ from) →
        IfSome (option_or o p) (λ t. t ≤ from)
    both None None h k = tt
    both None (Some t) h k = k t refl
    both (Some t) p h k = h

-- there is none where it is always so much
end_none : (to q : ℕ) (ps : List Point) (x : ℕ) → q ≤ lowest ps x → low_end to q ps x ≡ None
end_none to q [] x h = low_not to q x (omega arith)
end_none to q (p ∷ ps) x h = elim (cases_lt p.time to) [
  | inl lt ↦ if_le {a = suc p.time} {b = to} _ _ lt
      ∙ (ap (λ o. option_or o (low_to p.time q x)) (end_none to q ps (past p x) (omega arith))
      ∙ low_not p.time q x (omega arith))
  | inr ge ↦ if_gt {a = suc p.time} {b = to} _ _ (omega arith) ∙ low_not to q x (omega arith)
]

pub end_not : (to q : ℕ) (ps : List Point) (x : ℕ) → Runs ps x → q ≤ x - need_of ps → low_end to q ps x ≡ None
end_not to q ps x r high = end_none to q ps x (let l = runs_lowest ps x r in omega arith)
