-- Twice as much has at most one digit more, and two changes make at most two points more.
use Rattle.std.proofs.Common.{◌≡◌, ℕ, zero, suc, ◌+◌, ◌*◌, ◌/◌, ◌<◌, ◌≤◌, List, [], ◌∷◌, length, inl, inr, arith, ap}
use Rattle.std.proofs.lemmas.Bool.{cases_lt}
use Rattle.flux_defs.specs.Digits.{digits_within, dig}
use Rattle.flux_defs.proofs.DigitLaws.{if_le, if_gt}
use Rattle.planner_min_tree.specs.declared.points.Point.{Point}
use Rattle.planner_min_tree.specs.declared.marking.Mark.{Mark}
use Rattle.planner_min_tree.specs.declared.marking.Change.{Change}
use Rattle.planner_min_tree.specs.declared.marking.Change.TheVariants.{More, Less}
use Rattle.planner_min_tree.specs.Marks.{marked, unmarked, changed, added, fresh, lessened}

large : (most n : ℕ) → 1 < n → digits_within (suc most) n ≡ suc (digits_within most (n / 2))
large most n h = if_gt {a = n} {b = 1} _ _ h

small : (most n : ℕ) → n ≤ 1 → digits_within (suc most) n ≡ 1
small most n h = if_le {a = n} {b = 1} _ _ h

some : (most n : ℕ) → 1 ≤ digits_within most n
some zero n = omega arith
some (suc most) n =
    elim (cases_lt 1 n) [ inl many ↦ omega (arith, large most n many) | inr few ↦ omega (arith, small most n few) ]

mono : (most most' n m : ℕ) → m ≤ most' → n ≤ m → digits_within most n ≤ digits_within most' m
mono zero most' n m b h = some most' m
mono (suc most) zero n m b h = omega (arith, small most n (omega arith))
mono (suc most) (suc most') n m b h =
    elim (cases_lt 1 n) [
      | inl many ↦ omega (
        arith,
        large most n many,
        large most' m (omega arith),
        mono most most' (n / 2) (m / 2) (omega arith) (omega arith),
      )
      | inr few ↦ omega (arith, small most n few, some (suc most') m)
    ]

twice : (most most' n m : ℕ) → m ≤ most' → n ≤ 2 * m → digits_within most n ≤ suc (digits_within most' m)
twice zero most' n m b h = omega arith
twice (suc most) most' n m b h =
    elim (cases_lt 1 n) [
      | inl many ↦ omega (arith, large most n many, mono most most' (n / 2) m b (omega arith))
      | inr few ↦ omega (arith, small most n few)
    ]

pub dig_twice : (n m : ℕ) → n ≤ 2 * m → dig n ≤ dig m + 1
unfolding dig
dig_twice n m h = omega (arith, twice n m n m (omega arith) h)

marked_few : (d : Mark) (ps : List Point) → length (marked d ps) ≤ length ps + 1
marked_few d [] = omega arith
marked_few d (p ∷ ps) =
    elim (cases_lt p.time d.time) [
      | inl lt ↦ rw (if_le {a = suc p.time} {b = d.time} (p ∷ marked d ps) _ lt) (omega (arith, marked_few d ps))
      | inr ge ↦ elim (cases_lt d.time p.time) [
        | inl far ↦ rw (
          if_gt {a = suc p.time} {b = d.time} (p ∷ marked d ps) _ (omega arith),
          if_gt {a = p.time} {b = d.time} (added d p ∷ ps) (fresh d ∷ p ∷ ps) far,
        ) (omega arith)
        | inr near ↦ rw (
          if_gt {a = suc p.time} {b = d.time} (p ∷ marked d ps) _ (omega arith),
          if_le {a = p.time} {b = d.time} (added d p ∷ ps) (fresh d ∷ p ∷ ps) near,
        ) (omega arith)
      ]
    ]

unmarked_few : (d : Mark) (ps : List Point) → length (unmarked d ps) ≤ length ps
unmarked_few d [] = omega arith
unmarked_few d (p ∷ ps) =
    elim (cases_lt p.time d.time) [
      | inl lt ↦ rw (if_le {a = suc p.time} {b = d.time} (p ∷ unmarked d ps) _ lt) (omega (arith, unmarked_few d ps))
      | inr ge ↦ elim (cases_lt d.time p.time) [
        | inl far ↦ rw (
          if_gt {a = suc p.time} {b = d.time} (p ∷ unmarked d ps) _ (omega arith),
          if_gt {a = p.time} {b = d.time} _ (p ∷ ps) far,
        ) (omega arith)
        | inr near ↦ elim (cases_lt 1 p.ends) [
          | inl many ↦ rw (
            if_gt {a = suc p.time} {b = d.time} (p ∷ unmarked d ps) _ (omega arith),
            if_le {a = p.time} {b = d.time} _ (p ∷ ps) near,
            if_gt {a = p.ends} {b = 1} ps (lessened d p ∷ ps) many,
          ) (omega arith)
          | inr few ↦ rw (
            if_gt {a = suc p.time} {b = d.time} (p ∷ unmarked d ps) _ (omega arith),
            if_le {a = p.time} {b = d.time} _ (p ∷ ps) near,
            if_le {a = p.ends} {b = 1} ps (lessened d p ∷ ps) few,
          ) (omega arith)
        ]
      ]
    ]

changed_few : (c : Change) (ps : List Point) → length (changed c ps) ≤ length ps + 1
changed_few (More d) ps = marked_few d ps
changed_few (Less d) ps = omega (arith, unmarked_few d ps)

-- after two changes the points have at most one digit more
pub dig_changed : (first second : Change) (ps new : List Point) → new ≡ changed second (changed first ps) →
    dig (length new + 2) ≤ dig (length ps + 2) + 1
dig_changed first second ps new e =
    let one = changed_few first ps in
    let two = changed_few second (changed first ps) in
    dig_twice (length new + 2) (length ps + 2)
    (let l : length new ≡ length (changed second (changed first ps)) = ap length e in omega (arith, l, one, two))
