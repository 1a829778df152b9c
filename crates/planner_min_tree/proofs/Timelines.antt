-- Points in two lists of chunks, one behind the other: the place of a change, and a chunk that goes from one to the
-- other.
use Rattle.std.proofs.Common.{◌≡◌, ℕ, zero, suc, ◌+◌, ◌*◌, ◌<◌, ◌≤◌, max, List, [], ◌∷◌, ◌++◌, length, length-append}
use Rattle.std.proofs.Common.{refl, sym, ◌∙◌, ap, arith, append-nil, append_assoc, inl, inr, Some, slice_get}
use Rattle.std.proofs.lemmas.Bool.{cases_lt}
use Rattle.flux_defs.specs.Digits.{dig}
use Rattle.balanced_tree.specs.declared.edits.Edit.{Edit}
use Rattle.balanced_tree.specs.declared.edits.Edit.TheVariants.{Cut}
use Rattle.balanced_tree.specs.Edits.{edited, made}
use Rattle.planner_min_tree.specs.declared.points.Point.{Point}
use Rattle.planner_min_tree.specs.declared.marking.Mark.{Mark}
use Rattle.planner_min_tree.specs.declared.marking.Change.{Change}
use Rattle.planner_min_tree.specs.declared.marking.Change.TheVariants.{More, Less}
use Rattle.planner_min_tree.specs.Points.{latest_of, HasPlace}
use Rattle.planner_min_tree.specs.Chunks.{flat, AreFilled}
use Rattle.planner_min_tree.specs.Marks.{added, fresh, lessened, marked, unmarked, changed, time_of, StaysLate}
use Rattle.planner_min_tree.proofs.TwoSides.{flat_append}
use Rattle.planner_min_tree.proofs.ChunkLaws.{changed_left, changed_right, latest_more, some_more, change_fills}
use Rattle.planner_min_tree.proofs.PlanFacts.{low_height}
use Rattle.flux_defs.proofs.DigitLaws.{dig_mono, if_le, if_gt}

-- points with a time later than 0 are some
some_late : (t : ℕ) (ps : List Point) → 0 < t → t ≤ latest_of ps → 0 < length ps
some_late t [] s h = absurd (omega arith)
some_late t (p ∷ ps) s h = omega arith

-- one end of a span less leaves the points that are later
latest_less : (d : Mark) (t : ℕ) (ps : List Point) → d.time < t → t ≤ latest_of ps → t ≤ latest_of (unmarked d ps)
latest_less d t [] s h = absurd (omega arith)
latest_less d t (p ∷ ps) s h =
    elim (cases_lt p.time d.time) [
      | inl lt ↦ rw (if_le {a = suc p.time} {b = d.time} (p ∷ unmarked d ps) _ lt)
          (omega (arith, latest_less d t ps s (omega arith)))
      | inr ge ↦ elim (cases_lt d.time p.time) [
        | inl far ↦ rw (
          if_gt {a = suc p.time} {b = d.time} (p ∷ unmarked d ps) _ (omega arith),
          if_gt {a = p.time} {b = d.time} _ (p ∷ ps) far,
        ) h
        | inr near ↦ elim (cases_lt 1 p.ends) [
          | inl many ↦ rw (
            if_gt {a = suc p.time} {b = d.time} (p ∷ unmarked d ps) _ (omega arith),
            if_le {a = p.time} {b = d.time} _ (p ∷ ps) near,
            if_gt {a = p.ends} {b = 1} ps (lessened d p ∷ ps) many,
          ) h
          | inr few ↦ rw (
            if_gt {a = suc p.time} {b = d.time} (p ∷ unmarked d ps) _ (omega arith),
            if_le {a = p.time} {b = d.time} _ (p ∷ ps) near,
            if_le {a = p.ends} {b = 1} ps (lessened d p ∷ ps) few,
          ) (omega arith)
        ]
      ]
    ]

-- no change makes the points later than they were and than itself
most_more : (d : Mark) (ps : List Point) → latest_of (marked d ps) ≤ max d.time (latest_of ps)
most_more d [] = omega arith
most_more d (p ∷ ps) =
    elim (cases_lt p.time d.time) [
      | inl lt ↦ rw (if_le {a = suc p.time} {b = d.time} (p ∷ marked d ps) _ lt) (omega (arith, most_more d ps))
      | inr ge ↦ elim (cases_lt d.time p.time) [
        | inl far ↦ rw (
          if_gt {a = suc p.time} {b = d.time} (p ∷ marked d ps) _ (omega arith),
          if_gt {a = p.time} {b = d.time} (added d p ∷ ps) (fresh d ∷ p ∷ ps) far,
        ) (omega arith)
        | inr near ↦ rw (
          if_gt {a = suc p.time} {b = d.time} (p ∷ marked d ps) _ (omega arith),
          if_le {a = p.time} {b = d.time} (added d p ∷ ps) (fresh d ∷ p ∷ ps) near,
        ) (omega arith)
      ]
    ]

most_less : (d : Mark) (ps : List Point) → latest_of (unmarked d ps) ≤ latest_of ps
most_less d [] = omega arith
most_less d (p ∷ ps) =
    elim (cases_lt p.time d.time) [
      | inl lt ↦ rw (if_le {a = suc p.time} {b = d.time} (p ∷ unmarked d ps) _ lt) (omega (arith, most_less d ps))
      | inr ge ↦ elim (cases_lt d.time p.time) [
        | inl far ↦ rw (
          if_gt {a = suc p.time} {b = d.time} (p ∷ unmarked d ps) _ (omega arith),
          if_gt {a = p.time} {b = d.time} _ (p ∷ ps) far,
        ) (omega arith)
        | inr near ↦ elim (cases_lt 1 p.ends) [
          | inl many ↦ rw (
            if_gt {a = suc p.time} {b = d.time} (p ∷ unmarked d ps) _ (omega arith),
            if_le {a = p.time} {b = d.time} _ (p ∷ ps) near,
            if_gt {a = p.ends} {b = 1} ps (lessened d p ∷ ps) many,
          ) (omega arith)
          | inr few ↦ rw (
            if_gt {a = suc p.time} {b = d.time} (p ∷ unmarked d ps) _ (omega arith),
            if_le {a = p.time} {b = d.time} _ (p ∷ ps) near,
            if_le {a = p.ends} {b = 1} ps (lessened d p ∷ ps) few,
          ) (omega arith)
        ]
      ]
    ]

most_changed : (c : Change) (ps : List Point) → latest_of (changed c ps) ≤ max (time_of c) (latest_of ps)
most_changed (More d) ps = most_more d ps
most_changed (Less d) ps = omega (arith, most_less d ps)

-- a second change has its place among the points still
still_placed : (c d : Change) (ps : List Point) → StaysLate c d → HasPlace (time_of d) ps →
    HasPlace (time_of d) (changed c ps)
still_placed (More m) d ps late place = (some_more m ps, omega (arith, latest_more m ps, place.1))
still_placed (Less m) d ps late place =
    let there = latest_less m (time_of d) ps late place.1 in
    (some_late (time_of d) (unmarked m ps) (omega arith) there, there)

-- a change among the points of the first list, and one behind them
inside : (c : Change) (ps qs : List Point) → HasPlace (time_of c) ps → changed c (ps ++ qs) ≡ changed c ps ++ qs
inside c ps qs place = changed_left c ps qs place.1 place.0

behind : (c : Change) (ps qs : List Point) → (HasPlace (time_of c) ps → ⊥) → changed c (ps ++ qs) ≡ ps ++ changed c qs
behind c [] qs off = refl
behind c (p ∷ ps) qs off = changed_right c (p ∷ ps) qs (elim (cases_lt (latest_of (p ∷ ps)) (time_of c)) [
  | inl lt ↦ lt
  | inr ge ↦ absurd (off (omega arith, ge))
])

module _ (c d : Change) (xs ys : List (List Point)) where
  abbrev Twice : List Point → Type 0
  Twice new = new ≡ changed d (changed c (flat (xs ++ ys)))

  pub both_behind : (HasPlace (time_of c) (flat xs) → ⊥) → (HasPlace (time_of d) (flat xs) → ⊥) →
      (zs : List (List Point)) → flat zs ≡ changed d (changed c (flat ys)) → Twice (flat (xs ++ zs))
  both_behind off off' zs e = flat_append xs zs ∙ ap (λ l. flat xs ++ l) e
      ∙ sym (behind d (flat xs) (changed c (flat ys)) off')
      ∙ ap (changed d) (sym (behind c (flat xs) (flat ys) off) ∙ ap (changed c) (sym (flat_append xs ys)))

  pub both_inside : StaysLate c d → HasPlace (time_of c) (flat xs) → HasPlace (time_of d) (flat xs) →
      (zs : List (List Point)) → flat zs ≡ changed d (changed c (flat xs)) → Twice (flat (zs ++ ys))
  both_inside late place place' zs e = flat_append zs ys ∙ ap (λ l. l ++ flat ys) e
      ∙ sym (inside d (changed c (flat xs)) (flat ys) (still_placed c d (flat xs) late place'))
      ∙ ap (changed d) (sym (inside c (flat xs) (flat ys) place) ∙ ap (changed c) (sym (flat_append xs ys)))

  pub first_inside : HasPlace (time_of c) (flat xs) → (HasPlace (time_of d) (flat xs) → ⊥) →
      (ws zs : List (List Point)) → flat ws ≡ changed c (flat xs) → flat zs ≡ changed d (flat ys) →
      Twice (flat (ws ++ zs))
  first_inside place off ws zs e f = flat_append ws zs ∙ ap (λ l. l ++ flat zs) e ∙ ap (λ l. changed c (flat xs) ++ l) f
      ∙ sym (behind d (changed c (flat xs)) (flat ys)
      (λ there. off (place.0, late (time_of d) there.1)))
      ∙ ap (changed d) (sym (inside c (flat xs) (flat ys) place) ∙ ap (changed c) (sym (flat_append xs ys)))
    where
      late : (t : ℕ) → t ≤ latest_of (changed c (flat xs)) → t ≤ latest_of (flat xs)
      late t h = omega (arith, h, most_changed c (flat xs), place.1)

  pub second_inside : (HasPlace (time_of c) (flat xs) → ⊥) → HasPlace (time_of d) (flat xs) →
      (ws zs : List (List Point)) → flat ws ≡ changed d (flat xs) → flat zs ≡ changed c (flat ys) →
      Twice (flat (ws ++ zs))
  second_inside off place ws zs e f =
      flat_append ws zs ∙ ap (λ l. l ++ flat zs) e ∙ ap (λ l. changed d (flat xs) ++ l) f
      ∙ sym (inside d (flat xs) (changed c (flat ys)) place)
      ∙ ap (changed d) (sym (behind c (flat xs) (flat ys) off) ∙ ap (changed c) (sym (flat_append xs ys)))

pub ruleset change_facts = (both_behind, both_inside, first_inside, second_inside)

-- a chunk behind the last one
pub last_gains : {X : Type 0} (lists : List (List X)) (at : ℕ) (last next : List X) (edit : Edit (List X)) →
    at + 1 ≡ length lists → slice_get lists at ≡ Some last → flat (made edit) ≡ last ++ next →
    flat (edited lists at edit) ≡ flat lists ++ next
last_gains [] at last next edit n g e = absurd (omega arith)
last_gains (xs ∷ []) zero last next edit n g e =
    let same : xs ≡ last = cc in
    flat_append (made edit) [] ∙ append-nil (flat (made edit)) ∙ e
    ∙ ap (λ l. l ++ next) (sym same ∙ sym (append-nil xs))
last_gains (xs ∷ ys ∷ lists) zero last next edit n g e = absurd (omega arith)
last_gains (xs ∷ []) (suc at) last next edit n g e = absurd (omega arith)
last_gains (xs ∷ ys ∷ lists) (suc at) last next edit n g e =
    ap (λ l. xs ++ l) (last_gains (ys ∷ lists) at last next edit (omega arith) g e)
    ∙ sym (append_assoc xs (flat (ys ∷ lists)) next)

pub filled_at : {X : Type 0} (lists : List (List X)) (at : ℕ) (xs : List X) → AreFilled lists →
    slice_get lists at ≡ Some xs → 0 < length xs
filled_at [] at xs f g = absurd (cc)
filled_at (ys ∷ lists) zero xs f g = let same : ys ≡ xs = cc in rw (← same) f.0
filled_at (ys ∷ lists) (suc at) xs f g = filled_at lists at xs f.1 g

-- and without the first one
pub first_goes : {X : Type 0} (lists : List (List X)) (first : List X) → slice_get lists 0 ≡ Some first →
    first ++ flat (edited lists 0 Cut) ≡ flat lists
first_goes [] first g = absurd (cc)
first_goes (xs ∷ lists) first g = let same : xs ≡ first = cc in ap (λ l. l ++ flat lists) (sym same)

-- the first chunk of the second list behind the first list
pub set_apart : {X : Type 0} (xs ys ws zs : List (List X)) (first : List X) → flat ws ≡ flat xs ++ first →
    first ++ flat zs ≡ flat ys → flat (ws ++ zs) ≡ flat (xs ++ ys)
set_apart xs ys ws zs first e f = flat_append ws zs ∙ ap (λ l. l ++ flat zs) e ∙ append_assoc (flat xs) first (flat zs)
    ∙ ap (λ l. flat xs ++ l) f ∙ sym (flat_append xs ys)

pub ruleset behind_facts = (last_gains, filled_at, change_fills)

pub ruleset first_facts = (first_goes, change_fills)

pub ruleset settle_facts = (set_apart, filled_at)

-- how high the trees of two lists are that are one list of points
pub low_both : {X : Type 0} (h k : ℕ) (xs ys : List (List X)) (now : List X) → flat (xs ++ ys) ≡ now →
    AreFilled xs × AreFilled ys →
    h + 1 ≤ 2 * dig (length xs) → k + 1 ≤ 2 * dig (length ys) →
    (h + 1 ≤ 2 * dig (length now + 2)) × (k + 1 ≤ 2 * dig (length now + 2))
low_both {X = X} h k xs ys now is filled l m =
    let len = length-append (flat xs) (flat ys) in
    let all = ap (λ (zs : List X). length zs) (sym (flat_append xs ys) ∙ is) in (
      omega (
        arith,
        low_height h xs filled.0 l,
        dig_mono (length (flat xs) + 2) (length now + 2) (omega (arith, len, all)),
      ),
      omega (
        arith,
        low_height k ys filled.1 m,
        dig_mono (length (flat ys) + 2) (length now + 2) (omega (arith, len, all)),
      ),
    )
