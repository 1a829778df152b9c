-- A change of the points of chunks is one of the chunk that has its place.
use Rattle.std.proofs.Common.{◌≡◌, ℕ, zero, suc, ◌<◌, ◌≤◌, List, [], ◌∷◌, ◌++◌, length, refl, sym, ◌∙◌, ap, arith}
use Rattle.std.proofs.Common.{append-nil, inl, inr, Some, slice_get}
use Rattle.std.proofs.lemmas.Bool.{cases_lt}
use Rattle.flux_defs.proofs.DigitLaws.{if_le, if_gt}
use Rattle.balanced_tree.specs.declared.edits.Edit.{Edit}
use Rattle.balanced_tree.specs.Edits.{edited, made}
use Rattle.planner_min_tree.specs.declared.points.Point.{Point}
use Rattle.planner_min_tree.specs.declared.marking.Mark.{Mark}
use Rattle.planner_min_tree.specs.declared.marking.Change.{Change}
use Rattle.planner_min_tree.specs.declared.marking.Change.TheVariants.{More, Less}
use Rattle.planner_min_tree.specs.Points.{latest_of}
use Rattle.planner_min_tree.specs.Chunks.{flat, AreFilled, chunk_at}
use Rattle.planner_min_tree.specs.Marks.{added, fresh, lessened, marked, unmarked, changed, time_of}
use Rattle.planner_min_tree.proofs.TwoSides.{flat_append}

-- a change later than all of a list leaves the list
marked_right : (d : Mark) (xs ys : List Point) → latest_of xs < d.time → marked d (xs ++ ys) ≡ xs ++ marked d ys
marked_right d [] ys h = refl
marked_right d (p ∷ xs) ys h = if_le {a = suc p.time} {b = d.time} _ _ (omega arith)
    ∙ ap (λ l. p ∷ l) (marked_right d xs ys (omega arith))

unmarked_right : (d : Mark) (xs ys : List Point) → latest_of xs < d.time → unmarked d (xs ++ ys) ≡ xs ++ unmarked d ys
unmarked_right d [] ys h = refl
unmarked_right d (p ∷ xs) ys h = if_le {a = suc p.time} {b = d.time} _ _ (omega arith)
    ∙ ap (λ l. p ∷ l) (unmarked_right d xs ys (omega arith))

-- a change that isn't later than all of a list is one of that list alone
marked_left : (d : Mark) (xs ys : List Point) → d.time ≤ latest_of xs → 0 < length xs →
    marked d (xs ++ ys) ≡ marked d xs ++ ys
marked_left d [] ys h s = absurd (omega arith)
marked_left d (p ∷ xs) ys h s =
    elim (cases_lt p.time d.time) [
      | inl lt ↦ if_le {a = suc p.time} {b = d.time} _ _ lt
          ∙ ap (λ l. p ∷ l) (marked_left d xs ys (omega arith) (some xs (omega arith)))
          ∙ ap (λ l. l ++ ys) (sym (if_le {a = suc p.time} {b = d.time} (p ∷ marked d xs) _ lt))
      | inr ge ↦ elim (cases_lt d.time p.time) [
        | inl far ↦ if_gt {a = suc p.time} {b = d.time} _ _ (omega arith) ∙ if_gt {a = p.time} {b = d.time} _ _ far
            ∙ ap (λ l. l ++ ys) (sym (if_gt {a = suc p.time} {b = d.time} (p ∷ marked d xs) _ (omega arith)
            ∙ if_gt {a = p.time} {b = d.time} (added d p ∷ xs) (fresh d ∷ p ∷ xs) far))
        | inr near ↦ if_gt {a = suc p.time} {b = d.time} _ _ (omega arith)
            ∙ if_le {a = p.time} {b = d.time} _ _ near
            ∙ ap (λ l. l ++ ys) (sym (if_gt {a = suc p.time} {b = d.time} (p ∷ marked d xs) _ (omega arith)
            ∙ if_le {a = p.time} {b = d.time} (added d p ∷ xs) (fresh d ∷ p ∷ xs) near))
      ]
    ]
  where
    some : (xs : List Point) → 0 < latest_of xs → 0 < length xs
    some [] h = absurd (omega arith)
    some (p ∷ xs) h = omega arith

unmarked_left : (d : Mark) (xs ys : List Point) → d.time ≤ latest_of xs → 0 < length xs →
    unmarked d (xs ++ ys) ≡ unmarked d xs ++ ys
unmarked_left d [] ys h s = absurd (omega arith)
unmarked_left d (p ∷ xs) ys h s =
    elim (cases_lt p.time d.time) [
      | inl lt ↦ if_le {a = suc p.time} {b = d.time} _ _ lt
          ∙ ap (λ l. p ∷ l) (unmarked_left d xs ys (omega arith) (some xs (omega arith)))
          ∙ ap (λ l. l ++ ys) (sym (if_le {a = suc p.time} {b = d.time} (p ∷ unmarked d xs) _ lt))
      | inr ge ↦ elim (cases_lt d.time p.time) [
        | inl far ↦ off (xs ++ ys) far ∙ ap (λ l. l ++ ys) (sym (off xs far))
        | inr near ↦ elim (cases_lt 1 p.ends) [
          | inl many ↦ less (xs ++ ys) (omega arith) near many
              ∙ ap (λ l. l ++ ys) (sym (less xs (omega arith) near many))
          | inr few ↦ gone (xs ++ ys) (omega arith) near few ∙ ap (λ l. l ++ ys) (sym (gone xs (omega arith) near few))
        ]
      ]
    ]
  where
    some : (xs : List Point) → 0 < latest_of xs → 0 < length xs
    some [] h = absurd (omega arith)
    some (p ∷ xs) h = omega arith

    off : (qs : List Point) → d.time < p.time → unmarked d (p ∷ qs) ≡ p ∷ qs
    off qs far = if_gt {a = suc p.time} {b = d.time} _ _ (omega arith) ∙ if_gt {a = p.time} {b = d.time} _ _ far

    less : (qs : List Point) → d.time < suc p.time → p.time ≤ d.time → 1 < p.ends →
        unmarked d (p ∷ qs) ≡ lessened d p ∷ qs
    less qs ge near many = if_gt {a = suc p.time} {b = d.time} _ _ ge ∙ if_le {a = p.time} {b = d.time} _ _ near
        ∙ if_gt {a = p.ends} {b = 1} _ _ many

    gone : (qs : List Point) → d.time < suc p.time → p.time ≤ d.time → p.ends ≤ 1 → unmarked d (p ∷ qs) ≡ qs
    gone qs ge near few = if_gt {a = suc p.time} {b = d.time} _ _ ge ∙ if_le {a = p.time} {b = d.time} _ _ near
        ∙ if_le {a = p.ends} {b = 1} _ _ few

pub changed_right : (c : Change) (xs ys : List Point) →
    latest_of xs < time_of c → changed c (xs ++ ys) ≡ xs ++ changed c ys
changed_right (More d) xs ys h = marked_right d xs ys h
changed_right (Less d) xs ys h = unmarked_right d xs ys h

pub changed_left : (c : Change) (xs ys : List Point) → time_of c ≤ latest_of xs → 0 < length xs →
    changed c (xs ++ ys) ≡ changed c xs ++ ys
changed_left (More d) xs ys h s = marked_left d xs ys h s
changed_left (Less d) xs ys h s = unmarked_left d xs ys h s

flat_one : {X : Type 0} (xs : List X) → flat (xs ∷ []) ≡ xs
flat_one xs = append-nil xs

-- the chunk at the place of a change, changed, changes all points
pub change_in : (c : Change) (chunks : List (List Point)) (ps : List Point) (edit : Edit (List Point)) →
    AreFilled chunks → slice_get chunks (chunk_at (time_of c) chunks) ≡ Some ps → flat (made edit) ≡ changed c ps →
    flat (edited chunks (chunk_at (time_of c) chunks) edit) ≡ changed c (flat chunks)
change_in c [] ps edit filled g e = absurd (cc)
change_in c (qs ∷ []) ps edit filled g e =
    let same : qs ≡ ps = cc in
    flat_append (made edit) [] ∙ append-nil (flat (made edit)) ∙ e
    ∙ ap (changed c) (sym same ∙ sym (append-nil qs))
change_in c (qs ∷ rs ∷ chunks) ps edit filled g e =
    elim (cases_lt (latest_of qs) (time_of c)) [
      | inl lt ↦ (let n : chunk_at (time_of c) (qs ∷ rs ∷ chunks) ≡ suc (chunk_at (time_of c) (rs ∷ chunks))
          = if_le {a = suc (latest_of qs)} {b = time_of c} _ _ lt in
          let g' = rw n at g in
          ap (λ n. flat (edited (qs ∷ rs ∷ chunks) n edit)) n
          ∙ ap (λ l. qs ++ l) (change_in c (rs ∷ chunks) ps edit filled.1 g' e)
          ∙ sym (changed_right c qs (flat (rs ∷ chunks)) lt))
      | inr ge ↦ (let n : chunk_at (time_of c) (qs ∷ rs ∷ chunks) ≡ 0
          = if_gt {a = suc (latest_of qs)} {b = time_of c} _ _ (omega arith) in
          let g' = rw n at g in let same : qs ≡ ps = cc in
          ap (λ n. flat (edited (qs ∷ rs ∷ chunks) n edit)) n
          ∙ flat_append (made edit) (rs ∷ chunks)
          ∙ ap (λ l. l ++ flat (rs ∷ chunks)) (e ∙ ap (changed c) (sym same))
          ∙ sym (changed_left c qs (flat (rs ∷ chunks)) ge filled.0))
    ]

-- one end of a span more leaves the latest point, and some point is there
pub latest_more : (d : Mark) (ps : List Point) → latest_of ps ≤ latest_of (marked d ps)
latest_more d [] = omega arith
latest_more d (p ∷ ps) =
    elim (cases_lt p.time d.time) [
      | inl lt ↦ rw (if_le {a = suc p.time} {b = d.time} (p ∷ marked d ps) _ lt) (omega (arith, latest_more d ps))
      | inr ge ↦ elim (cases_lt d.time p.time) [
        | inl far ↦ rw (
          if_gt {a = suc p.time} {b = d.time} (p ∷ marked d ps) _ (omega arith),
          if_gt {a = p.time} {b = d.time} (added d p ∷ ps) (fresh d ∷ p ∷ ps) far,
        ) (omega arith)
        | inr near ↦ rw (
          if_gt {a = suc p.time} {b = d.time} (p ∷ marked d ps) _ (omega arith),
          if_le {a = p.time} {b = d.time} (added d p ∷ ps) (fresh d ∷ p ∷ ps) near,
        ) (omega arith)
      ]
    ]

pub some_more : (d : Mark) (ps : List Point) → 0 < length (marked d ps)
some_more d [] = omega arith
some_more d (p ∷ ps) =
    elim (cases_lt p.time d.time) [
      | inl lt ↦ rw (if_le {a = suc p.time} {b = d.time} (p ∷ marked d ps) _ lt) (omega arith)
      | inr ge ↦ elim (cases_lt d.time p.time) [
        | inl far ↦ rw (
          if_gt {a = suc p.time} {b = d.time} (p ∷ marked d ps) _ (omega arith),
          if_gt {a = p.time} {b = d.time} (added d p ∷ ps) (fresh d ∷ p ∷ ps) far,
        ) (omega arith)
        | inr near ↦ rw (
          if_gt {a = suc p.time} {b = d.time} (p ∷ marked d ps) _ (omega arith),
          if_le {a = p.time} {b = d.time} (added d p ∷ ps) (fresh d ∷ p ∷ ps) near,
        ) (omega arith)
      ]
    ]

-- the chunk at the place of two changes, changed twice, changes all points twice
pub both_in : (d : Mark) (c : Change) (chunks : List (List Point)) (ps : List Point) (edit : Edit (List Point)) →
    AreFilled chunks → chunk_at d.time chunks ≡ chunk_at (time_of c) chunks →
    slice_get chunks (chunk_at d.time chunks) ≡ Some ps → flat (made edit) ≡ changed c (marked d ps) →
    flat (edited chunks (chunk_at d.time chunks) edit) ≡ changed c (marked d (flat chunks))
both_in d c [] ps edit filled same g e = absurd (cc)
both_in d c (qs ∷ []) ps edit filled same g e =
    let is : qs ≡ ps = cc in
    flat_append (made edit) [] ∙ append-nil (flat (made edit)) ∙ e
    ∙ ap (λ l. changed c (marked d l)) (sym is ∙ sym (append-nil qs))
both_in d c (qs ∷ rs ∷ chunks) ps edit filled same g e =
    elim (cases_lt (latest_of qs) d.time) [
      | inl lt ↦ (let n : chunk_at d.time (qs ∷ rs ∷ chunks) ≡ suc (chunk_at d.time (rs ∷ chunks))
          = if_le {a = suc (latest_of qs)} {b = d.time} _ _ lt in
          elim (cases_lt (latest_of qs) (time_of c)) [
            | inl less ↦ (let m : chunk_at (time_of c) (qs ∷ rs ∷ chunks) ≡ suc (chunk_at (time_of c) (rs ∷ chunks))
                = if_le {a = suc (latest_of qs)} {b = time_of c} _ _ less in
                let g' = rw n at g in
                ap (λ n. flat (edited (qs ∷ rs ∷ chunks) n edit)) n
                ∙ ap (λ l. qs ++ l) (both_in d c (rs ∷ chunks) ps edit filled.1 (omega (arith, n, m, same)) g' e)
                ∙ sym (changed_right c qs (marked d (flat (rs ∷ chunks))) less)
                ∙ ap (changed c) (sym (marked_right d qs (flat (rs ∷ chunks)) lt)))
            | inr more ↦ (let m : chunk_at (time_of c) (qs ∷ rs ∷ chunks) ≡ 0
                = if_gt {a = suc (latest_of qs)} {b = time_of c} _ _ (omega arith) in
                absurd (omega (arith, n, m, same)))
          ])
      | inr ge ↦ (let n : chunk_at d.time (qs ∷ rs ∷ chunks) ≡ 0
          = if_gt {a = suc (latest_of qs)} {b = d.time} _ _ (omega arith) in
          elim (cases_lt (latest_of qs) (time_of c)) [
            | inl less ↦ (let m : chunk_at (time_of c) (qs ∷ rs ∷ chunks) ≡ suc (chunk_at (time_of c) (rs ∷ chunks))
                = if_le {a = suc (latest_of qs)} {b = time_of c} _ _ less in
                absurd (omega (arith, n, m, same)))
            | inr more ↦ (let g' = rw n at g in let is : qs ≡ ps = cc in
                let later = latest_more d qs in
                ap (λ n. flat (edited (qs ∷ rs ∷ chunks) n edit)) n
                ∙ flat_append (made edit) (rs ∷ chunks)
                ∙ ap (λ l. l ++ flat (rs ∷ chunks)) (e ∙ ap (λ l. changed c (marked d l)) (sym is))
                ∙ sym (changed_left c (marked d qs) (flat (rs ∷ chunks)) (omega arith) (some_more d qs))
                ∙ ap (changed c) (sym (marked_left d qs (flat (rs ∷ chunks)) ge filled.0)))
          ])
    ]

pub filled_append : {X : Type 0} (xs ys : List (List X)) → AreFilled xs → AreFilled ys → AreFilled (xs ++ ys)
filled_append [] ys a b = b
filled_append (x ∷ xs) ys a b = (a.0, filled_append xs ys a.1 b)

-- no chunk becomes empty
pub change_fills : {X : Type 0} (lists : List (List X)) (at : ℕ) (edit : Edit (List X)) → AreFilled lists →
    AreFilled (made edit) →
    AreFilled (edited lists at edit)
change_fills [] at edit a b = tt
change_fills (x ∷ lists) zero edit a b = filled_append (made edit) lists b a.1
change_fills (x ∷ lists) (suc at) edit a b = (a.0, change_fills lists at edit a.1 b)

-- a list in two parts
pub two_parts : {X : Type 0} (xs ys : List X) → flat (xs ∷ ys ∷ []) ≡ xs ++ ys
two_parts xs ys = ap (λ l. xs ++ l) (append-nil ys)

pub one_part : {X : Type 0} (xs : List X) → flat (xs ∷ []) ≡ xs
one_part xs = append-nil xs

pub ruleset made_facts = (two_parts, one_part)

pub ruleset change_facts = (change_in, change_fills)

pub ruleset both_facts = (both_in, change_fills)
