-- A point put or set at the place of a time marks the points.
use Rattle.std.proofs.Common.{◌≡◌, ℕ, zero, suc, ◌<◌, ◌≤◌, nat_le, List, [], ◌∷◌, length, refl, sym, ◌∙◌, ap, arith}
use Rattle.std.proofs.Common.{cond, inl, inr, slice_set, insert, remove, get_or}
use Rattle.std.specs.List.{refill}
use Rattle.std.proofs.lemmas.Bool.{cases_lt}
use Rattle.flux_defs.proofs.DigitLaws.{if_le, if_gt}
use Rattle.planner_min_tree.specs.declared.points.Point.{Point}
use Rattle.planner_min_tree.specs.declared.marking.Mark.{Mark}
use Rattle.planner_min_tree.specs.Points.{count_before}
use Rattle.planner_min_tree.specs.Marks.{added, fresh, lessened, marked, unmarked}
use Rattle.planner_min_tree.proofs.Keeps.{marked_on, unmarked_on}

count_past : (t : ℕ) (p : Point) (ps : List Point) → p.time < t → count_before t (p ∷ ps) ≡ suc (count_before t ps)
count_past t p ps lt = if_le {a = suc p.time} {b = t} _ _ lt

count_here : (t : ℕ) (p : Point) (ps : List Point) → t ≤ p.time → count_before t (p ∷ ps) ≡ 0
count_here t p ps ge = if_gt {a = suc p.time} {b = t} _ _ (omega arith)

-- the point at the place has the mark's time
pub marks_here : (d : Mark) (ps : List Point) (at : ℕ) (p : Point) → at ≡ count_before d.time ps → at < length ps →
    p ≡ get_or ps at p → p.time ≡ d.time →
    slice_set ps at (added d p) ≡ marked d ps
marks_here d [] at p c l g e = absurd (omega arith)
marks_here d (q ∷ ps) zero p c l g e =
    elim (cases_lt q.time d.time) [
      | inl lt ↦ (let n = count_past d.time q ps lt in absurd (omega arith))
      | inr ge ↦ (let same : p ≡ q = g in
          rw same (sym (if_gt {a = suc q.time} {b = d.time} _ _ (omega arith)
          ∙ if_le {a = q.time} {b = d.time} _ _ (let u = ap (λ (v : Point). v.time) same in omega arith))))
    ]
marks_here d (q ∷ ps) (suc at) p c l g e =
    elim (cases_lt q.time d.time) [
      | inl lt ↦ (let n = count_past d.time q ps lt in ap (λ u. q ∷ u)
          (marks_here d ps at p (omega arith) (omega arith) g e) ∙ sym (marked_on d q ps lt))
      | inr ge ↦ (let n = count_here d.time q ps ge in absurd (omega arith))
    ]

-- the point at the place is later, or there is none
pub marks_between : (d : Mark) (ps : List Point) (at : ℕ) → at ≡ count_before d.time ps →
    (at < length ps → (p : Point) → p ≡ get_or ps at p → p.time ≡ d.time → ⊥) →
    insert ps at (fresh d) ≡ marked d ps
marks_between d [] at c f = (let z : at ≡ 0 = c in ap (λ u. insert [] u (fresh d)) z)
marks_between d (q ∷ ps) zero c f =
    elim (cases_lt q.time d.time) [
      | inl lt ↦ (let n = count_past d.time q ps lt in absurd (omega arith))
      | inr ge ↦ (let far : d.time < q.time = elim (cases_lt d.time q.time) [
        | inl a ↦ a
        | inr b ↦ absurd (f (omega arith) q refl (omega arith))
      ] in
          sym (if_gt {a = suc q.time} {b = d.time} _ _ (omega arith) ∙ if_gt {a = q.time} {b = d.time} _ _ far))
    ]
marks_between d (q ∷ ps) (suc at) c f =
    elim (cases_lt q.time d.time) [
      | inl lt ↦ (let n = count_past d.time q ps lt in ap (λ u. q ∷ u)
          (marks_between d ps at (omega arith) (λ l p g e. f (omega arith) p g e)) ∙ sym (marked_on d q ps lt))
      | inr ge ↦ (let n = count_here d.time q ps ge in absurd (omega arith))
    ]

pub marks_last : (d : Mark) (ps : List Point) (at : ℕ) → at ≡ count_before d.time ps → length ps ≤ at →
    insert ps at (fresh d) ≡ marked d ps
marks_last d ps at c l = marks_between d ps at c (λ s p g e. omega arith)

get_same : (ps : List Point) (at : ℕ) (z p : Point) → at < length ps → p ≡ get_or ps at p → get_or ps at z ≡ p
get_same [] at z p l g = absurd (omega arith)
get_same (q ∷ ps) zero z p l g = sym g
get_same (q ∷ ps) (suc at) z p l g = get_same ps at z p (omega arith) g

pub marks_other : (d : Mark) (ps : List Point) (at : ℕ) (z : Point) → at ≡ count_before d.time ps → at < length ps →
    ((get_or ps at z).time ≡ d.time → ⊥) → insert ps at (fresh d) ≡ marked d ps
marks_other d ps at z c l f = marks_between d ps at c (λ s p g e. f
    (ap (λ (v : Point). v.time) (get_same ps at z p s g) ∙ e))

got : (ps : List Point) (at : ℕ) (z : Point) → at < length ps → get_or ps at z ≡ get_or ps at (get_or ps at z)
got [] at z l = absurd (omega arith)
got (q ∷ ps) zero z l = refl
got (q ∷ ps) (suc at) z l = got ps at z (omega arith)

-- as many points in the place of all
refill_all : (ps qs : List Point) → length qs ≡ length ps → refill (length ps) ps qs ≡ qs
refill_all [] [] e = refl
refill_all [] (q ∷ qs) e = absurd (omega arith)
refill_all (p ∷ ps) [] e = absurd (omega arith)
refill_all (p ∷ ps) (q ∷ qs) e = ap (λ u. q ∷ u) (refill_all ps qs (omega arith))

length_set : (ps : List Point) (at : ℕ) (q : Point) → length (slice_set ps at q) ≡ length ps
length_set [] at q = refl
length_set (p ∷ ps) zero q = refl
length_set (p ∷ ps) (suc at) q = ap suc (length_set ps at q)

refill_set : (ps now : List Point) (at : ℕ) (q : Point) → now ≡ ps →
    refill (length ps) ps (slice_set now at q) ≡ slice_set ps at q
refill_set ps now at q e = ap (λ l. refill (length ps) ps (slice_set l at q)) e
    ∙ refill_all ps (slice_set ps at q) (length_set ps at q)

pub marks_again : (d : Mark) (ps now : List Point) (at : ℕ) (z q : Point) → at ≡ count_before d.time ps →
    at < length ps → now ≡ ps → (get_or ps at z).time ≡ d.time → q ≡ added d (get_or ps at z) →
    refill (length ps) ps (slice_set now at q) ≡ marked d ps
marks_again d ps now at z q c l n t e = refill_set ps now at q n ∙ ap (λ u. slice_set ps at u) e
    ∙ marks_here d ps at (get_or ps at z) c l (got ps at z l) t

pub ruleset mark_facts = (marks_last, marks_other, marks_again)

-- no point has the mark's time
pub unmarks_nothing : (d : Mark) (ps : List Point) (at : ℕ) → at ≡ count_before d.time ps →
    (at < length ps → (p : Point) → p ≡ get_or ps at p → p.time ≡ d.time → ⊥) → ps ≡ unmarked d ps
unmarks_nothing d [] at c f = refl
unmarks_nothing d (q ∷ ps) zero c f =
    elim (cases_lt q.time d.time) [
      | inl lt ↦ (let n = count_past d.time q ps lt in absurd (omega arith))
      | inr ge ↦ (let far : d.time < q.time
          = elim (cases_lt d.time q.time) [ inl a ↦ a | inr b ↦ absurd (f (omega arith) q refl (omega arith)) ] in
          sym (if_gt {a = suc q.time} {b = d.time} _ _ (omega arith) ∙ if_gt {a = q.time} {b = d.time} _ _ far))
    ]
unmarks_nothing d (q ∷ ps) (suc at) c f =
    elim (cases_lt q.time d.time) [
      | inl lt ↦ (let n = count_past d.time q ps lt in
          ap (λ u. q ∷ u) (unmarks_nothing d ps at (omega arith) (λ l p g e. f (omega arith) p g e))
          ∙ sym (unmarked_on d q ps lt))
      | inr ge ↦ (let n = count_here d.time q ps ge in absurd (omega arith))
    ]

pub unmarks_last : (d : Mark) (ps : List Point) (at : ℕ) → at ≡ count_before d.time ps → length ps ≤ at →
    ps ≡ unmarked d ps
unmarks_last d ps at c l = unmarks_nothing d ps at c (λ s p g e. omega arith)

pub unmarks_other : (d : Mark) (ps : List Point) (at : ℕ) (z : Point) → at ≡ count_before d.time ps →
    at < length ps → ((get_or ps at z).time ≡ d.time → ⊥) → ps ≡ unmarked d ps
unmarks_other d ps at z c l f =
    unmarks_nothing d ps at c (λ s p g e. f (ap (λ (v : Point). v.time) (get_same ps at z p s g) ∙ e))

-- the point at the place has the mark's time
unmarks_here : (d : Mark) (ps : List Point) (at : ℕ) (p : Point) → at ≡ count_before d.time ps → at < length ps →
    p ≡ get_or ps at p → p.time ≡ d.time →
    (p.ends ≤ 1 → remove ps at ≡ unmarked d ps) × (1 < p.ends → slice_set ps at (lessened d p) ≡ unmarked d ps)
unmarks_here d [] at p c l g e = absurd (omega arith)
unmarks_here d (q ∷ ps) zero p c l g e =
    elim (cases_lt q.time d.time) [
      | inl lt ↦ (let n = count_past d.time q ps lt in absurd (omega arith))
      | inr ge ↦ (let same : p ≡ q = g in
          let t = ap (λ (v : Point). v.time) same in let m = ap (λ (v : Point). v.ends) same in
          let there = if_gt {a = suc q.time} {b = d.time} (q ∷ unmarked d ps) _ (omega arith)
          ∙ if_le {a = q.time} {b = d.time} (cond (nat_le q.ends 1) ps (lessened d q ∷ ps)) (q ∷ ps) (omega arith) in (
            λ few. sym (there ∙ if_le {a = q.ends} {b = 1} _ _ (omega arith)),
            λ many. ap (λ u. lessened d u ∷ ps) same ∙ sym (there ∙ if_gt {a = q.ends} {b = 1} _ _ (omega arith)),
          ))
    ]
unmarks_here d (q ∷ ps) (suc at) p c l g e =
    elim (cases_lt q.time d.time) [
      | inl lt ↦ (let n = count_past d.time q ps lt in
          let ih = unmarks_here d ps at p (omega arith) (omega arith) g e in (
            λ few. ap (λ u. q ∷ u) (ih.0 few) ∙ sym (unmarked_on d q ps lt),
            λ many. ap (λ u. q ∷ u) (ih.1 many) ∙ sym (unmarked_on d q ps lt),
          ))
      | inr ge ↦ (let n = count_here d.time q ps ge in absurd (omega arith))
    ]

pub unmarks_gone : (d : Mark) (ps : List Point) (at : ℕ) (z : Point) → at ≡ count_before d.time ps →
    at < length ps → (get_or ps at z).time ≡ d.time → (get_or ps at z).ends ≤ 1 → remove ps at ≡ unmarked d ps
unmarks_gone d ps at z c l t few = (unmarks_here d ps at (get_or ps at z) c l (got ps at z l) t).0 few

pub unmarks_less : (d : Mark) (ps now : List Point) (at : ℕ) (z q : Point) → at ≡ count_before d.time ps →
    at < length ps → now ≡ ps → (get_or ps at z).time ≡ d.time → 1 < (get_or ps at z).ends →
    q ≡ lessened d (get_or ps at z) → refill (length ps) ps (slice_set now at q) ≡ unmarked d ps
unmarks_less d ps now at z q c l n t many e = refill_set ps now at q n ∙ ap (λ u. slice_set ps at u) e
    ∙ (unmarks_here d ps at (get_or ps at z) c l (got ps at z l) t).1 many

pub ruleset unmark_facts = (unmarks_last, unmarks_other, unmarks_gone, unmarks_less)
