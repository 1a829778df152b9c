-- The ids of ranges, and the runs of ids.
use Rattle.std.proofs.Common.{◌≡◌, ℕ, zero, suc, ◌+◌, ◌-◌, ◌<◌, ◌≤◌, ◌⊎◌, Bool, true, false, ◌||◌, cond, eqb, List, []}
use Rattle.std.proofs.Common.{◌∷◌, ◌++◌, sym, ap, ◌∙◌, inl, inr, append_assoc, arith}
use Rattle.std.specs.Prelude.{Contains}
use Rattle.std.specs.List.{list_any}
use Rattle.std.proofs.lemmas.Bool.{cases_eq, or_cases, and_parts, and_from, leb-true, le-leb, eq-eqb, ne_eqb, or_right}
use Rattle.std.proofs.lemmas.List.Elements.{Contains-append_left, Contains-append_right, Contains-append_cases}
use Rattle.idset_text.specs.declared.idsets.Range.{Range}
use Rattle.idset_text.specs.Idsets.{is_within, ids_from, ids_between, ids_of, with_run, run_of, runs_of, range_text}
use Rattle.idset_text.specs.Idsets.{runs_text}

-- ---- which ids ranges have

pub there : (x id : ℕ) (ids : List ℕ) → Contains ids id → Contains (x ∷ ids) id
there x id ids has = (suc has.0, omega (arith, has.1), has.2)

pub first_or_later : (x id : ℕ) (ids : List ℕ) → Contains (x ∷ ids) id → (x ≡ id) ⊎ Contains ids id
first_or_later x id ids (zero, lt, e) = inl e
first_or_later x id ids (suc k, lt, e) = inr (k, omega (arith, lt), e)

pub ids_from-has : (count lo id : ℕ) → lo ≤ id → id < lo + count → Contains (ids_from count lo) id
ids_from-has zero lo id low high = absurd (omega arith)
ids_from-has (suc count) lo id low high =
    elim (cases_eq lo id) [
      | inl e ↦ (0, omega arith, e)
      | inr other ↦ there lo id (ids_from count (lo + 1)) (ids_from-has count (lo + 1) id (omega arith) (omega arith))
    ]

pub ids_from-bounds : (count lo id : ℕ) → Contains (ids_from count lo) id → (lo ≤ id) × (id < lo + count)
ids_from-bounds zero lo id has = absurd (omega (arith, has.1))
ids_from-bounds (suc count) lo id has =
    elim (first_or_later lo id (ids_from count (lo + 1)) has) [
      | inl e ↦ (omega arith, omega arith)
      | inr later ↦ let bounds = ids_from-bounds count (lo + 1) id later in
          (omega (arith, bounds.0), omega (arith, bounds.1))
    ]

pub has_when_within : (ranges : List Range) (id : ℕ) →
    list_any (λ range. is_within range id) ranges ≡ true → Contains (ids_of ranges) id
has_when_within [] id e = absurd cc
has_when_within (range ∷ ranges) id e =
    elim (or_cases (is_within range id) (list_any (λ range. is_within range id) ranges) e) [
      | inl here ↦
          let bounds = and_parts _ _ here in
          let low : range.lo ≤ id = leb-true _ _ bounds.0 in
          let high : id ≤ range.hi = leb-true _ _ bounds.1 in
          Contains-append_left (ids_between range)
          (ids_of ranges) id (ids_from-has (range.hi + 1 - range.lo) range.lo id low (omega arith))
      | inr later ↦ Contains-append_right (ids_between range) (ids_of ranges) id (has_when_within ranges id later)
    ]

pub within_when_has : (ranges : List Range) (id : ℕ) →
    Contains (ids_of ranges) id → list_any (λ range. is_within range id) ranges ≡ true
within_when_has [] id has = absurd (omega (arith, has.1))
within_when_has (range ∷ ranges) id has =
    elim (Contains-append_cases (ids_between range) (ids_of ranges) id has) [
      | inl here ↦
          let bounds = ids_from-bounds (range.hi + 1 - range.lo) range.lo id here in
          let low : range.lo ≤ id = bounds.0 in
          let high : id ≤ range.hi = omega (arith, bounds.0, bounds.1) in
          ap (λ (t : Bool). t || list_any (λ range. is_within range id) ranges)
          (and_from _ _ (le-leb _ _ low) (le-leb _ _ high))
      | inr later ↦ or_right
          (is_within range id) (list_any (λ range. is_within range id) ranges) (within_when_has ranges id later)
    ]

-- ---- runs

-- a run that goes on as another is one run
pub with_run-with_run : (run next : Range) (runs : List Range) →
    next.lo ≡ run.hi + 1 → with_run run (with_run next runs) ≡ with_run (record { lo = run.lo; hi = next.hi }) runs
with_run-with_run run next [] e =
    ap (λ (t : Bool). cond t (record { lo = run.lo; hi = next.hi } ∷ []) (run ∷ next ∷ [])) (eq-eqb _ _ e)
with_run-with_run run next (other ∷ runs) e = by_test (eqb other.lo (next.hi + 1))
  where
    by_test : (b : Bool) → with_run run (cond b (record { lo = next.lo; hi = other.hi } ∷ runs) (next ∷ other ∷ runs))
        ≡ cond b (record { lo = run.lo; hi = other.hi } ∷ runs) (record { lo = run.lo; hi = next.hi } ∷ other ∷ runs)
    by_test true = ap (λ (t : Bool). cond t (record { lo = run.lo; hi = other.hi } ∷ runs)
        (run ∷ record { lo = next.lo; hi = other.hi } ∷ runs)) (eq-eqb _ _ e)
    by_test false = ap (λ (t : Bool).
        cond t (record { lo = run.lo; hi = next.hi } ∷ other ∷ runs) (run ∷ next ∷ other ∷ runs)) (eq-eqb _ _ e)

-- a run that doesn't go on as another stands before it
pub runs_text-apart : (run next : Range) (runs : List Range) → (next.lo ≡ run.hi + 1 → ⊥) →
    runs_text (with_run run (with_run next runs)) ≡ range_text run ++ 44 ∷ runs_text (with_run next runs)
runs_text-apart run next [] apart = ap
    (λ (t : Bool). runs_text (cond t (record { lo = run.lo; hi = next.hi } ∷ []) (run ∷ next ∷ []))) (ne_eqb _ _ apart)
runs_text-apart run next (other ∷ runs) apart = by_test (eqb other.lo (next.hi + 1))
  where
    by_test : (b : Bool) → runs_text
        (with_run run (cond b (record { lo = next.lo; hi = other.hi } ∷ runs) (next ∷ other ∷ runs))) ≡ range_text run
        ++ 44 ∷ runs_text (cond b (record { lo = next.lo; hi = other.hi } ∷ runs) (next ∷ other ∷ runs))
    by_test true = ap (λ (t : Bool). runs_text (cond t (record { lo = run.lo; hi = other.hi } ∷ runs)
        (run ∷ record { lo = next.lo; hi = other.hi } ∷ runs))) (ne_eqb _ _ apart)
    by_test false = ap (λ (t : Bool). runs_text
        (cond t (record { lo = run.lo; hi = next.hi } ∷ other ∷ runs) (run ∷ next ∷ other ∷ runs))) (ne_eqb _ _ apart)

-- the next id continues the run
pub ids_go_on : (text all : List ℕ) (lo hi id : ℕ) (ids : List ℕ) →
    id ≡ hi + 1 → text ++ runs_text (with_run (record { lo = lo; hi = hi }) (runs_of (id ∷ ids))) ≡ all →
    text ++ runs_text (with_run (record { lo = lo; hi = id }) (runs_of ids)) ≡ all
ids_go_on text all lo hi id ids e so_far =
    ap (λ (runs : List Range). text ++ runs_text runs)
    (sym (with_run-with_run (record { lo = lo; hi = hi }) (run_of id) (runs_of ids) e)) ∙ so_far

-- the next id ends the run
pub ids_part : (text all : List ℕ) (lo hi id : ℕ) (ids : List ℕ) →
    (id ≡ hi + 1 → ⊥) → text ++ runs_text (with_run (record { lo = lo; hi = hi }) (runs_of (id ∷ ids))) ≡ all
    → (text ++ range_text (record { lo = lo; hi = hi }) ++ 44 ∷ [])
    ++ runs_text (with_run (record { lo = id; hi = id }) (runs_of ids)) ≡ all
ids_part text all lo hi id ids apart so_far =
    append_assoc (text ++ range_text (record { lo = lo; hi = hi })) (44 ∷ []) _
    ∙ append_assoc text (range_text (record { lo = lo; hi = hi })) _
    ∙ ap (λ (t : List ℕ). text ++ t)
    (sym (runs_text-apart (record { lo = lo; hi = hi }) (run_of id) (runs_of ids) apart))
    ∙ so_far

-- equal texts and runs have equal texts together
pub same_state : (text text' all : List ℕ) (lo lo' hi hi' : ℕ) (ids : List ℕ) → text' ≡ text →
    lo' ≡ lo → hi' ≡ hi → text ++ runs_text (with_run (record { lo = lo; hi = hi }) (runs_of ids)) ≡ all →
    text' ++ runs_text (with_run (record { lo = lo'; hi = hi' }) (runs_of ids)) ≡ all
same_state text text' all lo lo' hi hi' ids t l h e = rw (t, l, h) e
