-- What is told of what sixteen rows leave, after a row has changed or come.
use Rattle.std.proofs.Common.{◌≡◌, ◌≢◌, ℕ, zero, suc, ◌+◌, ◌-◌, ◌*◌, ◌/◌, ◌<◌, ◌≤◌, List, [], ◌∷◌, ◌++◌, length, take}
use Rattle.std.proofs.Common.{drop, ◌⊎◌, inl, inr, Some, slice_get, slice_set, refl, sym, ◌∙◌, ap, arith}
use Rattle.std.proofs.lemmas.Bool.{cases_lt}
use Rattle.std.proofs.lemmas.List.{drop-append-le, drop-set-add, drop-set-lt, drop-take, drop_all, length-drop}
use Rattle.std.proofs.lemmas.List.{take-append-drop, take-append-le, take-set-le, take-take, take_all}
use Rattle.std.proofs.Math.ListN.{length-append, length-set}
use Rattle.flux_defs.specs.declared.requests.Need.{Need}
use Rattle.dfu_match.specs.declared.knowing.Row.{Row}
use Rattle.dfu_match.specs.declared.knowing.Known.{Known}
use Rattle.dfu_match.specs.declared.leaving.Left.{Left}
use Rattle.dfu_match.specs.Rows.{AreLefts, IsForgotten, IsLeft, KeepsLefts}

-- a row in its own place changes nothing
pub set_same : (rows : List Row) (i : ℕ) (row : Row) → slice_get rows i ≡ Some row → rows ≡ slice_set rows i row
set_same [] i row at = refl
set_same (first ∷ rows) zero row at = cc
set_same (first ∷ rows) (suc i) row at = ap (λ (rs : List Row). first ∷ rs) (set_same rows i row at)

-- the first rows, and of those that follow the first
pub take_both : (n m : ℕ) (rows : List Row) → take (n + m) rows ≡ take n rows ++ take m (drop n rows)
take_both n m rows =
    let le : n ≤ n + m = omega arith in
    let whole = take-append-drop n (take (n + m) rows) in
    sym (rw (take-take n (n + m) rows le, drop-take n m rows) at whole)

-- a row that changes is of its own place
pub place_set : (rows : List Row) (at b : ℕ) (row : Row) → b ≢ at / 16 →
    take 16 (drop (16 * b) (slice_set rows at row)) ≡ take 16 (drop (16 * b) rows)
place_set rows at b row other = elim (cases_lt at (16 * b)) [
  | inl before ↦ ap (take 16) (drop-set-lt (16 * b) rows at row before)
  | inr after ↦
      let i = at - 16 * b in
      let e : at ≡ 16 * b + i = omega (arith, after) in
      let past : 16 ≤ i = omega (arith, after, other) in
      rw e (rw drop-set-add (take-set-le 16 (drop (16 * b) rows) i row past))
]

-- a row that comes is of the place of its index
pub place_push : (rows : List Row) (b : ℕ) (row : Row) → b ≢ length rows / 16 →
    take 16 (drop (16 * b) (rows ++ row ∷ [])) ≡ take 16 (drop (16 * b) rows)
place_push rows b row other = elim (cases_lt (length rows) (16 * b)) [
  | inl past ↦
      let len : length (rows ++ row ∷ []) ≤ 16 * b = simp length-append (omega (arith, past)) in
      ap (take 16) (drop_all (16 * b) (rows ++ row ∷ []) len ∙ sym (drop_all (16 * b) rows (omega (arith, past))))
  | inr before ↦
      let fits : 16 ≤ length (drop (16 * b) rows) = simp length-drop (omega (arith, before, other)) in
      rw (drop-append-le (16 * b) rows (row ∷ []) before) (take-append-le 16 (drop (16 * b) rows) (row ∷ []) fits)
]

-- what is told of other places is still so, and what has changed tells of no window
pub lefts_kept : (need : Need) (block : ℕ) (old new : List Left) (rows others : List Row) → AreLefts need rows old →
    IsForgotten block old new →
    ((b : ℕ) → b ≢ block → take 16 (drop (16 * b) others) ≡ take 16 (drop (16 * b) rows)) →
    length others ≤ 16 * length new → AreLefts need others new
lefts_kept need block old new rows others lefts forgot same reach = (
  λ b left at. elim (forgot b left at) [
    | inl kept ↦ rw (same b kept.1) (lefts.0 b left kept.0)
    | inr none ↦ λ t lo hi. absurd (omega (arith, none, lo, hi))
  ],
  reach,
)

-- what a row is where it was set
pub set_read : (rows : List Row) (i : ℕ) (row other : Row) → slice_get (slice_set rows i row) i ≡ Some other →
    slice_set rows i row ≡ slice_set rows i other
set_read [] i row other at = refl
set_read (first ∷ rows) zero row other at = cc
set_read (first ∷ rows) (suc i) row other at = ap (λ (rs : List Row). first ∷ rs) (set_read rows i row other at)

module _ (rows others : List Row) (old new : List Left) where
  -- a row has changed, and its place is forgotten
  pub lefts_set : (at : ℕ) (row : Row) → others ≡ slice_set rows at row → IsForgotten (at / 16) old new →
      length new ≡ length old → (need : Need) → AreLefts need rows old → AreLefts need others new
  lefts_set at row is forgot same need lefts =
      let all = lefts.1 in
      let len : length others ≡ length rows = rw is (simp length-set) in
      lefts_kept need (at / 16) old new rows others lefts forgot
      (λ b other. rw is (place_set rows at b row other)) (omega (arith, all, len, same))

  -- a row has come, and its place is forgotten
  pub lefts_push : (row : Row) → others ≡ rows ++ row ∷ [] → IsForgotten (length rows / 16) old new →
      (length rows ≤ 16 * length old → length rows < 16 * length new) → (need : Need) → AreLefts need rows old →
      AreLefts need others new
  lefts_push row is forgot place need lefts =
      let some = place lefts.1 in
      let len : length others ≡ length rows + 1 = rw is (simp length-append) in
      lefts_kept need (length rows / 16) old new rows others lefts forgot
      (λ b other. rw is (place_push rows b row other)) (omega (arith, some, len))

  -- no row has come to the place that is forgotten
  pub lefts_forgot : others ≡ rows → IsForgotten (length rows / 16) old new →
      (length rows ≤ 16 * length old → length rows < 16 * length new) → (need : Need) → AreLefts need rows old →
      AreLefts need others new
  lefts_forgot is forgot place need lefts =
      let some = place lefts.1 in
      lefts_kept need (length rows / 16) old new rows others lefts forgot (λ b other. rw is refl)
      (rw is (omega (arith, some)))

-- the same rows leave the same
pub keeps_same : (old new : Known) → new.rows.items ≡ old.rows.items → new.blocks.items ≡ old.blocks.items →
    KeepsLefts old new
keeps_same old new rows blocks need lefts = rw (rows, blocks) lefts

-- what is told where it was set, and elsewhere
left_cases : (lefts : List Left) (i b : ℕ) (left x : Left) → slice_get (slice_set lefts i left) b ≡ Some x →
    (slice_get lefts b ≡ Some x) ⊎ ((b ≡ i) × (left ≡ x))
left_cases [] i b left x at = inl at
left_cases (first ∷ lefts) zero zero left x at = inr (refl, cc)
left_cases (first ∷ lefts) zero (suc b) left x at = inl at
left_cases (first ∷ lefts) (suc i) zero left x at = inl at
left_cases (first ∷ lefts) (suc i) (suc b) left x at = elim (left_cases lefts i b left x at) [
  | inl old ↦ inl old
  | inr new ↦ inr (ap suc new.0, new.1)
]

-- what the rows of a place leave is told anew
pub lefts_told : (need : Need) (rows : List Row) (lefts : List Left) (block : ℕ) (left : Left) →
    AreLefts need rows lefts → IsLeft need (take 16 (drop (16 * block) rows)) left →
    AreLefts need rows (slice_set lefts block left)
lefts_told need rows lefts block left all told = (
  λ b x at. elim (left_cases lefts block b left x at) [
    | inl old ↦ all.0 b x old
    | inr new ↦ rw (new.0, ← new.1) told
  ],
  simp length-set all.1,
)

-- what the rows of some places leave with those of the next
pub left_more : (need : Need) (rows : List Row) (block : ℕ) (left : Left) →
    IsLeft need (take (16 * block) rows ++ take 16 (drop (16 * block) rows)) left →
    IsLeft need (take (16 * (block + 1)) rows) left
left_more need rows block left is =
    let more : 16 * (block + 1) ≡ 16 * block + 16 = omega arith in
    rw (more, take_both (16 * block) 16 rows) is

-- what the rows of all places leave
pub left_all : (need : Need) (rows : List Row) (block : ℕ) (left : Left) → length rows ≤ 16 * block →
    IsLeft need (take (16 * block) rows) left → IsLeft need rows left
left_all need rows block left reach is = rw (take_all (16 * block) rows reach) at is
