-- What rows leave together where one of them gives way to another.
use Rattle.std.proofs.Common.{◌≡◌, ℕ, ◌+◌, ◌-◌, ◌^◌, ◌<◌, ◌≤◌, List, [], ◌∷◌, ◌++◌, Some, slice_get, slice_set}
use Rattle.std.proofs.Common.{refl, sym, ◌∙◌, ap, inl, inr, arith}
use Rattle.std.specs.List.{remove}
use Rattle.std.proofs.lemmas.Bool.{cases_lt}
use Rattle.std.proofs.lemmas.Bool.Decides.{leb_tells}
use Rattle.std.proofs.lemmas.List.Sums.{sum_by_push, sum_by-remove, sum_by-set}
use Rattle.std.proofs.lemmas.Option.{slice_get_within, get_or_from_slice_get}
use Rattle.flux_defs.specs.declared.requests.Need.{Need}
use Rattle.dfu_match.specs.declared.knowing.Row.{Row}
use Rattle.dfu_match.specs.declared.leaving.Left.{Left}
use Rattle.dfu_match.specs.Rows.{whole_of, bound_at, served_most, IsLeft}

module _ (need : Need) (rows : List Row) (i : ℕ) (was : Row) (at : slice_get rows i ≡ Some was) where
  -- one row and the others
  with_others : (t : ℕ) → served_most need t (remove rows i) + bound_at need t was ≡ served_most need t rows
  with_others t =
      ap (λ (r : Row). served_most need t (remove rows i) + bound_at need t r)
      (sym (get_or_from_slice_get rows i was was at))
      ∙ sum_by-remove (bound_at need t) rows i was (slice_get_within rows i was at)

  -- a row in its place
  pub set_others : (t : ℕ) (row : Row) →
      served_most need t (slice_set rows i row) ≡ served_most need t (remove rows i ++ row ∷ [])
  set_others t row =
      let f = bound_at need t in
      let new = sum_by-set f rows i row was (slice_get_within rows i was at) in
      let old = ap f (get_or_from_slice_get rows i was was at) in
      let both = with_others t in
      let last = sum_by_push f (remove rows i) row in
      omega (arith, new, old, both, last)

  -- after its moment a row leaves all that is ever asked
  past_moment : (t : ℕ) → was.moment < t → bound_at need t was ≡ whole_of need
  past_moment t lt = elim (leb_tells t was.moment) [
    | inl within ↦ absurd (let le = within.1 in omega (arith, le, lt))
    | inr past ↦ rw past.0 refl
  ]

  -- what the others leave, from a second after its moment on
  pub left_others : (left less : Left) → was.moment < left.from → less.from ≡ left.from → less.until ≡ left.until →
      (left.room < 2 ^ 64 - 1 → less.room ≡ left.room - whole_of need) →
      (2 ^ 64 - 1 ≤ left.room → less.room ≡ 2 ^ 64 - 1) → IsLeft need rows left → IsLeft need (remove rows i) less
  left_others left less before from until room most is t lo hi some = elim (cases_lt left.room (2 ^ 64 - 1)) [
    | inl told ↦
        let all = is t (omega (arith, from, lo)) (omega (arith, until, hi)) told in
        let both = with_others t in
        let whole = past_moment t (omega (arith, before, from, lo)) in
        let rest = room told in
        omega (arith, all, both, whole, rest)
    | inr untold ↦ absurd (let none = most untold in omega (arith, none, some))
  ]
