-- From the index that a search stops at to the first item that passes.
use Rattle.std.proofs.Common.{◌≡◌, ℕ, zero, suc, ◌<◌, ◌≤◌, Bool, true, false, cond, List, [], ◌∷◌, length, Option, Some}
use Rattle.std.proofs.Common.{None, refl, sym, ◌∙◌, ap, subst, arith, ltb}
use Rattle.std.specs.Prelude.{slice_get, position}
use Rattle.std.specs.List.{position_or_len}
use Rattle.std.specs.Option.{IsSomeAnd}
use Rattle.std.proofs.lemmas.Bool.{both_ways, ltb-true, ltb-false}
use Rattle.std.proofs.lemmas.List.Sums.{fails_before_first, passes_at_first}
use Rattle.std.proofs.lemmas.Option.{slice_get_within, get_or_from_slice_get}
use Rattle.resource_graph.specs.Finds.{IsFirstOf}
use Rattle.list_laws.proofs.Values.{value_of, from_value}

-- the test is true of the item at the index
abbrev pub Passes : {X : Type 0} → (X → Bool) → List X → ℕ → Type 0
Passes {X} p xs v = IsSomeAnd (slice_get xs v) (λ (x : X). p x ≡ true)

pub finds_position : {X : Type 0} (p : X → Bool) (xs : List X) (found : Option ℕ) →
    found ≡ position p xs → IsFirstOf (Passes p xs) found
finds_position {X} p xs found e =
    subst (IsFirstOf (Passes p xs)) (sym e) (at (ltb (position_or_len p xs) (length xs)) refl)
  where
    fails : (k : ℕ) → k < position_or_len p xs → Passes p xs k → ⊥
    fails k lt h =
        let x = value_of (slice_get xs k) (λ x. p x ≡ true) h in
        let no = fails_before_first p xs k x.0 lt in
        both_ways (p x.0) (ap p (sym (get_or_from_slice_get xs k x.0 x.0 x.1)) ∙ no) x.2

    at : (b : Bool) → ltb (position_or_len p xs) (length xs) ≡ b →
        IsFirstOf (Passes p xs) (cond b (Some (position_or_len p xs)) None)
    at true h =
        let lt : position_or_len p xs < length xs = ltb-true _ _ h in
        (there (slice_get xs (position_or_len p xs)) refl lt, fails)
      where
        there : (o : Option X) → slice_get xs (position_or_len p xs) ≡ o →
            position_or_len p xs < length xs → Passes p xs (position_or_len p xs)
        there None f lt = absurd (within xs (position_or_len p xs) lt f)
          where
            within : (l : List X) (i : ℕ) → i < length l → slice_get l i ≡ None → ⊥
            within [] i lt f = omega arith
            within (x ∷ l) zero lt f = cc
            within (x ∷ l) (suc i) lt f = within l i (omega arith) f
        there (Some x) f lt = from_value (slice_get xs (position_or_len p xs)) (λ x. p x ≡ true) x f
            (ap p (sym (get_or_from_slice_get xs (position_or_len p xs) x x f)) ∙ passes_at_first p xs x lt)
    at false h = λ v passes.
        let le : length xs ≤ position_or_len p xs = ltb-false _ _ h in
        let x = value_of (slice_get xs v) (λ x. p x ≡ true) passes in
        let lt : v < length xs = slice_get_within xs v x.0 x.1 in
        fails v (omega arith) passes

-- two facts that are true of the same vertices have one first
pub finds_same : (P Q : ℕ → Type 0) (found : Option ℕ) →
    ((v : ℕ) → P v → Q v) → ((v : ℕ) → Q v → P v) → IsFirstOf P found → IsFirstOf Q found
finds_same P Q None f g none = λ v q. none v (g v q)
finds_same P Q (Some v) f g first = (f v first.0, λ u lt q. first.1 u lt (g u q))
