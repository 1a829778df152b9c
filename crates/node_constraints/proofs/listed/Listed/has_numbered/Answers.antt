use Rattle.std.proofs.Common.{◌≡◌, ℕ, zero, suc, ◌+◌, ◌<◌, ◌⊎◌, inl, inr, List, length, take, refl, sym, ap, ◌∙◌, subst}
use Rattle.std.proofs.Common.{arith}
use Rattle.std.proofs.lemmas.List.{take_rest}
use Rattle.node_constraints.specs.Listed.{IsNumber}
use Rattle.node_constraints.proofs.ListedLaws.{parted_at}
use Rattle.node_constraints.proofs.listed.Listed.has_numbered.Goals as goal

less_or_at : (k n : ℕ) → k < n + 1 → (k < n) ⊎ (k ≡ n)
less_or_at zero zero lt = inr refl
less_or_at zero (suc n) lt = inl (omega arith)
less_or_at (suc k) zero lt = absurd (omega arith)
less_or_at (suc k) (suc n) lt = elim (less_or_at k n (omega arith)) [
  | inl before ↦ inl (omega arith)
  | inr here ↦ inr
      (ap suc here)
]

pub places-preserved : goal.places-preserved
places-preserved c = λ prefix digits parts less number. elim (less_or_at (length prefix) c.places.place less) [
  | inl before ↦ c.places.invariant prefix digits parts before number
  | inr here ↦ (let at = parted_at prefix digits c.args.name.now c.places.place parts here in
      let own = subst (λ (p : List ℕ). IsNumber c.args.self.now.prefixes c.args.self.now.covered p digits) (sym at.0)
      number in
      let both = subst (λ (d : List ℕ). IsNumber c.args.self.now.prefixes c.args.self.now.covered
      (take c.places.place c.args.name.now) d) (sym (take_rest c.args.name.now c.places.place ∙ at.1)) own in
      absurd (let bad = c.if-has_number.ensures.1 both in cc))
]
