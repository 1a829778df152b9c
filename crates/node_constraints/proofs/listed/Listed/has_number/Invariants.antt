use Rattle.std.proofs.Common.{◌≡◌, ℕ, ◌<◌, true, false}
use Rattle.covered_numbers.specs.Covers.{is_covered}
use Rattle.idset_text.specs.Hostlists.{has_width}
use Rattle.node_constraints.specs.Listed.{code}
use Rattle.node_constraints.proofs.listed.Listed.has_number.Given as goal

-- no lesser width has it
abbrev pub invariant-widths : goal.invariant-widths
invariant-widths l = (width : ℕ) → width < l.wide → has_width width l.digits ≡ true
    → is_covered l.self.covered (code l.at width l.number) ≡ false
