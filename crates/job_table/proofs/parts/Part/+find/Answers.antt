use Rattle.std.proofs.Common.{rules, ◌∙◌, ℕ, List, ap, arith, sym}
use Rattle.std.specs.Ordering.{nat_cmp}
use Rattle.std.specs.FinMap.{find}
use Rattle.job_table.specs.declared.tables.Row.{Row}
use Rattle.job_table.specs.Parts.{parts_in, IsBranch}
use Rattle.job_table.proofs.KeyLaws.{in_parts, part_in, opened}
use Rattle.job_table.proofs.parts.Part.+find.Goals as goal

pub returns-in-Fork-clause-row : goal.returns-in-Fork-clause-row
returns-in-Fork-clause-row g t c =
    let seen = opened _ _ _ _ c.self.view_is c.in-Fork.is c.look-branch.ensures.value in
    let level : IsBranch c.look-branch.result.now = search rules in
    c.find.ensures.row ∙ sym (in_parts c.args.key (parts_in c.look-branch.result.now) _ level.sixteen c.get.ensures)
    ∙ sym (ap (λ (u : List (ℕ × Row) × ℕ). find nat_cmp c.args.key u.0) seen)

pub returns-in-Fork-clause-work : goal.returns-in-Fork-clause-work
returns-in-Fork-clause-work g t c =
    let seen = opened _ _ _ _ c.self.view_is c.in-Fork.is c.look-branch.ensures.value in
    let high = ap (λ (u : List (ℕ × Row) × ℕ). u.1) seen in
    let level : IsBranch c.look-branch.result.now = search rules in
    let fits = part_in c.look-branch.result.now _ _ level c.get.ensures in
    omega (arith, c.find.ensures.work, c.look-branch.ensures.work, fits.high, high)
