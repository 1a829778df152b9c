use Rattle.std.proofs.Common.{rules, ◌≡◌, ◌∙◌, ◌+◌, ◌%◌, ◌^◌, ◌<◌, arith, ap, refl, sym, subst}
use Rattle.job_table.specs.declared.parts.Branch.{Branch}
use Rattle.job_table.specs.Parts.{IsBranch, Sets, entries_from, parts_in}
use Rattle.job_table.proofs.KeyLaws.{changed, opened, part_in, rest_of, tall, set_level, set_row, kept, kept_level}
use Rattle.job_table.proofs.KeyLaws.{branch_part, some_digits}
use Rattle.job_table.proofs.parts.+setting.Goals as goal

pub Part::set-set_below-requires : goal.Part::set-set_below-requires
Part::set-set_below-requires g t c κs within =
    let some = some_digits _ _ _ _ _ _ c.self.view_is c.in-Entry.is c.requires.part c.requires.key
    c.if-other-key.false in
    let low = ap (λ (u : Branch). u.below) c.in_ok-node-in-Entry.ensures in
    let below = c.of.ensures.below in
    let digits : c.in_ok-node-in-Entry.node.below + 1 ≡ c.args.digits = omega arith in
    let level = subst (λ (u : Branch). IsBranch u) (sym c.in_ok-node-in-Entry.ensures) c.of.ensures.level in
    let fits = subst (λ u. c.args.key < 16 ^ u) (sym digits) c.requires.key in
    search rules

pub Part::set-returns-in-Entry-clause-part : goal.Part::set-returns-in-Entry-clause-part
Part::set-returns-in-Entry-clause-part g t c =
    let some = some_digits _ _ _ _ _ _ c.self.view_is c.in-Entry.is c.requires.part c.requires.key
    c.if-other-key.false in
    let low = ap (λ (u : Branch). u.below) c.in_ok-node-in-Entry.ensures in
    let below = c.of.ensures.below in
    let same = c.set_below.ensures.below in
    let digits : c.set_below.new.node.below + 1 ≡ c.args.digits = omega arith in
    branch_part _ c.args.digits c.set_below.ensures.level digits

pub Part::set-set_below-requires-in-Fork : goal.Part::set-set_below-requires-in-Fork
Part::set-set_below-requires-in-Fork g t c κs within =
    let level : IsBranch c.in-Fork.node = search rules in
    let seen = opened _ _ _ c.in-Fork.node c.self.view_is c.in-Fork.is refl in
    let high = tall _ c.in-Fork.node c.args.digits seen c.requires.part in
    let fits = subst (λ u. c.args.key < 16 ^ u) (sym high) c.requires.key in
    search rules

pub Part::set-returns-in-Fork-clause-part : goal.Part::set-returns-in-Fork-clause-part
Part::set-returns-in-Fork-clause-part g t c =
    let seen = opened _ _ _ c.in-Fork.node c.self.view_is c.in-Fork.is refl in
    let high = tall _ c.in-Fork.node c.args.digits seen c.requires.part in
    let same = c.set_below-in-Fork.ensures.below in
    let digits : c.set_below-in-Fork.new.node.below + 1 ≡ c.args.digits = omega arith in
    branch_part _ c.args.digits c.set_below-in-Fork.ensures.level digits

pub set_below-set-requires : goal.set_below-set-requires
set_below-set-requires g t c κs within =
    let same = c.in-Some.ensures.value ∙ c.own.ensures in
    let level = subst (λ (u : Branch). IsBranch u) (sym same) c.requires.level in
    let low = ap (λ (u : Branch). u.below) same in
    let rest = rest_of c.args.key c.in-Some.branch.now.below (c.args.node.now.below + 1) (omega arith) c.requires.key in
    let fits = part_in c.in-Some.branch.now _ _ level c.get_mut-2.ensures.value in
    search rules

pub set_below-returns-in-Ok-clause-sets : goal.set_below-returns-in-Ok-clause-sets
set_below-returns-in-Ok-clause-sets g t c =
    let same = c.in-Some.ensures.value ∙ c.own.ensures in
    let level = subst (λ (u : Branch). IsBranch u) (sym same) c.requires.level in
    subst (λ (u : Branch). Sets (entries_from 0 (parts_in u))
    (entries_from 0 (parts_in (changed c.in-Some.branch.now (c.args.key % 16) c.set.new.self))) c.args.key c.args.row)
    same
    (set_row c.in-Some.branch.now c.args.key _ _ c.get_mut-2.ensures.value c.args.row level.sixteen
    c.in-Ok.ensures.sets)

pub set_below-returns-in-Ok-clause-level : goal.set_below-returns-in-Ok-clause-level
set_below-returns-in-Ok-clause-level g t c =
    let same = c.in-Some.ensures.value ∙ c.own.ensures in
    let level = subst (λ (u : Branch). IsBranch u) (sym same) c.requires.level in
    set_level c.in-Some.branch.now c.args.key _ _ c.get_mut-2.ensures.value level c.in-Ok.ensures.part

pub set_below-returns-in-Err-clause-level : goal.set_below-returns-in-Err-clause-level
set_below-returns-in-Err-clause-level g t c =
    let same = c.in-Some.ensures.value ∙ c.own.ensures in
    let level = subst (λ (u : Branch). IsBranch u) (sym same) c.requires.level in
    kept_level c.in-Some.branch.now c.args.key _ _ c.get_mut-2.ensures.value c.in-Err.ensures.same level

pub set_below-returns-in-Err-clause-same : goal.set_below-returns-in-Err-clause-same
set_below-returns-in-Err-clause-same g t c =
    kept c.in-Some.branch.now c.args.key _ _ c.get_mut-2.ensures.value c.in-Err.ensures.same
    ∙ ap (λ (u : Branch). parts_in u) (c.in-Some.ensures.value ∙ c.own.ensures)
