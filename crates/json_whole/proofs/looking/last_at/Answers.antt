use Rattle.std.proofs.Common.{◌≡◌, ◌-◌, suc, drop, sym, true, None, arith}
use Rattle.std.specs.Str.{bytes_eq}
use Rattle.json.specs.Find.{get_member}
use Rattle.json.specs.Value.{members_view}
use Rattle.json_whole.proofs.Looks.{last_found}
use Rattle.json_whole.proofs.looking.last_at.Goals as goal

pub returns-then-eq : goal.returns-then-eq
returns-then-eq c =
    let items = c.args.members.now.items in
    let found = c.index-member.result.now in
    let same : bytes_eq found.0.now c.args.key.now ≡ true = sym c.if-eq.ensures in
    let next : suc (c.members.left - 1) ≡ c.members.left = omega (arith, c.members-test.true) in
    let none : get_member c.args.key.now (members_view (drop (suc (c.members.left - 1)) items)) ≡ None =
    rw next c.members.invariant.none in
    rw (c.index-member.ensures) (last_found c.args.key.now items (c.members.left - 1) found
    (omega (arith, c.members-test.true, c.members.invariant.within)) none (rw (← c.index-member.ensures) same))
