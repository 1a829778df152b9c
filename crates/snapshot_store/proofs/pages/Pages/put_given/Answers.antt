use Rattle.std.proofs.Common.{List, ℕ, ◌++◌, length, slice_set, arith, ap, sym, ◌∙◌}
use Rattle.list_laws.proofs.Lists.{set_length}
use Rattle.snapshot_store.proofs.PlaceLaws.{set_right}
use Rattle.snapshot_store.proofs.ListLaws.{put_part}
use Rattle.snapshot_store.proofs.pages.Pages.put_given.Goals as goal

pub invariant_of-self : goal.invariant_of-self
invariant_of-self g c =
    let (item, given) = c.requires.some in
    let new = c.in-Ok.ensures.new item given in
    let is = put_part 1 c.self.inside.tail c.put.new.self _ item c.self.invariant.part new in
    record { len = omega (arith, is.1, c.self.invariant.len); part = is.0 }

pub returns-in-Ok-clause-new : goal.returns-in-Ok-clause-new
returns-in-Ok-clause-new g c = λ item given.
    let tree = c.self.inside.tree in
    let front = c.len-front.ensures in
    ap (λ (u : List _ × ℕ). tree ++ u.0) (c.in-Ok.ensures.new item given)
    ∙ sym (set_right tree c.self.inside.tail.0 _ c.args.at item (omega (arith, front, c.if-at-front.true)))
    ∙ ap (λ (u : List _). slice_set u c.args.at item) c.self.view_is

pub invariant_of-self-in-Ok-put : goal.invariant_of-self-in-Ok-put
invariant_of-self-in-Ok-put g c =
    let (item, given) = c.requires.some in
    let new = ap (λ (u : List _). length u) (c.in-Ok-put.ensures.new item given) in
    let same = set_length c.self.inside.tree c.args.at item in
    record { len = omega (arith, new, same, c.self.invariant.len); part = c.self.invariant.part }
