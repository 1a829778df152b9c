use Rattle.std.proofs.Common.{length, ap, arith, length-append}
use Rattle.prune_filters.specs.Names.{items_of}
use Rattle.prune_filters.proofs.TextLaws.{first_head, first_fault, read_more, read_last}
use Rattle.prune_filters.proofs.rules.Rules.read.Goals as goal

pub returns-in_default-clause-fault : goal.returns-in_default-clause-fault
returns-in_default-clause-fault c =
    let head = first_head (λ r. items_of r.now)
    c.items.rest.now c.first_item.result.0.now c.first_item.result.1 c.first_item.ensures.items in
    let broken = rw c.in_default.is at c.in_ok-rule.ensures in
    first_fault c.args.text.now c.items.rest.now
    c.first_item.result.0.now head.0 c.items.at c.items.rules.items c.items.invariant.read head.1 broken

pub returns-in_default-more-clause-read : goal.returns-in_default-more-clause-read
returns-in_default-more-clause-read c =
    let last = rw c.in_default-more.is at c.first_item.ensures.items in
    let rule = rw c.in-Some.is at c.in_ok-rule.ensures in
    rw (c.of_vec.ensures, c.in_ok-push.ensures.ok)
    (read_last c.args.text.now c.items.rest.now
    c.first_item.result.0.now c.items.at c.items.rules.items c.in-Some.rule c.items.invariant.read last rule)

pub items-preserved : goal.items-preserved
items-preserved c =
    let more = rw c.in-Some-more.is at c.first_item.ensures.items in
    let parts = rw c.in-Some-more.is at c.first_item.ensures.parts in
    let rule = rw c.in-Some.is at c.in_ok-rule.ensures in
    record {
      sizes = (let before = c.items.invariant.sizes in omega (arith, simp length-append at (ap length parts)));
      read = rw c.in_ok-push.ensures.ok
          (read_more c.args.text.now c.items.rest.now c.first_item.result.0.now
          c.in-Some-more.next.now c.items.at c.items.rules.items c.in-Some.rule c.items.invariant.read more rule);
    }
