use Rattle.std.proofs.Common.{◌≡◌, ◌+◌, ◌*◌, ◌-◌, ◌≤◌, List, [], ◌∷◌, ◌++◌, length, take, append-nil, rules}
use Rattle.std.proofs.Common.{refl, sym, ◌∙◌, ap, false, true≢false, arith}
use Rattle.flux_defs.specs.declared.claims.Claim.{Claim}
use Rattle.flux_defs.specs.declared.claims.Claim.TheVariants.{Pass}
use Rattle.flux_defs.specs.Needs.{amount_of}
use Rattle.flux_laws.proofs.Takes.{takes_less}
use Rattle.dfu_match.specs.Searches.{meets, open_to}
use Rattle.dfu_match.proofs.CountLaws.{node_closed}
use Rattle.dfu_match.proofs.HoldLaws.{admitted_open}
use Rattle.dfu_match.proofs.HoldingLaws.{cut_to, copies_held, greatest_held}
use Rattle.dfu_match.proofs.WriteLaws.{cut_back, extends_none, extends_twice, offers_none}
use Rattle.dfu_match.proofs.holding.offer_held.Goals as goal

pub returns-then-not-admits-clause-offers : goal.returns-then-not-admits-clause-offers
returns-then-not-admits-clause-offers g c =
    extends_none c.args.out.now.items _ (λ present stands scope count within.
    let vs = c.args.s.now.graph.now.resources.vertices in
    let ok : Claim → Type 0 = open_to vs present c.args.s.now.barred.now c.args.s.now.window in
    offers_none _ _ c.args.most 0 refl (node_closed vs ok scope count (c.args.need.now ∷ []) c.args.node c.args.most
    (λ may. true≢false (sym ((c.admits.ensures.answer present stands).1 may) ∙ c.if-not-admits.true))))

pub write_held-requires-clause-open : goal.write_held-requires-clause-open
write_held-requires-clause-open g c = λ present stands.
    let s = c.args.s.now in
    admitted_open (meets s.graph.now.resources.vertices present s.barred.now) s.window c.args.node false
    ((c.admits.ensures.answer present stands).0 c.if-not-admits.false)

pub returns-then-copies-eq0-clause-offers : goal.returns-then-copies-eq0-clause-offers
returns-then-copies-eq0-clause-offers g c =
    let wrote = c.in_ok-reached.ensures.written in
    let pass : List Claim = Pass c.args.node ∷ [] in
    let need = c.args.need.now in
    let all = extends_twice c.args.out.now.items c.push.new.items.items c.write_held.new.out.items pass wrote.0
    c.in_ok-push.ensures.ok wrote.1 in
    let long : c.len-mark.result ≡ length c.args.out.now.items = search rules in
    let back : c.truncate.new.self.items ≡ c.args.out.now.items = rw (c.truncate.ensures.items, long)
    (cut_back c.args.out.now.items c.write_held.new.out.items (pass ++ wrote.0) all) in (
      [],
      back ∙ sym (append-nil c.args.out.now.items),
      λ present stands scope count within.
          let vs = c.args.s.now.graph.now.resources.vertices in
          let ok : Claim → Type 0 = open_to vs present c.args.s.now.barred.now c.args.s.now.window in
          offers_none _ _ c.args.most c.whole_times-copies.result c.if-copies-eq0.true
          (greatest_held vs ok scope (takes_less _ _) need count c.args.node c.args.most c.in_ok-reached.reached
          c.whole_times-copies.result within c.requires.node
          ((c.admits.ensures.answer present stands).0 c.if-not-admits.false)
          (rw (c.from.ensures, c.from-2.ensures, c.amount-amount.ensures) at (wrote.2 present stands).0)
          (rw c.amount-amount.ensures at c.whole_times-copies.ensures.low)
          (rw c.amount-amount.ensures at c.whole_times-copies.ensures.high) c.whole_times-copies.ensures.within),
    )

pub returns-clause-offers : goal.returns-clause-offers
returns-clause-offers g c =
    let wrote = c.in_ok-reached.ensures.written in
    let pass : List Claim = Pass c.args.node ∷ [] in
    let out = c.args.out.now.items in
    let need = c.args.need.now in
    let total = c.whole_times-copies.result * amount_of need in
    let low : total ≤ c.in_ok-reached.reached = rw c.amount-amount.ensures at c.whole_times-copies.ensures.low in
    let long : length c.push.new.items.items ≡ length (out ++ pass) = ap length c.in_ok-push.ensures.ok in
    let each = c.in_ok-reached.ensures.each in
    let times : c.from-3.result * c.from-4.result ≡ total = rw (
      c.from-3.ensures,
      c.from-4.ensures,
      c.amount-amount.ensures,
    ) refl in
    let over = c.in_ok-reached.reached - c.from-3.result * c.from-4.result in
    let cut : c.len.result - over ≡ length (out ++ pass) + total =
    (let end = c.len.ensures in omega (arith, long, each, end, times, low)) in (
      pass ++ take total wrote.0,
      c.truncate-2.ensures.items ∙ (ap (λ n. take n c.write_held.new.out.items) cut
          ∙ cut_to out pass wrote.0 c.write_held.new.out.items total
          (wrote.1 ∙ ap (λ x. x ++ wrote.0) c.in_ok-push.ensures.ok)),
      λ present stands scope count within.
          let vs = c.args.s.now.graph.now.resources.vertices in
          let ok : Claim → Type 0 = open_to vs present c.args.s.now.barred.now c.args.s.now.window in
          copies_held vs ok scope need count c.args.node c.args.most c.in_ok-reached.reached
          c.whole_times-copies.result wrote.0 c.requires.held c.if-copies-eq0.false low
          (greatest_held vs ok scope (takes_less _ _) need count c.args.node c.args.most c.in_ok-reached.reached
          c.whole_times-copies.result within c.requires.node
          ((c.admits.ensures.answer present stands).0 c.if-not-admits.false)
          (rw (c.from.ensures, c.from-2.ensures, c.amount-amount.ensures) at (wrote.2 present stands).0) low
          (rw c.amount-amount.ensures at c.whole_times-copies.ensures.high) c.whole_times-copies.ensures.within)
          (wrote.2 present stands).1,
    )
