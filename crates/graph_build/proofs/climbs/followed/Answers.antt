use Rattle.std.proofs.Common.{◌≡◌, ℕ, ◌<◌, Option, None, Some, get_or, length, sym, ◌∙◌, ap, arith, option_and_then}
use Rattle.std.specs.Prelude.{slice_get}
use Rattle.std.proofs.lemmas.Option.{slice_get-get_or, same_Some, slice_get_within}
use Rattle.graph_build.proofs.ClimbLaws.{entries_more, followed_more}
use Rattle.graph_build.proofs.climbs.followed.Goals as goal

pub loop-v-preserved : goal.loop-v-preserved
loop-v-preserved c =
    let first = c.args.first.now in
    let second = c.args.second.now in
    let v = c.loop-v.v in
    entries_more (λ (u : ℕ) (o : Option ℕ). (reached : Option ℕ) → slice_get first u ≡ Some reached →
    o ≡ option_and_then (λ w. get_or second w None) reached) v c.loop-v.climbs.items c.push.new.self.items
    c.then.result c.loop-v.invariant.0 c.loop-v.invariant.1
    (λ reached at. c.then.ensures ∙ ap (option_and_then (λ w. get_or second w None))
    (same_Some _ _ (sym (slice_get-get_or first v None (omega arith)) ∙ at))) c.in_ok-push.ensures.items

pub returns : goal.returns
returns c = λ vertices a b has_first has_second. record {
  as_many = (let long = c.loop-v.invariant.0 in let all = has_first.as_many in omega arith);
  each = λ v o e.
      let lt : v < length c.args.first.now = (let in_climbs : v < length c.loop-v.climbs.items =
      slice_get_within c.loop-v.climbs.items v o e in let long = c.loop-v.invariant.0 in omega arith) in
      let at : slice_get c.args.first.now v ≡ Some (get_or c.args.first.now v None) =
      slice_get-get_or c.args.first.now v None lt in
      c.loop-v.invariant.1 v o e (get_or c.args.first.now v None) at
      ∙ followed_more vertices a b v c.args.first.now c.args.second.now (get_or c.args.first.now v None) has_first
      has_second at c.requires;
}
