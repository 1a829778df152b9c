use Rattle.std.proofs.Common.{sym, subst, ℕ, ◌≤◌, ◌<◌, Option, length, get_or, inl, inr, arith}
use Rattle.std.proofs.lemmas.Bool.{cases_lt}
use Rattle.resource_graph.specs.Tables.{IsRanked}
use Rattle.resource_set_r.specs.Rows.{is_in_rank}
use Rattle.resource_set_r.proofs.Filtered.{filter_slice, filter_fails}
use Rattle.resource_set_r.proofs.NodeLaws.{in_no_rank, in_rank_inside, in_rank_before, in_rank_after}
use Rattle.resource_set_r.proofs.rows.part_of.Goals as goal

pub returns-in-Some : goal.returns-in-Some
returns-in-Some c =
    let g = c.args.graph.now.resources in
    let names = c.args.graph.now.names in
    let valid = c.is_valid.ensures.valid in
    let rank = c.args.rank in
    let n = c.in-Some.node in
    let has = subst (λ (o : Option ℕ). IsRanked g rank o) c.in-Some.is c.node_of_rank.ensures in
    let xs = c.args.given.now in
    let low = c.index_of.ensures in
    let high = c.index_of-in-Some.ensures in
    let past = c.past.ensures in
    let a = c.index_of.result in
    let b = c.index_of-in-Some.result in
    let le : a ≤ b = elim (cases_lt b a) [
      | inr le ↦ le
      | inl lt ↦ absurd (
          let below : get_or xs b 0 < n = low.before b lt in
          let above : c.past.result ≤ get_or xs b 0 =
          high.after b (omega arith) (let bound : a ≤ length xs = low.within in omega arith) in
          let later : n < c.past.result = past.later in omega arith)
    ] in
    filter_slice (is_in_rank g.vertices rank) xs a b le high.within
    (λ i lo hi. in_rank_inside g names valid rank n c.past.result has past
    (get_or xs i 0) (low.after i lo (let bound : b ≤ length xs = high.within in omega arith)) (high.before i hi))
    (λ i lt. in_rank_before g names valid rank n c.past.result has past (get_or xs i 0) (low.before i lt))
    (λ i lo hi. in_rank_after g names valid rank n c.past.result has past (get_or xs i 0) (high.after i lo hi))

pub returns-in-None : goal.returns-in-None
returns-in-None c =
    let g = c.args.graph.now.resources in
    let names = c.args.graph.now.names in
    let valid = c.is_valid.ensures.valid in
    let none = subst (λ (o : Option ℕ). IsRanked g c.args.rank o) c.in-None.is c.node_of_rank.ensures in
    sym (filter_fails (is_in_rank g.vertices c.args.rank) c.args.given.now
    (λ i lt. in_no_rank g names valid c.args.rank none (get_or c.args.given.now i 0)))
