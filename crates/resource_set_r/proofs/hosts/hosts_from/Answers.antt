use Rattle.std.proofs.Common.{◌≡◌, sym, ap, ◌∙◌, ◌+◌, suc, ◌++◌, drop, arith}
use Rattle.std.specs.Result.{result_map_both}
use Rattle.json_whole.specs.Values.{items_view}
use Rattle.json_fields.specs.Values.{result_and_then}
use Rattle.resource_set_r.specs.ReadR.{hosts_from}
use Rattle.resource_set_r.proofs.ReadLaws.{item_first, joined_read}
use Rattle.resource_set_r.proofs.hosts.hosts_from.Goals as goal

pub lists-preserved : goal.lists-preserved
lists-preserved c =
    let all = c.lists.all.items in
    let k = c.lists.at in
    let vs = c.args.values.now in
    let v = c.index-values-at.result in
    let hosts = c.in-Ok.hosts in
    let ds = items_view (drop (k + 1) vs) in
    let next : suc k ≡ k + 1 = omega arith in
    let here : hosts_from k (items_view (drop k vs))
    ≡ result_map_both (λ others. hosts ++ others) (λ m. m) (hosts_from (k + 1) ds) =
    ap (hosts_from k) (item_first vs k v c.lists-test.true c.index-values-at.is)
    ∙ ap (λ r. result_and_then r (λ hs. result_map_both (λ others. hs ++ others) (λ m. m) (hosts_from (suc k) ds)))
    c.in-Ok.ensures
    ∙ ap (λ n. result_map_both (λ others. hosts ++ others) (λ m. m) (hosts_from n ds)) next in
    ap (λ xs. result_map_both (λ others. xs ++ others) (λ m. m) (hosts_from (k + 1) ds)) c.in-Ok-add_hosts.ensures
    ∙ joined_read all hosts (hosts_from (k + 1) ds)
    ∙ ap (result_map_both (λ others. all ++ others) (λ m. m)) (sym here) ∙ c.lists.invariant
