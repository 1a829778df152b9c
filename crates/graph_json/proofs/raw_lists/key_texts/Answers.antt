use Rattle.std.proofs.Common.{ap, sym, ◌∙◌, ◌++◌, [], map, append-nil, ◌≡◌}
use Rattle.graph_json.proofs.Sets.{keys_of-entries}
use Rattle.graph_json.proofs.raw_lists.key_texts.Goals as goal

pub returns : goal.returns
returns c =
    let end : map (λ k. k.now) c.keys.key-iterator ≡ [] = ap (map (λ k. k.now)) c.in-None.ensures.steps.0 in
    c.of_vec.ensures ∙ sym (append-nil c.keys.list.items) ∙ ap (λ ks. c.keys.list.items ++ ks) (sym end)
    ∙ c.keys.invariant.1.1 ∙ keys_of-entries c.args.map.now.entries
