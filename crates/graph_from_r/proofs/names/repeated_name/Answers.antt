use Rattle.std.proofs.Common.{◌≡◌, ◌∙◌, sym, ap, subst, ℕ, List, length, Option, Some, None, inl, inr, refl}
use Rattle.std.proofs.Common.{arith, true, false, true≢false, bytes_eq}
use Rattle.std.specs.Prelude.{slice_get, position, is_some}
use Rattle.std.specs.Option.{option_map}
use Rattle.std.proofs.lemmas.Bool.{cases_lt}
use Rattle.std.proofs.lemmas.Option.{slice_get-map, slice_get_read}
use Rattle.text_table.specs.Tables.{with_text}
use Rattle.graph_from_r.specs.declared.nodes.RNode.{RNode}
use Rattle.graph_from_r.specs.Names.{HasEarlierName}
use Rattle.graph_from_r.proofs.Repeats.{repeated_at, not_repeated, seen_more, past_none}
use Rattle.graph_from_r.proofs.names.repeated_name.Goals as goal

there : (o : Option ℕ) → is_some o ≡ true → (i : ℕ) × (o ≡ Some i)
there None e = absurd (true≢false (sym e))
there (Some i) e = (i, refl)

nowhere : (o : Option ℕ) → is_some o ≡ false → o ≡ None
nowhere None e = refl
nowhere (Some i) e = absurd (true≢false e)

pub returns-then-is_some : goal.returns-then-is_some
returns-then-is_some c =
    let nodes = c.args.nodes.now in
    let k = c.nodes.node-index in
    let node = c.node-item.result in
    let at : slice_get nodes k ≡ Some node =
    slice_get_read nodes (length nodes) k node refl c.nodes-test.true c.node-item.is in
    let found = there c.number_of.result (sym c.is_some.ensures ∙ c.if-is_some.true) in
    let name : c.bytes-name.result.now ≡ node.name = c.bytes-name.ensures in
    let number : position (bytes_eq node.name) c.nodes.seen ≡ Some found.0 =
    ap (λ (n : List ℕ). position (bytes_eq n) c.nodes.seen) (sym name) ∙ (sym c.number_of.ensures.value ∙ found.1) in (
      k,
      (repeated_at nodes k found.0 node c.nodes.seen at c.nodes.invariant.seen number, c.nodes.invariant.apart),
      slice_get-map (λ (n : RNode). n.rank) nodes k ∙ ap (option_map (λ (n : RNode). n.rank)) at,
    )

pub nodes-preserved : goal.nodes-preserved
nodes-preserved c =
    let nodes = c.args.nodes.now in
    let k = c.nodes.node-index in
    let node = c.node-item.result in
    let at : slice_get nodes k ≡ Some node =
    slice_get_read nodes (length nodes) k node refl c.nodes-test.true c.node-item.is in
    let name : c.bytes-name.result.now ≡ node.name = c.bytes-name.ensures in
    let none : position (bytes_eq node.name) c.nodes.seen ≡ None =
    ap (λ (n : List ℕ). position (bytes_eq n) c.nodes.seen) (sym name) ∙ (sym c.number_of.ensures.value
    ∙ nowhere c.number_of.result (sym c.is_some.ensures ∙ c.if-is_some.false)) in
    record {
      seen = c.in_ok-add.ensures.ok ∙ (ap (λ (n : List ℕ). with_text c.nodes.seen n) name ∙ seen_more nodes k node
          c.nodes.seen at
          c.nodes.invariant.seen none);
      apart = λ j lt has. elim (cases_lt j k) [
        | inl before ↦ c.nodes.invariant.apart j before has
        | inr here ↦ not_repeated nodes k node c.nodes.seen at c.nodes.invariant.seen none
            (subst (HasEarlierName nodes) (omega arith) has)
      ];
    }

pub returns : goal.returns
returns c = λ k has. c.nodes.invariant.apart k
    (let lt = past_none c.args.nodes.now k has in let past = c.nodes-test.false in omega arith) has
