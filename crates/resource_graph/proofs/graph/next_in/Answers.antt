use Rattle.std.proofs.Common.{◌<◌, ◌≤◌, length, get_or, inl, inr, refl, arith}
use Rattle.std.proofs.lemmas.Bool.{cases_lt}
use Rattle.text_forms.proofs.RisingLists.{not_less}
use Rattle.resource_graph.proofs.graph.next_in.Goals as goal

pub returns-then-v-to : goal.returns-then-v-to
returns-then-v-to c = λ i lt low high.
    let list = c.args.list.now in
    elim (cases_lt i c.index_of-index.result) [
      | inl before ↦ absurd (let less : get_or list i 0 < c.args.from = c.index_of-index.ensures.before i before in
          omega arith)
      | inr after ↦ absurd (let le : get_or list c.index_of-index.result 0 ≤ get_or list i 0 =
          not_less list c.requires c.index_of-index.result i after lt in omega arith)
    ]

pub returns : goal.returns
returns c =
    let list = c.args.list.now in
    let within : c.index_of-index.result < length list = omega arith in
    record {
      there = (c.index_of-index.result, within, refl);
      low = c.index_of-index.ensures.after c.index_of-index.result (omega arith) within;
      high = omega arith;
      least = λ i lt low.
          elim (cases_lt i c.index_of-index.result) [
            | inl before ↦ absurd (let less : get_or list i 0 < c.args.from = c.index_of-index.ensures.before i before
                in omega arith)
            | inr after ↦ not_less list c.requires c.index_of-index.result i after lt
          ];
    }
