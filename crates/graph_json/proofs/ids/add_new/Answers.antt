use Rattle.std.proofs.Common.{◌≡◌, sym, ap, ap₂, ◌∙◌, ◌==◌, not, [], ◌∷◌, ◌++◌, if◌then◌else◌}
use Rattle.std.proofs.lemmas.Bool.{not-true}
use Rattle.graph_json.specs.Edges.{is_among}
use Rattle.graph_json.proofs.Sets.{at_the_end}
use Rattle.graph_json.proofs.ids.add_new.Goals as goal

pub returns : goal.returns
returns c =
    let old = c.args.table.now in
    let text = c.args.text.now in
    let new : (c.in_ok-number.number == c.len-before.result) ≡ not (is_among old text) =
    ap₂ (λ a b. a == b) c.in_ok-number.ensures.number c.len-before.ensures ∙ at_the_end text old in
    record {
      new = new;
      added = λ is. c.in_ok-number.ensures.ok
          ∙ ap (λ b. if b then old else old ++ text ∷ []) (not-true (is_among old text) (sym new ∙ is));
    }
