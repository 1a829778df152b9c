use Rattle.std.proofs.Common.{◌≡◌, ◌+◌, ◌++◌, ◌∷◌, [], Some, None, sym, ◌∙◌, ap, drop, slice_get, option_map}
use Rattle.std.proofs.Common.{append_assoc, append-nil, arith}
use Rattle.std.proofs.lemmas.Option.{slice_get_within}
use Rattle.fluxion_lines.proofs.InputLaws.{no_name}
use Rattle.list_laws.proofs.Lists.{drop_here}
use Rattle.fluxion_lines.proofs.input.names_of.Goals as goal

pub loop-name-preserved : goal.loop-name-preserved
loop-name-preserved c =
    let at : slice_get c.args.table.now c.loop-name.number ≡ Some c.in-Some.name.now =
    sym c.text.ensures ∙ ap (option_map (λ t. t.now)) c.in-Some.is in
    let items = c.in_ok-push.ensures.items in
    record {
      within =
          (let low = slice_get_within c.args.table.now c.loop-name.number c.in-Some.name.now at in omega (arith, low));
      names =
          ap (λ xs. xs ++ drop (c.loop-name.number + 1) c.args.table.now)
          (items ∙ ap (λ t. c.loop-name.names.items ++ t ∷ []) c.in_ok-of.ensures)
          ∙ (append_assoc c.loop-name.names.items
          (c.in-Some.name.now ∷ []) (drop (c.loop-name.number + 1) c.args.table.now)
          ∙ (ap (λ xs. c.loop-name.names.items ++ xs)
          (sym (drop_here c.args.table.now c.loop-name.number c.in-Some.name.now at)) ∙ c.loop-name.invariant.names));
    }

pub returns : goal.returns
returns c =
    let none : slice_get c.args.table.now c.loop-name.number ≡ None =
    sym c.text.ensures ∙ ap (option_map (λ t. t.now)) c.in_default.is in
    c.of_vec.ensures ∙ (sym (append-nil c.loop-name.names.items) ∙ (ap (λ xs. c.loop-name.names.items ++ xs)
    (sym (no_name c.args.table.now c.loop-name.number none)) ∙ c.loop-name.invariant.names))
