use Rattle.std.proofs.Common.{◌≡◌, ◌+◌, ◌-◌, ◌++◌, ◌∷◌, [], map, sym, ◌∙◌, ap, append_assoc, append-nil, List, arith}
use Rattle.flux_defs.specs.declared.journal.Line.{Line}
use Rattle.std.specs.List.{range_with_len}
use Rattle.fluxion_lines.specs.Scripts.{lines_by}
use Rattle.fluxion_lines.proofs.ScriptLaws.{no_more}
use Rattle.fluxion_lines.proofs.scripts.no_lines.Goals as goal

pub loop-client-preserved : goal.loop-client-preserved
loop-client-preserved c =
    let lists = c.loop-client.lists.items in
    let rest = map (λ client. lines_by client [])
    (range_with_len (c.loop-client.client + 1) (c.args.count - (c.loop-client.client + 1))) in
    ap (λ (ls : List (List Line)). ls ++ rest)
    (c.in_ok-push.ensures.ok ∙ ap (λ (x : List Line). lists ++ x ∷ []) c.new.ensures)
    ∙ (append_assoc lists ([] ∷ []) rest ∙ (ap (λ (ls : List (List Line)). lists ++ ls)
    (sym (no_more c.args.count c.loop-client.client c.loop-client-test.true)) ∙ c.loop-client.invariant))

pub returns : goal.returns
returns c =
    let lists = c.loop-client.lists.items in
    let past = c.loop-client-test.false in
    let none : c.args.count - c.loop-client.client ≡ 0 = omega (arith, past) in
    c.of_vec.ensures ∙ (sym (append-nil lists) ∙ (ap (λ n. lists ++ map
    (λ client. lines_by client []) (range_with_len c.loop-client.client n)) (sym none) ∙ c.loop-client.invariant))
