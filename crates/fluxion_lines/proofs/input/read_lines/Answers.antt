use Rattle.std.proofs.Common.{rules, ◌≡◌, ◌<◌, ◌+◌, ◌++◌, ◌∷◌, [], sym, ◌∙◌, ap, inr, refl, None, Some, length}
use Rattle.std.proofs.Common.{length-append, map, arith, subst}
use Rattle.std.specs.List.{AllByRecursion}
use Rattle.flux_defs.specs.Scheduler.{IsProper}
use Rattle.text_table.specs.Tables.{with_text, with_texts}
use Rattle.fluxion_lines.specs.Lines.{lines_of}
use Rattle.fluxion_lines.specs.Commands.{bars_of_command}
use Rattle.fluxion_lines.specs.Inputs.{client_in, line_at, lines_from, line_over_size, bars_in, over_bars, over_from}
use Rattle.flux_defs.specs.declared.journal.ClientLine.{ClientLine}
use Rattle.fluxion_lines.proofs.LineLaws.{shorter, first_line}
use Rattle.fluxion_lines.proofs.InputLaws.{some_left, next_lines, next_clients, next_over, over_size_here}
use Rattle.fluxion_lines.proofs.InputLaws.{over_bars_here, bars_fit, told_of, proper_push}
use Rattle.fluxion_lines.proofs.input.read_lines.Goals as goal

pub returns-in-Err-clause-over : goal.returns-in-Err-clause-over
returns-in-Err-clause-over c =
    let split = first_line c.cut_line.result.0.now
    c.cut_line.result.1.now c.lines.rest.now c.cut_line.ensures.feed c.cut_line.ensures.begins in
    let at : c.len.result ≡ length c.lines.lines.items = search rules in
    told_of c.in-Err.fault c.in-Err.ensures.over (λ over here.
    sym c.lines.invariant.over ∙ (ap (λ n. over_from c.args.limits.now
    c.args.graph.now c.args.form c.lines.table c.lines.bars (n + 1) (lines_of c.lines.rest.now)) (sym at)
    ∙ over_size_here c.args.limits.now c.args.graph.now c.args.form c.lines.table c.lines.bars
    (c.len.result + 1) c.cut_line.result.0.now c.cut_line.result.1.now c.lines.rest.now split over here))

pub returns-in-Err-with_bars-clause-over : goal.returns-in-Err-with_bars-clause-over
returns-in-Err-with_bars-clause-over c =
    let g = c.args.graph.now in
    let raw = c.cut_line.result.0.now in
    let split =
    first_line raw c.cut_line.result.1.now c.lines.rest.now c.cut_line.ensures.feed c.cut_line.ensures.begins in
    let at : c.len.result ≡ length c.lines.lines.items = search rules in
    let own : bars_of_command c.in-Ok.line.command ≡ bars_in g c.args.form raw = ap
    (λ (l : ClientLine). bars_of_command l.command) c.in-Ok.ensures.line in
    let here : over_bars c.args.limits.now (c.len.result + 1) (c.lines.bars + bars_in g c.args.form raw)
    ≡ Some c.in-Err-with_bars.over =
    ap (λ n. over_bars c.args.limits.now (c.len.result + 1) (c.lines.bars + n)) (sym own)
    ∙ c.in-Err-with_bars.ensures.over in
    inr (
      c.in-Err-with_bars.over,
      refl,
      sym c.lines.invariant.over ∙ (ap (λ n. over_from c.args.limits.now g c.args.form c.lines.table c.lines.bars
          (n + 1) (lines_of c.lines.rest.now)) (sym at)
          ∙ over_bars_here c.args.limits.now g c.args.form c.lines.table c.lines.bars (c.len.result + 1)
          raw c.cut_line.result.1.now c.lines.rest.now split c.in-Err-with_bars.over c.in-Ok.ensures.within here),
    )

pub lines-smaller : goal.lines-smaller
lines-smaller c =
    let some : 0 < length c.lines.rest.now =
    some_left (length c.lines.rest.now) (sym c.is_empty.ensures ∙ c.lines-test.true) in
    let less =
    shorter c.cut_line.result.0.now c.cut_line.result.1.now c.lines.rest.now c.cut_line.ensures.begins some in
    search rules

pub lines-preserved : goal.lines-preserved
lines-preserved c =
    let g = c.args.graph.now in
    let form = c.args.form in
    let limits = c.args.limits.now in
    let table = c.lines.table in
    let bars = c.lines.bars in
    let raw = c.cut_line.result.0.now in
    let more = c.cut_line.result.1.now in
    let done = c.lines.lines.items in
    let some : 0 < length c.lines.rest.now =
    some_left (length c.lines.rest.now) (sym c.is_empty.ensures ∙ c.lines-test.true) in
    let less = shorter raw more c.lines.rest.now c.cut_line.ensures.begins some in
    let split = first_line raw more c.lines.rest.now c.cut_line.ensures.feed c.cut_line.ensures.begins in
    let few = c.lines.invariant.few in
    let items = c.in_ok-push.ensures.ok in
    let at : c.len.result ≡ length done = search rules in
    let long : length c.push.new.items.items ≡ length done + 1 = ap length items
    ∙ length-append done (c.in-Ok.line ∷ []) in
    let lines : c.push.new.items.items ≡ done ++ line_at g form table (length done + 1) raw ∷ [] =
    items ∙ ap (λ (l : ClientLine). done ++ l ∷ [])
    (c.in-Ok.ensures.line ∙ ap (λ n. line_at g form table (n + 1) raw) at) in
    let tables : c.read_line.new.table ≡ with_text table (client_in raw) = c.in-Ok.ensures.table in
    let within : line_over_size limits table (length done + 1) raw ≡ None =
    ap (λ n. line_over_size limits table (n + 1) raw) (sym at) ∙ c.in-Ok.ensures.within in
    let sum : c.in-Ok-with_bars.sum ≡ bars + bars_in g form raw = c.in-Ok-with_bars.ensures.sum
    ∙ ap (λ (l : ClientLine). bars + bars_of_command l.command) c.in-Ok.ensures.line in
    let most = c.in-Ok-with_bars.ensures.most in
    let fit : over_bars limits (length done + 1) (bars + bars_in g form raw) ≡ None = ap
    (over_bars limits (length done + 1)) (sym sum) ∙ bars_fit limits (length done + 1) c.in-Ok-with_bars.sum most in
    record {
      few = omega (arith, long, less, few);
      clients = ap (λ t. with_texts t (map client_in (lines_of more))) c.in-Ok.ensures.table ∙ (next_clients
          limits g form table bars (length done + 1) raw more c.lines.rest.now split ∙ c.lines.invariant.clients);
      lines =
          (λ i. lines i ++ lines_from g form (tables i) (long i + 1) (lines_of more))
          ∙ (next_lines limits g form table bars (length done + 1) raw more c.lines.rest.now split done
          ∙ c.lines.invariant.lines);
      bars = most;
      over =
          (λ i. over_from limits g form (tables i) (sum i) (long i + 1) (lines_of more))
          ∙ (next_over limits g form table bars (length done + 1) raw more c.lines.rest.now split within fit
          ∙ c.lines.invariant.over);
      proper = subst (AllByRecursion (λ (x : ClientLine). IsProper g.resources.vertices x.command)) (sym items)
          (proper_push g.resources.vertices done c.in-Ok.line c.lines.invariant.proper c.in-Ok.ensures.proper);
    }
