use Rattle.std.proofs.Common.{rules, ◌≡◌, ◌<◌, ◌^◌, sym, ◌∙◌, ap, inr, refl, Some, None, length, arith}
use Rattle.text_table.specs.Tables.{with_text, index_of}
use Rattle.fluxion_lines.specs.Lines.{read_of}
use Rattle.fluxion_lines.specs.Commands.{client_of, command_of}
use Rattle.fluxion_lines.specs.Inputs.{client_in, over_size, line_over_size}
use Rattle.fluxion_lines.proofs.LineLaws.{place_within}
use Rattle.fluxion_lines.proofs.InputLaws.{clients_fit}
use Rattle.fluxion_lines.proofs.input.read_line.Goals as goal

pub returns-in-Some-clause-over : goal.returns-in-Some-clause-over
returns-in-Some-clause-over c =
    let client : c.client_of.result.now ≡ client_in c.args.raw.now =
    c.client_of.ensures ∙ ap client_of c.without_return-text.ensures in
    let table : c.len.result ≡ length (with_text c.args.table.now (client_in c.args.raw.now)) = c.len.ensures
    ∙ (ap length c.in_ok-client.ensures.ok ∙ ap (λ t. length (with_text c.args.table.now t)) client) in
    let past : line_over_size c.args.limits.now c.args.table.now c.args.at c.args.raw.now ≡ Some c.in-Some.over =
    ap (over_size c.args.limits.now c.args.at (length c.args.raw.now)) (sym table)
    ∙ (sym c.over_size.ensures ∙ c.in-Some.is) in
    inr (c.in-Some.over, refl, past)

pub overflow_cast-result : goal.overflow_cast-result
overflow_cast-result c =
    let client : c.client_of.result.now ≡ client_in c.args.raw.now =
    c.client_of.ensures ∙ ap client_of c.without_return-text.ensures in
    let table : c.len.result ≡ length (with_text c.args.table.now c.client_of.result.now) =
    c.len.ensures ∙ ap length c.in_ok-client.ensures.ok in
    let within : over_size c.args.limits.now c.args.at (length c.args.raw.now) c.len.result ≡ None =
    sym c.over_size.ensures ∙ c.in_default.is in
    let fits = clients_fit c.args.limits.now c.args.at (length c.args.raw.now) c.len.result within in
    let place = place_within c.args.table.now c.client_of.result.now in
    let number = c.in_ok-client.ensures.number in
    let few = c.requires.clients in
    let small : c.in_ok-client.client < 2 ^ 32 = omega (arith, table, fits, place, number, few) in
    search rules

pub returns-clause-line : goal.returns-clause-line
returns-clause-line c =
    let client : c.client_of.result.now ≡ client_in c.args.raw.now =
    c.client_of.ensures ∙ ap client_of c.without_return-text.ensures in
    let number : c.in_ok-client.client ≡ index_of c.args.table.now (client_in c.args.raw.now) =
    c.in_ok-client.ensures.number ∙ ap (index_of c.args.table.now) client in
    let command : c.in_ok-command.command ≡ command_of c.args.graph.now c.args.form (read_of c.args.raw.now) =
    c.in_ok-command.ensures.command ∙ ap (command_of c.args.graph.now c.args.form) c.without_return-text.ensures in
    λ i. record { client = number i; line = c.args.at; command = command i }

pub returns-clause-table : goal.returns-clause-table
returns-clause-table c =
    let client : c.client_of.result.now ≡ client_in c.args.raw.now =
    c.client_of.ensures ∙ ap client_of c.without_return-text.ensures in
    c.in_ok-client.ensures.ok ∙ ap (with_text c.args.table.now) client

pub returns-clause-within : goal.returns-clause-within
returns-clause-within c =
    let client : c.client_of.result.now ≡ client_in c.args.raw.now =
    c.client_of.ensures ∙ ap client_of c.without_return-text.ensures in
    let table : c.len.result ≡ length (with_text c.args.table.now (client_in c.args.raw.now)) = c.len.ensures
    ∙ (ap length c.in_ok-client.ensures.ok ∙ ap (λ t. length (with_text c.args.table.now t)) client) in
    ap (over_size c.args.limits.now c.args.at (length c.args.raw.now)) (sym table)
    ∙ (sym c.over_size.ensures ∙ c.in_default.is)
