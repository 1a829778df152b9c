use Rattle.std.proofs.Common.{map, string_bytes, sym, ◌∙◌}
use Rattle.command_words.proofs.Taken.{no_values, the_values}
use Rattle.command_words.proofs.reading.read_words.Goals as goal

pub returns-in_default-get_str : goal.returns-in_default-get_str
returns-in_default-get_str c =
    let words = map string_bytes c.args.words.now in
    let form = sym c.are_in_form.ensures ∙ c.if-not-are_in_form.false in
    sym (no_values words c.in-Ok.found form c.in-Ok.ensures.matches (sym c.in_default-get_str.ensures))

pub returns : goal.returns
returns c =
    let words = map string_bytes c.args.words.now in
    let form = sym c.are_in_form.ensures ∙ c.if-not-are_in_form.false in
    the_values words c.in-Ok.found form c.in-Ok.ensures.matches c.in-Some.graph.now c.in-Some.ensures
    _ _ _ c.get_str-2.ensures c.get_str-3.ensures c.get_str-4.ensures
