use Rattle.std.proofs.Common.{map, string_bytes, sym, ◌∙◌, ap}
use Rattle.command_words.specs.Taken.{after_word}
use Rattle.command_words.proofs.FormLaws.{in_form, stops, ends}
use Rattle.command_words.proofs.forms.are_in_form.Goals as goal

pub returns-in-None : goal.returns-in-None
returns-in-None c =
    let words = c.args.words.now in
    let state = c.loop-word.state in
    let none = ap (after_word state) (sym c.as_bytes.ensures.value) ∙ (sym c.after_word.ensures ∙ c.in-None.is) in
    sym (in_form (map string_bytes words) ∙ (sym c.loop-word.invariant
    ∙ stops state words c.loop-word.word-index c.word-item.result c.loop-word-test.true c.word-item.is none))

pub returns : goal.returns
returns c =
    let words = c.args.words.now in
    let state = c.loop-word.state in
    c.is_whole.ensures ∙ sym (in_form (map string_bytes words)
    ∙ (sym c.loop-word.invariant ∙ ends state words c.loop-word.word-index c.loop-word-test.false))
