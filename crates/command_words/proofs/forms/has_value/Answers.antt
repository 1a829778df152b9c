use Rattle.std.proofs.Common.{sym, ◌∙◌}
use Rattle.std.proofs.lemmas.Slice.Eq.{strip_prefix_is}
use Rattle.std.proofs.lemmas.Bool.Decides.{Decides-eqb}
use Rattle.command_words.proofs.FormLaws.{strips, behind_none, behind_some, nothing_behind, value_behind, other_behind}
use Rattle.command_words.proofs.forms.has_value.Goals as goal

pub returns-in_default : goal.returns-in_default
returns-in_default c =
    let text = c.args.text.now in
    let word = c.args.word.now in
    let is = strips text word c.strip_prefix.result
    (strip_prefix_is Decides-eqb word text c.strip_prefix.result c.strip_prefix.ensures.cases) in
    sym (behind_none text word c.strip_prefix.result is c.in_default.is)

pub returns-in-None : goal.returns-in-None
returns-in-None c =
    let text = c.args.text.now in
    let word = c.args.word.now in
    let is = strips text word c.strip_prefix.result
    (strip_prefix_is Decides-eqb word text c.strip_prefix.result c.strip_prefix.ensures.cases) in
    sym (behind_some text word c.strip_prefix.result c.in-Some.rest is c.in-Some.is
    ∙ nothing_behind c.in-Some.rest.now c.in-None.ensures.value)

pub returns-in-Some-eq61 : goal.returns-in-Some-eq61
returns-in-Some-eq61 c =
    let text = c.args.text.now in
    let word = c.args.word.now in
    let is = strips text word c.strip_prefix.result
    (strip_prefix_is Decides-eqb word text c.strip_prefix.result c.strip_prefix.ensures.cases) in
    sym (behind_some text word c.strip_prefix.result c.in-Some.rest is c.in-Some.is
    ∙ value_behind c.in-Some.rest.now
    c.in-Some-eq61.field-0.now c.in-Some-eq61.ensures.value c.in-Some-eq61.field-0-test)

pub returns-in-Some-first : goal.returns-in-Some-first
returns-in-Some-first c =
    let text = c.args.text.now in
    let word = c.args.word.now in
    let is = strips text word c.strip_prefix.result
    (strip_prefix_is Decides-eqb word text c.strip_prefix.result c.strip_prefix.ensures.cases) in
    sym (behind_some text word c.strip_prefix.result c.in-Some.rest is c.in-Some.is
    ∙ other_behind c.in-Some.rest.now
    c.in-Some-first.field-0.now c.in-Some-first.ensures.value c.in-Some-first.field-0-test.1)
