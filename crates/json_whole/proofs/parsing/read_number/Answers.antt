use Rattle.std.proofs.Common.{◌≡◌, ◌<◌, ◌++◌, take, Some, sym, ap, ◌∙◌, rules}
use Rattle.std.proofs.lemmas.Result.{IfOk-weaker}
use Rattle.json.specs.Json.{value}
use Rattle.json.specs.Json as json
use Rattle.json.specs.Value.{value_view}
use Rattle.json.specs.declared.value.Value.{Number, the_lemmas}
use Rattle.json.proofs.Grammar.{value_is}
use Rattle.json_whole.specs.Run.{digit_count}
use Rattle.json_whole.specs.PlainTokens.{number_as, plain_number}
use Rattle.json_whole.specs.declared.runs.Form.TheVariants.{Same, Digits, Listed}
use Rattle.json_whole.proofs.PlainSteps.{list_read}
use Rattle.json_whole.proofs.parsing.read_number.Goals as goal

pub returns-in-Same-clause-ok : goal.returns-in-Same-clause-ok
returns-in-Same-clause-ok c =
    let seen : value_view (Number c.args.number) ≡ json.number c.args.number.now = search (rules, the_lemmas) in
    let form : number_as Same c.args.number.now ≡ plain_number c.args.number.now =
    rw c.in-Same.is at c.in_ok-number_form.ensures.tokens in
    λ rest. ap (λ ts. value c.args.depth (ts ++ rest)) (sym form) ∙ value_is c.args.depth _
    ∙ ap (λ j. Some (j, rest)) (sym seen)

pub returns-in-Digits-clause-ok : goal.returns-in-Digits-clause-ok
returns-in-Digits-clause-ok c =
    let s = c.args.number.now in
    let digits : c.front_digits.result.now ≡ take (digit_count s) s = c.front_digits.ensures in
    let seen : value_view (Number c.front_digits.result) ≡ json.number c.front_digits.result.now =
    search (rules, the_lemmas) in
    let form : number_as Digits c.args.number.now ≡ plain_number c.args.number.now =
    rw c.in-Digits.is at c.in_ok-number_form.ensures.tokens in
    λ rest. ap (λ ts. value c.args.depth (ts ++ rest)) (sym form) ∙ value_is c.args.depth _
    ∙ ap (λ s. Some (json.number s, rest)) (sym digits) ∙ ap (λ j. Some (j, rest)) (sym seen)

pub returns-in-Listed-clause-ok : goal.returns-in-Listed-clause-ok
returns-in-Listed-clause-ok c =
    let form : number_as Listed c.args.number.now ≡ plain_number c.args.number.now =
    rw c.in-Listed.is at c.in_ok-number_form.ensures.tokens in
    let some : 0 < c.args.depth = c.in_ok-number_form.ensures.nests c.in-Listed.is in
    IfOk-weaker c.list_of.result _ _
    (λ v is rest. ap (λ ts. value c.args.depth (ts ++ rest)) (sym form)
    ∙ list_read c.args.depth c.args.number.now rest some ∙ ap (λ j. Some (j, rest)) (sym is)) c.list_of.ensures.is
