use Rattle.std.proofs.Common.{◌≡◌, Bool, sym, ◌∙◌, ap, subst, true≢false}
use Rattle.std.specs.Bool.{Decides}
use Rattle.std.specs.Prelude.{decimal}
use Rattle.std.proofs.lemmas.Bool.Decides.{Decides-eqb}
use Rattle.std.proofs.lemmas.Fmt.{parse-decimal}
use Rattle.std.proofs.lemmas.Slice.Eq.{slice_eq-Decides}
use Rattle.text_forms.proofs.Decimals.{parsed}
use Rattle.text_forms.proofs.numbers.number_of.Goals as goal

pub returns-in_default-clause-none : goal.returns-in_default-clause-none
returns-in_default-clause-none c = λ n small is.
    c.in_default.not-Ok n (parse-decimal 64 n c.args.digits.now c.parse_u64.result small small is c.parse_u64.ensures)

pub returns-clause-none : goal.returns-clause-none
returns-clause-none c = λ n small is.
    let same = parsed n c.in-Ok.number c.args.digits.now c.parse_u64.result small c.parse_u64.ensures c.in-Ok.is is in
    let tells = slice_eq-Decides Decides-eqb c.as_bytes-text.result.now c.args.digits.now c.eq.result c.eq.ensures in
    let differ = subst (λ (b : Bool). Decides b (c.as_bytes-text.result.now ≡ c.args.digits.now)) c.if-eq.false tells in
    true≢false (sym (differ.1 (c.as_bytes-text.ensures.value ∙ (c.format.ensures.text ∙ (ap decimal same ∙ sym is)))))
