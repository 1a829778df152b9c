use Rattle.text_forms.proofs.Decimals.{by_both}
use Rattle.text_forms.proofs.numbers.number_in.Goals as goal

pub returns : goal.returns
returns c = by_both
    c.args.word.now c.number_of.result c.number_of.ensures.some c.number_of.ensures.fits c.number_of.ensures.none
