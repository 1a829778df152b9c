use Rattle.std.proofs.Common.{◌≡◌, drop, get_or, true, false, ◌==◌, refl, sym, ap, ◌∙◌, arith, take_all, length-drop}
use Rattle.fast_float.specs.Text.{scan}
use Rattle.serde_json.specs.Read.{number_of, number_from}
use Rattle.json_whole.specs.Values.{whole_or_zero}
use Rattle.json_whole.proofs.looking.number_in.Goals as goal

pub returns-then-has_minus : goal.returns-then-has_minus
unfolding number_of
returns-then-has_minus c =
    let s = c.as_bytes-bytes.result.now in
    let minus : (get_or s 0 0 == 45) ≡ true = sym c.if-has_minus.ensures.minus in
    let parts : c.scan.result ≡ scan (drop 1 s) =
    c.scan.ensures.parts ∙ ap scan (take_all _ (drop 1 s) (omega (arith, length-drop 1 s))) in
    let read : number_from true (scan (drop 1 s)) ≡ number_of s = rw minus refl in
    c.negative_number.ensures ∙ ap (λ p. whole_or_zero (number_from true p)) parts ∙ ap whole_or_zero read
    ∙ ap (λ t. whole_or_zero (number_of t)) c.as_bytes-bytes.ensures.value

pub returns-else-has_minus : goal.returns-else-has_minus
unfolding number_of
returns-else-has_minus c =
    let s = c.as_bytes-bytes.result.now in
    let other : (get_or s 0 0 == 45) ≡ false = sym c.if-has_minus.ensures.minus in
    let read : number_from false (scan s) ≡ number_of s = rw other refl in
    c.unsigned_number.ensures ∙ ap (λ p. whole_or_zero (number_from false p)) c.scan-else-has_minus.ensures.parts
    ∙ ap whole_or_zero read ∙ ap (λ t. whole_or_zero (number_of t)) c.as_bytes-bytes.ensures.value
