use Rattle.std.proofs.Common.{◌≡◌, ◌+◌, ◌*◌, ◌-◌, ◌≤◌, true, take, get_or, refl, sym, ◌∙◌, arith}
use Rattle.std.specs.Char.{is_ascii_digit}
use Rattle.idset_text.specs.Numbers.{value_of}
use Rattle.idset_text.proofs.NumberLemmas.{number_too_large, digit_bounds, digits_more, value_more}
use Rattle.idset_text.proofs.numbers.number.Goals as goal

pub returns-then-value-from : goal.returns-then-value-from
returns-then-value-from c =
    let bytes = c.args.bytes.now in
    let i = c.digits.byte-index in
    let digit : is_ascii_digit (get_or bytes i 0) ≡ true =
    sym c.is_ascii_digit.ensures.value ∙ c.if-not-is_ascii_digit.false in
    let bounds = digit_bounds _ digit in
    let next : value_of (take (i + 1) bytes) ≡ value_of (take i bytes) * 10 + (get_or bytes i 0 - 48) =
    value_more bytes i _ (omega arith) refl bounds.0 bounds.1 in
    let large : 4294967296 ≤ value_of (take (i + 1) bytes) = omega arith in
    sym (number_too_large bytes (i + 1) large)

pub digits-preserved : goal.digits-preserved
digits-preserved c =
    let bytes = c.args.bytes.now in
    let i = c.digits.byte-index in
    let digit : is_ascii_digit (get_or bytes i 0) ≡ true =
    sym c.is_ascii_digit.ensures.value ∙ c.if-not-is_ascii_digit.false in
    let bounds = digit_bounds _ digit in
    let next : value_of (take (i + 1) bytes) ≡ value_of (take i bytes) * 10 + (get_or bytes i 0 - 48) =
    value_more bytes i _ (omega arith) refl bounds.0 bounds.1 in
    record {
      digits = digits_more bytes i (omega arith) digit c.digits.invariant.digits;
      value = omega arith;
      small = omega arith;
    }
