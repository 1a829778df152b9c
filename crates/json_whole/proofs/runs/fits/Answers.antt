use Rattle.std.proofs.Common.{rules, Err}
use Rattle.std.proofs.lemmas.Str.Parse.{parse_digits}
use Rattle.json_whole.proofs.Numerals.{digits_by_test, refused_digits}
use Rattle.json_whole.proofs.runs.fits.Goals as goal

pub returns-in-Err : goal.returns-in-Err
returns-in-Err c =
    let refused = parse_digits digits_by_test 64 c.args.digits.now (Err c.in-Err.field-0) c.in-Err.ensures c.requires in
    let same = refused_digits c.args.digits.now c.args.most c.ranges.most.fits refused in search rules
