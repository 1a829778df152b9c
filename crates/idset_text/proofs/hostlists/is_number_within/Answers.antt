use Rattle.std.proofs.Common.{sym, ◌∙◌, arith}
use Rattle.idset_text.proofs.HostLemmas.{one_when_passed, passed_when_one}
use Rattle.idset_text.proofs.hostlists.is_number_within.Goals as goal

pub returns : goal.returns
returns c = (
  λ h. one_when_passed c.args.lo c.args.hi c.args.width c.args.digits.now (sym c.passes.ensures ∙ h),
  λ h. c.passes.ensures
      ∙ passed_when_one c.args.lo c.args.hi c.args.width c.args.digits.now (omega (arith, c.ranges.hi)) h,
)
