use Rattle.asked_calls.proofs.CallLaws.{one_call}
use Rattle.asked_calls.proofs.laws.words_are_one_call.Goals as goal

pub returns : goal.returns
returns c = one_call
