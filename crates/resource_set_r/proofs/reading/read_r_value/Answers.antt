use Rattle.std.proofs.Common.{subst}
use Rattle.json_whole.specs.Values.{view}
use Rattle.resource_set_r.specs.declared.faults.ReadError.{ReadError}
use Rattle.resource_set_r.specs.ReadR.{IsErrorOf}
use Rattle.resource_set_r.proofs.RowsRead.{told}
use Rattle.resource_set_r.proofs.reading.read_r_value.Goals as goal

pub returns-in-Err-Misread-clause-fault : goal.returns-in-Err-Misread-clause-fault
returns-in-Err-Misread-clause-fault c = λ bytes is.
    let d = view c.args.value.now in
    let wrong = subst (λ (e : ReadError). IsErrorOf d e) c.in-Err-Misread.field-0-is c.in-Err-Misread.ensures.error in
    told bytes c.in-Err-Misread.misread c.fault_of.result c.fault_of.ensures (d, is, wrong)
