use Rattle.std.proofs.Common.{ap, inr, Err}
use Rattle.simulate_call.specs.Inputs.{image_refusal}
use Rattle.simulate_call.proofs.outputs.image_in.Goals as goal

pub returns-in-Err-Fault-clause-refused : goal.returns-in-Err-Fault-clause-refused
returns-in-Err-Fault-clause-refused c =
    inr (ap image_refusal ((c.in-Err-Fault.ensures.fault c.in-Err-Fault.fault).0 (ap Err c.in-Err-Fault.field-0-is)))
