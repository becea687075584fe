use Rattle.std.proofs.Common.{refl}
use Rattle.judge_core.proofs.checking.fault_of.Goals as goal

pub returns-in-Device : goal.returns-in-Device
returns-in-Device c = rw c.in-Device.is refl
