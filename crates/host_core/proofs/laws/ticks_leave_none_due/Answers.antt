-- Serves clause none of ticks_leave_none_due.
use Rattle.std.proofs.Common.{max, arith}
use Rattle.core_types.specs.Keys.{key_count}
use Rattle.host_core.proofs.Dues.{none_left}
use Rattle.host_core.proofs.laws.ticks_leave_none_due.Goals as goal

pub returns : goal.returns
returns c = record { none = λ state shown. none_left (key_count state.keys) (max state.moment shown) state.keys (omega arith) }
