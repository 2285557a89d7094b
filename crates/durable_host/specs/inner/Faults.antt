-- Causes and faults.
use Rattle.core_types.specs.declared.stop.Cause.{Cause}
use Rattle.core_types.specs.declared.stop.Cause.TheVariants as cause
use Rattle.core_types.specs.declared.stop.Stop.{Stop}
use Rattle.core_types.specs.declared.stop.Stop.TheVariants as stop
use Rattle.durable_host.specs.declared.fault.HostFault.{HostFault}
use Rattle.durable_host.specs.declared.fault.HostFault.TheVariants as fault

-- what a step answers where the core stops
abbrev pub fault_of : Stop → HostFault
fault_of stop.Memory = fault.Memory
fault_of stop.NumbersSpent = fault.NumbersSpent

-- what a host keeps of a fault
abbrev pub cause_of : HostFault → Cause
cause_of fault.Dir = cause.Dir
cause_of fault.Memory = cause.Memory
cause_of fault.NumbersSpent = cause.NumbersSpent
cause_of (fault.Stopped why) = why
