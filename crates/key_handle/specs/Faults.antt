-- Faults of a context, as those of an opened key.
use Rattle.module_laws.specs.declared.context.MutFault.{MutFault}
use Rattle.module_laws.specs.declared.context.MutFault.TheVariants as mut_fault
use Rattle.key_handle.specs.declared.fault.HandleFault.{HandleFault}
use Rattle.key_handle.specs.declared.fault.HandleFault.TheVariants as fault

abbrev pub fault_of : MutFault → HandleFault
fault_of mut_fault.Empty = fault.Empty
fault_of (mut_fault.NotOurs other) = fault.NotOurs other
fault_of mut_fault.Memory = fault.Memory
