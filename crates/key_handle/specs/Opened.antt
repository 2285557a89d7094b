-- An opened key, and why calls on it are refused.
use Rattle.std.specs.Prelude.{◌≡◌, ℕ, Bool, false, List, Option, None, Some}
use Rattle.std.specs.Borrow.{GName}
use Rattle.core_types.specs.Keys.{Entry, Native, entry_at, value_at}
use Rattle.core_types.specs.declared.value.Kind.{Kind}
use Rattle.core_types.specs.declared.value.Value.{Value}
use Rattle.module_laws.specs.Told.{Told, IsForeign, kind_at, with_deleted, with_native, with_put}
use Rattle.module_laws.specs.Types.{NativeType}
use Rattle.module_laws.specs.declared.context.SetFault.{SetFault}
use Rattle.module_laws.specs.declared.context.SetFault.TheVariants as set_fault
use Rattle.key_handle.specs.declared.fault.HandleFault.{HandleFault}
use Rattle.key_handle.specs.declared.fault.HandleFault.TheVariants as fault
use Rattle.key_handle.specs.declared.handle.Mode.{Mode}
use Rattle.key_handle.specs.declared.handle.Mode.TheVariants as mode
use Rattle.key_handle.specs.declared.handle.Handle.{Handle}

-- an opened key: what its context tells, which references that holds, whether each value in it has
-- the type that it was put in with, the reference to it, the key, and what it is open for
pub record Opened : Type 0 where
  pub told : Told
  pub held : List GName
  pub typed : Bool
  pub reference : GName
  pub key : List ℕ
  pub mode : Mode

module _ {C V : Type 0} where
  -- a handle as contracts see it
  abbrev pub opened : (C → Told) → (C → List GName) → (C → Bool) → Handle C V → Opened
  opened told held typed handle = record {
    told = told handle.ctx.now;
    held = held handle.ctx.now;
    typed = typed handle.ctx.now;
    reference = handle.ctx.ghost_name;
    key = handle.key.now;
    mode = handle.mode;
  }

-- what the key has
abbrev pub key_entry : Opened → Option (Entry Native)
key_entry opened = entry_at opened.told.seen.keys opened.key

abbrev pub key_value : Opened → Option (Value Native)
key_value opened = value_at opened.told.seen.keys opened.key

abbrev pub key_kind : Opened → Option Kind
key_kind opened = kind_at opened.told.seen.keys opened.key

-- The key's value is now this one, and its deadline stays. Each value then has the type that it was
-- put in with, or one does not.
abbrev pub native_changed : Native → Bool → Opened → Opened
native_changed native typed opened =
    record opened { told = with_native opened.key native opened.told; typed = typed }

-- a value was put in, and there is a serial for another one or not
abbrev pub native_put : Native → Bool → Opened → Opened
native_put native has_serial opened =
    record opened { told = with_put opened.key native has_serial opened.told }

-- the key was removed
abbrev pub key_deleted : Opened → Opened
key_deleted opened = record opened { told = with_deleted opened.key opened.told }

-- why the key shows no value of these types
abbrev pub HasFault : List NativeType → Opened → HandleFault → Type 0
HasFault types opened fault.ReadOnly = ⊥
HasFault types opened fault.Empty = key_kind opened ≡ None
HasFault types opened (fault.NotOurs other) = (key_kind opened ≡ Some other) × IsForeign types other
HasFault types opened fault.Memory = ⊥

-- why it lends none to be changed: `ReadOnly` first, then as above; want of memory is free
abbrev pub MayLend : List NativeType → Opened → HandleFault → Type 0
MayLend types opened fault.ReadOnly = opened.mode ≡ mode.Read
MayLend types opened fault.Memory = opened.mode ≡ mode.Write
MayLend types opened why = (opened.mode ≡ mode.Write) × HasFault types opened why

-- why it is not removed
abbrev pub MayDelete : Opened → HandleFault → Type 0
MayDelete opened fault.ReadOnly = opened.mode ≡ mode.Read
MayDelete opened fault.Memory = opened.mode ≡ mode.Write
MayDelete opened _ = ⊥

-- why no value is put in
abbrev pub MayPut : Opened → SetFault → Type 0
MayPut opened set_fault.ReadOnly = opened.mode ≡ mode.Read
MayPut opened set_fault.Memory = opened.mode ≡ mode.Write
MayPut opened set_fault.NumbersSpent =
    (opened.mode ≡ mode.Write) × (opened.told.has_serial ≡ false)
