-- What the steps of a command leave of what a context tells.
use Rattle.std.specs.Prelude.{◌≡◌, ⊤, ℕ, ◌+◌, Bool, true, false, Option, Some, None, Result, Err, OnOk, OnErr}
use Rattle.std.specs.Option.{option_map}
use Rattle.core_types.specs.Done.{del_note, note_on_key}
use Rattle.core_types.specs.declared.note.NoteClass.TheVariants as class
use Rattle.core_types.specs.declared.outcome.After.{After}
use Rattle.core_types.specs.declared.outcome.After.TheVariants as after
use Rattle.core_types.specs.declared.reply.Reply.{Reply}
use Rattle.core_types.specs.declared.stop.Stop.{Stop}
use Rattle.core_types.specs.declared.stop.Stop.TheVariants as stop
use Rattle.module_laws.specs.Meaning.{type_of}
use Rattle.module_laws.specs.Runs.{IsCounted, IsSpent, Scene}
use Rattle.module_laws.specs.Types.{is_full}
use Rattle.module_laws.specs.Told.{Told, with_deleted, with_effect, with_native, with_note, with_put}
use Rattle.module_laws.specs.Words.{Bytes, Words, Saved}
use Rattle.one_key.specs.KeyMeaning.{KeyChange, KeyMeaning, Write}
use Rattle.one_key.specs.MeaningOf.{meaning_of}
use Rattle.one_key.specs.inner.Shown.{shown}
use Rattle.one_key.specs.declared.wrote.Change.{Change}
use Rattle.one_key.specs.declared.wrote.Wrote.{Wrote}

-- what a command that reads replies, where this is what its key has
abbrev pub read_reply : KeyMeaning → Words → Option (Option Saved) → Reply
read_reply m words None = m.others words
read_reply m words (Some old) = m.reads old words

module _ {V : Type 0} (m : KeyMeaning) (saved : V → Saved) (key : Bytes) where
  -- what the body of a command left, before its key is put or goes
  abbrev pub Left : After V → Option Saved → Option Saved → Told → Told → Type 0
  Left after.Keep (Some was) (Some left) old new = new ≡ with_native key (shown m left) old
  Left (after.Put value) None (Some left) old new = (new ≡ old) × (saved value ≡ left)
  Left after.Remove was None old new = new ≡ old
  Left _ was left old new = ⊥

  pub record ChangedAt (change : Change V) (meant : KeyChange) (was : Option Saved)
      (old new : Told) : Type 0 where
    pub left : Left change.after was meant.left old new
    pub effect : option_map (λ effect. effect.words) change.effect ≡ meant.effect
    pub event : change.event.now ≡ meant.event

  abbrev pub ChangedWhere : Option (Change V) → Option KeyChange → Option Saved → Told → Told
      → Type 0
  ChangedWhere None None was old new = new ≡ old
  ChangedWhere (Some change) (Some meant) was old new = ChangedAt change meant was old new
  ChangedWhere _ _ was old new = ⊥

  pub record WroteOn (wrote : Wrote V) (meant : Write) (was : Option Saved) (old new : Told)
      : Type 0 where
    pub reply : wrote.reply ≡ meant.reply
    pub change : ChangedWhere wrote.change meant.change was old new

  -- the body of a command wrote on what its key has, or did not where that is of another kind
  abbrev pub WroteAt : Words → Option (Wrote V) → Option (Option Saved) → Told → Told → Type 0
  WroteAt words None None old new = new ≡ old
  WroteAt words (Some wrote) (Some was) old new = WroteOn wrote (m.writes was words) was old new
  WroteAt words _ _ old new = ⊥

  -- the key was put or went, or is as it was
  abbrev pub Placed : After V → Told → Told → Type 0
  Placed after.Keep old new = new ≡ old
  Placed (after.Put value) old new = new ≡ with_put key (shown m (saved value)) new.has_serial old
  Placed after.Remove old new = new ≡ with_deleted key old

-- how many values are made for it
abbrev pub count_in : {V : Type 0} → After V → ℕ
count_in (after.Put value) = 1
count_in _ = 0

-- a value that is to be put is one that a key may have
abbrev pub CanPlace : {V : Type 0} → KeyMeaning → (V → Saved) → After V → Type 0
CanPlace m saved (after.Put value) = is_full (type_of (meaning_of m)) (saved value) ≡ true
CanPlace m saved _ = ⊤

-- Placing what becomes of a key: after an `Err` what is told is as it was.
pub record Places {V : Type 0} (m : KeyMeaning) (saved : V → Saved) (key : Bytes)
    (left : After V) (result : Result (Unit {0}) Stop) (old new : Scene) : Type 0 where
  pub placed : OnOk result (Placed m saved key left old.told new.told)
  pub made : OnOk result
      (new.state ≡ record old.state { made = old.state.made + count_in left })
  pub kept : OnErr result (new.told ≡ old.told)
  pub counted : OnErr result (IsCounted 0 0 old.state new.state)
  pub private : new.state.private ≡ old.state.private
  pub spent : result ≡ Err stop.NumbersSpent → IsSpent new

-- whether a key goes
abbrev pub is_gone : {V : Type 0} → After V → Bool
is_gone after.Remove = true
is_gone _ = false

-- the event that tells of a key that is gone
abbrev pub with_gone : Words → Bool → Told → Told
with_gone words true told = with_note (del_note words) told
with_gone words false told = told

-- what is told of a change
abbrev pub with_change : Words → Words → Bytes → Bool → Told → Told
with_change words effect event gone told =
    with_effect (record { words = effect })
    (with_gone words gone (with_note (note_on_key class.Module event words) told))
