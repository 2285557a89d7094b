-- That a command which changes its key obeys the law of effects.
use Rattle.std.proofs.Common.{◌≡◌, ◌||◌, subst, Bool, true, false, List, [], ◌∷◌, Option, Some, None, refl, sym, ap, ◌∙◌, if◌then◌else◌}
use Rattle.std.specs.Option.{option_and_then, option_map}
use Rattle.std.specs.Str.{bytes_eq}
use Rattle.std.proofs.lemmas.Option.{none-some, same_Some}
use Rattle.core_types.proofs.KeyLemmas.{changed_kept, removed_kept}
use Rattle.sequences.specs.Words.{word}
use Rattle.core_types.specs.Keys.{Entry, Native, entry_at, value_at}
use Rattle.core_types.specs.Keyspace.{IsString, IsKeyspace, IsValue}
use Rattle.core_types.specs.declared.note.Note.{Note}
use Rattle.core_types.specs.declared.reply.Reply.{Reply}
use Rattle.core_types.specs.declared.value.Value.{Value}
use Rattle.core_types.specs.declared.value.Value.TheVariants as value
use Rattle.module_laws.specs.Laws.{IsDone, IsFullOrNone, IsReply, IsSound}
use Rattle.core_types.specs.Limits.{IsWithinLimits}
use Rattle.module_laws.specs.Meaning.{Did, Meaning, type_of}
use Rattle.module_laws.specs.Replay.{own_value, replayed, replayed_on, with_after}
use Rattle.module_laws.specs.Told.{Seen}
use Rattle.module_laws.specs.Types.{is_full, is_kept}
use Rattle.module_laws.specs.Words.{Bytes, Words, Saved}
use Rattle.module_laws.specs.Plain.{answers_with}
use Rattle.module_laws.specs.declared.verdict.Verdict.{Verdict}
use Rattle.mod_samples.specs.Changes.{changes}

-- a choice of two replies is a reply
pub reply_either : (b : Bool) (first second : Did Verdict) → IsReply first.answer
    → IsReply second.answer → IsReply (if b then first else second).answer
reply_either true first second is other = is
reply_either false first second is other = other

-- a full value of a module is one that a key may have
pub kept_full : (meaning : Meaning) (items : Saved) → bytes_eq meaning.name meaning.name ≡ true
    → is_full (type_of meaning) items ≡ true
    → is_kept (type_of meaning ∷ []) (record { name = meaning.name; items = items }) ≡ true
kept_full meaning items itself full =
    ap (λ b. if b then is_full (type_of meaning) items else false) itself ∙ full

module _ (meaning : Meaning) (itself : bytes_eq meaning.name meaning.name ≡ true)
    (allowed : Native → Bool) (seen : Seen)
    (sound : IsSound (type_of meaning ∷ []) allowed seen) where
  pub unchanged : {A : Type 0} {private : Saved} (answer : A)
      → IsDone (meaning ∷ []) allowed seen (answers_with private answer seen)
  unchanged answer = record { replayed = refl; small = tt; kept = sound.keys }

  -- a key that is left with a full value or none leaves a keyspace
  pub left_kept : (key : Bytes) (made : Option Saved) → IsString key → IsFullOrNone meaning made
      → IsKeyspace allowed (with_after meaning.name key seen.keys made)
  left_kept key None short full = removed_kept allowed seen.keys sound.keys key
  left_kept key (Some items) short full =
      changed_kept allowed seen.keys sound.keys key _ short
      (sound.allows (record { name = meaning.name; items = items })
      (ap (λ b. b || false) itself)
      ∙ kept_full meaning items itself full)

  allowed_full : (b : Bool) (native : Native) → bytes_eq native.name meaning.name ≡ b
      → allowed native ≡ true → (old : Option Saved)
      → (if b then Some (Some native.items) else None) ≡ Some old → IsFullOrNone meaning old
  allowed_full true native same may old is =
      subst (IsFullOrNone meaning) (same_Some (Some native.items) old is)
      (sym (ap (λ b. if b then is_full (type_of meaning) native.items else false) same)
      ∙ sym (sound.allows native (ap (λ b. b || false) same)) ∙ may)
  allowed_full false native same may old is = absurd (none-some old is)

  kind_case : (old : Option Saved) (there : Value Native) → IsValue allowed there
      → own_value meaning.name (Some there) ≡ Some old → IsFullOrNone meaning old
  kind_case old (value.Native native) may is =
      allowed_full (bytes_eq native.name meaning.name) native refl may old is
  kind_case old (value.Str text) may is = absurd (none-some old is)
  kind_case old (value.List items) may is = absurd (none-some old is)
  kind_case old (value.Hash fields) may is = absurd (none-some old is)

  own_case : (key : Bytes) (old : Option Saved) (there : Option (Entry Native))
      → entry_at seen.keys key ≡ there
      → own_value meaning.name (option_map (λ entry. entry.value) there) ≡ Some old
      → IsFullOrNone meaning old
  own_case key old None at is = subst (IsFullOrNone meaning) (same_Some None old is) tt
  own_case key old (Some entry) at is =
      kind_case old entry.value (sound.keys key entry at).1.0 is

  -- a value of the module that a key has is full
  pub own_full : (key : Bytes) (old : Option Saved)
      → own_value meaning.name (value_at seen.keys key) ≡ Some old → IsFullOrNone meaning old
  own_full key old is = own_case key old (entry_at seen.keys key) refl is

  -- A key is left with what the effect makes of what it had, where that has an answer.
  pub change_done : (name key : Bytes) (more : Words) (old made : Option Saved)
      → (notes : List Note) (reply : Reply) → IsWithinLimits (name ∷ key ∷ more)
      → replayed seen.builtins (meaning ∷ []) seen.keys (record { words = name ∷ key ∷ more })
      ≡ replayed_on meaning seen.keys (name ∷ key ∷ more) key
      → own_value meaning.name (value_at seen.keys key) ≡ Some old
      → meaning.after old (name ∷ key ∷ more) ≡ Some made → IsFullOrNone meaning made
      → IsDone (meaning ∷ []) allowed seen (changes meaning.name seen
      (record { made = made; effect = name ∷ key ∷ more; notes = notes }) reply)
  unfolding word
  change_done name key more old made notes reply limits own was after full = record {
    replayed = ap (option_and_then (λ left. Some left)) (own
        ∙ ap (option_and_then (λ o. option_and_then
        (λ items. Some (with_after meaning.name key seen.keys items))
        (meaning.after o (name ∷ key ∷ more)))) was
        ∙ ap (option_and_then (λ items. Some (with_after meaning.name key seen.keys items))) after);
    small = (limits, tt);
    kept = left_kept key made limits.each.1.0 full;
  }
