-- What the calls of a module leave. Serves the clauses of the calls of HelloType and WordCount.
use Rattle.std.proofs.Common.{◌≡◌, ℕ, ◌+◌, Bool, true, false, [], ◌∷◌, ◌++◌, Option, Some, None, Result, Ok, Err, refl, sym, ap, subst, inr, ◌∙◌, arith, if◌then◌else◌}
use Rattle.std.specs.Option.{option_and_then, option_map}
use Rattle.std.specs.Result.{IsErrAnd}
use Rattle.std.specs.Str.{bytes_eq}
use Rattle.std.proofs.lemmas.List.{append-nil}
use Rattle.std.proofs.lemmas.Option.{none-some}
use Rattle.sequences.specs.Words.{word}
use Rattle.core_types.specs.Keys.{Entry, Keys, Native, entry_at, value_at, with_changed, with_entry, with_value}
use Rattle.core_types.specs.Keyspace.{IsString, IsKeyspace}
use Rattle.core_types.specs.declared.note.Note.{Note}
use Rattle.core_types.specs.declared.reply.Reply.{Reply}
use Rattle.core_types.specs.declared.stop.Stop.{Stop}
use Rattle.core_types.specs.declared.stop.Stop.TheVariants as stop
use Rattle.core_types.specs.declared.value.Value.{Value}
use Rattle.core_types.specs.declared.value.Value.TheVariants as value
use Rattle.module_laws.specs.Laws.{IsFullOrNone, IsSound}
use Rattle.core_types.specs.Limits.{IsWithinLimits}
use Rattle.module_laws.specs.Meaning.{Did, Meaning, type_of}
use Rattle.module_laws.specs.Replay.{own_value, with_after}
use Rattle.module_laws.specs.Runs.{Runs, Scene, State, scene}
use Rattle.module_laws.specs.Told.{Told, is_typed, with_effect, with_keys, with_note, with_put, with_set}
use Rattle.module_laws.specs.Types.{NativeType}
use Rattle.module_laws.specs.Words.{Bytes, Words, Saved}
use Rattle.module_laws.specs.declared.verdict.Verdict.{Verdict}
use Rattle.module_laws.specs.declared.verdict.Verdict.TheVariants as verdict
use Rattle.module_laws.specs.Plain.{answers_only, plain_state}
use Rattle.mod_samples.specs.Changes.{Change, changes, leaves, with_notes}
use Rattle.mod_samples.specs.inner.Changing.{left_kept}

-- the second word is within the limits
pub key_short : (words : Words) → IsWithinLimits words → IsString (word 1 words)
unfolding word
key_short [] limits = absurd (omega (arith, limits.some))
key_short (name ∷ []) limits = omega arith
key_short (name ∷ key ∷ words) limits = limits.each.1.0

undated : (found : Option (Entry Native)) → option_map (λ entry. entry.value) found ≡ None
    → option_and_then (λ entry. entry.deadline) found ≡ None
undated None none = refl
undated (Some entry) none = absurd (none-some entry.value (sym none))

typed_case : (b : Bool) (keys : Keys) (key : Bytes) (set : Native) (items : Saved)
    → (was : Option Saved) → (if b then Some (Some items) else None) ≡ Some was
    → (if b then with_changed keys key (value.Native set)
    else with_value keys key (value.Native set)) ≡ with_changed keys key (value.Native set)
typed_case true keys key set items was is = refl
typed_case false keys key set items was is = absurd (none-some was is)

set_case : (keys : Keys) (key : Bytes) (set : Native) (was : Option Saved)
    → (there : Option (Value Native)) → value_at keys key ≡ there
    → own_value set.name there ≡ Some was
    → (if is_typed set.name there then with_changed keys key (value.Native set)
    else with_value keys key (value.Native set)) ≡ with_changed keys key (value.Native set)
set_case keys key set was None none is =
    ap (λ deadline. with_entry keys key (record { value = value.Native set; deadline = deadline }))
    (sym (undated (entry_at keys key) none))
set_case keys key set was (Some (value.Native native)) there is =
    typed_case (bytes_eq native.name set.name) keys key set native.items was is
set_case keys key set was (Some (value.Str text)) there is = absurd (none-some was is)
set_case keys key set was (Some (value.List items)) there is = absurd (none-some was is)
set_case keys key set was (Some (value.Hash fields)) there is = absurd (none-some was is)

-- where a key has a value of the module or nothing, one that is set is changed
set_changed : (keys : Keys) (key : Bytes) (set : Native) (was : Option Saved)
    → own_value set.name (value_at keys key) ≡ Some was
    → with_set key set keys ≡ with_changed keys key (value.Native set)
set_changed keys key set was is = set_case keys key set was (value_at keys key) refl is

module _ (meaning : Meaning) (itself : bytes_eq meaning.name meaning.name ≡ true) where
  -- the key was left so, and no value came
  pub stores : (key : Bytes) (made : Option Saved) (old new : Told) (m f : ℕ) → IsString key
      → ((allowed : Native → Bool) → IsSound (type_of meaning ∷ []) allowed old.seen
      → IsFullOrNone meaning made)
      → new ≡ with_keys (with_after meaning.name key old.seen.keys made) old
      → Runs (type_of meaning) (leaves meaning.name old.seen key made) (Ok tt)
      (scene (plain_state m f) old) (scene (plain_state m f) new)
  stores key made old new m f short full is = record {
    does = record {
      answer = refl;
      private = refl;
      seen = ap (λ t. t.seen) is;
      effects = ap (λ t. t.effects) is ∙ sym (append-nil old.effects);
      notes = ap (λ t. t.notes) is ∙ sym (append-nil old.notes);
    };
    counted = record {
      count = 0;
      added = ap (λ t. t.added) is ∙ sym (append-nil old.added);
      counted = record { made = omega arith; freed = omega arith; balance = omega arith };
    };
    kept = λ allowed sound. subst (λ t. IsKeyspace allowed t.seen.keys) (sym is)
        (left_kept meaning itself allowed old.seen sound key made short (full allowed sound));
    spent = λ ends. cc;
  }

  -- a value was made and put in
  pub puts : (key : Bytes) (items : Saved) (was : Option Saved) (old new : Told) (m m' f f' : ℕ)
      → IsString key → IsFullOrNone meaning (Some items)
      → own_value meaning.name (value_at old.seen.keys key) ≡ Some was
      → new ≡ with_put key (record { name = meaning.name; items = items }) new.has_serial old
      → m' ≡ m + 1 → f' ≡ f
      → Runs (type_of meaning) (leaves meaning.name old.seen key (Some items)) (Ok tt)
      (scene (plain_state m f) old) (scene (plain_state m' f') new)
  puts key items was old new m m' f f' short full there is more same =
      let set : Native = record { name = meaning.name; items = items } in
      let changed = set_changed old.seen.keys key set was there in
      let keys : new.seen.keys ≡ with_changed old.seen.keys key (value.Native set) =
      ap (λ t. t.seen.keys) is ∙ changed in
      record {
        does = record {
          answer = refl;
          private = refl;
          seen = ap (λ t. t.seen) is ∙ ap (λ k. record old.seen { keys = k }) changed;
          effects = ap (λ t. t.effects) is ∙ sym (append-nil old.effects);
          notes = ap (λ t. t.notes) is ∙ sym (append-nil old.notes);
        };
        counted = record {
          count = 1;
          added = ap (λ t. t.added) is;
          counted = record { made = omega arith; freed = omega arith; balance = omega arith };
        };
        kept = λ allowed sound. subst (IsKeyspace allowed) (sym keys)
            (left_kept meaning itself allowed old.seen sound key (Some items) short full);
        spent = λ ends. cc;
      }

-- a value was made that the context did not take, and was freed
pub refused : {A : Type 0} (type : NativeType) (did : Did A) (why : Stop) (old new : Told)
    → (m m' f f' : ℕ) → new ≡ old → m' ≡ m + 1 → f' ≡ f + 1
    → (why ≡ stop.NumbersSpent → old.has_serial ≡ false)
    → Runs type did (Err why) (scene (plain_state m f) old) (scene (plain_state m' f') new)
refused type did why old new m m' f f' same more ended spent = record {
  does = tt;
  counted = record {
    count = 0;
    added = ap (λ t. t.added) same ∙ sym (append-nil old.added);
    counted = record { made = omega arith; freed = omega arith; balance = omega arith };
  };
  kept = λ allowed sound. subst (λ t. IsKeyspace allowed t.seen.keys) (sym same) sound.keys;
  spent = λ ends. let is : why ≡ stop.NumbersSpent = cc in inr (ap (λ t. t.has_serial) same ∙ spent is);
}

-- where a call did its part and the next then stops for want of memory, what was left stays
pub stops : {A B : Type 0} (type : NativeType) (first : Did A) (did : Did B) (answer : A)
    (result : Result B Stop) (old : Scene) (state : State) (told new : Told)
    → Runs type first (Ok answer) old (scene state told) → new.seen ≡ told.seen
    → new.added ≡ told.added → IsErrAnd result (λ why. why ≡ stop.Memory)
    → Runs type did result old (scene state new)
stops type first did answer (Ok given) old state told new runs seen added is = absurd is
stops type first did answer (Err why) old state told new runs seen added is = record {
  does = tt;
  counted = record {
    count = runs.counted.count;
    added = added ∙ runs.counted.added;
    counted = runs.counted.counted;
  };
  kept = λ allowed sound. subst (λ s. IsKeyspace allowed s.keys) (sym seen) (runs.kept allowed sound);
  spent = λ ends. cc;
}

-- a key was left so, and its change was then told by a note and an effect
pub tells : (type : NativeType) (name : Bytes) (change : Change) (note : Note) (said : Reply)
    → (given : Verdict) (old told new : Told) (before after : State)
    → change.notes ≡ note ∷ [] → given ≡ verdict.Say said
    → Runs type (leaves name old.seen (word 1 change.effect) change.made) (Ok tt)
    (scene before old) (scene after told)
    → new ≡ with_effect (record { words = change.effect }) (with_note note told)
    → Runs type (changes name old.seen change said) (Ok given) (scene before old)
    (scene after new)
tells type name change note said given old told new before after noted says runs is = record {
  does = record {
    answer = says;
    private = runs.does.private;
    seen = ap (λ t. t.seen) is ∙ runs.does.seen;
    effects = ap (λ t. t.effects) is
        ∙ ap (λ es. es ++ record { words = change.effect } ∷ []) (runs.does.effects ∙ append-nil _);
    notes = ap (λ t. t.notes) is
        ∙ ap (λ ns. ns ++ note ∷ []) (runs.does.notes ∙ append-nil _)
        ∙ ap (λ ns. old.notes ++ ns) (sym noted);
  };
  counted = record {
    count = runs.counted.count;
    added = ap (λ t. t.added) is ∙ runs.counted.added;
    counted = runs.counted.counted;
  };
  kept = λ allowed sound. subst (λ t. IsKeyspace allowed t.seen.keys) (sym is)
      (runs.kept allowed sound);
  spent = λ ends. cc;
}

-- a key was left so, and its change was then told by notes and an effect
pub tells_all : (type : NativeType) (name : Bytes) (change : Change) (said : Reply)
    → (given : Verdict) (old told new : Told) (before after : State) → given ≡ verdict.Say said
    → Runs type (leaves name old.seen (word 1 change.effect) change.made) (Ok tt)
    (scene before old) (scene after told)
    → new ≡ with_effect (record { words = change.effect }) (with_notes change.notes told)
    → Runs type (changes name old.seen change said) (Ok given) (scene before old)
    (scene after new)
tells_all type name change said given old told new before after says runs is = record {
  does = record {
    answer = says;
    private = runs.does.private;
    seen = ap (λ t. t.seen) is ∙ runs.does.seen;
    effects = ap (λ t. t.effects) is
        ∙ ap (λ es. es ++ record { words = change.effect } ∷ []) (runs.does.effects ∙ append-nil _);
    notes = ap (λ t. t.notes) is ∙ ap (λ ns. ns ++ change.notes) (runs.does.notes ∙ append-nil _);
  };
  counted = record {
    count = runs.counted.count;
    added = ap (λ t. t.added) is ∙ runs.counted.added;
    counted = runs.counted.counted;
  };
  kept = λ allowed sound. subst (λ t. IsKeyspace allowed t.seen.keys) (sym is)
      (runs.kept allowed sound);
  spent = λ ends. cc;
}

-- a call that only answers
pub answers : {A : Type 0} (type : NativeType) (did : Did A) (given answer : A) (told : Told)
    → (m f : ℕ) → did ≡ answers_only answer told.seen → given ≡ answer
    → Runs type did (Ok given) (scene (plain_state m f) told) (scene (plain_state m f) told)
answers type did given answer told m f does is = record {
  does = record {
    answer = is ∙ sym (ap (λ d. d.answer) does);
    private = sym (ap (λ d. d.private) does);
    seen = sym (ap (λ d. record told.seen { keys = d.keys }) does);
    effects = sym (append-nil told.effects) ∙ sym (ap (λ d. told.effects ++ d.effects) does);
    notes = sym (append-nil told.notes) ∙ sym (ap (λ d. told.notes ++ d.notes) does);
  };
  counted = record {
    count = 0;
    added = sym (append-nil told.added);
    counted = record { made = omega arith; freed = omega arith; balance = omega arith };
  };
  kept = λ allowed sound. sound.keys;
  spent = λ ends. cc;
}
