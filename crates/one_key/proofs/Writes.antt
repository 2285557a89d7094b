-- What a command that writes leaves. Serves clause runs of OneKey::write.
use Rattle.std.proofs.Common.{◌≡◌, ℕ, ◌+◌, Bool, true, false, [], ◌∷◌, ◌++◌, Option, Some, None, Result, Ok, Err, refl, sym, ap, subst, ◌∙◌, append_assoc, arith, if◌then◌else◌}
use Rattle.std.specs.Prelude.{replicate}
use Rattle.std.specs.Option.{option_and_then, option_map, unwrap_or}
use Rattle.std.specs.Result.{IsErrAnd}
use Rattle.std.specs.Str.{bytes_eq}
use Rattle.std.proofs.lemmas.List.{append-nil}
use Rattle.std.proofs.lemmas.Option.{none-some}
use Rattle.core_types.specs.Keys.{Entry, Keys, Native, entry_at, value_at, with_changed, with_entry, with_value}
use Rattle.core_types.specs.Keyspace.{IsString, IsKeyspace}
use Rattle.core_types.specs.Limits.{IsWithinLimits}
use Rattle.core_types.specs.Done.{note_on_key}
use Rattle.core_types.specs.declared.note.NoteClass.TheVariants as class
use Rattle.core_types.specs.declared.outcome.After.{After}
use Rattle.core_types.specs.declared.outcome.After.TheVariants as after
use Rattle.core_types.specs.declared.reply.Reply.{Reply}
use Rattle.core_types.specs.declared.stop.Stop.{Stop}
use Rattle.core_types.specs.declared.stop.Stop.TheVariants as stop
use Rattle.core_types.specs.declared.value.Value.{Value}
use Rattle.core_types.specs.declared.value.Value.TheVariants as value
use Rattle.sequences.specs.Words.{word}
use Rattle.module_laws.specs.Laws.{IsFullOrNone, IsSound}
use Rattle.module_laws.specs.Meaning.{Did, type_of}
use Rattle.module_laws.specs.Plain.{answers_only, plain_state}
use Rattle.module_laws.specs.Replay.{own_value, with_after}
use Rattle.module_laws.specs.Runs.{IsCounted, Runs, scene}
use Rattle.module_laws.specs.Told.{Told, is_typed, with_effect, with_keys, with_note, with_put, with_set}
use Rattle.module_laws.specs.Types.{NativeType, is_full}
use Rattle.module_laws.specs.Words.{Bytes, Words, Saved}
use Rattle.module_laws.specs.declared.verdict.Verdict.{Verdict}
use Rattle.module_laws.specs.declared.verdict.Verdict.TheVariants as verdict
use Rattle.one_key.specs.KeyMeaning.{KeyChange, KeyMeaning}
use Rattle.one_key.specs.Lawful.{IsKeyLawful, IsLawfulChange, IsLawfulWhere, IsRemadeBy}
use Rattle.one_key.specs.MeaningOf.{gone_notes, meaning_of, replies_and, serves, serves_on}
use Rattle.one_key.specs.OwnWords.{is_write}
use Rattle.one_key.specs.declared.wrote.Change.{Change}
use Rattle.one_key.specs.declared.wrote.Wrote.{Wrote}
use Rattle.one_key.specs.inner.KeyLawful.{change_lawful, left_kept, own_full}
use Rattle.one_key.specs.inner.Shown.{shown}
use Rattle.one_key.specs.inner.Steps.{CanPlace, ChangedAt, ChangedWhere, Left, Placed, Places, WroteAt, count_in, is_gone, read_reply, with_change, with_gone}

undated : (found : Option (Entry Native)) → option_map (λ entry. entry.value) found ≡ None
    → option_and_then (λ entry. entry.deadline) found ≡ None
undated None none = refl
undated (Some entry) none = absurd (none-some entry.value (sym none))

typed_case : (b : Bool) (keys : Keys) (key : Bytes) (set : Native) (items : Saved)
    → (was : Option Saved) → (if b then Some (Some items) else None) ≡ Some was
    → (if b then with_changed keys key (value.Native set)
    else with_value keys key (value.Native set)) ≡ with_changed keys key (value.Native set)
typed_case true keys key set items was is = refl
typed_case false keys key set items was is = absurd (none-some was is)

set_case : (keys : Keys) (key : Bytes) (set : Native) (was : Option Saved)
    → (there : Option (Value Native)) → value_at keys key ≡ there
    → own_value set.name there ≡ Some was
    → (if is_typed set.name there then with_changed keys key (value.Native set)
    else with_value keys key (value.Native set)) ≡ with_changed keys key (value.Native set)
set_case keys key set was None none is =
    ap (λ deadline. with_entry keys key (record { value = value.Native set; deadline = deadline }))
    (sym (undated (entry_at keys key) none))
set_case keys key set was (Some (value.Native native)) there is =
    typed_case (bytes_eq native.name set.name) keys key set native.items was is
set_case keys key set was (Some (value.Str text)) there is = absurd (none-some was is)
set_case keys key set was (Some (value.List items)) there is = absurd (none-some was is)
set_case keys key set was (Some (value.Hash fields)) there is = absurd (none-some was is)

-- where a key has a value of the module or nothing, one that is set is changed
set_changed : (keys : Keys) (key : Bytes) (set : Native) (was : Option Saved)
    → own_value set.name (value_at keys key) ≡ Some was
    → with_set key set keys ≡ with_changed keys key (value.Native set)
set_changed keys key set was is = set_case keys key set was (value_at keys key) refl is

-- a call that stopped before it did anything
pub stopped : {A : Type 0} (type : NativeType) (did : Did A) (result : Result A Stop) (old new : Told)
    → (m f : ℕ) → new ≡ old → IsErrAnd result (λ why. why ≡ stop.Memory)
    → Runs type did result (scene (plain_state m f) old) (scene (plain_state m f) new)
stopped type did (Ok given) old new m f same is = absurd is
stopped type did (Err why) old new m f same is = record {
  does = tt;
  counted = record {
    count = 0;
    added = ap (λ t. t.added) same ∙ sym (append-nil old.added);
    counted = record { made = omega arith; freed = omega arith; balance = omega arith };
  };
  kept = λ allowed sound. subst (λ t. IsKeyspace allowed t.seen.keys) (sym same) sound.keys;
  spent = λ ends. cc;
}

-- a call that only answers
pub answered : {A : Type 0} (type : NativeType) (did : Did A) (given answer : A) (old new : Told)
    → (m f : ℕ) → new ≡ old → did ≡ answers_only answer old.seen → given ≡ answer
    → Runs type did (Ok given) (scene (plain_state m f) old) (scene (plain_state m f) new)
answered type did given answer old new m f same does is = record {
  does = record {
    answer = is ∙ sym (ap (λ d. d.answer) does);
    private = sym (ap (λ d. d.private) does);
    seen = ap (λ t. t.seen) same ∙ sym (ap (λ d. record old.seen { keys = d.keys }) does);
    effects = ap (λ t. t.effects) same ∙ sym (append-nil old.effects)
        ∙ sym (ap (λ d. old.effects ++ d.effects) does);
    notes = ap (λ t. t.notes) same ∙ sym (append-nil old.notes)
        ∙ sym (ap (λ d. old.notes ++ d.notes) does);
  };
  counted = record {
    count = 0;
    added = ap (λ t. t.added) same ∙ sym (append-nil old.added);
    counted = record { made = omega arith; freed = omega arith; balance = omega arith };
  };
  kept = λ allowed sound. subst (λ t. IsKeyspace allowed t.seen.keys) (sym same) sound.keys;
  spent = λ ends. cc;
}

module _ {V : Type 0} (m : KeyMeaning) (saved : V → Saved) (words : Words) (old mid : Told) where
  abbrev At : Option (Option Saved)
  At = own_value m.name (value_at old.seen.keys (word 1 words))

  -- the key has a value of another kind
  pub record IsOther : Type 0 where
    pub did : serves m [] old.seen words ≡ answers_only (verdict.Say (m.others words)) old.seen
    pub same : mid ≡ old

  other_case : (at : Option (Option Saved)) → At ≡ at
      → WroteAt m saved (word 1 words) words None at old mid → IsOther
  other_case None is wrote = record { did = ap (serves_on m [] old.seen words) is; same = wrote }
  other_case (Some was) is wrote = absurd wrote

  pub is_other : WroteAt m saved (word 1 words) words None At old mid → IsOther
  is_other wrote = other_case At refl wrote

  -- its body ran, on this value or none
  pub record IsRun (reply : Reply) (change : Option (Change V)) : Type 0 where
    pub was : Option Saved
    pub found : At ≡ Some was
    pub did : serves m [] old.seen words
        ≡ replies_and m [] old.seen words reply (m.writes was words).change
    pub changed : ChangedWhere m saved (word 1 words) change (m.writes was words).change was old mid

  run_case : is_write m.rows words ≡ true → (wrote : Wrote V) (at : Option (Option Saved)) → At ≡ at
      → WroteAt m saved (word 1 words) words (Some wrote) at old mid
      → IsRun wrote.reply wrote.change
  run_case by wrote None is on = absurd on
  run_case by wrote (Some was) is on = record {
    was = was;
    found = is;
    did = ap (serves_on m [] old.seen words) is
        ∙ ap (λ b. if b then replies_and m [] old.seen words (m.writes was words).reply (m.writes was words).change
        else answers_only (verdict.Say (m.reads was words)) old.seen) by
        ∙ ap (λ r. replies_and m [] old.seen words r (m.writes was words).change) (sym on.reply);
    changed = on.change;
  }

  pub is_run : is_write m.rows words ≡ true → (wrote : Wrote V)
      → WroteAt m saved (word 1 words) words (Some wrote) At old mid
      → IsRun wrote.reply wrote.change
  is_run by wrote on = run_case by wrote At refl on

  -- how its key changed
  pub record IsChange (reply : Reply) (change : Change V) : Type 0 where
    pub was : Option Saved
    pub found : At ≡ Some was
    pub meant : KeyChange
    pub did : serves m [] old.seen words ≡ replies_and m [] old.seen words reply (Some meant)
    pub changed : ChangedAt m saved (word 1 words) change meant was old mid
    pub is : (m.writes was words).change ≡ Some meant

  change_case : (reply : Reply) (change : Change V) (was : Option Saved) (meant : Option KeyChange)
      → At ≡ Some was
      → serves m [] old.seen words ≡ replies_and m [] old.seen words reply meant
      → ChangedWhere m saved (word 1 words) (Some change) meant was old mid
      → (m.writes was words).change ≡ meant → IsChange reply change
  change_case reply change was None found did changed is = absurd changed
  change_case reply change was (Some meant) found did changed is =
      record { was = was; found = found; meant = meant; did = did; changed = changed; is = is }

  pub is_change : (reply : Reply) (change : Change V) → IsRun reply (Some change)
      → IsChange reply change
  is_change reply change run =
      change_case reply change run.was (m.writes run.was words).change run.found run.did run.changed refl

  pub is_change_at : is_write m.rows words ≡ true → (given : Option (Wrote V)) (wrote : Wrote V)
      → (change : Change V) → given ≡ Some wrote → wrote.change ≡ Some change
      → WroteAt m saved (word 1 words) words given At old mid → IsChange wrote.reply change
  is_change_at by given wrote change is changed on =
      is_change wrote.reply change (subst (IsRun wrote.reply) changed
      (is_run by wrote (subst (λ w. WroteAt m saved (word 1 words) words w At old mid) is on)))

  none_case : (reply : Reply) (meant : Option KeyChange) (was : Option Saved)
      → serves m [] old.seen words ≡ replies_and m [] old.seen words reply meant
      → ChangedWhere m saved (word 1 words) None meant was old mid
      → (serves m [] old.seen words ≡ answers_only (verdict.Say reply) old.seen) × (mid ≡ old)
  none_case reply None was did is = (did, is)
  none_case reply (Some meant) was did is = absurd is

  -- where nothing changed
  pub same_run : (reply : Reply) → IsRun reply None
      → (serves m [] old.seen words ≡ answers_only (verdict.Say reply) old.seen) × (mid ≡ old)
  same_run reply run = none_case reply (m.writes run.was words).change run.was run.did run.changed

-- what placing a change leaves of what was told before the command
pub record IsPlaced (m : KeyMeaning) (words : Words) (left : Option Saved) (count : ℕ)
    (old placed : Told) : Type 0 where
  pub seen : placed.seen
      ≡ record old.seen { keys = with_after m.name (word 1 words) old.seen.keys left }
  pub effects : placed.effects ≡ old.effects
  pub notes : placed.notes ≡ old.notes
  pub added : placed.added ≡ old.added ++ replicate count m.name

-- what a body left before that
pub record IsBefore (m : KeyMeaning) (words : Words) (left : Option Saved) (old mid : Told)
    : Type 0 where
  pub kept : (allowed : Native → Bool) → IsSound (type_of (meaning_of m) ∷ []) allowed old.seen
      → IsFullOrNone (meaning_of m) left → IsString (word 1 words)
      → IsKeyspace allowed mid.seen.keys
  pub added : mid.added ≡ old.added

module _ {V : Type 0} (m : KeyMeaning) (saved : V → Saved) (words : Words) where
  -- a value that is put is one that a key may have
  pub can_place : (left : After V) (was meant : Option Saved) (old mid : Told)
      → (IsFullOrNone (meaning_of m) was → IsFullOrNone (meaning_of m) meant)
      → Left m saved (word 1 words) left was meant old mid → CanPlace m saved left
  can_place after.Keep was meant old mid full is = tt
  can_place after.Remove was meant old mid full is = tt
  can_place (after.Put v) None (Some items) old mid full is =
      subst (λ i. is_full (type_of (meaning_of m)) i ≡ true) (sym is.1) (full tt)
  can_place (after.Put v) None None old mid full is = absurd is
  can_place (after.Put v) (Some was) meant old mid full is = absurd is

  pub is_before : (left : After V) (was meant : Option Saved) (old mid : Told)
      → Left m saved (word 1 words) left was meant old mid → IsBefore m words meant old mid
  is_before after.Keep (Some was) (Some items) old mid is = record {
    kept = λ allowed sound full short. subst (λ t. IsKeyspace allowed t.seen.keys) (sym is)
        (left_kept (meaning_of m) allowed old.seen sound (word 1 words) (Some items) short full);
    added = ap (λ t. t.added) is;
  }
  is_before after.Keep (Some was) None old mid is = absurd is
  is_before after.Keep None meant old mid is = absurd is
  is_before (after.Put v) None (Some items) old mid is = record {
    kept = λ allowed sound full short.
        subst (λ t. IsKeyspace allowed t.seen.keys) (sym is.0) sound.keys;
    added = ap (λ t. t.added) is.0;
  }
  is_before (after.Put v) None None old mid is = absurd is
  is_before (after.Put v) (Some was) meant old mid is = absurd is
  is_before after.Remove was None old mid is = record {
    kept = λ allowed sound full short.
        subst (λ t. IsKeyspace allowed t.seen.keys) (sym is) sound.keys;
    added = ap (λ t. t.added) is;
  }
  is_before after.Remove was (Some items) old mid is = absurd is

  pub is_placed : (left : After V) (was meant : Option Saved) (old mid placed : Told)
      → own_value m.name (value_at old.seen.keys (word 1 words)) ≡ Some was
      → Left m saved (word 1 words) left was meant old mid
      → Placed m saved (word 1 words) left mid placed
      → IsPlaced m words meant (count_in left) old placed
  is_placed after.Keep (Some was) (Some items) old mid placed found is put = record {
    seen = ap (λ t. t.seen) (put ∙ is);
    effects = ap (λ t. t.effects) (put ∙ is);
    notes = ap (λ t. t.notes) (put ∙ is);
    added = ap (λ t. t.added) (put ∙ is) ∙ sym (append-nil old.added);
  }
  is_placed after.Keep (Some was) None old mid placed found is put = absurd is
  is_placed after.Keep None meant old mid placed found is put = absurd is
  is_placed (after.Put v) None (Some items) old mid placed found is put =
      let same : placed ≡ with_put (word 1 words) (shown m items) placed.has_serial old =
      put ∙ ap (λ t. with_put (word 1 words) (shown m (saved v)) placed.has_serial t) is.0
      ∙ ap (λ i. with_put (word 1 words) (shown m i) placed.has_serial old) is.1 in
      record {
        seen = ap (λ t. t.seen) same
            ∙ ap (λ k. record old.seen { keys = k })
            (set_changed old.seen.keys (word 1 words) (shown m items) None found);
        effects = ap (λ t. t.effects) same;
        notes = ap (λ t. t.notes) same;
        added = ap (λ t. t.added) same;
      }
  is_placed (after.Put v) None None old mid placed found is put = absurd is
  is_placed (after.Put v) (Some was) meant old mid placed found is put = absurd is
  is_placed after.Remove was None old mid placed found is put =
      let same : placed ≡ with_keys (with_after m.name (word 1 words) old.seen.keys None) old =
      put ∙ ap (λ (t : Told). with_keys (with_after m.name (word 1 words) t.seen.keys None) t) is in
      record {
        seen = ap (λ t. t.seen) same;
        effects = ap (λ t. t.effects) same;
        notes = ap (λ t. t.notes) same;
        added = ap (λ t. t.added) same ∙ sym (append-nil old.added);
      }
  is_placed after.Remove was (Some items) old mid placed found is put = absurd is

  -- the notes of a change
  pub notes_are : (left : After V) (was meant : Option Saved) (effect : Option Words) (event : Bytes)
      → (old mid placed : Told) → Left m saved (word 1 words) left was meant old mid
      → (with_gone words (is_gone left) placed).notes ≡ placed.notes ++ gone_notes words meant
  notes_are after.Keep (Some was) (Some items) effect event old mid placed is = sym (append-nil placed.notes)
  notes_are after.Keep (Some was) None effect event old mid placed is = absurd is
  notes_are after.Keep None meant effect event old mid placed is = absurd is
  notes_are (after.Put v) None (Some items) effect event old mid placed is = sym (append-nil placed.notes)
  notes_are (after.Put v) None None effect event old mid placed is = absurd is
  notes_are (after.Put v) (Some was) meant effect event old mid placed is = absurd is
  notes_are after.Remove was None effect event old mid placed is = refl
  notes_are after.Remove was (Some items) effect event old mid placed is = absurd is

-- why placing stopped
abbrev err_unit : Stop → Result (Unit {0}) Stop
err_unit why = Err why

abbrev err_verdict : Stop → Result Verdict Stop
err_verdict why = Err why

spent_case : (why : Stop) → err_verdict why ≡ Err stop.NumbersSpent → err_unit why ≡ Err stop.NumbersSpent
spent_case stop.Memory ends = cc
spent_case stop.NumbersSpent ends = refl

gone_notes_only : (words : Words) (gone : Bool) (told : Told)
    → with_gone words gone told ≡ record told { notes = (with_gone words gone told).notes }
gone_notes_only words true told = refl
gone_notes_only words false told = refl

-- an effect is words that a request may have
pub effect_small : (m : KeyMeaning) (was : Option Saved) (key : Bytes) (left : Option Saved)
    → (words : Words) (effect : Option Words) → IsWithinLimits words
    → IsRemadeBy m was key left effect → IsWithinLimits (unwrap_or effect words)
effect_small m was key left words None limits remade = limits
effect_small m was key left words (Some effect) limits remade = remade.limits

module _ {V : Type 0} (m : KeyMeaning) (laws : IsKeyLawful m) (saved : V → Saved) (words : Words)
    (by : is_write m.rows words ≡ true) (limits : IsWithinLimits words) (old mid : Told)
    (reply : Reply) (change : Change V) (ran : IsChange m saved words old mid reply change) where
  pub lawful_change : IsLawfulChange m ran.was (word 1 words) ran.meant
  lawful_change =
      subst (IsLawfulWhere m ran.was (word 1 words)) ran.is (change_lawful m laws words by limits ran.was)

  pub may_place : CanPlace m saved change.after
  may_place =
      can_place m saved words change.after ran.was ran.meant.left old mid lawful_change.full
      ran.changed.left

  pub small_effect : IsWithinLimits (unwrap_or (option_map (λ e. e.words) change.effect) words)
  small_effect =
      subst (λ e. IsWithinLimits (unwrap_or e words)) (sym ran.changed.effect)
      (effect_small m ran.was (word 1 words) ran.meant.left words ran.meant.effect limits
      lawful_change.remade)

  full_left : (allowed : Native → Bool) → IsSound (type_of (meaning_of m) ∷ []) allowed old.seen
      → IsFullOrNone (meaning_of m) ran.meant.left
  full_left allowed sound =
      lawful_change.full (own_full (meaning_of m) allowed old.seen sound (word 1 words) ran.was ran.found)

  -- placing it stopped
  pub place_stopped : (why : Stop) (result : Result Verdict Stop) (new : Told) (b f b' f' : ℕ)
      → Places m saved (word 1 words) change.after (Err why) (scene (plain_state b f) mid)
      (scene (plain_state b' f') new)
      → IsErrAnd result (λ w. w ≡ why) → IsString (word 1 words)
      → Runs (type_of (meaning_of m)) (serves m [] old.seen words) result
      (scene (plain_state b f) old) (scene (plain_state b' f') new)
  place_stopped why (Ok given) new b f b' f' places is short = absurd is
  place_stopped why (Err stop) new b f b' f' places is short =
      let before = is_before m saved words change.after ran.was ran.meant.left old mid ran.changed.left in
      record {
        does = tt;
        counted = record {
          count = 0;
          added = ap (λ t. t.added) places.kept ∙ before.added ∙ sym (append-nil old.added);
          counted = places.counted;
        };
        kept = λ allowed sound. subst (λ t. IsKeyspace allowed t.seen.keys) (sym places.kept)
            (before.kept allowed sound (full_left allowed sound) short);
        spent = λ ends. places.spent (ap err_unit (sym is) ∙ spent_case stop ends);
      }

  -- it was placed
  pub placed : (placed : Told) (b f b' f' : ℕ)
      → Places m saved (word 1 words) change.after (Ok tt) (scene (plain_state b f) mid)
      (scene (plain_state b' f') placed)
      → IsPlaced m words ran.meant.left (count_in change.after) old placed
  placed told b f b' f' places =
      is_placed m saved words change.after ran.was ran.meant.left old mid told ran.found ran.changed.left
      places.placed

  counted_by : (told : Told) (b f b' f' : ℕ)
      → Places m saved (word 1 words) change.after (Ok tt) (scene (plain_state b f) mid)
      (scene (plain_state b' f') told)
      → IsCounted (count_in change.after) 0 (plain_state b f) (plain_state b' f')
  counted_by told b f b' f' places =
      let made : b' ≡ b + count_in change.after = ap (λ s. s.made) places.made in
      let freed : f' ≡ f = ap (λ s. s.freed) places.made in
      record { made = omega (arith, made); freed = omega (arith, freed); balance = omega (arith, made, freed) }

  -- telling it stopped
  pub tell_stopped : (result : Result Verdict Stop) (told new : Told) (b f b' f' : ℕ)
      → Places m saved (word 1 words) change.after (Ok tt) (scene (plain_state b f) mid)
      (scene (plain_state b' f') told)
      → new.seen ≡ told.seen → new.added ≡ told.added
      → IsErrAnd result (λ w. w ≡ stop.Memory) → IsString (word 1 words)
      → Runs (type_of (meaning_of m)) (serves m [] old.seen words) result
      (scene (plain_state b f) old) (scene (plain_state b' f') new)
  tell_stopped (Ok given) told new b f b' f' places seen added is short = absurd is
  tell_stopped (Err why) told new b f b' f' places seen added is short =
      let put = placed told b f b' f' places in
      record {
        does = tt;
        counted = record {
          count = count_in change.after;
          added = added ∙ put.added;
          counted = counted_by told b f b' f' places;
        };
        kept = λ allowed sound. subst (λ s. IsKeyspace allowed s.keys) (sym (seen ∙ put.seen))
            (left_kept (meaning_of m) allowed old.seen sound (word 1 words) ran.meant.left short
            (full_left allowed sound));
        spent = λ ends. cc;
      }

  -- it was placed and told
  pub all_done : (told new : Told) (b f b' f' : ℕ)
      → Places m saved (word 1 words) change.after (Ok tt) (scene (plain_state b f) mid)
      (scene (plain_state b' f') told)
      → new ≡ with_change words (unwrap_or (option_map (λ e. e.words) change.effect) words)
      change.event.now (is_gone change.after) told
      → IsString (word 1 words)
      → Runs (type_of (meaning_of m)) (serves m [] old.seen words) (Ok (verdict.Say reply))
      (scene (plain_state b f) old) (scene (plain_state b' f') new)
  all_done told new b f b' f' places is short =
      let put = placed told b f b' f' places in
      let noted = with_note (note_on_key class.Module change.event.now words) told in
      let gone = is_gone change.after in
      let as_told : with_gone words gone noted ≡ record noted { notes = (with_gone words gone noted).notes } =
      gone_notes_only words gone noted in
      let same : new ≡ record told {
        notes = (with_gone words gone noted).notes;
        effects = told.effects ++ record { words = unwrap_or (option_map (λ e. e.words) change.effect) words } ∷ [];
      } = is ∙ ap (with_effect (record { words = unwrap_or (option_map (λ e. e.words) change.effect) words })) as_told in
      let seen : new.seen ≡ told.seen = ap (λ t. t.seen) same in
      rw ran.did
      (record {
        does = record {
          answer = refl;
          private = refl;
          seen = seen ∙ put.seen;
          effects = ap (λ t. t.effects) same
              ∙ ap (λ es. es ++ record { words = unwrap_or (option_map (λ e. e.words) change.effect) words } ∷ []) put.effects
              ∙ ap (λ e. old.effects ++ record { words = unwrap_or e words } ∷ []) ran.changed.effect;
          notes = ap (λ t. t.notes) same
              ∙ notes_are m saved words change.after ran.was ran.meant.left None [] old mid noted ran.changed.left
              ∙ ap (λ ns. (ns ++ note_on_key class.Module change.event.now words ∷ []) ++ gone_notes words ran.meant.left) put.notes
              ∙ append_assoc old.notes _ _
              ∙ ap (λ e. old.notes ++ note_on_key class.Module e words ∷ gone_notes words ran.meant.left) ran.changed.event;
        };
        counted = record {
          count = count_in change.after;
          added = ap (λ t. t.added) same ∙ put.added;
          counted = counted_by told b f b' f' places;
        };
        kept = λ allowed sound. subst (λ s. IsKeyspace allowed s.keys) (sym (seen ∙ put.seen))
            (left_kept (meaning_of m) allowed old.seen sound (word 1 words) ran.meant.left short
            (full_left allowed sound));
        spent = λ ends. cc;
      })

reads_case : (m : KeyMeaning) (old : Told) (words : Words) (at : Option (Option Saved))
    → is_write m.rows words ≡ false
    → serves_on m [] old.seen words at
    ≡ answers_only (verdict.Say (read_reply m words at)) old.seen
reads_case m old words None by = refl
reads_case m old words (Some was) by =
    ap (λ b. if b then replies_and m [] old.seen words (m.writes was words).reply (m.writes was words).change
    else answers_only (verdict.Say (m.reads was words)) old.seen) by

-- a command that reads
pub reads_only : (m : KeyMeaning) (old : Told) (words : Words) → is_write m.rows words ≡ false
    → serves m [] old.seen words ≡ answers_only (verdict.Say (read_reply m words
    (own_value m.name (value_at old.seen.keys (word 1 words))))) old.seen
reads_only m old words by =
    reads_case m old words (own_value m.name (value_at old.seen.keys (word 1 words))) by
