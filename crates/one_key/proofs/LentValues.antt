-- What the bodies of commands leave. Serves the clauses of running::write_at.
use Rattle.std.proofs.Common.{◌≡◌, Option, Some, None, Result, Ok, Err, OnErr, refl, ap, ◌∙◌, if◌then◌else◌}
use Rattle.std.specs.Cmp.Lexicographic.{bytes_decides}
use Rattle.std.proofs.lemmas.Option.{same_Some}
use Rattle.core_types.specs.Keys.{Keys, value_at}
use Rattle.core_types.specs.declared.outcome.After.{After}
use Rattle.core_types.specs.declared.outcome.After.TheVariants as after
use Rattle.core_types.specs.declared.value.Value.TheVariants as value
use Rattle.module_laws.specs.Lending.{lent_unchanged}
use Rattle.module_laws.specs.Replay.{own_value}
use Rattle.module_laws.specs.Told.{Told, with_native}
use Rattle.module_laws.specs.Words.{Bytes, Words, Saved}
use Rattle.one_key.specs.KeyMeaning.{KeyChange, KeyMeaning}
use Rattle.one_key.specs.Writing.{DoesWhere, DoesWrite, Leaves}
use Rattle.one_key.specs.declared.wrote.Change.{Change}
use Rattle.one_key.specs.declared.wrote.Wrote.{Wrote}
use Rattle.one_key.specs.inner.Shown.{shown}
use Rattle.one_key.specs.inner.Steps.{ChangedWhere, Left, WroteAt}

-- a value of the type that a key has is found as its own
pub own_found : (m : KeyMeaning) (keys : Keys) (key : Bytes) (items : Saved)
    → value_at keys key ≡ Some (value.Native (shown m items))
    → own_value m.name (value_at keys key) ≡ Some (Some items)
own_found m keys key items found =
    ap (own_value m.name) found
    ∙ ap (λ b. if b then Some (Some items) else None) ((bytes_decides m.name m.name).1 refl)

-- what holds whatever a result is holds on `Err`
pub on_err : {A E : Type 0} (r : Result A E) (P : Type 0) → P → OnErr r P
on_err (Ok value) P holds = tt
on_err (Err why) P holds = holds

module _ {V : Type 0} (m : KeyMeaning) (saved : V → Saved) (key : Bytes) (told end : Told)
    (old new : V) (found : value_at told.seen.keys key ≡ Some (value.Native (shown m (saved old))))
    (ends : end ≡ with_native key (shown m (saved new)) told) where
  -- a value that was lent and is as it was changes nothing
  pub lent_same : new ≡ old → end ≡ told
  lent_same same =
      ends ∙ ap (λ v. with_native key (shown m (saved v)) told) same
      ∙ lent_unchanged told key (shown m (saved old)) found

  left_case : (left : After V) (meant : Option Saved) → Leaves saved left (Some old) (Some new) meant
      → Left m saved key left (Some (saved old)) meant told end
  left_case after.Keep (Some left) does =
      ends ∙ ap (λ items. with_native key (shown m items) told) does
  left_case after.Keep None does = absurd does
  left_case (after.Put v) meant does = absurd does
  left_case after.Remove None does = lent_same (same_Some new old does)
  left_case after.Remove (Some left) does = absurd does

  change_case : (change : Option (Change V)) (meant : Option KeyChange)
      → DoesWhere saved change (Some old) (Some new) meant
      → ChangedWhere m saved key change meant (Some (saved old)) told end
  change_case None None does = lent_same (same_Some new old does)
  change_case None (Some meant) does = absurd does
  change_case (Some change) None does = absurd does
  change_case (Some change) (Some meant) does =
      record { left = left_case change.after meant.left does.left; effect = does.effect; event = does.event }

  -- what was written on a value that was lent
  pub wrote_there : (words : Words) (wrote : Wrote V)
      → DoesWrite saved wrote (Some old) (Some new) (m.writes (Some (saved old)) words)
      → WroteAt m saved key words (Some wrote) (own_value m.name (value_at told.seen.keys key)) told end
  wrote_there words wrote does =
      rw (own_found m told.seen.keys key (saved old) found)
      (record {
        reply = does.reply;
        change = change_case wrote.change (m.writes (Some (saved old)) words).change does.change;
      })
