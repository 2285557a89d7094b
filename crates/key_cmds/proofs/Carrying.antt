-- How what a command does to one value is carried to the keys. Serves the clauses of the commands
-- on one key.
use Rattle.std.proofs.Common.{◌≡◌, ℕ, List, [], ◌++◌, Result, Ok, Err, IfOk, OnOk, OnErr, Option, Some, None, unwrap_or, refl, sym, ap, subst, ◌∙◌}
use Rattle.std.proofs.lemmas.Option.{none-some}
use Rattle.core_types.specs.Done.{Change, Does, Done, Makes}
use Rattle.core_types.specs.Keys.{KeysOf, value_at, with_changed, with_value, deadline_at}
use Rattle.sequences.specs.declared.no_memory.NoMemory.{NoMemory}
use Rattle.core_types.specs.declared.outcome.After.{After}
use Rattle.core_types.specs.declared.outcome.After.TheVariants as after
use Rattle.core_types.specs.declared.outcome.Outcome.{Outcome}
use Rattle.core_types.specs.declared.value.Value.{Value}
use Rattle.key_cmds.specs.OneKey.{left_by, on_key, with_change}
use Rattle.key_cmds.specs.Run.{native_in, told}
use Rattle.key_cmds.specs.declared.plain.Plain.{Plain}
use Rattle.key_cmds.specs.declared.plain.Plain.TheVariants as plain
use Rattle.key_cmds.specs.declared.ran.Ran.{Ran}
use Rattle.key_cmds.specs.inner.Plain.{after_of, change_of, done_of, outcome_of, value_of}
use Rattle.key_cmds.specs.inner.Settling.{DoesToKeys, DoesToValue, MakesOfKeys, MakesOfValue, Puts, Tells, leaving, settled}
use Rattle.key_cmds.proofs.OneKeyOf.{changed_same, new_value, value_changed, without_entry}

-- a change that at most sets its key
abbrev pub OnlySets : {B : Type 0} → Change B → Type 0
OnlySets Change.Stays = Unit {0}
OnlySets (Change.Becomes body) = ⊥
OnlySets (Change.IsSet body) = Unit {0}
OnlySets Change.Goes = ⊥

unsome : {A : Type 0} (x y : A) → Some x ≡ Some y → x ≡ y
unsome x y e = ap (λ o. unwrap_or o x) e

tells : {B : Type 0} (of : B → Plain) (o : Outcome B) (old now : Option B) (done : Done B) → Does o old now done → Tells (outcome_of of o) (done_of of done)
tells of o old now done does = record { reply = does.reply; effects = does.effects; notes = does.notes }

module _ {N : Type 0} where
  -- what is no module's
  pub no_native : (p : Plain) → native_in {N = N} (Some (value_of p)) ≡ []
  no_native (plain.Str text) = refl
  no_native (plain.List items) = refl
  no_native (plain.Hash fields) = refl

-- ---- from one kind of value to any

own_change : (N : Type 0) {B : Type 0} (of : B → Plain) (body : After B) (old now : B) (change : Change B) → Makes body (Some old) (Some now) change
    → MakesOfValue {N = N} (after_of of body) (value_of (of old)) (value_of (of now)) (change_of of change)
own_change N of after.Keep old now Change.Stays h = ap (λ b. value_of (of b)) (unsome now old h)
own_change N of after.Keep old now (Change.Becomes body) h = ap (λ b. value_of (of b)) (unsome now body h)
own_change N of after.Keep old now (Change.IsSet body) h = absurd h
own_change N of after.Keep old now Change.Goes h = absurd h
own_change N of (after.Put new) old now Change.Stays h = absurd h
own_change N of (after.Put new) old now (Change.Becomes body) h = absurd h
own_change N of (after.Put new) old now (Change.IsSet body) h =
    (ap of h.0, ap (λ b. value_of (of b)) (unsome now old h.1))
own_change N of (after.Put new) old now Change.Goes h = absurd h
own_change N of after.Remove old now Change.Stays h = absurd h
own_change N of after.Remove old now (Change.Becomes body) h = absurd h
own_change N of after.Remove old now (Change.IsSet body) h = absurd h
own_change N of after.Remove old now Change.Goes h = no_native (of now) ∙ sym (no_native (of old))

module _ {N : Type 0} where
  module _ {B : Type 0} (of : B → Plain) where
    other_change : (body : After B) (held : Value N) (change : Change B) → OnlySets change → Makes body None None change
        → MakesOfValue (after_of of body) held held (change_of of change)
    other_change after.Keep held Change.Stays only h = refl
    other_change after.Keep held (Change.Becomes body) only h = absurd only
    other_change after.Keep held (Change.IsSet body) only h = absurd h
    other_change after.Keep held Change.Goes only h = absurd only
    other_change (after.Put new) held Change.Stays only h = absurd h
    other_change (after.Put new) held (Change.Becomes body) only h = absurd only
    other_change (after.Put new) held (Change.IsSet body) only h = (ap of h.0, refl)
    other_change (after.Put new) held Change.Goes only h = absurd only
    other_change after.Remove held Change.Stays only h = absurd h
    other_change after.Remove held (Change.Becomes body) only h = absurd only
    other_change after.Remove held (Change.IsSet body) only h = absurd h
    other_change after.Remove held Change.Goes only h = absurd only

    new_change : (key : List ℕ) (body : After B) (keys : KeysOf N) (change : Change B) → value_at keys key ≡ None → Makes body None None change
        → MakesOfKeys key (after_of of body) keys keys (change_of of change)
    new_change key after.Keep keys Change.Stays at h = refl
    new_change key after.Keep keys (Change.Becomes body) at h = absurd (none-some body h)
    new_change key after.Keep keys (Change.IsSet body) at h = absurd h
    new_change key after.Keep keys Change.Goes at h = absurd h
    new_change key (after.Put new) keys Change.Stays at h = absurd h
    new_change key (after.Put new) keys (Change.Becomes body) at h = (ap of h, refl, at)
    new_change key (after.Put new) keys (Change.IsSet body) at h = (ap of h.0, refl)
    new_change key (after.Put new) keys Change.Goes at h = absurd h
    new_change key after.Remove keys Change.Stays at h = absurd h
    new_change key after.Remove keys (Change.Becomes body) at h = absurd h
    new_change key after.Remove keys (Change.IsSet body) at h = absurd h
    new_change key after.Remove keys Change.Goes at h = (refl, refl)

    -- on a value of the command's own kind
    pub does_on_own : (o : Outcome B) (old now : B) (done : Done B) → Does o (Some old) (Some now) done
        → DoesToValue {N = N} (outcome_of of o) (value_of (of old)) (value_of (of now)) (done_of of done)
    does_on_own o old now done does =
        record { change = own_change N of o.body old now done.change does.body; tells = tells of o (Some old) (Some now) done does }

    -- on one of another kind
    pub does_on_other : (o : Outcome B) (held : Value N) (done : Done B) → OnlySets done.change → Does o None None done
        → DoesToValue (outcome_of of o) held held (done_of of done)
    does_on_other o held done only does =
        record { change = other_change o.body held done.change only does.body; tells = tells of o None None done does }

    -- on a key that is not there
    pub does_on_new : (key : List ℕ) (o : Outcome B) (keys : KeysOf N) (done : Done B) → value_at keys key ≡ None → Does o None None done
        → DoesToKeys key (outcome_of of o) keys keys (done_of of done)
    does_on_new key o keys done at does =
        record { change = new_change key o.body keys done.change at does.body; tells = tells of o None None done does }

  -- where the rows say the same of another kind
  pub other_does : {B : Type 0} (of : B → Plain) (o : Outcome B) (made : Outcome Plain) (held : Value N) (row done : Done B) → made ≡ outcome_of of o → done ≡ row → OnlySets row.change
      → Does o None None row → DoesToValue made held held (done_of of done)
  other_does {B = B} of o made held row done is rows only does =
      subst (λ (m : Outcome Plain). DoesToValue m held held (done_of of done)) (sym is)
      (subst (λ (d : Done B). DoesToValue (outcome_of of o) held held (done_of of d)) (sym rows) (does_on_other of o held row only does))

  -- ---- from a value to the keys

  to_keys : (key : List ℕ) (body : After Plain) (keys : KeysOf N) (old now : Value N) (change : Change Plain) → value_at keys key ≡ Some old → MakesOfValue body old now change
      → MakesOfKeys key body keys (with_changed keys key now) change
  to_keys key after.Keep keys old now Change.Stays at h = ap (with_changed keys key) h ∙ changed_same keys key old at
  to_keys key after.Keep keys old now (Change.Becomes body) at h = ap (with_changed keys key) h
  to_keys key after.Keep keys old now (Change.IsSet body) at h = absurd h
  to_keys key after.Keep keys old now Change.Goes at h = absurd h
  to_keys key (after.Put new) keys old now Change.Stays at h = absurd h
  to_keys key (after.Put new) keys old now (Change.Becomes body) at h = absurd h
  to_keys key (after.Put new) keys old now (Change.IsSet body) at h =
      (h.0, ap (with_changed keys key) h.1 ∙ changed_same keys key old at)
  to_keys key (after.Put new) keys old now Change.Goes at h = absurd h
  to_keys key after.Remove keys old now Change.Stays at h = absurd h
  to_keys key after.Remove keys old now (Change.Becomes body) at h = absurd h
  to_keys key after.Remove keys old now (Change.IsSet body) at h = absurd h
  to_keys key after.Remove keys old now Change.Goes at h = (
    without_entry keys key (record { value = now; deadline = deadline_at keys key }),
    ap native_in (value_changed keys key now) ∙ h ∙ ap native_in (sym at),
  )

  pub does_to_keys : (key : List ℕ) (o : Outcome Plain) (keys : KeysOf N) (old now : Value N) (done : Done Plain) → value_at keys key ≡ Some old → DoesToValue o old now done
      → DoesToKeys key o keys (with_changed keys key now) done
  does_to_keys key o keys old now done at does =
      record { change = to_keys key o.body keys old now done.change at does.change; tells = does.tells }

  -- ---- carried out

  settled_change : (key : List ℕ) (body : After Plain) (old now : KeysOf N) (change : Change Plain) → MakesOfKeys key body old now change
      → settled body key now ≡ with_change value_of key change old
  settled_change key after.Keep old now Change.Stays h = h
  settled_change key after.Keep old now (Change.Becomes body) h = h
  settled_change key after.Keep old now (Change.IsSet body) h = absurd h
  settled_change key after.Keep old now Change.Goes h = absurd h
  settled_change key (after.Put new) old now Change.Stays h = absurd h
  settled_change key (after.Put new) old now (Change.Becomes body) h =
      ap (λ p. with_value now key (value_of p)) h.0 ∙ ap (λ keys. with_value keys key (value_of body)) h.1
      ∙ new_value old key (value_of body) h.2
  settled_change key (after.Put new) old now (Change.IsSet body) h =
      ap (λ p. with_value now key (value_of p)) h.0 ∙ ap (λ keys. with_value keys key (value_of body)) h.1
  settled_change key (after.Put new) old now Change.Goes h = absurd h
  settled_change key after.Remove old now Change.Stays h = absurd h
  settled_change key after.Remove old now (Change.Becomes body) h = absurd h
  settled_change key after.Remove old now (Change.IsSet body) h = absurd h
  settled_change key after.Remove old now Change.Goes h = h.0

  leaving_change : (key : List ℕ) (body : After Plain) (old now : KeysOf N) (change : Change Plain) → MakesOfKeys key body old now change
      → leaving body (value_at now key) ≡ left_by change (value_at old key)
  leaving_change key after.Keep old now Change.Stays h = refl
  leaving_change key after.Keep old now (Change.Becomes body) h = refl
  leaving_change key after.Keep old now (Change.IsSet body) h = absurd h
  leaving_change key after.Keep old now Change.Goes h = absurd h
  leaving_change key (after.Put new) old now Change.Stays h = absurd h
  leaving_change key (after.Put new) old now (Change.Becomes body) h =
      ap (λ keys. native_in (value_at keys key)) h.1 ∙ ap native_in h.2
  leaving_change key (after.Put new) old now (Change.IsSet body) h = ap (λ keys. native_in (value_at keys key)) h.1
  leaving_change key (after.Put new) old now Change.Goes h = absurd h
  leaving_change key after.Remove old now Change.Stays h = absurd h
  leaving_change key after.Remove old now (Change.Becomes body) h = absurd h
  leaving_change key after.Remove old now (Change.IsSet body) h = absurd h
  leaving_change key after.Remove old now Change.Goes h = h.1

  put_same : (key : List ℕ) (body : After Plain) (old now : KeysOf N) (change : Change Plain) → MakesOfKeys key body old now change → Puts body → now ≡ old
  put_same key after.Keep old now change h puts = absurd puts
  put_same key (after.Put new) old now Change.Stays h puts = absurd h
  put_same key (after.Put new) old now (Change.Becomes body) h puts = h.1
  put_same key (after.Put new) old now (Change.IsSet body) h puts = h.1
  put_same key (after.Put new) old now Change.Goes h puts = absurd h
  put_same key after.Remove old now change h puts = absurd puts

  -- a value that is to be put has changed nothing before it is
  pub puts_same : (key : List ℕ) (o : Outcome Plain) (old now : KeysOf N) (done : Done Plain) → DoesToKeys key o old now done → Puts o.body → now ≡ old
  puts_same key o old now done does puts = put_same key o.body old now done.change does.change puts

  module _ {B : Type 0} (of : B → Plain) where
    of_change : (key : List ℕ) (change : Change B) (keys : KeysOf N) → with_change value_of key (change_of of change) keys ≡ with_change (λ b. value_of (of b)) key change keys
    of_change key Change.Stays keys = refl
    of_change key (Change.Becomes body) keys = refl
    of_change key (Change.IsSet body) keys = refl
    of_change key Change.Goes keys = refl

    of_left : (change : Change B) (held : Option (Value N)) → left_by (change_of of change) held ≡ left_by change held
    of_left Change.Stays held = refl
    of_left (Change.Becomes body) held = refl
    of_left (Change.IsSet body) held = refl
    of_left Change.Goes held = refl

    -- an outcome that is carried out is what the command does: to the keys,
    pub keys_carried : (key : List ℕ) (o : Outcome Plain) (old now : KeysOf N) (done : Done B) → DoesToKeys key o old now (done_of of done)
        → settled o.body key now ≡ (on_key (λ b. value_of (of b)) key old done).keys
    keys_carried key o old now done does =
        settled_change key o.body old now (change_of of done.change) does.change ∙ of_change key done.change old

    -- to what leaves them,
    pub left_carried : (key : List ℕ) (o : Outcome Plain) (old now : KeysOf N) (done : Done B) → DoesToKeys key o old now (done_of of done)
        → leaving o.body (value_at now key) ≡ (on_key {N = N} (λ b. value_of (of b)) key old done).left
    left_carried key o old now done does =
        leaving_change key o.body old now (change_of of done.change) does.change ∙ of_left done.change (value_at old key)

    -- and beside them
    pub told_carried : (key : List ℕ) (o : Outcome Plain) (old now : KeysOf N) (done : Done B) → DoesToKeys key o old now (done_of of done)
        → record { reply = o.reply; effects = o.effects; notes = o.notes } ≡ told (on_key {N = N} (λ b. value_of (of b)) key old done)
    told_carried key o old now done does = cc

on_ok : {T E : Type 0} {P Q : Type 0} (r : Result T E) → (P → Q) → OnOk r P → OnOk r Q
on_ok (Ok x) f h = f h
on_ok (Err e) f h = h

on_err : {T E : Type 0} {P Q R : Type 0} (r : Result T E) → (P → Q → R) → OnErr r P → OnErr r Q → OnErr r R
on_err (Ok x) f h k = h
on_err (Err e) f h k = f h k

pub err_of : {T E : Type 0} {P : Type 0} (r : Result T E) → P → OnErr r P
err_of (Ok x) p = tt
err_of (Err e) p = p

ok_map : {T E : Type 0} (r : Result T E) (P Q : T → Type 0) → ((x : T) → P x → Q x) → IfOk r P → IfOk r Q
ok_map (Ok x) P Q f p = f x p
ok_map (Err e) P Q f p = p

-- What the call that carries an outcome out says of its key is what the command says of it, clause
-- by clause.
module _ {N B : Type 0} (of : B → Plain) (r : Result Ran NoMemory) (key at : List ℕ) (same : key ≡ at) (o : Outcome Plain)
    (old mid new : KeysOf N) (done : Done B) (does : DoesToKeys at o old mid (done_of of done)) where
  pub done_keys : OnOk r (new ≡ settled o.body key mid) → OnOk r (new ≡ (on_key (λ b. value_of (of b)) at old done).keys)
  done_keys h = on_ok r (λ e. e ∙ ap (λ k. settled o.body k mid) same ∙ keys_carried of at o old mid done does) h

  pub done_told : IfOk r (λ ran. ran ≡ record { reply = o.reply; effects = o.effects; notes = o.notes }) → IfOk r (λ ran. ran ≡ told (on_key {N = N} (λ b. value_of (of b)) at old done))
  done_told h = ok_map r _ _ (λ ran e. e ∙ told_carried of at o old mid done does) h

  pub done_left : (before between after : List N) → between ≡ before → OnOk r (after ≡ between ++ leaving o.body (value_at mid key))
      → OnOk r (after ≡ before ++ (on_key (λ b. value_of (of b)) at old done).left)
  done_left before between after kept h =
      on_ok r (λ e. e ∙ ap (λ k. between ++ leaving o.body (value_at mid k)) same
      ∙ ap (λ values. between ++ values) (left_carried of at o old mid done does)
      ∙ ap (λ values. values ++ (on_key (λ b. value_of (of b)) at old done).left) kept) h

  pub done_err : (before between after : List N) → between ≡ before → OnErr r (Puts o.body) → OnErr r ((new ≡ mid) × (after ≡ between))
      → OnErr r ((new ≡ old) × (after ≡ before))
  done_err before between after kept h k =
      on_err r (λ (puts : Puts o.body) (e : (new ≡ mid) × (after ≡ between)). (e.0 ∙ puts_same at o old mid (done_of of done) does puts, e.1 ∙ kept)) h k

-- Where the key is there, its value is lent to the command, and what becomes of the value becomes
-- of the key.
module _ {N : Type 0} (key at : List ℕ) (same : key ≡ at) (keys end : KeysOf N) where
  pub lent_does : (o : Outcome Plain) (held left : Value N) (done : Option (Value N) → Done Plain) → value_at keys key ≡ Some held → end ≡ with_changed keys key left
      → DoesToValue o held left (done (Some held)) → DoesToKeys at o keys end (done (value_at keys at))
  lent_does o held left done has ends does =
      subst (λ (k : List ℕ). DoesToKeys k o keys end (done (value_at keys k))) same
      (subst (λ (e : KeysOf N). DoesToKeys key o keys e (done (value_at keys key))) (sym ends)
      (subst (λ (v : Option (Value N)). DoesToKeys key o keys (with_changed keys key left) (done v)) (sym has)
      (does_to_keys key o keys held left (done (Some held)) has does)))

  pub lent_value : (left : Value N) → end ≡ with_changed keys key left → value_at end at ≡ Some left
  lent_value left ends =
      ap (λ (k : List ℕ). value_at end k) (sym same) ∙ ap (λ (e : KeysOf N). value_at e key) ends ∙ value_changed keys key left

  pub lent_same : (held left : Value N) → value_at keys key ≡ Some held → end ≡ with_changed keys key left → left ≡ held → end ≡ keys
  lent_same held left has ends kept = ends ∙ ap (with_changed keys key) kept ∙ changed_same keys key held has

  pub absent_does : {B : Type 0} (of : B → Plain) (o : Outcome B) (made : Outcome Plain) (row : Done B) (done : Option (Value N) → Done Plain) → value_at keys key ≡ None → end ≡ keys
      → made ≡ outcome_of of o → done None ≡ done_of of row → Does o None None row → DoesToKeys at made keys end (done (value_at keys at))
  absent_does of o made row done none ends is rows does =
      subst (λ (k : List ℕ). DoesToKeys k made keys end (done (value_at keys k))) same
      (subst (λ (e : KeysOf N). DoesToKeys key made keys e (done (value_at keys key))) (sym ends)
      (subst (λ (d : Done Plain). DoesToKeys key made keys keys d) (sym (ap done none ∙ rows))
      (subst (λ (m : Outcome Plain). DoesToKeys key m keys keys (done_of of row)) (sym is) (does_on_new of key o keys row none does))))
