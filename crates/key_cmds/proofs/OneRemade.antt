-- How what holds of a command on one key holds of the keys. Serves the clauses of
-- effects_remake_changes and of refusals_change_nothing.
use Rattle.std.proofs.Common.{◌≡◌, ◌≢◌, ◌⊎◌, inl, inr, ℕ, Bool, true, false, List, [], ◌∷◌, Option, Some, None, refl, sym, ap, ◌∙◌}
use Rattle.core_types.specs.CommandRow.{MeetArity}
use Rattle.core_types.specs.Done.{Change, Done, unless_refused}
use Rattle.sequences.specs.Words.{word}
use Rattle.core_types.specs.Keys.{KeysOf, value_at}
use Rattle.core_types.specs.declared.effect.Effect.{Effect}
use Rattle.core_types.specs.declared.field.Field.{Field}
use Rattle.core_types.specs.declared.refusal.Refusal.{Refusal}
use Rattle.core_types.specs.declared.value.Value.{Value}
use Rattle.core_types.specs.declared.value.Value.TheVariants as value
use Rattle.string_cmds.specs.declared.command.StringCmd.{StringCmd}
use Rattle.string_cmds.specs.declared.command.StringCmd.TheVariants as string
use Rattle.string_cmds.specs.Commands as string_commands
use Rattle.string_cmds.specs.Laws as string_laws
use Rattle.string_cmds.specs.Rows as string_rows
use Rattle.string_cmds.proofs.Told as string_told
use Rattle.list_cmds.specs.declared.command.ListCmd.{ListCmd}
use Rattle.list_cmds.specs.declared.command.ListCmd.TheVariants as list
use Rattle.list_cmds.specs.Commands as list_commands
use Rattle.list_cmds.specs.Laws as list_laws
use Rattle.list_cmds.specs.Rows as list_rows
use Rattle.list_cmds.proofs.Told as list_told
use Rattle.hash_cmds.specs.declared.command.HashCmd.{HashCmd}
use Rattle.hash_cmds.specs.declared.command.HashCmd.TheVariants as hash
use Rattle.hash_cmds.specs.Commands as hash_commands
use Rattle.hash_cmds.specs.Laws as hash_laws
use Rattle.hash_cmds.specs.Rows as hash_rows
use Rattle.hash_cmds.proofs.Told as hash_told
use Rattle.key_cmds.specs.declared.command.Command.{Command}
use Rattle.key_cmds.specs.declared.command.Command.TheVariants as command
use Rattle.key_cmds.specs.Commands.{command_row}
use Rattle.key_cmds.specs.Laws.{ChangesAtMostOnce, ChangesNothing, ChangesOnce}
use Rattle.core_types.specs.Refusals.{IsRefusal}
use Rattle.core_types.specs.CommandLaws as every
use Rattle.key_cmds.specs.OneKey.{hash_done, left_by, list_done, on_hash, on_key, on_list, on_string, string_done, with_change}
use Rattle.key_cmds.specs.Rows.{does}
use Rattle.key_cmds.specs.Run.{Run}

-- what was done to a key that had `held` is a change that one effect makes again
pub record IsDoneAgain {N B : Type 0} (type_name : N → List ℕ) (made : B → Value N) (held : Option (Value N))
    (key : List ℕ) (done : Done B) : Type 0 where
  pub changed : done.change ≢ Change.Stays
  pub accepted : ¬ IsRefusal done.reply
  pub effect : Effect
  pub effects : done.effects ≡ effect ∷ []
  pub notes : done.notes ≢ []
  pub cmd : Command
  pub named : word 0 effect.words ≡ (command_row cmd).name
  pub writes : (command_row cmd).writes ≡ true
  pub arity : MeetArity (command_row cmd) effect.words
  pub key_at : word 1 effect.words ≡ key
  -- what the words of the effect do to a key that has this
  pub row : Option (Value N) → Done B
  pub runs : (keys : KeysOf N) → does type_name 0 cmd keys effect.words ≡ on_key made (word 1 effect.words) keys (row (value_at keys (word 1 effect.words)))
  pub again : (row held).change ≡ done.change
  pub accepted_again : ¬ IsRefusal (row held).reply

-- a command on one key: the same of what it does to that key
abbrev pub DoesAtMostOnce : {N B : Type 0} → (N → List ℕ) → (B → Value N) → Option (Value N) → List ℕ → Done B → Type 0
DoesAtMostOnce type_name made held key done = every.ChangesNothing done ⊎ IsDoneAgain type_name made held key done

writes_by : (writes : Bool) → (writes ≡ false → ⊥) → writes ≡ true
writes_by true reads = refl
writes_by false reads = absurd (reads refl)

unless_stays : {B : Type 0} (why : Option Refusal) (done : Done B) → done.change ≡ Change.Stays → (unless_refused why done).change ≡ Change.Stays
unless_stays None done stays = stays
unless_stays (Some why) done stays = refl

module _ {N B : Type 0} (type_name : N → List ℕ) (made : B → Value N) (key : List ℕ) (keys : KeysOf N) (done : Done B) where
  pub nothing_on : every.ChangesNothing done → ChangesNothing keys (on_key made key keys done)
  nothing_on nothing =
      record {
        same = ap (λ change. with_change made key change keys) nothing.change;
        effects = nothing.effects;
        notes = nothing.notes;
        left = ap (λ change. left_by change (value_at keys key)) nothing.change;
      }

  once_on : IsDoneAgain type_name made (value_at keys key) key done → ChangesOnce type_name keys (on_key made key keys done)
  once_on once =
      let run : does type_name 0 once.cmd keys once.effect.words ≡ on_key made key keys (once.row (value_at keys key)) =
      once.runs keys ∙ ap (λ k. on_key made k keys (once.row (value_at keys k))) once.key_at in
      record {
        effect = once.effect;
        effects = once.effects;
        remakes = record {
          cmd = once.cmd;
          named = once.named;
          writes = once.writes;
          arity = once.arity;
          again = ap (λ (r : Run N). r.keys) run ∙ ap (λ change. with_change made key change keys) once.again;
          accepted = λ (text, e). once.accepted_again (text, sym (ap (λ (r : Run N). r.reply) run) ∙ e);
        };
        notes = once.notes;
        accepted = once.accepted;
      }

  -- what holds of a key holds of the keys
  pub carried : DoesAtMostOnce type_name made (value_at keys key) key done → ChangesAtMostOnce type_name keys (on_key made key keys done)
  carried (inl nothing) = inl (nothing_on nothing)
  carried (inr once) = inr (once_on once)

  -- where the key stays, nothing is done
  pub stays_on : DoesAtMostOnce type_name made (value_at keys key) key done → done.change ≡ Change.Stays → ChangesNothing keys (on_key made key keys done)
  stays_on (inl nothing) stays = nothing_on nothing
  stays_on (inr once) stays = absurd (once.changed stays)

-- ---- strings

string_key : (cmd : StringCmd) → (string_commands.command_row cmd).key ≡ 1
string_key string.Get = refl
string_key _ = refl

row_reads : (cmd : StringCmd) (old : Option (List ℕ)) (words : List (List ℕ)) → (string_commands.command_row cmd).writes ≡ false → (string_rows.row cmd old words).change ≡ Change.Stays
row_reads string.Get old words reads = refl
row_reads string.StrLen old words reads = refl
row_reads string.GetRange old words reads = unless_stays (string_rows.refusal string.GetRange words) (string_rows.served string.GetRange old words) refl
row_reads _ old words reads = cc

other_reads : (cmd : StringCmd) (words : List (List ℕ)) → (string_commands.command_row cmd).writes ≡ false → (string_rows.other_row cmd words).change ≡ Change.Stays
other_reads string.Get words reads = refl
other_reads string.StrLen words reads = refl
other_reads string.GetRange words reads = unless_stays (string_rows.refusal string.GetRange words) (string_rows.served_other string.GetRange words) refl
other_reads _ words reads = cc

module _ {N : Type 0} where
  string_reads : (cmd : StringCmd) (held : Option (Value N)) (words : List (List ℕ)) → (string_commands.command_row cmd).writes ≡ false → (string_done cmd held words).change ≡ Change.Stays
  string_reads cmd None words reads = row_reads cmd None words reads
  string_reads cmd (Some (value.Str text)) words reads = row_reads cmd (Some text) words reads
  string_reads cmd (Some (value.List items)) words reads = other_reads cmd words reads
  string_reads cmd (Some (value.Hash fields)) words reads = other_reads cmd words reads
  string_reads cmd (Some (value.Native native)) words reads = other_reads cmd words reads

  module _ (type_name : N → List ℕ) where
    string_once : (held : Option (Value N)) (key : List ℕ) (done : Done (List ℕ)) → string_laws.ChangesOnce (λ cmd words. string_done cmd held words) key done → IsDoneAgain type_name value.Str held key done
    string_once held key done once =
        let remakes = once.remakes in
        let words = once.effect.words in
        record {
          changed = once.changed;
          accepted = once.accepted;
          effect = once.effect;
          effects = once.effects;
          notes = λ e. let f = sym once.notes ∙ e in cc;
          cmd = command.Str remakes.cmd;
          named = remakes.named;
          writes = writes_by _ (λ reads. once.changed (sym remakes.again ∙ string_reads remakes.cmd held words reads));
          arity = remakes.arity;
          key_at = ap (λ place. word place words) (sym (string_key remakes.cmd)) ∙ remakes.key_at;
          row = λ (has : Option (Value N)). string_done remakes.cmd has words;
          runs = λ keys. refl;
          again = remakes.again;
          accepted_again = remakes.accepted;
        }

    string_most : (held : Option (Value N)) (key : List ℕ) (done : Done (List ℕ)) → string_laws.ChangesAtMostOnce (λ cmd words. string_done cmd held words) key done → DoesAtMostOnce type_name value.Str held key done
    string_most held key done (inl nothing) = inl nothing
    string_most held key done (inr once) = inr (string_once held key done once)

    string_does : (cmd : StringCmd) (held : Option (Value N)) (words : List (List ℕ)) → MeetArity (string_commands.command_row cmd) words → DoesAtMostOnce type_name value.Str held (word 1 words) (string_done cmd held words)
    string_does cmd None words arity = string_most None _ _ (string_told.row_told cmd None words arity)
    string_does cmd (Some (value.Str text)) words arity = string_most (Some (value.Str text)) _ _ (string_told.row_told cmd (Some text) words arity)
    string_does cmd (Some (value.List items)) words arity = string_most (Some (value.List items)) _ _ (string_told.other_told cmd words)
    string_does cmd (Some (value.Hash fields)) words arity = string_most (Some (value.Hash fields)) _ _ (string_told.other_told cmd words)
    string_does cmd (Some (value.Native native)) words arity = string_most (Some (value.Native native)) _ _ (string_told.other_told cmd words)

    pub string_remade : (cmd : StringCmd) (keys : KeysOf N) (words : List (List ℕ)) → MeetArity (string_commands.command_row cmd) words → ChangesAtMostOnce type_name keys (on_string cmd keys words)
    string_remade cmd keys words arity =
        carried type_name value.Str (word 1 words) keys (string_done cmd (value_at keys (word 1 words)) words)
        (string_does cmd (value_at keys (word 1 words)) words arity)

    pub string_read : (cmd : StringCmd) (keys : KeysOf N) (words : List (List ℕ)) → MeetArity (string_commands.command_row cmd) words → (string_commands.command_row cmd).writes ≡ false → ChangesNothing keys (on_string cmd keys words)
    string_read cmd keys words arity reads =
        stays_on type_name value.Str (word 1 words) keys (string_done cmd (value_at keys (word 1 words)) words)
        (string_does cmd (value_at keys (word 1 words)) words arity) (string_reads cmd (value_at keys (word 1 words)) words reads)

-- ---- lists

list_key : (cmd : ListCmd) → (list_commands.command_row cmd).key ≡ 1
list_key list.LLen = refl
list_key _ = refl

list_row_reads : (cmd : ListCmd) (old : Option (List (List ℕ))) (words : List (List ℕ)) → (list_commands.command_row cmd).writes ≡ false → (list_rows.row cmd old words).change ≡ Change.Stays
list_row_reads list.LLen old words reads = refl
list_row_reads list.LIndex old words reads = unless_stays (list_rows.refusal list.LIndex words) (list_rows.served list.LIndex old words) refl
list_row_reads list.LRange old words reads = unless_stays (list_rows.refusal list.LRange words) (list_rows.served list.LRange old words) refl
list_row_reads _ old words reads = cc

module _ {N : Type 0} where
  list_reads : (cmd : ListCmd) (held : Option (Value N)) (words : List (List ℕ)) → (list_commands.command_row cmd).writes ≡ false → (list_done cmd held words).change ≡ Change.Stays
  list_reads cmd None words reads = list_row_reads cmd None words reads
  list_reads cmd (Some (value.Str text)) words reads = (list_told.other_told cmd words).1.change
  list_reads cmd (Some (value.List items)) words reads = list_row_reads cmd (Some items) words reads
  list_reads cmd (Some (value.Hash fields)) words reads = (list_told.other_told cmd words).1.change
  list_reads cmd (Some (value.Native native)) words reads = (list_told.other_told cmd words).1.change

  module _ (type_name : N → List ℕ) where
    list_once : (held : Option (Value N)) (key : List ℕ) (done : Done (List (List ℕ))) → list_laws.ChangesOnce (λ cmd words. list_done cmd held words) key done → IsDoneAgain type_name value.List held key done
    list_once held key done once =
        let remakes = once.remakes in
        let words = once.effect.words in
        record {
          changed = once.changed;
          accepted = once.accepted;
          effect = once.effect;
          effects = once.effects;
          notes = λ e. let f = sym once.notes ∙ e in cc;
          cmd = command.List remakes.cmd;
          named = remakes.named;
          writes = writes_by _ (λ reads. once.changed (sym remakes.again ∙ list_reads remakes.cmd held words reads));
          arity = remakes.arity;
          key_at = ap (λ place. word place words) (sym (list_key remakes.cmd)) ∙ remakes.key_at;
          row = λ (has : Option (Value N)). list_done remakes.cmd has words;
          runs = λ keys. refl;
          again = remakes.again;
          accepted_again = remakes.accepted;
        }

    list_most : (held : Option (Value N)) (key : List ℕ) (done : Done (List (List ℕ))) → list_laws.ChangesAtMostOnce (λ cmd words. list_done cmd held words) key done → DoesAtMostOnce type_name value.List held key done
    list_most held key done (inl nothing) = inl nothing
    list_most held key done (inr once) = inr (list_once held key done once)

    list_does : (cmd : ListCmd) (held : Option (Value N)) (words : List (List ℕ)) → MeetArity (list_commands.command_row cmd) words → DoesAtMostOnce type_name value.List held (word 1 words) (list_done cmd held words)
    list_does cmd None words arity = list_most None _ _ (list_told.row_told cmd None words arity)
    list_does cmd (Some (value.Str text)) words arity = inl (list_told.other_told cmd words).1
    list_does cmd (Some (value.List items)) words arity = list_most (Some (value.List items)) _ _ (list_told.row_told cmd (Some items) words arity)
    list_does cmd (Some (value.Hash fields)) words arity = inl (list_told.other_told cmd words).1
    list_does cmd (Some (value.Native native)) words arity = inl (list_told.other_told cmd words).1

    pub list_remade : (cmd : ListCmd) (keys : KeysOf N) (words : List (List ℕ)) → MeetArity (list_commands.command_row cmd) words → ChangesAtMostOnce type_name keys (on_list cmd keys words)
    list_remade cmd keys words arity =
        carried type_name value.List (word 1 words) keys (list_done cmd (value_at keys (word 1 words)) words)
        (list_does cmd (value_at keys (word 1 words)) words arity)

    pub list_read : (cmd : ListCmd) (keys : KeysOf N) (words : List (List ℕ)) → MeetArity (list_commands.command_row cmd) words → (list_commands.command_row cmd).writes ≡ false → ChangesNothing keys (on_list cmd keys words)
    list_read cmd keys words arity reads =
        stays_on type_name value.List (word 1 words) keys (list_done cmd (value_at keys (word 1 words)) words)
        (list_does cmd (value_at keys (word 1 words)) words arity) (list_reads cmd (value_at keys (word 1 words)) words reads)

-- ---- hashes

hash_key : (cmd : HashCmd) → (hash_commands.command_row cmd).key ≡ 1
hash_key hash.HGet = refl
hash_key _ = refl

hash_row_reads : (cmd : HashCmd) (old : Option (List Field)) (words : List (List ℕ)) → (hash_commands.command_row cmd).writes ≡ false → (hash_rows.row cmd old words).change ≡ Change.Stays
hash_row_reads hash.HGet old words reads = refl
hash_row_reads hash.HMGet old words reads = refl
hash_row_reads hash.HLen old words reads = refl
hash_row_reads hash.HExists old words reads = refl
hash_row_reads hash.HStrLen old words reads = refl
hash_row_reads hash.HKeys old words reads = refl
hash_row_reads hash.HVals old words reads = refl
hash_row_reads hash.HGetAll old words reads = refl
hash_row_reads _ old words reads = cc

module _ {N : Type 0} where
  hash_reads : (cmd : HashCmd) (held : Option (Value N)) (words : List (List ℕ)) → (hash_commands.command_row cmd).writes ≡ false → (hash_done cmd held words).change ≡ Change.Stays
  hash_reads cmd None words reads = hash_row_reads cmd None words reads
  hash_reads cmd (Some (value.Str text)) words reads = (hash_told.other_nothing cmd words).change
  hash_reads cmd (Some (value.List items)) words reads = (hash_told.other_nothing cmd words).change
  hash_reads cmd (Some (value.Hash fields)) words reads = hash_row_reads cmd (Some fields) words reads
  hash_reads cmd (Some (value.Native native)) words reads = (hash_told.other_nothing cmd words).change

  module _ (type_name : N → List ℕ) where
    hash_once : (held : Option (Value N)) (key : List ℕ) (done : Done (List Field)) → hash_laws.ChangesOnce (λ cmd words. hash_done cmd held words) key done → IsDoneAgain type_name value.Hash held key done
    hash_once held key done once =
        let remakes = once.remakes in
        let words = once.effect.words in
        record {
          changed = once.changed;
          accepted = once.accepted;
          effect = once.effect;
          effects = once.effects;
          notes = λ e. let f = sym once.notes ∙ e in cc;
          cmd = command.Hash remakes.cmd;
          named = remakes.named;
          writes = writes_by _ (λ reads. once.changed (sym remakes.again ∙ hash_reads remakes.cmd held words reads));
          arity = remakes.arity;
          key_at = ap (λ place. word place words) (sym (hash_key remakes.cmd)) ∙ remakes.key_at;
          row = λ (has : Option (Value N)). hash_done remakes.cmd has words;
          runs = λ keys. refl;
          again = remakes.again;
          accepted_again = remakes.accepted;
        }

    hash_most : (held : Option (Value N)) (key : List ℕ) (done : Done (List Field)) → hash_laws.ChangesAtMostOnce (λ cmd words. hash_done cmd held words) key done → DoesAtMostOnce type_name value.Hash held key done
    hash_most held key done (inl nothing) = inl nothing
    hash_most held key done (inr once) = inr (hash_once held key done once)

    hash_does : (cmd : HashCmd) (held : Option (Value N)) (words : List (List ℕ)) → MeetArity (hash_commands.command_row cmd) words → DoesAtMostOnce type_name value.Hash held (word 1 words) (hash_done cmd held words)
    hash_does cmd None words arity = hash_most None _ _ (hash_told.row_told cmd None words arity)
    hash_does cmd (Some (value.Str text)) words arity = inl (hash_told.other_nothing cmd words)
    hash_does cmd (Some (value.List items)) words arity = inl (hash_told.other_nothing cmd words)
    hash_does cmd (Some (value.Hash fields)) words arity = hash_most (Some (value.Hash fields)) _ _ (hash_told.row_told cmd (Some fields) words arity)
    hash_does cmd (Some (value.Native native)) words arity = inl (hash_told.other_nothing cmd words)

    pub hash_remade : (cmd : HashCmd) (keys : KeysOf N) (words : List (List ℕ)) → MeetArity (hash_commands.command_row cmd) words → ChangesAtMostOnce type_name keys (on_hash cmd keys words)
    hash_remade cmd keys words arity =
        carried type_name value.Hash (word 1 words) keys (hash_done cmd (value_at keys (word 1 words)) words)
        (hash_does cmd (value_at keys (word 1 words)) words arity)

    pub hash_read : (cmd : HashCmd) (keys : KeysOf N) (words : List (List ℕ)) → MeetArity (hash_commands.command_row cmd) words → (hash_commands.command_row cmd).writes ≡ false → ChangesNothing keys (on_hash cmd keys words)
    hash_read cmd keys words arity reads =
        stays_on type_name value.Hash (word 1 words) keys (hash_done cmd (value_at keys (word 1 words)) words)
        (hash_does cmd (value_at keys (word 1 words)) words arity) (hash_reads cmd (value_at keys (word 1 words)) words reads)
