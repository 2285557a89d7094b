-- What the keys may be, they stay under a command, and its effects may be requests. Serves clause
-- commands of limits_are_kept.
use Rattle.std.proofs.Common.{◌≡◌, ◌<◌, ◌≤◌, ◌^◌, ℕ, zero, suc, ℤ, pos, negsuc, Bool, true, false, List, [], ◌∷◌, length, drop, codes, Option, Some, None, if◌then◌else◌, refl, sym, subst, true≢false, arith, FitsSigned}
use Rattle.std.specs.Prelude.{◌+ℤ◌, ◌*ℤ◌, ◌==◌, ⊤}
use Rattle.std.specs.Fmt.{decimal}
use Rattle.std.specs.Int.{w64}
use Rattle.std.specs.List.{AllByRecursion}
use Rattle.std.specs.Option.{option_map}
use Rattle.std.specs.Str.{bytes_eq}
use Rattle.std.proofs.lemmas.Bool.Decides.{nat_tests}
use Rattle.std.proofs.lemmas.Int.{ints}
use Rattle.byte_text.specs.Number.{fits_i64, i64_of}
use Rattle.byte_text.proofs.Decimals.{decimal-short, i64_of-only, is_fit}
use Rattle.core_types.specs.CommandRow.{MeetArity}
use Rattle.core_types.specs.Done.{Change, Done, changed, own_words}
use Rattle.sequences.specs.Words.{word}
use Rattle.core_types.specs.Keys.{Entry, KeysOf, deadline_at, entry_at, value_at, with_value, without}
use Rattle.core_types.specs.Keyspace.{IsKeyspace, IsString, IsValue}
use Rattle.core_types.specs.Refusals.{invalid_expire, refused, wrong_arity}
use Rattle.core_types.specs.declared.effect.Effect.{Effect}
use Rattle.core_types.specs.declared.field.Field.{Field}
use Rattle.core_types.specs.declared.refusal.Refusal.TheVariants as refusal
use Rattle.core_types.specs.declared.reply.Reply.{Reply}
use Rattle.core_types.specs.declared.reply.Reply.TheVariants as reply
use Rattle.core_types.specs.declared.value.Value.{Value}
use Rattle.core_types.specs.declared.value.Value.TheVariants as value
use Rattle.core_types.proofs.KeyLemmas.{changed_kept, due_kept, moved_kept, removed_kept, set_kept}
use Rattle.core_types.specs.Limits.{IsSmallEffect, IsWithinLimits}
use Rattle.string_cmds.specs.Laws as string_laws
use Rattle.string_cmds.specs.Rows as string_rows
use Rattle.string_cmds.specs.declared.command.StringCmd.{StringCmd}
use Rattle.string_cmds.proofs.Kept as string_proofs
use Rattle.list_cmds.specs.Laws as list_laws
use Rattle.list_cmds.specs.Commands as list_commands
use Rattle.list_cmds.specs.Rows as list_rows
use Rattle.list_cmds.specs.declared.command.ListCmd.{ListCmd}
use Rattle.list_cmds.proofs.Kept as list_proofs
use Rattle.list_cmds.proofs.Told as list_told
use Rattle.hash_cmds.specs.Laws as hash_laws
use Rattle.hash_cmds.specs.Commands as hash_commands
use Rattle.hash_cmds.specs.Rows as hash_rows
use Rattle.hash_cmds.specs.declared.command.HashCmd.{HashCmd}
use Rattle.hash_cmds.proofs.Kept as hash_proofs
use Rattle.hash_cmds.proofs.Told as hash_told
use Rattle.key_cmds.specs.Commands.{command_row}
use Rattle.key_cmds.specs.Deadlines.{delete_effect, due_at, expire_after, expire_at, expire_where, expires_now, gets_deadline, is_past, moment_of, persists}
use Rattle.key_cmds.specs.Laws.{KeepsLimits}
use Rattle.key_cmds.specs.OneKey.{hash_done, list_done, on_hash, on_key, on_list, on_string, string_done, with_change}
use Rattle.key_cmds.specs.Rows.{does}
use Rattle.key_cmds.specs.Run.{Run, answers}
use Rattle.key_cmds.specs.SeveralKeys.{Pair, Removed, delete, goes_first, is_odd, is_there, moves, pairs_of, removed, rename, rename_there, set_each, sets, with_pairs}
use Rattle.key_cmds.specs.declared.command.Command.{Command}
use Rattle.key_cmds.specs.declared.command.Command.TheVariants as command
use Rattle.key_cmds.specs.declared.command.KeyCmd.{KeyCmd}
use Rattle.key_cmds.specs.declared.command.KeyCmd.TheVariants as key

-- ---- words, and what is made of them

abbrev AreStrings : List (List ℕ) → Type 0
AreStrings words = AllByRecursion IsString words

short_word : (place : ℕ) (words : List (List ℕ)) → AreStrings words → IsString (word place words)
unfolding word
short_word place [] h = omega arith
short_word zero (first ∷ rest) h = h.0
short_word (suc place) (first ∷ rest) h = short_word place rest h.1

short_rest : (words : List (List ℕ)) → AreStrings words → AreStrings (drop 1 words)
short_rest [] h = h
short_rest (first ∷ rest) h = h.1

own_small : (name : List ℕ) (words : List (List ℕ)) → IsString name → IsWithinLimits words → IsSmallEffect (own_words name words)
own_small name [] short h = absurd (omega (arith, h.some))
own_small name (first ∷ rest) short h = record { some = omega arith; few = h.few; each = (short, h.each.1) }

pub delete_small : (key : List ℕ) → IsString key → IsSmallEffect (delete_effect key)
delete_small key short = record { some = omega arith; few = omega arith; each = (omega arith, (short, tt)) }

due_small : (key : List ℕ) (deadline : ℕ) → IsString key → deadline < 2 ^ 63 → IsWithinLimits (codes "PEXPIREAT" ∷ key ∷ decimal deadline ∷ [])
due_small key deadline short small =
    let few = (decimal-short deadline (omega (arith, small))).few in
    record { some = omega arith; few = omega arith; each = (omega arith, (short, (omega (arith, few), tt))) }

-- an effect, where there is one
small_if : (b : Bool) (effect : Effect) → IsSmallEffect effect → AllByRecursion IsSmallEffect (if b then [] else effect ∷ [])
small_if true effect h = tt
small_if false effect h = (h, tt)

-- ---- pairs

abbrev IsPairOfStrings : Pair → Type 0
IsPairOfStrings pair = IsString pair.key × IsString pair.value

short_pairs : (words : List (List ℕ)) → AreStrings words → AllByRecursion IsPairOfStrings (pairs_of words)
short_pairs [] h = tt
short_pairs (key ∷ []) h = tt
short_pairs (key ∷ value ∷ more) h = ((h.0, h.1.0), short_pairs more h.1.1)

-- ---- a deadline that is not past

later_moment : (deadline : ℤ) (moment : ℕ) → FitsSigned w64 deadline → is_past deadline moment ≡ false → (1 ≤ moment_of deadline) × (moment_of deadline < 2 ^ 63)
later_moment (pos n) moment fits later =
    let above : moment < n = grind (arith, nat_tests) in
    (omega (arith, above), omega (arith, ints, fits))
later_moment (negsuc n) moment fits later = absurd (true≢false later)

module _ {N : Type 0} (allowed : N → Bool) where
  -- ---- a command on one key

  -- the value that a key gets, where it gets one, is one that it may have
  abbrev IsChange : {B : Type 0} → (B → Value N) → Change B → Type 0
  IsChange made Change.Stays = ⊤
  IsChange made (Change.Becomes body) = IsValue allowed (made body)
  IsChange made (Change.IsSet body) = IsValue allowed (made body)
  IsChange made Change.Goes = ⊤

  -- what a command does to a key keeps the limits
  record IsSmall {B : Type 0} (made : B → Value N) (done : Done B) : Type 0 where
    change : IsChange made done.change
    effects : AllByRecursion IsSmallEffect done.effects

  change_kept : {B : Type 0} (made : B → Value N) (key : List ℕ) (change : Change B) (keys : KeysOf N) → IsKeyspace allowed keys → IsString key → IsChange made change → IsKeyspace allowed (with_change made key change keys)
  change_kept made key Change.Stays keys is short h = is
  change_kept made key (Change.Becomes body) keys is short h = changed_kept allowed keys is key (made body) short h
  change_kept made key (Change.IsSet body) keys is short h = set_kept allowed keys is key (record { value = made body; deadline = None }) short (h, tt)
  change_kept made key Change.Goes keys is short h = removed_kept allowed keys is key

  on_key_kept : {B : Type 0} (made : B → Value N) (key : List ℕ) (keys : KeysOf N) (done : Done B) → IsKeyspace allowed keys → IsString key → IsSmall made done → KeepsLimits allowed (on_key made key keys done)
  on_key_kept made key keys done is short h = record { keys = change_kept made key done.change keys is short h.change; effects = h.effects }

  -- the value that a key had, where it had one, is one that it may have
  abbrev IsHeld : Option (Value N) → Type 0
  IsHeld None = ⊤
  IsHeld (Some held) = IsValue allowed held

  held_case : (keys : KeysOf N) → IsKeyspace allowed keys → (key : List ℕ) (found : Option (Entry N)) → entry_at keys key ≡ found → IsHeld (option_map (λ entry. entry.value) found)
  held_case keys is key None at = tt
  held_case keys is key (Some entry) at = (is key entry at).1.0

  held_small : (keys : KeysOf N) → IsKeyspace allowed keys → (key : List ℕ) → IsHeld (value_at keys key)
  held_small keys is key = held_case keys is key (entry_at keys key) refl

  -- ---- on a string

  string_change : (old : Option (List ℕ)) (change : Change (List ℕ)) → string_laws.IsKept (changed change old) → IsChange value.Str change
  string_change old Change.Stays h = tt
  string_change old (Change.Becomes text) h = h
  string_change old (Change.IsSet text) h = h
  string_change old Change.Goes h = tt

  string_by : (old : Option (List ℕ)) (done : Done (List ℕ)) → string_laws.KeepsLimits old done → IsSmall value.Str done
  string_by old done h = record { change = string_change old done.change h.value; effects = h.effects }

  string_small : (cmd : StringCmd) (held : Option (Value N)) (words : List (List ℕ)) → IsHeld held → IsWithinLimits words → IsSmall value.Str (string_done cmd held words)
  string_small cmd None words held h = string_by None (string_rows.row cmd None words) (string_proofs.row_keeps cmd None words tt h)
  string_small cmd (Some (value.Str text)) words held h = string_by (Some text) (string_rows.row cmd (Some text) words) (string_proofs.row_keeps cmd (Some text) words held h)
  string_small cmd (Some (value.List items)) words held h = string_by None (string_rows.other_row cmd words) (string_proofs.other_keeps cmd words h)
  string_small cmd (Some (value.Hash fields)) words held h = string_by None (string_rows.other_row cmd words) (string_proofs.other_keeps cmd words h)
  string_small cmd (Some (value.Native native)) words held h = string_by None (string_rows.other_row cmd words) (string_proofs.other_keeps cmd words h)

  on_string_kept : (cmd : StringCmd) (keys : KeysOf N) (words : List (List ℕ)) → IsKeyspace allowed keys → IsWithinLimits words → KeepsLimits allowed (on_string cmd keys words)
  on_string_kept cmd keys words is h =
      let key = word 1 words in
      on_key_kept value.Str key keys (string_done cmd (value_at keys key) words) is (short_word 1 words h.each)
      (string_small cmd (value_at keys key) words (held_small keys is key) h)

  -- ---- on a list

  list_change : (old : Option (List (List ℕ))) (change : Change (List (List ℕ))) → list_laws.IsKept (changed change old) → IsChange value.List change
  list_change old Change.Stays h = tt
  list_change old (Change.Becomes items) h = h
  list_change old (Change.IsSet items) h = h
  list_change old Change.Goes h = tt

  list_by : (old : Option (List (List ℕ))) (done : Done (List (List ℕ))) → list_laws.KeepsLimits old done → IsSmall value.List done
  list_by old done h = record { change = list_change old done.change h.value; effects = h.effects }

  list_other : (cmd : ListCmd) (words : List (List ℕ)) → IsSmall value.List (list_rows.other_row cmd words)
  list_other cmd words =
      let nothing = (list_told.other_told cmd words).1 in
      record {
        change = subst (IsChange value.List) (sym nothing.change) tt;
        effects = subst (AllByRecursion IsSmallEffect) (sym nothing.effects) tt;
      }

  list_small : (cmd : ListCmd) (held : Option (Value N)) (words : List (List ℕ)) → MeetArity (list_commands.command_row cmd) words → IsHeld held → IsWithinLimits words → IsSmall value.List (list_done cmd held words)
  list_small cmd None words arity held h = list_by None (list_rows.row cmd None words) (list_proofs.row_keeps cmd None words arity tt h)
  list_small cmd (Some (value.List items)) words arity held h = list_by (Some items) (list_rows.row cmd (Some items) words) (list_proofs.row_keeps cmd (Some items) words arity held h)
  list_small cmd (Some (value.Str text)) words arity held h = list_other cmd words
  list_small cmd (Some (value.Hash fields)) words arity held h = list_other cmd words
  list_small cmd (Some (value.Native native)) words arity held h = list_other cmd words

  on_list_kept : (cmd : ListCmd) (keys : KeysOf N) (words : List (List ℕ)) → MeetArity (list_commands.command_row cmd) words → IsKeyspace allowed keys → IsWithinLimits words → KeepsLimits allowed (on_list cmd keys words)
  on_list_kept cmd keys words arity is h =
      let key = word 1 words in
      on_key_kept value.List key keys (list_done cmd (value_at keys key) words) is (short_word 1 words h.each)
      (list_small cmd (value_at keys key) words arity (held_small keys is key) h)

  -- ---- on a hash

  hash_change : (old : Option (List Field)) (change : Change (List Field)) → hash_laws.IsKept (changed change old) → IsChange value.Hash change
  hash_change old Change.Stays h = tt
  hash_change old (Change.Becomes fields) h = h
  hash_change old (Change.IsSet fields) h = h
  hash_change old Change.Goes h = tt

  hash_by : (old : Option (List Field)) (done : Done (List Field)) → hash_laws.KeepsLimits old done → IsSmall value.Hash done
  hash_by old done h = record { change = hash_change old done.change h.value; effects = h.effects }

  hash_other : (cmd : HashCmd) (words : List (List ℕ)) → IsSmall value.Hash (hash_rows.other_row cmd words)
  hash_other cmd words =
      let nothing = hash_told.other_nothing cmd words in
      record {
        change = subst (IsChange value.Hash) (sym nothing.change) tt;
        effects = subst (AllByRecursion IsSmallEffect) (sym nothing.effects) tt;
      }

  hash_small : (cmd : HashCmd) (held : Option (Value N)) (words : List (List ℕ)) → MeetArity (hash_commands.command_row cmd) words → IsHeld held → IsWithinLimits words → IsSmall value.Hash (hash_done cmd held words)
  hash_small cmd None words arity held h = hash_by None (hash_rows.row cmd None words) (hash_proofs.row_keeps cmd None words arity tt h)
  hash_small cmd (Some (value.Hash fields)) words arity held h = hash_by (Some fields) (hash_rows.row cmd (Some fields) words) (hash_proofs.row_keeps cmd (Some fields) words arity held h)
  hash_small cmd (Some (value.Str text)) words arity held h = hash_other cmd words
  hash_small cmd (Some (value.List items)) words arity held h = hash_other cmd words
  hash_small cmd (Some (value.Native native)) words arity held h = hash_other cmd words

  on_hash_kept : (cmd : HashCmd) (keys : KeysOf N) (words : List (List ℕ)) → MeetArity (hash_commands.command_row cmd) words → IsKeyspace allowed keys → IsWithinLimits words → KeepsLimits allowed (on_hash cmd keys words)
  on_hash_kept cmd keys words arity is h =
      let key = word 1 words in
      on_key_kept value.Hash key keys (hash_done cmd (value_at keys key) words) is (short_word 1 words h.each)
      (hash_small cmd (value_at keys key) words arity (held_small keys is key) h)

  -- ---- on several keys

  answers_kept : (said : Reply) (keys : KeysOf N) → IsKeyspace allowed keys → KeepsLimits allowed (answers said keys)
  answers_kept said keys is = record { keys = is; effects = tt }

  if_kept : (b : Bool) (run other : Run N) → (b ≡ true → KeepsLimits allowed run) → (b ≡ false → KeepsLimits allowed other) → KeepsLimits allowed (if b then run else other)
  if_kept true run other h k = h refl
  if_kept false run other h k = k refl

  first_kept : (key : List ℕ) (held : Option (Value N)) (more : Removed N) → IsKeyspace allowed more.keys → IsKeyspace allowed (goes_first key held more).keys
  first_kept key None more h = h
  first_kept key (Some held) more h = h

  all_removed : (names : List (List ℕ)) (keys : KeysOf N) → IsKeyspace allowed keys → IsKeyspace allowed (removed names keys).keys
  all_removed [] keys is = is
  all_removed (name ∷ more) keys is =
      first_kept name (value_at keys name) (removed more (without keys name)) (all_removed more (without keys name) (removed_kept allowed keys is name))

  delete_kept : (keys : KeysOf N) (words : List (List ℕ)) → IsKeyspace allowed keys → IsWithinLimits words → KeepsLimits allowed (delete keys words)
  delete_kept keys words is h =
      record {
        keys = all_removed (drop 1 words) keys is;
        effects = small_if (length (removed (drop 1 words) keys).gone == 0) (own_words (codes "DEL") words) (own_small (codes "DEL") words (omega arith) h);
      }

  moves_kept : (from to : List ℕ) (keys : KeysOf N) (words : List (List ℕ)) → IsKeyspace allowed keys → IsString to → IsWithinLimits words → KeepsLimits allowed (moves from to keys words)
  moves_kept from to keys words is short h = record { keys = moved_kept allowed keys is from to short; effects = (own_small (codes "RENAME") words (omega arith) h, tt) }

  rename_kept : (keys : KeysOf N) (words : List (List ℕ)) → IsKeyspace allowed keys → IsWithinLimits words → KeepsLimits allowed (rename keys words)
  rename_kept keys words is h =
      let from = word 1 words in
      let to = word 2 words in
      let ok : Reply = reply.Simple (codes "OK") in
      if_kept (is_there keys from) (rename_there from to keys words) (answers (refused refusal.NoSuchKey) keys)
      (λ there. if_kept (bytes_eq from to) (answers ok keys) (moves from to keys words) (λ same. answers_kept ok keys is) (λ differ. moves_kept from to keys words is (short_word 2 words h.each) h))
      (λ absent. answers_kept (refused refusal.NoSuchKey) keys is)

  pairs_kept : (pairs : List Pair) (keys : KeysOf N) → IsKeyspace allowed keys → AllByRecursion IsPairOfStrings pairs → IsKeyspace allowed (with_pairs pairs keys)
  pairs_kept [] keys is h = is
  pairs_kept (pair ∷ more) keys is h =
      pairs_kept more (with_value keys pair.key (value.Str pair.value))
      (set_kept allowed keys is pair.key (record { value = value.Str pair.value; deadline = None }) h.0.0 (h.0.1, tt)) h.1

  sets_kept : (keys : KeysOf N) (words : List (List ℕ)) → IsKeyspace allowed keys → IsWithinLimits words → KeepsLimits allowed (sets (pairs_of (drop 1 words)) keys words)
  sets_kept keys words is h =
      record {
        keys = pairs_kept (pairs_of (drop 1 words)) keys is (short_pairs (drop 1 words) (short_rest words h.each));
        effects = (own_small (codes "MSET") words (omega arith) h, tt);
      }

  set_each_kept : (keys : KeysOf N) (words : List (List ℕ)) → IsKeyspace allowed keys → IsWithinLimits words → KeepsLimits allowed (set_each keys words)
  set_each_kept keys words is h =
      if_kept (is_odd (drop 1 words)) (answers (wrong_arity (codes "MSET")) keys) (sets (pairs_of (drop 1 words)) keys words)
      (λ odd. answers_kept (wrong_arity (codes "MSET")) keys is) (λ even. sets_kept keys words is h)

  -- ---- on deadlines

  due_at_kept : (moment : ℕ) (key : List ℕ) (deadline : ℤ) (keys : KeysOf N) (found : Option (Entry N)) → IsKeyspace allowed keys → IsString key → FitsSigned w64 deadline → KeepsLimits allowed (due_at moment key deadline keys found)
  due_at_kept moment key deadline keys None is short fits = answers_kept (reply.Int (pos 0)) keys is
  due_at_kept moment key deadline keys (Some entry) is short fits =
      if_kept (is_past deadline moment) (expires_now key keys) (gets_deadline key (moment_of deadline) keys)
      (λ past. record { keys = removed_kept allowed keys is key; effects = (delete_small key short, tt) })
      (λ later. let within = later_moment deadline moment fits later in
      record { keys = due_kept allowed keys is key (Some (moment_of deadline)) within; effects = (due_small key (moment_of deadline) short within.1, tt) })

  expire_at_kept : (moment : ℕ) (key : List ℕ) (deadline : ℤ) (keys : KeysOf N) → IsKeyspace allowed keys → IsString key → FitsSigned w64 deadline → KeepsLimits allowed (expire_at moment key deadline keys)
  expire_at_kept moment key deadline keys is short fits = due_at_kept moment key deadline keys (entry_at keys key) is short fits

  after_kept : (moment : ℕ) (words : List (List ℕ)) (keys : KeysOf N) (seconds : Option ℤ) → IsKeyspace allowed keys → IsWithinLimits words → KeepsLimits allowed (expire_after moment words keys seconds)
  after_kept moment words keys None is h = answers_kept (refused refusal.NotAnInteger) keys is
  after_kept moment words keys (Some seconds) is h =
      let deadline = pos moment +ℤ seconds *ℤ pos 1000 in
      if_kept (fits_i64 deadline) (expire_at moment (word 1 words) deadline keys) (answers (invalid_expire (codes "EXPIRE")) keys)
      (λ fits. expire_at_kept moment (word 1 words) deadline keys is (short_word 1 words h.each) (is_fit deadline fits))
      (λ over. answers_kept (invalid_expire (codes "EXPIRE")) keys is)

  where_kept : (moment : ℕ) (words : List (List ℕ)) (keys : KeysOf N) (number : Option ℤ) → i64_of (word 2 words) ≡ number → IsKeyspace allowed keys → IsWithinLimits words → KeepsLimits allowed (expire_where moment words keys number)
  where_kept moment words keys None at is h = answers_kept (refused refusal.NotAnInteger) keys is
  where_kept moment words keys (Some deadline) at is h =
      expire_at_kept moment (word 1 words) deadline keys is (short_word 1 words h.each) (i64_of-only (word 2 words) deadline at).0

  persists_kept : (keys : KeysOf N) (words : List (List ℕ)) (deadline : Option ℕ) → IsKeyspace allowed keys → IsWithinLimits words → KeepsLimits allowed (persists keys words deadline)
  persists_kept keys words None is h = answers_kept (reply.Int (pos 0)) keys is
  persists_kept keys words (Some deadline) is h =
      record {
        keys = due_kept allowed keys is (word 1 words) None tt;
        effects = (own_small (codes "PERSIST") words (omega arith) h, tt);
      }

  -- ---- every command

  module _ (type_name : N → List ℕ) (moment : ℕ) where
    keys_kept : (cmd : KeyCmd) (keys : KeysOf N) (words : List (List ℕ)) → IsKeyspace allowed keys → IsWithinLimits words → KeepsLimits allowed (does type_name moment (command.Keys cmd) keys words)
    keys_kept key.Del keys words is h = delete_kept keys words is h
    keys_kept key.Exists keys words is h = record { keys = is; effects = tt }
    keys_kept key.Type keys words is h = record { keys = is; effects = tt }
    keys_kept key.Rename keys words is h = rename_kept keys words is h
    keys_kept key.DbSize keys words is h = record { keys = is; effects = tt }
    keys_kept key.MGet keys words is h = record { keys = is; effects = tt }
    keys_kept key.MSet keys words is h = set_each_kept keys words is h
    keys_kept key.Expire keys words is h = after_kept moment words keys (i64_of (word 2 words)) is h
    keys_kept key.PExpireAt keys words is h = where_kept moment words keys (i64_of (word 2 words)) refl is h
    keys_kept key.Ttl keys words is h = record { keys = is; effects = tt }
    keys_kept key.PTtl keys words is h = record { keys = is; effects = tt }
    keys_kept key.Persist keys words is h = persists_kept keys words (deadline_at keys (word 1 words)) is h

    pub command_kept : (cmd : Command) (keys : KeysOf N) (words : List (List ℕ)) → MeetArity (command_row cmd) words → IsKeyspace allowed keys → IsWithinLimits words → KeepsLimits allowed (does type_name moment cmd keys words)
    command_kept (command.Keys cmd) keys words arity is h = keys_kept cmd keys words is h
    command_kept (command.Str cmd) keys words arity is h = on_string_kept cmd keys words is h
    command_kept (command.List cmd) keys words arity is h = on_list_kept cmd keys words arity is h
    command_kept (command.Hash cmd) keys words arity is h = on_hash_kept cmd keys words arity is h
