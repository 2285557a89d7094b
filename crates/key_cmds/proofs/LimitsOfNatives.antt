-- The values of modules that the keys had are those that they have after a command, and those that
-- left. Serves the clauses of natives_are_kept.
use Rattle.std.proofs.Common.{◌≡◌, ℕ, ℤ, pos, Bool, true, false, cond, List, [], ◌∷◌, ◌++◌, drop, flat_map, codes, Option, Some, None, is_some, if◌then◌else◌, refl, sym, ap, subst, ◌∙◌, append_assoc, true≢false}
use Rattle.std.specs.Prelude.{◌+ℤ◌, ◌*ℤ◌, ⊤, IfSome}
use Rattle.std.specs.declared.cmp.Ordering.{Ordering}
use Rattle.std.specs.declared.cmp.Ordering.TheVariants.{Less, Equal, Greater}
use Rattle.std.specs.Cmp.Lexicographic.{slice_cmp, bytes_decides, nat_list_cmp_total, nat_list_eq_equiv}
use Rattle.std.specs.FinMap as finite
use Rattle.std.specs.FinMap.Entries as sorted
use Rattle.std.specs.List.Sorted.{IsPermutation}
use Rattle.std.specs.Option.{option_map}
use Rattle.std.specs.Ordering.{is_eq, nat_cmp}
use Rattle.std.specs.Str.{bytes_eq}
use Rattle.std.proofs.lemmas.List.{append-nil}
use Rattle.std.proofs.lemmas.List.Sorted.{IsPermutation-refl, IsPermutation-sym, IsPermutation-trans, IsPermutation-append_comm, IsPermutation-append_left, IsPermutation-append_right}
use Rattle.std.proofs.lemmas.Option.{none-some}
use Rattle.byte_text.specs.Number.{fits_i64, i64_of}
use Rattle.core_types.specs.Done.{Change}
use Rattle.sequences.specs.Words.{word}
use Rattle.core_types.specs.Keys.{Entry, KeysOf, deadline_at, entry_at, value_at, with_due, with_entry, with_moved, without}
use Rattle.core_types.specs.Refusals.{invalid_expire, refused, wrong_arity}
use Rattle.core_types.specs.declared.refusal.Refusal.TheVariants as refusal
use Rattle.core_types.specs.declared.reply.Reply.{Reply}
use Rattle.core_types.specs.declared.reply.Reply.TheVariants as reply
use Rattle.core_types.specs.declared.value.Value.{Value}
use Rattle.core_types.specs.declared.value.Value.TheVariants as value
use Rattle.core_types.proofs.KeyLemmas.{entry_at-with_entry, entry_at-without, same_keys}
use Rattle.string_cmds.specs.Rows as string_rows
use Rattle.string_cmds.specs.declared.command.StringCmd.{StringCmd}
use Rattle.list_cmds.specs.Rows as list_rows
use Rattle.list_cmds.specs.declared.command.ListCmd.{ListCmd}
use Rattle.hash_cmds.specs.Rows as hash_rows
use Rattle.hash_cmds.specs.declared.command.HashCmd.{HashCmd}
use Rattle.key_store.specs.NextDue.{next_due}
use Rattle.key_cmds.specs.Deadlines.{due_at, expire_after, expire_at, expire_where, expired, expires_now, first_expired, gets_deadline, is_past, moment_of, persists}
use Rattle.key_cmds.specs.Laws.{KeepsNatives, StayOrLeave, natives}
use Rattle.key_cmds.specs.OneKey.{hash_done, left_by, list_done, string_done, with_change}
use Rattle.key_cmds.specs.Rows.{does}
use Rattle.key_cmds.specs.Run.{Run, answers, native_in}
use Rattle.key_cmds.specs.SeveralKeys.{Pair, Removed, goes_first, is_odd, is_there, left_by_pairs, moves, pairs_of, removed, rename, rename_there, set_each, sets, with_pairs}
use Rattle.key_cmds.specs.declared.command.Command.{Command}
use Rattle.key_cmds.specs.declared.command.Command.TheVariants as command
use Rattle.key_cmds.specs.declared.command.KeyCmd.{KeyCmd}
use Rattle.key_cmds.specs.declared.command.KeyCmd.TheVariants as key
use Rattle.key_cmds.proofs.Carrying.{OnlySets}
use Rattle.key_cmds.proofs.OneKeyOf.{changed_same, without_absent}
use Rattle.key_cmds.proofs.Others.{hash_only, list_only, string_only}

-- ---- lists in another order

exchange : {A : Type 0} (xs ys zs : List A) → IsPermutation (xs ++ (ys ++ zs)) (ys ++ (xs ++ zs))
exchange {A} xs ys zs =
    let comm : IsPermutation ((xs ++ ys) ++ zs) ((ys ++ xs) ++ zs) = IsPermutation-append_left zs (xs ++ ys) (ys ++ xs) (IsPermutation-append_comm xs ys) in
    subst (λ (l : List A). IsPermutation l (ys ++ (xs ++ zs))) (append_assoc xs ys zs)
    (subst (λ (l : List A). IsPermutation ((xs ++ ys) ++ zs) l) (append_assoc ys xs zs) comm)

-- first these leave, and of the rest others
joined : {A : Type 0} (all first rest kept left : List A) → IsPermutation all (first ++ rest) → IsPermutation rest (kept ++ left) → IsPermutation all (kept ++ (first ++ left))
joined all first rest kept left h k =
    IsPermutation-trans all (first ++ rest) (kept ++ (first ++ left)) h
    (IsPermutation-trans (first ++ rest) (first ++ (kept ++ left)) (kept ++ (first ++ left)) (IsPermutation-append_right first rest (kept ++ left) k) (exchange first kept left))

module _ {N : Type 0} where
  -- ---- the entries of a map

  abbrev native_of : List ℕ × Entry N → List N
  native_of entry = native_in (Some entry.1.value)

  -- an entry is put where its key was not
  put_native : (key : List ℕ) (new : Entry N) (entries : List (List ℕ × Entry N)) → sorted.find (slice_cmp nat_cmp) key entries ≡ None
      → IsPermutation (native_of (key, new) ++ flat_map native_of entries) (flat_map native_of (sorted.put (slice_cmp nat_cmp) key new entries))
  put_native key new [] absent = IsPermutation-refl (native_of (key, new) ++ [])
  put_native key new (e ∷ entries) absent = by (slice_cmp nat_cmp key e.0) absent (put_native key new entries)
    where
      by : (o : Ordering) → cond (is_eq o) (Some e.1) (sorted.find (slice_cmp nat_cmp) key entries) ≡ None
          → (sorted.find (slice_cmp nat_cmp) key entries ≡ None → IsPermutation (native_of (key, new) ++ flat_map native_of entries) (flat_map native_of (sorted.put (slice_cmp nat_cmp) key new entries)))
          → IsPermutation (native_of (key, new) ++ (native_of e ++ flat_map native_of entries))
          (flat_map native_of (sorted.by_order o ((key, new) ∷ e ∷ entries) ((e.0, new) ∷ entries) (e ∷ sorted.put (slice_cmp nat_cmp) key new entries)))
      by Less absent rest = IsPermutation-refl (native_of (key, new) ++ (native_of e ++ flat_map native_of entries))
      by Equal absent rest = absurd (none-some e.1 (sym absent))
      by Greater absent rest =
          IsPermutation-trans (native_of (key, new) ++ (native_of e ++ flat_map native_of entries)) (native_of e ++ (native_of (key, new) ++ flat_map native_of entries)) (native_of e ++ flat_map native_of (sorted.put (slice_cmp nat_cmp) key new entries))
          (exchange (native_of (key, new)) (native_of e) (flat_map native_of entries))
          (IsPermutation-append_right (native_of e) (native_of (key, new) ++ flat_map native_of entries) (flat_map native_of (sorted.put (slice_cmp nat_cmp) key new entries)) (rest absent))

  natives_put : (keys : KeysOf N) (key : List ℕ) (new : Entry N) → entry_at keys key ≡ None → IsPermutation (native_in (Some new.value) ++ natives keys) (natives (with_entry keys key new))
  natives_put keys key new absent =
      subst (λ (es : List (List ℕ × Entry N)). IsPermutation (native_in (Some new.value) ++ natives keys) (flat_map native_of es)) (sym (finite.entries-insert nat_list_cmp_total keys key new))
      (put_native key new (finite.entries keys) (sym (finite.get-entries keys key) ∙ absent))

  -- ---- one key

  gone : (keys : KeysOf N) (key : List ℕ) → entry_at (without keys key) key ≡ None
  gone keys key =
      entry_at-without keys key key ∙ ap (λ (b : Bool). if b then None else entry_at keys key) ((bytes_decides key key).1 refl)

  put_case : (found : Option (Entry N)) (new : Entry N) (b : Bool) → (if b then Some new else found) ≡ (if b then Some new else (if b then None else found))
  put_case found new true = refl
  put_case found new false = refl

  -- what a key had does not matter once it has another
  put_back : (keys : KeysOf N) (key : List ℕ) (new : Entry N) → with_entry keys key new ≡ with_entry (without keys key) key new
  put_back keys key new =
      same_keys (with_entry keys key new) (with_entry (without keys key) key new)
      (λ other. entry_at-with_entry keys key new other
      ∙ put_case (entry_at keys other) new (bytes_eq other key)
      ∙ ap (λ (o : Option (Entry N)). if bytes_eq other key then Some new else o) (sym (entry_at-without keys key other))
      ∙ sym (entry_at-with_entry (without keys key) key new other))

  natives_set : (keys : KeysOf N) (key : List ℕ) (new : Entry N) → IsPermutation (native_in (Some new.value) ++ natives (without keys key)) (natives (with_entry keys key new))
  natives_set keys key new =
      subst (λ (k : KeysOf N). IsPermutation (native_in (Some new.value) ++ natives (without keys key)) (natives k)) (sym (put_back keys key new))
      (natives_put (without keys key) key new (gone keys key))

  -- what a key has is among the values, and the others are those of the other keys
  natives_at : (keys : KeysOf N) (key : List ℕ) (held : Option (Value N)) → value_at keys key ≡ held → IsPermutation (natives keys) (native_in held ++ natives (without keys key))
  natives_at keys key None at =
      subst (λ (k : KeysOf N). IsPermutation (natives keys) (natives k)) (sym (without_absent keys key at)) (IsPermutation-refl (natives keys))
  natives_at keys key (Some held) at =
      IsPermutation-sym (native_in (Some held) ++ natives (without keys key)) (natives keys)
      (subst (λ (k : KeysOf N). IsPermutation (native_in (Some held) ++ natives (without keys key)) (natives k)) (changed_same keys key held at)
      (natives_set keys key (record { value = held; deadline = deadline_at keys key })))

  natives_of : (keys : KeysOf N) (key : List ℕ) → IsPermutation (natives keys) (native_in (value_at keys key) ++ natives (without keys key))
  natives_of keys key = natives_at keys key (value_at keys key) refl

  -- ---- what the words over the keys leave

  all_stay : (keys after : KeysOf N) → IsPermutation (natives keys) (natives after) → StayOrLeave keys after []
  all_stay keys after h = subst (λ (l : List N). IsPermutation (natives keys) l) (sym (append-nil (natives after))) h

  stays : (keys : KeysOf N) → StayOrLeave keys keys []
  stays keys = all_stay keys keys (IsPermutation-refl (natives keys))

  removal : (keys : KeysOf N) (key : List ℕ) → StayOrLeave keys (without keys key) (native_in (value_at keys key))
  removal keys key =
      IsPermutation-trans (natives keys) (native_in (value_at keys key) ++ natives (without keys key)) (natives (without keys key) ++ native_in (value_at keys key)) (natives_of keys key)
      (IsPermutation-append_comm (native_in (value_at keys key)) (natives (without keys key)))

  setting : (keys : KeysOf N) (key : List ℕ) (new : Entry N) → native_in (Some new.value) ≡ [] → StayOrLeave keys (with_entry keys key new) (native_in (value_at keys key))
  setting keys key new plain =
      let set = subst (λ (l : List N). IsPermutation (l ++ natives (without keys key)) (natives (with_entry keys key new))) plain (natives_set keys key new) in
      IsPermutation-trans (natives keys) (natives (without keys key) ++ native_in (value_at keys key)) (natives (with_entry keys key new) ++ native_in (value_at keys key)) (removal keys key)
      (IsPermutation-append_left (native_in (value_at keys key)) (natives (without keys key)) (natives (with_entry keys key new)) set)

  -- a key's entry gets another deadline
  due_case : (keys : KeysOf N) (key : List ℕ) (deadline : Option ℕ) (found : Option (Entry N)) → entry_at keys key ≡ found → StayOrLeave keys (with_due keys key deadline found) []
  due_case keys key deadline None at = stays keys
  due_case keys key deadline (Some entry) at =
      let new : Entry N = record entry { deadline = deadline } in
      all_stay keys (with_entry keys key new)
      (IsPermutation-trans (natives keys) (native_in (Some entry.value) ++ natives (without keys key)) (natives (with_entry keys key new))
      (natives_at keys key (Some entry.value) (ap (option_map (λ (e : Entry N). e.value)) at)) (natives_set keys key new))

  -- ---- a command on one key

  -- a value that is changed in its place was no module's
  abbrev IsPlain : {B : Type 0} → Change B → Option (Value N) → Type 0
  IsPlain Change.Stays held = ⊤
  IsPlain (Change.Becomes body) held = native_in held ≡ []
  IsPlain (Change.IsSet body) held = ⊤
  IsPlain Change.Goes held = ⊤

  plain_held : {B : Type 0} (change : Change B) (held : Option (Value N)) → native_in held ≡ [] → IsPlain change held
  plain_held Change.Stays held none = tt
  plain_held (Change.Becomes body) held none = none
  plain_held (Change.IsSet body) held none = tt
  plain_held Change.Goes held none = tt

  plain_set : {B : Type 0} (change : Change B) (held : Option (Value N)) → OnlySets change → IsPlain change held
  plain_set Change.Stays held only = tt
  plain_set (Change.Becomes body) held only = absurd only
  plain_set (Change.IsSet body) held only = tt
  plain_set Change.Goes held only = tt

  on_one : {B : Type 0} (made : B → Value N) → ((body : B) → native_in (Some (made body)) ≡ []) → (key : List ℕ) (change : Change B) (keys : KeysOf N)
      → IsPlain change (value_at keys key) → StayOrLeave keys (with_change made key change keys) (left_by change (value_at keys key))
  on_one made plain key Change.Stays keys held = stays keys
  on_one made plain key (Change.Becomes body) keys held =
      let new : Entry N = record { value = made body; deadline = deadline_at keys key } in
      subst (λ (l : List N). StayOrLeave keys (with_entry keys key new) l) held (setting keys key new (plain body))
  on_one made plain key (Change.IsSet body) keys held = setting keys key (record { value = made body; deadline = None }) (plain body)
  on_one made plain key Change.Goes keys held = removal keys key

  string_plain : (cmd : StringCmd) (held : Option (Value N)) (words : List (List ℕ)) → IsPlain (string_done cmd held words).change held
  string_plain cmd None words = plain_held (string_rows.row cmd None words).change None refl
  string_plain cmd (Some (value.Str text)) words = plain_held (string_rows.row cmd (Some text) words).change (Some (value.Str text)) refl
  string_plain cmd (Some (value.List items)) words = plain_set (string_rows.other_row cmd words).change (Some (value.List items)) (string_only cmd words)
  string_plain cmd (Some (value.Hash fields)) words = plain_set (string_rows.other_row cmd words).change (Some (value.Hash fields)) (string_only cmd words)
  string_plain cmd (Some (value.Native native)) words = plain_set (string_rows.other_row cmd words).change (Some (value.Native native)) (string_only cmd words)

  list_plain : (cmd : ListCmd) (held : Option (Value N)) (words : List (List ℕ)) → IsPlain (list_done cmd held words).change held
  list_plain cmd None words = plain_held (list_rows.row cmd None words).change None refl
  list_plain cmd (Some (value.List items)) words = plain_held (list_rows.row cmd (Some items) words).change (Some (value.List items)) refl
  list_plain cmd (Some (value.Str text)) words = plain_set (list_rows.other_row cmd words).change (Some (value.Str text)) (list_only cmd words)
  list_plain cmd (Some (value.Hash fields)) words = plain_set (list_rows.other_row cmd words).change (Some (value.Hash fields)) (list_only cmd words)
  list_plain cmd (Some (value.Native native)) words = plain_set (list_rows.other_row cmd words).change (Some (value.Native native)) (list_only cmd words)

  hash_plain : (cmd : HashCmd) (held : Option (Value N)) (words : List (List ℕ)) → IsPlain (hash_done cmd held words).change held
  hash_plain cmd None words = plain_held (hash_rows.row cmd None words).change None refl
  hash_plain cmd (Some (value.Hash fields)) words = plain_held (hash_rows.row cmd (Some fields) words).change (Some (value.Hash fields)) refl
  hash_plain cmd (Some (value.Str text)) words = plain_set (hash_rows.other_row cmd words).change (Some (value.Str text)) (hash_only cmd words)
  hash_plain cmd (Some (value.List items)) words = plain_set (hash_rows.other_row cmd words).change (Some (value.List items)) (hash_only cmd words)
  hash_plain cmd (Some (value.Native native)) words = plain_set (hash_rows.other_row cmd words).change (Some (value.Native native)) (hash_only cmd words)

  -- ---- a command on several keys

  if_keeps : (keys : KeysOf N) (b : Bool) (run other : Run N) → (b ≡ true → KeepsNatives keys run) → (b ≡ false → KeepsNatives keys other) → KeepsNatives keys (if b then run else other)
  if_keeps keys true run other h k = h refl
  if_keeps keys false run other h k = k refl

  first_case : (keys : KeysOf N) (key : List ℕ) (held : Option (Value N)) (more : Removed N) → StayOrLeave keys more.keys (native_in held ++ more.left) → StayOrLeave keys (goes_first key held more).keys (goes_first key held more).left
  first_case keys key None more h = h
  first_case keys key (Some held) more h = h

  all_removed : (names : List (List ℕ)) (keys : KeysOf N) → StayOrLeave keys (removed names keys).keys (removed names keys).left
  all_removed [] keys = stays keys
  all_removed (name ∷ more) keys =
      let rest = removed more (without keys name) in
      first_case keys name (value_at keys name) rest
      (joined (natives keys) (native_in (value_at keys name)) (natives (without keys name)) (natives rest.keys) rest.left (natives_of keys name) (all_removed more (without keys name)))

  all_set : (pairs : List Pair) (keys : KeysOf N) → StayOrLeave keys (with_pairs pairs keys) (left_by_pairs pairs keys)
  all_set [] keys = stays keys
  all_set (pair ∷ more) keys =
      let new : Entry N = record { value = value.Str pair.value; deadline = None } in
      let next = with_entry keys pair.key new in
      let first = native_in (value_at keys pair.key) in
      joined (natives keys) first (natives next) (natives (with_pairs more next)) (left_by_pairs more next)
      (IsPermutation-trans (natives keys) (natives next ++ first) (first ++ natives next) (setting keys pair.key new refl) (IsPermutation-append_comm (natives next) first))
      (all_set more next)

  set_each_keeps : (keys : KeysOf N) (words : List (List ℕ)) → KeepsNatives keys (set_each keys words)
  set_each_keeps keys words =
      if_keeps keys (is_odd (drop 1 words)) (answers (wrong_arity (codes "MSET")) keys) (sets (pairs_of (drop 1 words)) keys words)
      (λ odd. stays keys) (λ even. all_set (pairs_of (drop 1 words)) keys)

  -- ---- RENAME

  other_case : (keys : KeysOf N) (from to : List ℕ) (b : Bool) → b ≡ false → (if b then None else entry_at keys to) ≡ entry_at keys to
  other_case keys from to true is = absurd (true≢false is)
  other_case keys from to false is = refl

  -- another key has what it had
  other_value : (keys : KeysOf N) (from to : List ℕ) → bytes_eq from to ≡ false → value_at (without keys from) to ≡ value_at keys to
  other_value keys from to differ =
      ap (option_map (λ (e : Entry N). e.value))
      (entry_at-without keys from to ∙ other_case keys from to (bytes_eq to from) (nat_list_eq_equiv.symm to from ∙ differ))

  moved : (keys : KeysOf N) (from to : List ℕ) (found : Option (Entry N)) → entry_at keys from ≡ found → is_some (option_map (λ (e : Entry N). e.value) found) ≡ true → bytes_eq from to ≡ false
      → StayOrLeave keys (with_moved keys from to found) (native_in (value_at keys to))
  moved keys from to None at there differ = absurd (true≢false (sym there))
  moved keys from to (Some entry) at there differ =
      let first = native_in (Some entry.value) in
      let left = native_in (value_at keys to) in
      let mid = without keys from in
      let rest = natives (without mid to) in
      let out : IsPermutation (natives keys) (first ++ natives mid) = natives_at keys from (Some entry.value) (ap (option_map (λ (e : Entry N). e.value)) at) in
      let over : IsPermutation (natives mid) (rest ++ left) = subst (λ (o : Option (Value N)). IsPermutation (natives mid) (rest ++ native_in o)) (other_value keys from to differ) (removal mid to) in
      let both : IsPermutation (first ++ natives mid) ((first ++ rest) ++ left) =
      subst (λ (l : List N). IsPermutation (first ++ natives mid) l) (sym (append_assoc first rest left)) (IsPermutation-append_right first (natives mid) (rest ++ left) over) in
      IsPermutation-trans (natives keys) ((first ++ rest) ++ left) (natives (with_entry mid to entry) ++ left)
      (IsPermutation-trans (natives keys) (first ++ natives mid) ((first ++ rest) ++ left) out both)
      (IsPermutation-append_left left (first ++ rest) (natives (with_entry mid to entry)) (natives_set mid to entry))

  rename_keeps : (keys : KeysOf N) (words : List (List ℕ)) → KeepsNatives keys (rename keys words)
  rename_keeps keys words =
      let from = word 1 words in
      let to = word 2 words in
      let ok : Reply = reply.Simple (codes "OK") in
      if_keeps keys (is_there keys from) (rename_there from to keys words) (answers (refused refusal.NoSuchKey) keys)
      (λ there. if_keeps keys (bytes_eq from to) (answers ok keys) (moves from to keys words) (λ same. stays keys) (λ differ. moved keys from to (entry_at keys from) refl there differ))
      (λ absent. stays keys)

  -- ---- on deadlines

  due_keeps : (moment : ℕ) (key : List ℕ) (deadline : ℤ) (keys : KeysOf N) (found : Option (Entry N)) → KeepsNatives keys (due_at moment key deadline keys found)
  due_keeps moment key deadline keys None = stays keys
  due_keeps moment key deadline keys (Some entry) =
      if_keeps keys (is_past deadline moment) (expires_now key keys) (gets_deadline key (moment_of deadline) keys)
      (λ past. removal keys key) (λ later. due_case keys key (Some (moment_of deadline)) (entry_at keys key) refl)

  after_keeps : (moment : ℕ) (words : List (List ℕ)) (keys : KeysOf N) (seconds : Option ℤ) → KeepsNatives keys (expire_after moment words keys seconds)
  after_keeps moment words keys None = stays keys
  after_keeps moment words keys (Some seconds) =
      let deadline = pos moment +ℤ seconds *ℤ pos 1000 in
      if_keeps keys (fits_i64 deadline) (expire_at moment (word 1 words) deadline keys) (answers (invalid_expire (codes "EXPIRE")) keys)
      (λ fits. due_keeps moment (word 1 words) deadline keys (entry_at keys (word 1 words))) (λ over. stays keys)

  where_keeps : (moment : ℕ) (words : List (List ℕ)) (keys : KeysOf N) (number : Option ℤ) → KeepsNatives keys (expire_where moment words keys number)
  where_keeps moment words keys None = stays keys
  where_keeps moment words keys (Some deadline) = due_keeps moment (word 1 words) deadline keys (entry_at keys (word 1 words))

  persists_keeps : (keys : KeysOf N) (words : List (List ℕ)) (deadline : Option ℕ) → KeepsNatives keys (persists keys words deadline)
  persists_keeps keys words None = stays keys
  persists_keeps keys words (Some deadline) = due_case keys (word 1 words) None (entry_at keys (word 1 words)) refl

  -- ---- every command

  module _ (type_name : N → List ℕ) (moment : ℕ) where
    keys_keep : (cmd : KeyCmd) (keys : KeysOf N) (words : List (List ℕ)) → KeepsNatives keys (does type_name moment (command.Keys cmd) keys words)
    keys_keep key.Del keys words = all_removed (drop 1 words) keys
    keys_keep key.Exists keys words = stays keys
    keys_keep key.Type keys words = stays keys
    keys_keep key.Rename keys words = rename_keeps keys words
    keys_keep key.DbSize keys words = stays keys
    keys_keep key.MGet keys words = stays keys
    keys_keep key.MSet keys words = set_each_keeps keys words
    keys_keep key.Expire keys words = after_keeps moment words keys (i64_of (word 2 words))
    keys_keep key.PExpireAt keys words = where_keeps moment words keys (i64_of (word 2 words))
    keys_keep key.Ttl keys words = stays keys
    keys_keep key.PTtl keys words = stays keys
    keys_keep key.Persist keys words = persists_keeps keys words (deadline_at keys (word 1 words))

    pub command_keeps : (cmd : Command) (keys : KeysOf N) (words : List (List ℕ)) → KeepsNatives keys (does type_name moment cmd keys words)
    command_keeps (command.Keys cmd) keys words = keys_keep cmd keys words
    command_keeps (command.Str cmd) keys words =
        let held = value_at keys (word 1 words) in
        on_one value.Str (λ text. refl) (word 1 words) (string_done cmd held words).change keys (string_plain cmd held words)
    command_keeps (command.List cmd) keys words =
        let held = value_at keys (word 1 words) in
        on_one value.List (λ items. refl) (word 1 words) (list_done cmd held words).change keys (list_plain cmd held words)
    command_keeps (command.Hash cmd) keys words =
        let held = value_at keys (word 1 words) in
        on_one value.Hash (λ fields. refl) (word 1 words) (hash_done cmd held words).change keys (hash_plain cmd held words)

  -- ---- a key that is due

  expired_keeps : (keys : KeysOf N) (next : Option (List ℕ)) → IfSome (option_map (λ key. expired key keys) next) (λ gone. StayOrLeave keys gone.keys gone.left)
  expired_keeps keys None = tt
  expired_keeps keys (Some key) = removal keys key

  pub first_expired_keeps : (moment : ℕ) (keys : KeysOf N) → IfSome (first_expired keys moment) (λ gone. StayOrLeave keys gone.keys gone.left)
  first_expired_keeps moment keys = expired_keeps keys (next_due keys moment)
