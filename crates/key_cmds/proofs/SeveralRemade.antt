-- What commands on keys of any kind make once, and what makes it again. Serves the clauses of
-- effects_remake_changes and of refusals_change_nothing.
use Rattle.std.proofs.Common.{◌≡◌, ◌≢◌, inl, inr, nat_le, ℕ, ℤ, pos, negsuc, Bool, true, false, List, [], ◌∷◌, length, map, codes, Option, Some, None, if◌then◌else◌, refl, sym, ap, ◌∙◌, arith, FitsSigned}
use Rattle.std.specs.Prelude.{◌==◌, ◌+ℤ◌, ◌*ℤ◌}
use Rattle.std.specs.Int.{w64}
use Rattle.std.specs.Str.{bytes_eq}
use Rattle.std.proofs.lemmas.Bool.Decides.{nat_tests}
use Rattle.byte_text.specs.Number.{fits_i64, i64_of}
use Rattle.byte_text.proofs.Decimals.{i64_of-decimal, i64_of-only, is_fit}
use Rattle.core_types.specs.CommandRow.{MeetArity}
use Rattle.core_types.specs.Done.{own_words}
use Rattle.sequences.specs.Words.{word}
use Rattle.core_types.specs.Keys.{Entry, KeysOf, deadline_at, entry_at, value_at, without}
use Rattle.core_types.specs.declared.reply.Reply.{Reply}
use Rattle.core_types.specs.declared.value.Value.{Value}
use Rattle.key_cmds.specs.declared.command.Command.TheVariants as command
use Rattle.key_cmds.specs.declared.command.KeyCmd.{KeyCmd}
use Rattle.key_cmds.specs.declared.command.KeyCmd.TheVariants as key_command
use Rattle.key_cmds.specs.Commands.{key_row}
use Rattle.key_cmds.specs.Deadlines.{deadline_effect, delete_effect, due_at, expire_after, expire_at, expire_when, expire_where, expires_now, gets_deadline, persist, persists}
use Rattle.key_cmds.specs.Laws.{ChangesAtMostOnce, ChangesNothing, ChangesOnce}
use Rattle.core_types.specs.Refusals.{IsRefusal}
use Rattle.key_cmds.specs.Rows.{on_keys}
use Rattle.key_cmds.specs.Run.{Run, answers}
use Rattle.key_cmds.specs.SeveralKeys.{Removed, deletes, generic_note, goes_first, is_odd, is_there, moves, pairs_of, removed, rename, rename_there, set_each, sets}
use Rattle.key_cmds.proofs.OneKeyOf.{without_absent}
use Rattle.key_cmds.proofs.Removing.{removed_keys}

is_none : (count : ℕ) → (count == 0) ≡ true → count ≡ 0
is_none count test = grind (arith, nat_tests)

not_none : {B : Type 0} (f : List ℕ → B) (gone : List (List ℕ)) → (length gone == 0) ≡ false → map f gone ≢ []
not_none f [] test e = cc
not_none f (key ∷ gone) test e = cc

-- a deadline that is not past at some moment is not past at moment 0
after_none : (deadline moment : ℕ) → nat_le deadline moment ≡ false → nat_le deadline 0 ≡ false
after_none deadline moment later = grind (arith, nat_tests)

unmet : false ≡ true → ⊥
unmet e = cc

writing_reads : true ≡ false → ⊥
writing_reads e = cc

-- no arity is met by no words
no_words : (cmd : KeyCmd) → ¬ MeetArity (key_row cmd) []
no_words key_command.Del arity = cc
no_words _ arity = cc

module _ {N : Type 0} where
  -- ---- DEL

  gone_case : (name : List ℕ) (held : Option (Value N)) (after : Removed N) (keys : KeysOf N)
      → (length after.gone ≡ 0 → held ≡ None → after ≡ record { keys = keys; gone = []; left = [] })
      → length (goes_first name held after).gone ≡ 0 → goes_first name held after ≡ record { keys = keys; gone = []; left = [] }
  gone_case name None after keys rest none = rest none refl
  gone_case name (Some held) after keys rest none = absurd (omega (arith, none))

  -- where no key went, the keys are as they were
  none_gone : (names : List (List ℕ)) (keys : KeysOf N) → length (removed names keys).gone ≡ 0 → removed names keys ≡ record { keys = keys; gone = []; left = [] }
  none_gone [] keys none = refl
  none_gone (name ∷ more) keys none =
      gone_case name (value_at keys name) (removed more (without keys name)) keys
      (λ few absent. none_gone more (without keys name) few
      ∙ ap (λ (k : KeysOf N). record { keys = k; gone = []; left = [] }) (without_absent keys name absent)) none

  module _ (type_name : N → List ℕ) where
    answered : (said : Reply) (keys : KeysOf N) → ChangesAtMostOnce type_name keys (answers said keys)
    answered said keys = inl record { same = refl; effects = refl; notes = refl; left = refl }

    if_told : (keys : KeysOf N) (test : Bool) (run other : Run N) → (test ≡ true → ChangesAtMostOnce type_name keys run) → (test ≡ false → ChangesAtMostOnce type_name keys other)
        → ChangesAtMostOnce type_name keys (if test then run else other)
    if_told keys true run other h k = h refl
    if_told keys false run other h k = k refl

    delete_case : (keys : KeysOf N) (first : List ℕ) (names : List (List ℕ)) (none : Bool) → (length (removed names keys).gone == 0) ≡ none → MeetArity (key_row key_command.Del) (first ∷ names)
        → ChangesAtMostOnce type_name keys (deletes (removed names keys) (first ∷ names))
    unfolding word
    delete_case keys first names true test arity =
        let none = none_gone names keys (is_none (length (removed names keys).gone) test) in
        inl record {
          same = ap (λ (after : Removed N). after.keys) none;
          effects = rw test refl;
          notes = ap (λ (after : Removed N). (deletes after (first ∷ names)).notes) none;
          left = ap (λ (after : Removed N). after.left) none;
        }
    delete_case keys first names false test arity =
        inr record {
          effect = own_words (codes "DEL") (first ∷ names);
          effects = rw test refl;
          remakes = record {
            cmd = command.Keys key_command.Del;
            named = refl;
            writes = refl;
            arity = arity;
            again = refl;
            accepted = λ (text, e). cc;
          };
          notes = not_none (generic_note (codes "del")) (removed names keys).gone test;
          accepted = λ (text, e). cc;
        }

    -- ---- RENAME

    rename_told : (keys : KeysOf N) (first : List ℕ) (rest : List (List ℕ)) → MeetArity (key_row key_command.Rename) (first ∷ rest) → ChangesAtMostOnce type_name keys (rename keys (first ∷ rest))
    unfolding word
    rename_told keys first rest arity =
        let words = first ∷ rest in
        if_told keys (is_there keys (word 1 words)) (rename_there (word 1 words) (word 2 words) keys words) _
        (λ there. if_told keys (bytes_eq (word 1 words) (word 2 words)) _ (moves (word 1 words) (word 2 words) keys words)
        (λ same. answered _ keys)
        (λ differs.
        let again : rename keys (codes "RENAME" ∷ rest) ≡ moves (word 1 words) (word 2 words) keys (codes "RENAME" ∷ rest) = rw (there, differs) refl in
        inr record {
          effect = own_words (codes "RENAME") words;
          effects = refl;
          remakes = record {
            cmd = command.Keys key_command.Rename;
            named = refl;
            writes = refl;
            arity = arity;
            again = ap (λ (run : Run N). run.keys) again;
            accepted = λ (text, e). let f = sym (ap (λ (run : Run N). run.reply) again) ∙ e in cc;
          };
          notes = λ e. cc;
          accepted = λ (text, e). cc;
        }))
        (λ absent. answered _ keys)

    -- ---- MSET

    set_each_told : (keys : KeysOf N) (first : List ℕ) (rest : List (List ℕ)) → MeetArity (key_row key_command.MSet) (first ∷ rest) → ChangesAtMostOnce type_name keys (set_each keys (first ∷ rest))
    unfolding word
    set_each_told keys first [] arity = absurd (unmet arity)
    set_each_told keys first (key ∷ []) arity = absurd (unmet arity)
    set_each_told keys first (key ∷ value ∷ more) arity =
        let words = key ∷ value ∷ more in
        if_told keys (is_odd words) _ (sets (pairs_of words) keys (first ∷ words))
        (λ odd. answered _ keys)
        (λ even.
        let again : set_each keys (codes "MSET" ∷ words) ≡ sets (pairs_of words) keys (codes "MSET" ∷ words) = rw even refl in
        inr record {
          effect = own_words (codes "MSET") (first ∷ words);
          effects = refl;
          remakes = record {
            cmd = command.Keys key_command.MSet;
            named = refl;
            writes = refl;
            arity = arity;
            again = ap (λ (run : Run N). run.keys) again;
            accepted = λ (text, e). let f = sym (ap (λ (run : Run N). run.reply) again) ∙ e in cc;
          };
          notes = λ e. cc;
          accepted = λ (text, e). cc;
        })

    -- ---- PERSIST

    persist_case : (keys : KeysOf N) (first : List ℕ) (rest : List (List ℕ)) (deadline : Option ℕ) → deadline_at keys (word 1 (first ∷ rest)) ≡ deadline → MeetArity (key_row key_command.Persist) (first ∷ rest)
        → ChangesAtMostOnce type_name keys (persists keys (first ∷ rest) deadline)
    unfolding word
    persist_case keys first rest None at arity = answered _ keys
    persist_case keys first rest (Some deadline) at arity =
        let again : persist keys (codes "PERSIST" ∷ rest) ≡ persists keys (codes "PERSIST" ∷ rest) (Some deadline) =
        ap (persists keys (codes "PERSIST" ∷ rest)) at in
        inr record {
          effect = own_words (codes "PERSIST") (first ∷ rest);
          effects = refl;
          remakes = record {
            cmd = command.Keys key_command.Persist;
            named = refl;
            writes = refl;
            arity = arity;
            again = ap (λ (run : Run N). run.keys) again;
            accepted = λ (text, e). let f = sym (ap (λ (run : Run N). run.reply) again) ∙ e in cc;
          };
          notes = λ e. cc;
          accepted = λ (text, e). cc;
        }

    -- ---- EXPIRE and PEXPIREAT

    -- DEL makes it again that a key goes,
    gone_once : (keys : KeysOf N) (key : List ℕ) → ChangesOnce type_name keys (expires_now key keys)
    unfolding word
    gone_once keys key =
        record {
          effect = delete_effect key;
          effects = refl;
          remakes = record {
            cmd = command.Keys key_command.Del;
            named = refl;
            writes = refl;
            arity = refl;
            again = removed_keys key [] keys;
            accepted = λ (text, e). cc;
          };
          notes = λ e. cc;
          accepted = λ (text, e). cc;
        }

    due_again : (keys : KeysOf N) (key : List ℕ) (entry : Entry N) (deadline : ℕ) → entry_at keys key ≡ Some entry → FitsSigned w64 (pos deadline) → nat_le deadline 0 ≡ false
        → expire_when 0 keys (deadline_effect key deadline).words ≡ gets_deadline key deadline keys
    unfolding word
    due_again keys key entry deadline at fits later =
        let words = (deadline_effect key deadline).words in
        ap (expire_where 0 words keys) (i64_of-decimal (pos deadline) fits) ∙ ap (due_at 0 key (pos deadline) keys) at
        ∙ ap (λ (past : Bool). if past then expires_now key keys else gets_deadline key deadline keys) later

    -- and PEXPIREAT that it gets a deadline
    due_once : (keys : KeysOf N) (key : List ℕ) (entry : Entry N) (deadline : ℕ) → entry_at keys key ≡ Some entry → FitsSigned w64 (pos deadline) → nat_le deadline 0 ≡ false
        → ChangesOnce type_name keys (gets_deadline key deadline keys)
    unfolding word
    due_once keys key entry deadline at fits later =
        let again = due_again keys key entry deadline at fits later in
        record {
          effect = deadline_effect key deadline;
          effects = refl;
          remakes = record {
            cmd = command.Keys key_command.PExpireAt;
            named = refl;
            writes = refl;
            arity = refl;
            again = ap (λ (run : Run N). run.keys) again;
            accepted = λ (text, e). let f = sym (ap (λ (run : Run N). run.reply) again) ∙ e in cc;
          };
          notes = λ e. cc;
          accepted = λ (text, e). cc;
        }

    due_told : (moment : ℕ) (key : List ℕ) (deadline : ℤ) (keys : KeysOf N) (found : Option (Entry N)) → entry_at keys key ≡ found → FitsSigned w64 deadline
        → ChangesAtMostOnce type_name keys (due_at moment key deadline keys found)
    due_told moment key deadline keys None at fits = answered _ keys
    due_told moment key (pos deadline) keys (Some entry) at fits =
        if_told keys (nat_le deadline moment) (expires_now key keys) (gets_deadline key deadline keys)
        (λ past. inr (gone_once keys key))
        (λ later. inr (due_once keys key entry deadline at fits (after_none deadline moment later)))
    due_told moment key (negsuc below) keys (Some entry) at fits = inr (gone_once keys key)

    expire_at_told : (moment : ℕ) (key : List ℕ) (deadline : ℤ) (keys : KeysOf N) → FitsSigned w64 deadline → ChangesAtMostOnce type_name keys (expire_at moment key deadline keys)
    expire_at_told moment key deadline keys fits = due_told moment key deadline keys (entry_at keys key) refl fits

    expire_case : (moment : ℕ) (words : List (List ℕ)) (keys : KeysOf N) (seconds : Option ℤ) → ChangesAtMostOnce type_name keys (expire_after moment words keys seconds)
    expire_case moment words keys None = answered _ keys
    expire_case moment words keys (Some seconds) =
        let deadline = pos moment +ℤ seconds *ℤ pos 1000 in
        if_told keys (fits_i64 deadline) (expire_at moment (word 1 words) deadline keys) _
        (λ fits. expire_at_told moment (word 1 words) deadline keys (is_fit deadline fits))
        (λ wide. answered _ keys)

    expire_when_case : (moment : ℕ) (words : List (List ℕ)) (keys : KeysOf N) (deadline : Option ℤ) → i64_of (word 2 words) ≡ deadline → ChangesAtMostOnce type_name keys (expire_where moment words keys deadline)
    expire_when_case moment words keys None read = answered _ keys
    expire_when_case moment words keys (Some deadline) read =
        expire_at_told moment (word 1 words) deadline keys (i64_of-only (word 2 words) deadline read).0

    -- ---- a command

    keys_told : (moment : ℕ) (cmd : KeyCmd) (keys : KeysOf N) (first : List ℕ) (rest : List (List ℕ)) → MeetArity (key_row cmd) (first ∷ rest) → ChangesAtMostOnce type_name keys (on_keys type_name moment cmd keys (first ∷ rest))
    keys_told moment key_command.Del keys first rest arity = delete_case keys first rest _ refl arity
    keys_told moment key_command.Exists keys first rest arity = answered _ keys
    keys_told moment key_command.Type keys first rest arity = answered _ keys
    keys_told moment key_command.Rename keys first rest arity = rename_told keys first rest arity
    keys_told moment key_command.DbSize keys first rest arity = answered _ keys
    keys_told moment key_command.MGet keys first rest arity = answered _ keys
    keys_told moment key_command.MSet keys first rest arity = set_each_told keys first rest arity
    keys_told moment key_command.Expire keys first rest arity = expire_case moment (first ∷ rest) keys (i64_of (word 2 (first ∷ rest)))
    keys_told moment key_command.PExpireAt keys first rest arity = expire_when_case moment (first ∷ rest) keys (i64_of (word 2 (first ∷ rest))) refl
    keys_told moment key_command.Ttl keys first rest arity = answered _ keys
    keys_told moment key_command.PTtl keys first rest arity = answered _ keys
    keys_told moment key_command.Persist keys first rest arity = persist_case keys first rest (deadline_at keys (word 1 (first ∷ rest))) refl arity

    pub keys_remade : (moment : ℕ) (cmd : KeyCmd) (keys : KeysOf N) (words : List (List ℕ)) → MeetArity (key_row cmd) words → ChangesAtMostOnce type_name keys (on_keys type_name moment cmd keys words)
    keys_remade moment cmd keys [] arity = absurd (no_words cmd arity)
    keys_remade moment cmd keys (first ∷ rest) arity = keys_told moment cmd keys first rest arity

    pub keys_read : (moment : ℕ) (cmd : KeyCmd) (keys : KeysOf N) (words : List (List ℕ)) → (key_row cmd).writes ≡ false → cmd ≢ key_command.Expire → ChangesNothing keys (on_keys type_name moment cmd keys words)
    keys_read moment key_command.Exists keys words reads other = record { same = refl; effects = refl; notes = refl; left = refl }
    keys_read moment key_command.Type keys words reads other = record { same = refl; effects = refl; notes = refl; left = refl }
    keys_read moment key_command.DbSize keys words reads other = record { same = refl; effects = refl; notes = refl; left = refl }
    keys_read moment key_command.MGet keys words reads other = record { same = refl; effects = refl; notes = refl; left = refl }
    keys_read moment key_command.Ttl keys words reads other = record { same = refl; effects = refl; notes = refl; left = refl }
    keys_read moment key_command.PTtl keys words reads other = record { same = refl; effects = refl; notes = refl; left = refl }
    keys_read moment key_command.Expire keys words reads other = absurd (other refl)
    keys_read moment _ keys words reads other = absurd (writing_reads reads)

    pub refused_nothing : (keys : KeysOf N) (run : Run N) → ChangesAtMostOnce type_name keys run → IsRefusal run.reply → ChangesNothing keys run
    refused_nothing keys run (inl nothing) refused = nothing
    refused_nothing keys run (inr once) refused = absurd (once.accepted refused)
