-- Serves the clause of effects_remake_changes, and clauses hash and other of
-- refusals_change_nothing.
use Rattle.std.proofs.Common.{◌≡◌, inl, inr, ◌%◌, if◌then◌else◌, ℕ, ℤ, pos, Bool, true, false, List, [], ◌∷◌, length, drop, codes, Option, Some, None, is_some, refl, sym, ap, ◌∙◌, arith}
use Rattle.std.specs.Prelude.{◌+ℤ◌, ◌==◌}
use Rattle.std.proofs.lemmas.Bool.Decides.{nat_tests}
use Rattle.byte_text.specs.Number.{fits_i64, i64_of, number_in, number_held}
use Rattle.core_types.specs.CommandRow.{MeetArity}
use Rattle.core_types.specs.Done.{Done, answers, own_words}
use Rattle.sequences.specs.Words.{word}
use Rattle.core_types.specs.Fields.{field_value, without_fields}
use Rattle.core_types.specs.declared.field.Field.{Field}
use Rattle.core_types.specs.declared.reply.Reply.{Reply}
use Rattle.core_types.specs.declared.reply.Reply.TheVariants as reply
use Rattle.hash_cmds.specs.declared.command.HashCmd.{HashCmd}
use Rattle.hash_cmds.specs.declared.command.HashCmd.TheVariants as command
use Rattle.hash_cmds.specs.Commands.{command_row}
use Rattle.hash_cmds.specs.Words.{fields_held, hash_note, no_number, no_pairs, unless_wrong}
use Rattle.hash_cmds.specs.Setting.{set_fields, sets}
use Rattle.hash_cmds.specs.Removing.{remove_fields, removed, removes}
use Rattle.hash_cmds.specs.Counting.{add, adds, becomes_number}
use Rattle.hash_cmds.specs.Rows.{other_row, refusal, row}
use Rattle.core_types.specs.CommandLaws.{Remakes, ChangesNothing}
use Rattle.core_types.specs.Refusals.{IsRefusal}
use Rattle.hash_cmds.specs.Laws.{Acts, ChangesAtMostOnce, ChangesOnce}

-- on a key that holds these fields or is not there
abbrev pub on_hash : Option (List Field) → Acts
on_hash old cmd words = row cmd old words

answered : (acts : Acts) (key : List ℕ) (said : Reply) → ChangesAtMostOnce acts key (answers said)
answered acts key said = inl record { change = refl; effects = refl; notes = refl }

unless : (acts : Acts) (key : List ℕ) (error : Option Reply) (done : Done (List Field)) → (error ≡ None → ChangesAtMostOnce acts key done) → ChangesAtMostOnce acts key (unless_wrong error done)
unless acts key None done h = h refl
unless acts key (Some said) done h = inl record { change = refl; effects = refl; notes = refl }

-- own words are again own words
remade : (old : Option (List Field)) (cmd : HashCmd) (name first : List ℕ) (rest : List (List ℕ)) (done : Done (List Field)) → (command_row cmd).name ≡ name → (command_row cmd).key ≡ 1 → MeetArity (command_row cmd) (name ∷ rest) → row cmd old (name ∷ rest) ≡ done → ¬ IsRefusal done.reply → Remakes command_row (on_hash old) (word 1 (first ∷ rest)) done.change (name ∷ rest)
unfolding word
remade old cmd name first rest done named key arity again good =
    record {
      cmd = cmd;
      named = sym named;
      arity = arity;
      key_at = ap (λ n. word n (name ∷ rest)) key;
      again = ap (λ (d : Done (List Field)). d.change) again;
      accepted = λ (text, e). good (text, (sym (ap (λ (d : Done (List Field)). d.reply) again) ∙ e));
    }

sets_told : (old : Option (List Field)) (said : Reply) (first : List ℕ) (rest : List (List ℕ)) → ¬ IsRefusal said → MeetArity (command_row command.HSet) (codes "HSET" ∷ rest) → (length (codes "HSET" ∷ rest) % 2 == 1) ≡ false → ChangesOnce (on_hash old) (word 1 (first ∷ rest)) (sets (fields_held old) said (first ∷ rest))
unfolding word
sets_told old said first rest good arity even =
    record {
      effect = _;
      note = hash_note (codes "hset") (first ∷ rest);
      changed = λ e. cc;
      accepted = good;
      effects = refl;
      notes = refl;
      remakes = remade old command.HSet (codes "HSET") first rest (set_fields (fields_held old) (codes "HSET" ∷ rest)) refl refl arity (rw even refl) (λ (text, e). cc);
      note_class = refl;
      note_key = refl;
    }

paired : (odd : Bool) (said : Reply) → (if odd then Some said else None) ≡ None → odd ≡ false
paired true said e = cc
paired false said e = refl

four : (size : ℕ) → (size == 4) ≡ true → size ≡ 4
four size h = grind (arith, nat_tests)

absent_told : (old : Option (List Field)) (there : Bool) (first : List ℕ) (rest : List (List ℕ)) → length (first ∷ rest) ≡ 4 → ChangesAtMostOnce (on_hash old) (word 1 (first ∷ rest)) (if there then answers (reply.Int (pos 0)) else sets (fields_held old) (reply.Int (pos 1)) (first ∷ rest))
absent_told old true first rest e = answered _ _ _
absent_told old false first rest e =
    let size : length (codes "HSET" ∷ rest) ≡ 4 = e in
    inr (sets_told old (reply.Int (pos 1)) first rest (λ (text, g). cc) (rw size refl) (rw size refl))

removes_told : (old : Option (List Field)) (left : List Field) (count : ℕ) (first : List ℕ) (rest : List (List ℕ)) → MeetArity (command_row command.HDel) (codes "HDEL" ∷ rest) → row command.HDel old (codes "HDEL" ∷ rest) ≡ removes count left (codes "HDEL" ∷ rest) → ChangesOnce (on_hash old) (word 1 (first ∷ rest)) (removes count left (first ∷ rest))
unfolding word
removes_told old [] count first rest arity again =
    record {
      effect = _;
      note = hash_note (codes "hdel") (first ∷ rest);
      changed = λ e. cc;
      accepted = λ (text, e). cc;
      effects = refl;
      notes = refl;
      remakes = remade old command.HDel (codes "HDEL") first rest (removes count [] (first ∷ rest)) refl refl arity again (λ (text, e). cc);
      note_class = refl;
      note_key = refl;
    }
removes_told old (field ∷ left) count first rest arity again =
    record {
      effect = _;
      note = hash_note (codes "hdel") (first ∷ rest);
      changed = λ e. cc;
      accepted = λ (text, e). cc;
      effects = refl;
      notes = refl;
      remakes = remade old command.HDel (codes "HDEL") first rest (removes count (field ∷ left) (first ∷ rest)) refl refl arity again (λ (text, e). cc);
      note_class = refl;
      note_key = refl;
    }

removed_told : (old : Option (List Field)) (left : List Field) (count : ℕ) (none : Bool) (first : List ℕ) (rest : List (List ℕ)) → (count == 0) ≡ none → MeetArity (command_row command.HDel) (codes "HDEL" ∷ rest) → row command.HDel old (codes "HDEL" ∷ rest) ≡ removed count left (codes "HDEL" ∷ rest) → ChangesAtMostOnce (on_hash old) (word 1 (first ∷ rest)) (removed count left (first ∷ rest))
removed_told old left count true first rest e arity again = rw e (answered _ _ _)
removed_told old left count false first rest e arity again =
    rw e (inr (removes_told old left count first rest arity (again ∙ rw e refl)))

remove_told : (old : Option (List Field)) (first : List ℕ) (rest : List (List ℕ)) → MeetArity (command_row command.HDel) (first ∷ rest) → ChangesAtMostOnce (on_hash old) (word 1 (first ∷ rest)) (remove_fields (fields_held old) (first ∷ rest))
unfolding word
remove_told old first rest arity = removed_told old (without_fields (fields_held old) (drop 2 (first ∷ rest))) _ _ first rest refl arity refl

sum_told : (old : Option (List Field)) (n : ℤ) (fitting : Bool) (first : List ℕ) (rest : List (List ℕ)) → number_held (field_value (fields_held old) (word 2 (first ∷ rest))) ≡ Some n → fits_i64 (n +ℤ number_in (word 3 (first ∷ rest))) ≡ fitting → no_number (i64_of (word 3 (first ∷ rest))) ≡ None → MeetArity (command_row command.HIncrBy) (first ∷ rest) → ChangesAtMostOnce (on_hash old) (word 1 (first ∷ rest)) (adds (fields_held old) (number_in (word 3 (first ∷ rest))) (Some n) (first ∷ rest))
unfolding word number_in
sum_told old n false first rest held e good arity = rw e (answered _ _ _)
sum_told old n true first rest held e good arity =
    rw e (inr record {
      effect = own_words (codes "HINCRBY") (first ∷ rest);
      note = hash_note (codes "hincrby") (first ∷ rest);
      changed = λ g. cc;
      accepted = λ (text, g). cc;
      effects = refl;
      notes = refl;
      remakes = remade old command.HIncrBy (codes "HINCRBY") first rest (becomes_number (fields_held old) (n +ℤ number_in (word 3 (first ∷ rest))) (first ∷ rest)) refl refl arity (rw (good, held, e) refl) (λ (text, g). cc);
      note_class = refl;
      note_key = refl;
    })

added_told : (old : Option (List Field)) (held : Option ℤ) (first : List ℕ) (rest : List (List ℕ)) → number_held (field_value (fields_held old) (word 2 (first ∷ rest))) ≡ held → no_number (i64_of (word 3 (first ∷ rest))) ≡ None → MeetArity (command_row command.HIncrBy) (first ∷ rest) → ChangesAtMostOnce (on_hash old) (word 1 (first ∷ rest)) (adds (fields_held old) (number_in (word 3 (first ∷ rest))) held (first ∷ rest))
added_told old None first rest e good arity = answered _ _ _
added_told old (Some n) first rest e good arity = sum_told old n _ first rest e refl good arity

no_words : (cmd : HashCmd) → ¬ MeetArity (command_row cmd) []
no_words command.HSet h = cc
no_words command.HMSet h = cc
no_words command.HSetNx h = cc
no_words command.HGet h = cc
no_words command.HMGet h = cc
no_words command.HDel h = cc
no_words command.HLen h = cc
no_words command.HExists h = cc
no_words command.HStrLen h = cc
no_words command.HKeys h = cc
no_words command.HVals h = cc
no_words command.HGetAll h = cc
no_words command.HIncrBy h = cc

first_told : (cmd : HashCmd) (old : Option (List Field)) (first : List ℕ) (rest : List (List ℕ)) → MeetArity (command_row cmd) (first ∷ rest) → ChangesAtMostOnce (on_hash old) (word 1 (first ∷ rest)) (row cmd old (first ∷ rest))
first_told command.HSet old first rest h =
    unless (on_hash old) _ (no_pairs (codes "HSET") (first ∷ rest)) (set_fields (fields_held old) (first ∷ rest))
    (λ good. inr (sets_told old _ first rest (λ (text, e). cc) h (paired _ _ good)))
first_told command.HMSet old first rest h =
    unless (on_hash old) _ (no_pairs (codes "HMSET") (first ∷ rest)) (sets (fields_held old) (reply.Simple (codes "OK")) (first ∷ rest))
    (λ good. inr (sets_told old (reply.Simple (codes "OK")) first rest (λ (text, e). cc) h (paired _ _ good)))
first_told command.HSetNx old first rest h = absent_told old (is_some (field_value (fields_held old) (word 2 (first ∷ rest)))) first rest (four _ h)
first_told command.HDel old first rest h = remove_told old first rest h
first_told command.HIncrBy old first rest h =
    unless (on_hash old) _ (no_number (i64_of (word 3 (first ∷ rest)))) (add (fields_held old) (first ∷ rest))
    (λ good. added_told old _ first rest refl good h)
first_told command.HGet old first rest h = inl record { change = refl; effects = refl; notes = refl }
first_told command.HMGet old first rest h = inl record { change = refl; effects = refl; notes = refl }
first_told command.HLen old first rest h = inl record { change = refl; effects = refl; notes = refl }
first_told command.HExists old first rest h = inl record { change = refl; effects = refl; notes = refl }
first_told command.HStrLen old first rest h = inl record { change = refl; effects = refl; notes = refl }
first_told command.HKeys old first rest h = inl record { change = refl; effects = refl; notes = refl }
first_told command.HVals old first rest h = inl record { change = refl; effects = refl; notes = refl }
first_told command.HGetAll old first rest h = inl record { change = refl; effects = refl; notes = refl }

pub row_told : (cmd : HashCmd) (old : Option (List Field)) (words : List (List ℕ)) → MeetArity (command_row cmd) words → ChangesAtMostOnce (on_hash old) (word 1 words) (row cmd old words)
row_told cmd old [] h = absurd (no_words cmd h)
row_told cmd old (first ∷ rest) h = first_told cmd old first rest h

pub refused_nothing : (acts : Acts) (key : List ℕ) (done : Done (List Field)) → ChangesAtMostOnce acts key done → IsRefusal done.reply → ChangesNothing done
refused_nothing acts key done (inl nothing) h = nothing
refused_nothing acts key done (inr once) h = absurd (once.accepted h)

nothing : (error : Option Reply) (said : Reply) → ChangesNothing (unless_wrong error (answers said))
nothing None said = record { change = refl; effects = refl; notes = refl }
nothing (Some other) said = record { change = refl; effects = refl; notes = refl }

pub other_nothing : (cmd : HashCmd) (words : List (List ℕ)) → ChangesNothing (other_row cmd words)
other_nothing cmd words = nothing (refusal cmd words) _
