-- Serves the clauses of effects_remake_changes, and clause string of refusals_change_nothing.
use Rattle.std.proofs.Common.{◌≡◌, inl, inr, nat_lt, if◌then◌else◌, ℕ, ℤ, pos, negsuc, neg_ℤ, Bool, true, false, List, [], ◌∷◌, length, drop, codes, Option, Some, None, is_some, refl, sym, ap, ◌∙◌, ◌++◌, ◌+◌}
use Rattle.std.specs.Prelude.{◌+ℤ◌, ◌==◌}
use Rattle.std.specs.Fmt.{signed_decimal}
use Rattle.byte_text.specs.Number.{fits_i64, i64_of, number_in, number_held}
use Rattle.byte_text.proofs.Decimals.{is_fit, i64_of-decimal}
use Rattle.core_types.specs.CommandRow.{MeetArity}
use Rattle.core_types.specs.Done.{Done, answers, unless_refused}
use Rattle.sequences.specs.Words.{word}
use Rattle.core_types.specs.Keyspace.{longest}
use Rattle.core_types.specs.declared.refusal.Refusal.{Refusal}
use Rattle.core_types.specs.declared.reply.Reply.{Reply}
use Rattle.core_types.specs.declared.reply.Reply.TheVariants as reply
use Rattle.string_cmds.specs.declared.command.StringCmd.{StringCmd}
use Rattle.string_cmds.specs.declared.command.StringCmd.TheVariants as command
use Rattle.string_cmds.specs.declared.setting.Condition.{Condition}
use Rattle.string_cmds.specs.Commands.{command_row}
use Rattle.string_cmds.specs.Words.{held_bytes, no_offset, offset_of}
use Rattle.core_types.specs.Answers.{bulk_or_null}
use Rattle.string_cmds.specs.Setting.{condition_of, no_condition, may_set, set_effect, set_if_absent, set_where, sets}
use Rattle.string_cmds.specs.Writing.{append, append_to, laid_over, lay_over, set_range, within_limit, writes}
use Rattle.string_cmds.specs.Counting.{add_effect, adds, becomes_number}
use Rattle.string_cmds.specs.Rows.{other_row, row}
use Rattle.core_types.specs.CommandLaws.{ChangesNothing}
use Rattle.core_types.specs.Refusals.{IsRefusal}
use Rattle.string_cmds.specs.Laws.{Acts, ChangesAtMostOnce, ChangesOnce}

-- on a key that holds a string or is not there
abbrev pub on_string : Option (List ℕ) → Acts
on_string old cmd words = row cmd old words

pub answered : (acts : Acts) (key : List ℕ) (said : Reply) → ChangesAtMostOnce acts key (answers said)
answered acts key said = inl record { change = refl; effects = refl; notes = refl }

pub unless : (acts : Acts) (key : List ℕ) (refused : Option Refusal) (done : Done (List ℕ)) → (refused ≡ None → ChangesAtMostOnce acts key done) → ChangesAtMostOnce acts key (unless_refused refused done)
unless acts key None done h = h refl
unless acts key (Some why) done h = inl record { change = refl; effects = refl; notes = refl }

-- SET without a further word sets
abbrev pub Sets : Acts → Type 0
Sets acts = (key value : List ℕ) → acts command.Set (codes "SET" ∷ key ∷ value ∷ []) ≡ sets (reply.Simple (codes "OK")) (codes "SET" ∷ key ∷ value ∷ [])

pub set_again : (acts : Acts) (said : Reply) (words : List (List ℕ)) → Sets acts → ¬ IsRefusal said → ChangesOnce acts (word 1 words) (sets said words)
unfolding word
set_again acts said words h good =
    let again = h (word 1 words) (word 2 words) in
    record {
      effect = set_effect words;
      note = _;
      changed = λ e. cc;
      accepted = good;
      effects = refl;
      notes = refl;
      remakes = record {
        cmd = command.Set;
        named = refl;
        arity = refl;
        key_at = refl;
        again = ap (λ (d : Done (List ℕ)). d.change) again;
        accepted = λ (text, e). let f = sym (ap (λ (d : Done (List ℕ)). d.reply) again) ∙ e in cc;
      };
      note_class = refl;
      note_key = refl;
    }

pub set_on_string : (old : Option (List ℕ)) → Sets (on_string old)
unfolding word
set_on_string old key value = refl

pub set_on_other : Sets other_row
unfolding word
set_on_other key value = refl

allowed_told : (acts : Acts) (b : Bool) (words : List (List ℕ)) → Sets acts → ChangesAtMostOnce acts (word 1 words) (if b then sets (reply.Simple (codes "OK")) words else answers reply.Null)
allowed_told acts true words h = inr (set_again acts (reply.Simple (codes "OK")) words h (λ (text, e). cc))
allowed_told acts false words h = answered acts (word 1 words) reply.Null

pub set_where_told : (acts : Acts) (asked : Option Condition) (there : Bool) (words : List (List ℕ)) → Sets acts → ChangesAtMostOnce acts (word 1 words) (set_where asked there words)
set_where_told acts asked there words h = allowed_told acts (may_set asked there) words h

pub set_if_absent_told : (acts : Acts) (there : Bool) (words : List (List ℕ)) → Sets acts → ChangesAtMostOnce acts (word 1 words) (set_if_absent there words)
set_if_absent_told acts true words h = answered acts (word 1 words) (reply.Int (pos 0))
set_if_absent_told acts false words h = inr (set_again acts (reply.Int (pos 1)) words h (λ (text, e). cc))

no_bulk_error : (old : Option (List ℕ)) → ¬ IsRefusal (bulk_or_null old)
no_bulk_error None (text, e) = cc
no_bulk_error (Some bytes) (text, e) = cc

-- own words are again own words
write_again : (acts : Acts) (cmd : StringCmd) (bytes name event first : List ℕ) (rest : List (List ℕ)) → (command_row cmd).name ≡ name → (command_row cmd).key ≡ 1 → MeetArity (command_row cmd) (name ∷ rest) → acts cmd (name ∷ rest) ≡ writes bytes name event (name ∷ rest) → ChangesOnce acts (word 1 (first ∷ rest)) (writes bytes name event (first ∷ rest))
unfolding word
write_again acts cmd bytes name event first rest named key arity again =
    record {
      effect = _;
      note = _;
      changed = λ e. cc;
      accepted = λ (text, e). cc;
      effects = refl;
      notes = refl;
      remakes = record {
        cmd = cmd;
        named = sym named;
        arity = arity;
        key_at = ap (λ n. word n (name ∷ rest)) key;
        again = ap (λ (d : Done (List ℕ)). d.change) again;
        accepted = λ (text, e). let f = sym (ap (λ (d : Done (List ℕ)). d.reply) again) ∙ e in cc;
      };
      note_class = refl;
      note_key = refl;
    }

-- refused where the string is too long, and else written
limit_told : (acts : Acts) (key : List ℕ) (size : ℕ) (done : Done (List ℕ)) (b : Bool) → nat_lt longest size ≡ b → (b ≡ false → ChangesOnce acts key done) → ChangesAtMostOnce acts key (within_limit size done)
limit_told acts key size done true e h = rw e (inl record { change = refl; effects = refl; notes = refl })
limit_told acts key size done false e h = rw e (inr (h refl))

append_to_told : (acts : Acts) (held first : List ℕ) (rest : List (List ℕ)) → MeetArity (command_row command.Append) (first ∷ rest) → acts command.Append (codes "APPEND" ∷ rest) ≡ append_to held (codes "APPEND" ∷ rest) → ChangesAtMostOnce acts (word 1 (first ∷ rest)) (append_to held (first ∷ rest))
unfolding word
append_to_told acts held first rest arity h =
    let piece = word 2 (first ∷ rest) in
    let size = length held + length piece in
    limit_told acts _ size _ (nat_lt longest size) refl
    (λ short. write_again acts command.Append (held ++ piece) (codes "APPEND") (codes "append") first rest refl refl arity (h ∙ rw short refl))

append_some_told : (held first : List ℕ) (rest : List (List ℕ)) (b : Bool) → MeetArity (command_row command.Append) (first ∷ rest) → (length (word 2 (first ∷ rest)) == 0) ≡ b → ChangesAtMostOnce (on_string (Some held)) (word 1 (first ∷ rest)) (append (Some held) (first ∷ rest))
unfolding word
append_some_told held first rest true arity e = rw e (answered _ _ _)
append_some_told held first rest false arity e = rw e (append_to_told (on_string (Some held)) held first rest arity (rw e refl))

pub append_told : (old : Option (List ℕ)) (first : List ℕ) (rest : List (List ℕ)) → MeetArity (command_row command.Append) (first ∷ rest) → ChangesAtMostOnce (on_string old) (word 1 (first ∷ rest)) (append old (first ∷ rest))
unfolding word
append_told None first rest arity = append_to_told (on_string None) [] first rest arity refl
append_told (Some held) first rest arity = append_some_told held first rest _ arity refl

lay_over_told : (acts : Acts) (held first : List ℕ) (rest : List (List ℕ)) → MeetArity (command_row command.SetRange) (first ∷ rest) → acts command.SetRange (codes "SETRANGE" ∷ rest) ≡ lay_over held (offset_of (number_in (word 2 (codes "SETRANGE" ∷ rest)))) (codes "SETRANGE" ∷ rest) → ChangesAtMostOnce acts (word 1 (first ∷ rest)) (lay_over held (offset_of (number_in (word 2 (first ∷ rest)))) (first ∷ rest))
unfolding word number_in
lay_over_told acts held first rest arity h =
    let piece = word 3 (first ∷ rest) in
    let start = offset_of (number_in (word 2 (first ∷ rest))) in
    let size = start + length piece in
    limit_told acts _ size _ (nat_lt longest size) refl
    (λ short. write_again acts command.SetRange (laid_over held start piece) (codes "SETRANGE") (codes "setrange") first rest refl refl arity (h ∙ rw short refl))

range_told : (old : Option (List ℕ)) (first : List ℕ) (rest : List (List ℕ)) (b : Bool) → MeetArity (command_row command.SetRange) (first ∷ rest) → no_offset (i64_of (word 2 (first ∷ rest))) ≡ None → (length (word 3 (first ∷ rest)) == 0) ≡ b → ChangesAtMostOnce (on_string old) (word 1 (first ∷ rest)) (set_range (held_bytes old) (first ∷ rest))
unfolding word number_in
range_told old first rest true arity good e = rw e (answered _ _ _)
range_told old first rest false arity good e = rw e (lay_over_told (on_string old) (held_bytes old) first rest arity (rw (good, e) refl))

pub set_range_told : (old : Option (List ℕ)) (first : List ℕ) (rest : List (List ℕ)) → MeetArity (command_row command.SetRange) (first ∷ rest) → no_offset (i64_of (word 2 (first ∷ rest))) ≡ None → ChangesAtMostOnce (on_string old) (word 1 (first ∷ rest)) (set_range (held_bytes old) (first ∷ rest))
set_range_told old first rest arity good = range_told old first rest _ arity good refl

-- INCRBY with the amount of the effect adds the amount
add_again : (old : Option (List ℕ)) (amount : ℤ) (key : List ℕ) → fits_i64 amount ≡ true → row command.IncrBy old (codes "INCRBY" ∷ key ∷ signed_decimal amount ∷ []) ≡ adds amount (number_held old) (codes "INCRBY" ∷ key ∷ signed_decimal amount ∷ [])
unfolding word number_in
add_again old amount key e = rw (i64_of-decimal amount (is_fit amount e)) refl

sum_again : (old : Option (List ℕ)) (amount n : ℤ) (words : List (List ℕ)) → number_held old ≡ Some n → fits_i64 amount ≡ true → fits_i64 (n +ℤ amount) ≡ true → ChangesOnce (on_string old) (word 1 words) (becomes_number (n +ℤ amount) amount words)
unfolding word
sum_again old amount n words held e f =
    let key = word 1 words in
    let again : row command.IncrBy old (codes "INCRBY" ∷ key ∷ signed_decimal amount ∷ []) ≡ becomes_number (n +ℤ amount) amount (codes "INCRBY" ∷ key ∷ signed_decimal amount ∷ []) =
    add_again old amount key e ∙ rw (held, e, f) refl in
    record {
      effect = add_effect amount words;
      note = _;
      changed = λ g. cc;
      accepted = λ (text, g). cc;
      effects = refl;
      notes = refl;
      remakes = record {
        cmd = command.IncrBy;
        named = refl;
        arity = refl;
        key_at = refl;
        again = ap (λ (d : Done (List ℕ)). d.change) again;
        accepted = λ (text, g). let k = sym (ap (λ (d : Done (List ℕ)). d.reply) again) ∙ g in cc;
      };
      note_class = refl;
      note_key = refl;
    }

sum_told : (old : Option (List ℕ)) (amount n : ℤ) (words : List (List ℕ)) (a b : Bool) → number_held old ≡ Some n → fits_i64 amount ≡ a → fits_i64 (n +ℤ amount) ≡ b → ChangesAtMostOnce (on_string old) (word 1 words) (adds amount (Some n) words)
sum_told old amount n words true true held e f = rw e (rw f (inr (sum_again old amount n words held e f)))
sum_told old amount n words true false held e f = rw e (rw f (answered _ _ _))
sum_told old amount n words false b held e f = rw e (answered _ _ _)

added_told : (old : Option (List ℕ)) (amount : ℤ) (words : List (List ℕ)) (held : Option ℤ) → number_held old ≡ held → ChangesAtMostOnce (on_string old) (word 1 words) (adds amount held words)
added_told old amount words None e = answered _ _ _
added_told old amount words (Some n) e = sum_told old amount n words _ _ e refl refl

pub adds_told : (old : Option (List ℕ)) (amount : ℤ) (words : List (List ℕ)) → ChangesAtMostOnce (on_string old) (word 1 words) (adds amount (number_held old) words)
adds_told old amount words = added_told old amount words (number_held old) refl

-- no arity is met by no words
no_words : (cmd : StringCmd) → ¬ MeetArity (command_row cmd) []
no_words command.Get h = cc
no_words command.Set h = cc
no_words command.SetNx h = cc
no_words command.GetSet h = cc
no_words command.Append h = cc
no_words command.StrLen h = cc
no_words command.GetRange h = cc
no_words command.SetRange h = cc
no_words command.Incr h = cc
no_words command.Decr h = cc
no_words command.IncrBy h = cc
no_words command.DecrBy h = cc

first_told : (cmd : StringCmd) (old : Option (List ℕ)) (first : List ℕ) (rest : List (List ℕ)) → MeetArity (command_row cmd) (first ∷ rest) → ChangesAtMostOnce (on_string old) (word 1 (first ∷ rest)) (row cmd old (first ∷ rest))
first_told command.Get old first rest h = answered _ _ _
first_told command.Set old first rest h =
    let asked = condition_of (drop 3 (first ∷ rest)) in
    unless (on_string old) _ (no_condition asked) (set_where asked (is_some old) (first ∷ rest))
    (λ good. set_where_told (on_string old) asked (is_some old) (first ∷ rest) (set_on_string old))
first_told command.SetNx old first rest h = set_if_absent_told (on_string old) (is_some old) (first ∷ rest) (set_on_string old)
first_told command.GetSet old first rest h = inr (set_again (on_string old) (bulk_or_null old) (first ∷ rest) (set_on_string old) (no_bulk_error old))
first_told command.Append old first rest h = append_told old first rest h
first_told command.StrLen old first rest h = answered _ _ _
first_told command.GetRange old first rest h = unless _ _ _ _ (λ good. answered _ _ _)
first_told command.SetRange old first rest h = unless _ _ _ _ (λ good. set_range_told old first rest h good)
first_told command.Incr old first rest h = adds_told old (pos 1) (first ∷ rest)
first_told command.Decr old first rest h = adds_told old (negsuc 0) (first ∷ rest)
first_told command.IncrBy old first rest h = unless _ _ _ _ (λ good. adds_told old (number_in (word 2 (first ∷ rest))) (first ∷ rest))
first_told command.DecrBy old first rest h = unless _ _ _ _ (λ good. adds_told old (neg_ℤ (number_in (word 2 (first ∷ rest)))) (first ∷ rest))

pub row_told : (cmd : StringCmd) (old : Option (List ℕ)) (words : List (List ℕ)) → MeetArity (command_row cmd) words → ChangesAtMostOnce (on_string old) (word 1 words) (row cmd old words)
row_told cmd old [] h = absurd (no_words cmd h)
row_told cmd old (first ∷ rest) h = first_told cmd old first rest h

pub other_told : (cmd : StringCmd) (words : List (List ℕ)) → ChangesAtMostOnce other_row (word 1 words) (other_row cmd words)
other_told command.Get words = answered _ _ _
other_told command.Set words =
    let asked = condition_of (drop 3 words) in
    unless other_row _ (no_condition asked) (set_where asked true words)
    (λ good. set_where_told other_row asked true words set_on_other)
other_told command.SetNx words = answered _ _ _
other_told command.GetSet words = answered _ _ _
other_told command.Append words = answered _ _ _
other_told command.StrLen words = answered _ _ _
other_told command.GetRange words = unless _ _ _ _ (λ good. answered _ _ _)
other_told command.SetRange words = unless _ _ _ _ (λ good. answered _ _ _)
other_told command.Incr words = answered _ _ _
other_told command.Decr words = answered _ _ _
other_told command.IncrBy words = unless _ _ _ _ (λ good. answered _ _ _)
other_told command.DecrBy words = unless _ _ _ _ (λ good. answered _ _ _)

pub refused_nothing : (acts : Acts) (key : List ℕ) (done : Done (List ℕ)) → ChangesAtMostOnce acts key done → IsRefusal done.reply → ChangesNothing done
refused_nothing acts key done (inl nothing) h = nothing
refused_nothing acts key done (inr once) h = absurd (once.accepted h)
