-- Serves the clause of effects_remake_changes, and clauses list and other of
-- refusals_change_nothing.
use Rattle.std.proofs.Common.{◌≡◌, inl, inr, ◌-◌, if◌then◌else◌, ℕ, Bool, true, false, List, [], ◌∷◌, length, codes, Option, Some, None, refl, sym, ap, ◌∙◌}
use Rattle.std.specs.Prelude.{◌==◌}
use Rattle.byte_text.specs.Number.{number_in}
use Rattle.core_types.specs.CommandRow.{MeetArity}
use Rattle.core_types.specs.Done.{Change, Done, answers, changes, own_words, refuses, unless_refused}
use Rattle.sequences.specs.Words.{word}
use Rattle.core_types.specs.declared.refusal.Refusal.{Refusal}
use Rattle.core_types.specs.declared.refusal.Refusal.TheVariants as refusals
use Rattle.core_types.specs.declared.reply.Reply.{Reply}
use Rattle.list_cmds.specs.declared.command.ListCmd.{ListCmd}
use Rattle.list_cmds.specs.declared.command.ListCmd.TheVariants as command
use Rattle.list_cmds.specs.Commands.{command_row}
use Rattle.list_cmds.specs.Words.{counted, held_items, list_note, place_of}
use Rattle.list_cmds.specs.Adding.{set_at, set_item}
use Rattle.list_cmds.specs.Taking.{leaves, remove, removes, trim, without}
use Rattle.list_cmds.specs.Rows.{other_row, refusal, row, served}
use Rattle.core_types.specs.CommandLaws.{ChangesNothing, Remakes}
use Rattle.core_types.specs.Refusals.{IsRefusal}
use Rattle.list_cmds.specs.Laws.{Acts, ChangesAtMostOnce, ChangesOnce}

-- on a key that holds a list or is not there
abbrev pub on_list : Option (List (List ℕ)) → Acts
on_list old cmd words = row cmd old words

pub answered : (acts : Acts) (key : List ℕ) (said : Reply) → ChangesAtMostOnce acts key (answers said)
answered acts key said = inl record { change = refl; effects = refl; notes = refl }

pub unless : (acts : Acts) (key : List ℕ) (refused : Option Refusal) (done : Done (List (List ℕ))) → (refused ≡ None → ChangesAtMostOnce acts key done) → ChangesAtMostOnce acts key (unless_refused refused done)
unless acts key None done h = h refl
unless acts key (Some why) done h = inl record { change = refl; effects = refl; notes = refl }

-- own words are again own words
remakes : (acts : Acts) (cmd : ListCmd) (first : List ℕ) (rest : List (List ℕ)) (done : Done (List (List ℕ))) → (command_row cmd).key ≡ 1 → MeetArity (command_row cmd) (first ∷ rest) → acts cmd ((command_row cmd).name ∷ rest) ≡ done → ¬ IsRefusal done.reply → Remakes command_row acts (word 1 (first ∷ rest)) done.change ((command_row cmd).name ∷ rest)
unfolding word
remakes acts cmd first rest done key arity again good =
    record {
      cmd = cmd;
      named = refl;
      arity = arity;
      key_at = ap (λ n. word n ((command_row cmd).name ∷ rest)) key;
      again = ap (λ (d : Done (List (List ℕ))). d.change) again;
      accepted = λ (text, e). good (text, sym (ap (λ (d : Done (List (List ℕ))). d.reply) again) ∙ e);
    }

changes_told : (acts : Acts) (cmd : ListCmd) (first : List ℕ) (rest items : List (List ℕ)) (said : Reply) (event : List ℕ) → (command_row cmd).key ≡ 1 → MeetArity (command_row cmd) (first ∷ rest) → ¬ IsRefusal said → acts cmd ((command_row cmd).name ∷ rest) ≡ changes (Change.Becomes items) said (own_words (command_row cmd).name (first ∷ rest)) (list_note event (first ∷ rest)) → ChangesOnce acts (word 1 (first ∷ rest)) (changes (Change.Becomes items) said (own_words (command_row cmd).name (first ∷ rest)) (list_note event (first ∷ rest)))
changes_told acts cmd first rest items said event key arity good again =
    record {
      effect = _;
      note = _;
      changed = λ e. cc;
      accepted = good;
      effects = refl;
      notes = refl;
      remakes = remakes acts cmd first rest _ key arity again good;
      note_class = refl;
      note_key = refl;
    }

removes_told : (acts : Acts) (cmd : ListCmd) (first : List ℕ) (rest : List (List ℕ)) (said : Reply) (event : List ℕ) → (command_row cmd).key ≡ 1 → MeetArity (command_row cmd) (first ∷ rest) → ¬ IsRefusal said → acts cmd ((command_row cmd).name ∷ rest) ≡ removes said (command_row cmd).name event (first ∷ rest) → ChangesOnce acts (word 1 (first ∷ rest)) (removes said (command_row cmd).name event (first ∷ rest))
removes_told acts cmd first rest said event key arity good again =
    record {
      effect = _;
      note = _;
      changed = λ e. cc;
      accepted = good;
      effects = refl;
      notes = refl;
      remakes = remakes acts cmd first rest _ key arity again good;
      note_class = refl;
      note_key = refl;
    }

leaves_by : (acts : Acts) (cmd : ListCmd) (first : List ℕ) (rest left : List (List ℕ)) (said : Reply) (event : List ℕ) (b : Bool) → (length left == 0) ≡ b → (command_row cmd).key ≡ 1 → MeetArity (command_row cmd) (first ∷ rest) → ¬ IsRefusal said → acts cmd ((command_row cmd).name ∷ rest) ≡ leaves left said (command_row cmd).name event (first ∷ rest) → ChangesOnce acts (word 1 (first ∷ rest)) (leaves left said (command_row cmd).name event (first ∷ rest))
leaves_by acts cmd first rest left said event true e key arity good again =
    rw e (removes_told acts cmd first rest said event key arity good (again ∙ rw e refl))
leaves_by acts cmd first rest left said event false e key arity good again =
    rw e (changes_told acts cmd first rest left said event key arity good (again ∙ rw e refl))

-- answered where the test holds, and else done
if_told : (acts : Acts) (key : List ℕ) (b : Bool) (said : Reply) (done : Done (List (List ℕ))) → (b ≡ false → ChangesOnce acts key done) → ChangesAtMostOnce acts key (if b then answers said else done)
if_told acts key true said done h = inl record { change = refl; effects = refl; notes = refl }
if_told acts key false said done h = inr (h refl)

front_told : (old : Option (List (List ℕ))) (first : List ℕ) (rest : List (List ℕ)) → MeetArity (command_row command.LPop) (first ∷ rest) → ChangesAtMostOnce (on_list old) (word 1 (first ∷ rest)) (row command.LPop old (first ∷ rest))
unfolding word
front_told old first rest arity =
    if_told (on_list old) _ (length (held_items old) == 0) _ _
    (λ some. leaves_by (on_list old) command.LPop first rest _ _ (codes "lpop") _ refl refl arity (λ (text, e). cc) (rw some refl))

back_told : (old : Option (List (List ℕ))) (first : List ℕ) (rest : List (List ℕ)) → MeetArity (command_row command.RPop) (first ∷ rest) → ChangesAtMostOnce (on_list old) (word 1 (first ∷ rest)) (row command.RPop old (first ∷ rest))
unfolding word
back_told old first rest arity =
    if_told (on_list old) _ (length (held_items old) == 0) _ _
    (λ some. leaves_by (on_list old) command.RPop first rest _ _ (codes "rpop") _ refl refl arity (λ (text, e). cc) (rw some refl))

set_at_told : (items : List (List ℕ)) (first : List ℕ) (rest : List (List ℕ)) (place : Option ℕ) → place_of (length items) (number_in (word 2 (first ∷ rest))) ≡ place → MeetArity (command_row command.LSet) (first ∷ rest) → refusal command.LSet (first ∷ rest) ≡ None → ChangesAtMostOnce (on_list (Some items)) (word 1 (first ∷ rest)) (set_at items place (first ∷ rest))
unfolding word number_in
set_at_told items first rest None e arity good = answered _ _ _
set_at_told items first rest (Some place) e arity good =
    inr (changes_told (on_list (Some items)) command.LSet first rest _ _ (codes "lset") refl arity (λ (text, f). cc) (rw (good, e) refl))

set_told : (old : Option (List (List ℕ))) (first : List ℕ) (rest : List (List ℕ)) → MeetArity (command_row command.LSet) (first ∷ rest) → refusal command.LSet (first ∷ rest) ≡ None → ChangesAtMostOnce (on_list old) (word 1 (first ∷ rest)) (set_item old (first ∷ rest))
set_told None first rest arity good = answered _ _ _
set_told (Some items) first rest arity good = set_at_told items first rest _ refl arity good

trim_told : (old : Option (List (List ℕ))) (first : List ℕ) (rest : List (List ℕ)) → MeetArity (command_row command.LTrim) (first ∷ rest) → refusal command.LTrim (first ∷ rest) ≡ None → ChangesAtMostOnce (on_list old) (word 1 (first ∷ rest)) (trim old (first ∷ rest))
unfolding word number_in
trim_told None first rest arity good = answered _ _ _
trim_told (Some items) first rest arity good =
    inr (leaves_by (on_list (Some items)) command.LTrim first rest _ _ (codes "ltrim") _ refl refl arity (λ (text, f). cc) (rw good refl))

remove_told : (old : Option (List (List ℕ))) (first : List ℕ) (rest : List (List ℕ)) → MeetArity (command_row command.LRem) (first ∷ rest) → refusal command.LRem (first ∷ rest) ≡ None → ChangesAtMostOnce (on_list old) (word 1 (first ∷ rest)) (remove (held_items old) (first ∷ rest))
unfolding word number_in
remove_told old first rest arity good =
    let items = held_items old in
    let left = without (number_in (word 2 (first ∷ rest))) (word 3 (first ∷ rest)) items in
    let said = counted (length items - length left) in
    if_told (on_list old) _ (length items == length left) (counted 0) (leaves left said (codes "LREM") (codes "lrem") (first ∷ rest))
    (λ some. leaves_by (on_list old) command.LRem first rest left said (codes "lrem") (length left == 0) refl refl arity (λ (text, f). cc) (rw (good, some) refl))

-- no arity is met by no words
no_words : (cmd : ListCmd) → ¬ MeetArity (command_row cmd) []
no_words command.LPush h = cc
no_words command.RPush h = cc
no_words command.LPop h = cc
no_words command.RPop h = cc
no_words command.LLen h = cc
no_words command.LIndex h = cc
no_words command.LRange h = cc
no_words command.LSet h = cc
no_words command.LTrim h = cc
no_words command.LRem h = cc

first_told : (cmd : ListCmd) (old : Option (List (List ℕ))) (first : List ℕ) (rest : List (List ℕ)) → MeetArity (command_row cmd) (first ∷ rest) → ChangesAtMostOnce (on_list old) (word 1 (first ∷ rest)) (row cmd old (first ∷ rest))
unfolding word
first_told command.LPush old first rest h =
    inr (changes_told (on_list old) command.LPush first rest _ _ (codes "lpush") refl h (λ (text, e). cc) refl)
first_told command.RPush old first rest h =
    inr (changes_told (on_list old) command.RPush first rest _ _ (codes "rpush") refl h (λ (text, e). cc) refl)
first_told command.LPop old first rest h = front_told old first rest h
first_told command.RPop old first rest h = back_told old first rest h
first_told command.LLen old first rest h = answered _ _ _
first_told command.LIndex old first rest h =
    unless _ _ (refusal command.LIndex (first ∷ rest)) (served command.LIndex old (first ∷ rest)) (λ good. answered _ _ (served command.LIndex old (first ∷ rest)).reply)
first_told command.LRange old first rest h =
    unless _ _ (refusal command.LRange (first ∷ rest)) (served command.LRange old (first ∷ rest)) (λ good. answered _ _ (served command.LRange old (first ∷ rest)).reply)
first_told command.LSet old first rest h = unless _ _ _ _ (λ good. set_told old first rest h good)
first_told command.LTrim old first rest h = unless _ _ _ _ (λ good. trim_told old first rest h good)
first_told command.LRem old first rest h = unless _ _ _ _ (λ good. remove_told old first rest h good)

pub row_told : (cmd : ListCmd) (old : Option (List (List ℕ))) (words : List (List ℕ)) → MeetArity (command_row cmd) words → ChangesAtMostOnce (on_list old) (word 1 words) (row cmd old words)
row_told cmd old [] h = absurd (no_words cmd h)
row_told cmd old (first ∷ rest) h = first_told cmd old first rest h

refused_by : (refused : Option Refusal) → IsRefusal (unless_refused {B = List (List ℕ)} refused (refuses refusals.WrongType)).reply × ChangesNothing (unless_refused {B = List (List ℕ)} refused (refuses refusals.WrongType))
refused_by None = ((_, refl), record { change = refl; effects = refl; notes = refl })
refused_by (Some why) = ((_, refl), record { change = refl; effects = refl; notes = refl })

pub other_told : (cmd : ListCmd) (words : List (List ℕ)) → IsRefusal (other_row cmd words).reply × ChangesNothing (other_row cmd words)
other_told cmd words = refused_by (refusal cmd words)

pub refused_nothing : (acts : Acts) (key : List ℕ) (done : Done (List (List ℕ))) → ChangesAtMostOnce acts key done → IsRefusal done.reply → ChangesNothing done
refused_nothing acts key done (inl nothing) h = nothing
refused_nothing acts key done (inr once) h = absurd (once.accepted h)
