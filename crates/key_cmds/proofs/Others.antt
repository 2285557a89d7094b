-- What commands do to a key that holds another kind of value than they are for. Serves the clauses
-- of the commands on one key.
use Rattle.std.proofs.Common.{◌≡◌, ℕ, Bool, true, false, List, drop, codes, Option, Some, None, if◌then◌else◌, refl}
use Rattle.core_types.specs.Done.{Done, answers, refuses, unless_refused}
use Rattle.core_types.specs.declared.field.Field.{Field}
use Rattle.core_types.specs.declared.refusal.Refusal.{Refusal}
use Rattle.core_types.specs.declared.refusal.Refusal.TheVariants as refusals
use Rattle.core_types.specs.declared.reply.Reply.{Reply}
use Rattle.core_types.specs.declared.reply.Reply.TheVariants as reply
use Rattle.core_types.specs.declared.value.Value.{Value}
use Rattle.core_types.specs.declared.value.Value.TheVariants as value
use Rattle.string_cmds.specs.declared.command.StringCmd.{StringCmd}
use Rattle.string_cmds.specs.declared.command.StringCmd.TheVariants as command
use Rattle.string_cmds.specs.Rows as string_rows
use Rattle.string_cmds.specs.Setting.{condition_of, may_set, no_condition, set_where, sets}
use Rattle.list_cmds.specs.declared.command.ListCmd.{ListCmd}
use Rattle.list_cmds.specs.Rows as list_rows
use Rattle.hash_cmds.specs.declared.command.HashCmd.{HashCmd}
use Rattle.hash_cmds.specs.Rows as hash_rows
use Rattle.hash_cmds.specs.Words.{unless_wrong}
use Rattle.key_cmds.specs.OneKey.{hash_done, list_done, string_done}
use Rattle.key_cmds.proofs.Carrying.{OnlySets}

unless_only : {B : Type 0} (why : Option Refusal) (done : Done B) → OnlySets done.change → OnlySets (unless_refused why done).change
unless_only None done h = h
unless_only (Some why) done h = tt

wrong_only : (said : Option Reply) (done : Done (List Field)) → OnlySets done.change → OnlySets (unless_wrong said done).change
wrong_only None done h = h
wrong_only (Some said) done h = tt

if_only : {B : Type 0} (b : Bool) (d e : Done B) → OnlySets d.change → OnlySets e.change → OnlySets (if b then d else e).change
if_only true d e h k = h
if_only false d e h k = k

pub string_only : (cmd : StringCmd) (words : List (List ℕ)) → OnlySets (string_rows.other_row cmd words).change
string_only command.Get words = tt
string_only command.Set words =
    let asked = condition_of (drop 3 words) in
    unless_only (no_condition asked) (set_where asked true words)
    (if_only (may_set asked true) (sets (reply.Simple (codes "OK")) words) (answers reply.Null) tt tt)
string_only command.SetNx words = tt
string_only command.GetSet words = tt
string_only command.Append words = tt
string_only command.StrLen words = tt
string_only command.GetRange words = unless_only (string_rows.refusal command.GetRange words) (string_rows.served_other command.GetRange words) tt
string_only command.SetRange words = unless_only (string_rows.refusal command.SetRange words) (string_rows.served_other command.SetRange words) tt
string_only command.Incr words = tt
string_only command.Decr words = tt
string_only command.IncrBy words = unless_only (string_rows.refusal command.IncrBy words) (string_rows.served_other command.IncrBy words) tt
string_only command.DecrBy words = unless_only (string_rows.refusal command.DecrBy words) (string_rows.served_other command.DecrBy words) tt

pub list_only : (cmd : ListCmd) (words : List (List ℕ)) → OnlySets (list_rows.other_row cmd words).change
list_only cmd words = unless_only {B = List (List ℕ)} (list_rows.refusal cmd words) (refuses refusals.WrongType) tt

pub hash_only : (cmd : HashCmd) (words : List (List ℕ)) → OnlySets (hash_rows.other_row cmd words).change
hash_only cmd words = wrong_only (hash_rows.refusal cmd words) (refuses refusals.WrongType) tt

module _ {N : Type 0} where
  pub string_other : (cmd : StringCmd) (held : Value N) (words : List (List ℕ)) → ((text : List ℕ) → held ≡ value.Str text → ⊥)
      → string_done cmd (Some held) words ≡ string_rows.other_row cmd words
  string_other cmd (value.Str text) words differs = absurd (differs text refl)
  string_other cmd (value.List items) words differs = refl
  string_other cmd (value.Hash fields) words differs = refl
  string_other cmd (value.Native native) words differs = refl

  pub list_other : (cmd : ListCmd) (held : Value N) (words : List (List ℕ)) → ((items : List (List ℕ)) → held ≡ value.List items → ⊥)
      → list_done cmd (Some held) words ≡ list_rows.other_row cmd words
  list_other cmd (value.Str text) words differs = refl
  list_other cmd (value.List items) words differs = absurd (differs items refl)
  list_other cmd (value.Hash fields) words differs = refl
  list_other cmd (value.Native native) words differs = refl

  pub hash_other : (cmd : HashCmd) (held : Value N) (words : List (List ℕ)) → ((fields : _) → held ≡ value.Hash fields → ⊥)
      → hash_done cmd (Some held) words ≡ hash_rows.other_row cmd words
  hash_other cmd (value.Str text) words differs = refl
  hash_other cmd (value.List items) words differs = refl
  hash_other cmd (value.Hash fields) words differs = absurd (differs fields refl)
  hash_other cmd (value.Native native) words differs = refl
