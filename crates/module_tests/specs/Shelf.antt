-- What a context tells that keeps what was put into it in a list, the newest first.
use Rattle.std.specs.Prelude.{ℕ, Bool, true, List, [], ◌∷◌, map, reverse, position, Option, Some, None, ◌≡◌, slice_index_or, if◌then◌else◌}
use Rattle.std.specs.Str.{bytes_eq}
use Rattle.core_types.specs.Keys.{Entry, Keys, Native, no_keys, with_value, without}
use Rattle.core_types.specs.declared.effect.Effect.{Effect}
use Rattle.core_types.specs.declared.note.Note.{Note}
use Rattle.core_types.specs.declared.reply.Reply.TheVariants as reply
use Rattle.core_types.specs.declared.value.Value.TheVariants as value
use Rattle.module_laws.specs.Told.{Builtins, Told, says_only}
use Rattle.module_laws.specs.Words.{Bytes}

-- what was put under a key: the name of its type then, what it is now, and whether it is still
-- there
pub record Kept : Type 0 where
  pub key : Bytes
  pub name : Bytes
  pub native : Native
  pub live : Bool

-- what it leaves under its key
abbrev pub kept_entry : Kept → Option (Entry Native)
kept_entry kept =
    if kept.live then Some (record { value = value.Native kept.native; deadline = None }) else None

abbrev pub with_kept : Kept → Keys → Keys
with_kept kept keys =
    if kept.live then with_value keys kept.key (value.Native kept.native)
    else without keys kept.key

-- no built-in command is known
abbrev pub no_builtins : Builtins
no_builtins = record {
  rows = [];
  does = λ keys moment words. says_only reply.Null keys;
  replays = λ keys effect. None;
}

-- the newest stands first, and hides what is older
abbrev pub keys_of : List Kept → Keys
keys_of [] = no_keys
keys_of (kept ∷ older) = with_kept kept (keys_of older)

abbrev pub has_key : Bytes → Kept → Bool
has_key key kept = bytes_eq key kept.key

-- the newest under this key is at this place, and still there
pub record IsAt (slots : List Kept) (key : Bytes) (place : ℕ) : Type 0 where
  pub newest : position (has_key key) slots ≡ Some place
  pub live : (d : Kept) → (slice_index_or slots place d).live ≡ true

-- this is a value of the type that it was put in with
abbrev pub is_as_put : Kept → Bool
is_as_put kept = bytes_eq kept.native.name kept.name

abbrev pub shelf_told : List Kept → List Effect → List Note → ℕ → Told
shelf_told slots effects notes moment = record {
  seen = record { builtins = no_builtins; keys = keys_of slots; moment = moment };
  effects = effects;
  notes = notes;
  added = reverse (map (λ kept. kept.name) slots);
  has_serial = true;
}
