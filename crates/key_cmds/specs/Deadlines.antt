-- The commands on the moment at which a key is due, and what becomes of a key that is due. Moments
-- and deadlines are milliseconds; the rounding, the refusals and the replies are this project's
-- own.
use Rattle.std.specs.Prelude.{ℕ, ℤ, pos, negsuc, ◌+◌, ◌-◌, ◌+ℤ◌, ◌*ℤ◌, ◌/◌, ◌^◌, min, nat_le, Bool, true, if◌then◌else◌, List, [], ◌∷◌, codes, Option, Some, None}
use Rattle.std.specs.Fmt.{decimal}
use Rattle.std.specs.Option.{option_map}
use Rattle.byte_text.specs.Number.{fits_i64, i64_of}
use Rattle.core_types.specs.Done.{own_words}
use Rattle.sequences.specs.Words.{word}
use Rattle.core_types.specs.Keys.{KeysOf, Entry, entry_at, deadline_at, value_at, with_deadline, without}
use Rattle.core_types.specs.Refusals.{invalid_expire}
use Rattle.core_types.specs.declared.effect.Effect.{Effect}
use Rattle.core_types.specs.declared.note.Note.{Note}
use Rattle.core_types.specs.declared.note.NoteClass.TheVariants as class
use Rattle.core_types.specs.declared.refusal.Refusal.TheVariants as refusal
use Rattle.core_types.specs.declared.reply.Reply.TheVariants as reply
use Rattle.key_store.specs.NextDue.{next_due}
use Rattle.key_cmds.specs.Run.{Run, answers, native_in, refuses}
use Rattle.key_cmds.specs.SeveralKeys.{generic_note}

-- `DEL k` and `PEXPIREAT k d`
abbrev pub delete_effect : List ℕ → Effect
delete_effect key = record { words = codes "DEL" ∷ key ∷ [] }

abbrev pub deadline_effect : List ℕ → ℕ → Effect
deadline_effect key deadline = record { words = codes "PEXPIREAT" ∷ key ∷ decimal deadline ∷ [] }

-- a deadline is in the past where it is at most the moment, or below 1
abbrev pub is_past : ℤ → ℕ → Bool
is_past (pos deadline) moment = nat_le deadline moment
is_past (negsuc n) moment = true

-- the deadline as a number, where it is not below 0
abbrev pub moment_of : ℤ → ℕ
moment_of (pos n) = n
moment_of (negsuc n) = 0

-- what is left of a deadline in milliseconds, and in seconds, half a second counting as one
abbrev pub milliseconds_left : ℕ → ℕ → ℕ
milliseconds_left moment deadline = deadline - moment

-- a reply holds numbers below 2^63 alone
abbrev pub milliseconds_told : ℕ → ℕ → ℕ
milliseconds_told moment deadline = min (milliseconds_left moment deadline) (2 ^ 63 - 1)

abbrev pub seconds_left : ℕ → ℕ → ℕ
seconds_left moment deadline = (milliseconds_left moment deadline + 500) / 1000

-- what is told of a deadline: what is left of it, or -1 where there is none
abbrev pub deadline_told : (ℕ → ℕ) → Option ℕ → ℤ
deadline_told told None = negsuc 0
deadline_told told (Some deadline) = pos (told deadline)

-- a key was removed at its deadline
abbrev pub expired_note : List ℕ → Note
expired_note key = record { class = class.Expired; name = codes "expired"; key = key }

-- what the removal of a key that is due does: to the keys, and beside them
pub record Expired (N : Type 0) : Type 0 where
  pub keys : KeysOf N
  pub effect : Effect
  pub note : Note
  pub left : List N

module _ {N : Type 0} where
  -- ---- EXPIRE and PEXPIREAT

  -- a key that is there, and what it had, goes at once
  abbrev pub expires_now : List ℕ → KeysOf N → Run N
  expires_now key keys =
      record {
        keys = without keys key;
        reply = reply.Int (pos 1);
        effects = delete_effect key ∷ [];
        notes = generic_note (codes "del") key ∷ [];
        left = native_in (value_at keys key);
      }

  abbrev pub gets_deadline : List ℕ → ℕ → KeysOf N → Run N
  gets_deadline key deadline keys =
      record {
        keys = with_deadline keys key (Some deadline);
        reply = reply.Int (pos 1);
        effects = deadline_effect key deadline ∷ [];
        notes = generic_note (codes "expire") key ∷ [];
        left = [];
      }

  -- a key, where this is what it has, gets a deadline, or goes where that is in the past
  abbrev pub due_at : ℕ → List ℕ → ℤ → KeysOf N → Option (Entry N) → Run N
  due_at moment key deadline keys None = answers (reply.Int (pos 0)) keys
  due_at moment key deadline keys (Some entry) =
      if is_past deadline moment then expires_now key keys
      else gets_deadline key (moment_of deadline) keys

  abbrev pub expire_at : ℕ → List ℕ → ℤ → KeysOf N → Run N
  expire_at moment key deadline keys = due_at moment key deadline keys (entry_at keys key)

  -- this number of seconds from the moment, where the sum has 64 bits
  abbrev pub expire_after : ℕ → List (List ℕ) → KeysOf N → Option ℤ → Run N
  expire_after moment words keys None = refuses refusal.NotAnInteger keys
  expire_after moment words keys (Some seconds) =
      let deadline = pos moment +ℤ seconds *ℤ pos 1000 in
      if fits_i64 deadline then expire_at moment (word 1 words) deadline keys
      else answers (invalid_expire (codes "EXPIRE")) keys

  abbrev pub expire : ℕ → KeysOf N → List (List ℕ) → Run N
  expire moment keys words = expire_after moment words keys (i64_of (word 2 words))

  abbrev pub expire_where : ℕ → List (List ℕ) → KeysOf N → Option ℤ → Run N
  expire_where moment words keys None = refuses refusal.NotAnInteger keys
  expire_where moment words keys (Some deadline) = expire_at moment (word 1 words) deadline keys

  abbrev pub expire_when : ℕ → KeysOf N → List (List ℕ) → Run N
  expire_when moment keys words = expire_where moment words keys (i64_of (word 2 words))

  -- ---- TTL and PTTL

  -- what a key, where this is what it has, tells of its deadline: -2 where it is not there, -1
  -- where it has none
  abbrev pub left_told : (ℕ → ℕ) → Option (Entry N) → ℤ
  left_told told None = negsuc 1
  left_told told (Some entry) = deadline_told told entry.deadline

  abbrev pub tell_left : (ℕ → ℕ) → KeysOf N → List (List ℕ) → Run N
  tell_left told keys words =
      answers (reply.Int (left_told told (entry_at keys (word 1 words)))) keys

  -- ---- PERSIST

  abbrev pub persists : KeysOf N → List (List ℕ) → Option ℕ → Run N
  persists keys words None = answers (reply.Int (pos 0)) keys
  persists keys words (Some deadline) =
      record {
        keys = with_deadline keys (word 1 words) None;
        reply = reply.Int (pos 1);
        effects = own_words (codes "PERSIST") words ∷ [];
        notes = generic_note (codes "persist") (word 1 words) ∷ [];
        left = [];
      }

  abbrev pub persist : KeysOf N → List (List ℕ) → Run N
  persist keys words = persists keys words (deadline_at keys (word 1 words))

  -- ---- a key whose moment has come

  -- one key that is due is removed
  abbrev pub expired : List ℕ → KeysOf N → Expired N
  expired key keys =
      record {
        keys = without keys key;
        effect = delete_effect key;
        note = expired_note key;
        left = native_in (value_at keys key);
      }

  -- the key that is due first is removed, where there is one
  abbrev pub first_expired : KeysOf N → ℕ → Option (Expired N)
  first_expired keys moment = option_map (λ key. expired key keys) (next_due keys moment)
