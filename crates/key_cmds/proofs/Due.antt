-- What a key has of a deadline. Serves the clauses of the commands on deadlines.
use Rattle.std.proofs.Common.{◌≡◌, ◌≢◌, ◌<◌, arith, ℕ, ℤ, pos, negsuc, Bool, true, false, List, [], Option, Some, None, is_some, unwrap_or, if◌then◌else◌, refl, sym, ap, ◌∙◌, FitsSigned}
use Rattle.std.specs.Prelude.{◌+ℤ◌, ◌*ℤ◌}
use Rattle.std.specs.Int.{w64}
use Rattle.std.proofs.lemmas.Option.{none-some}
use Rattle.std.specs.Option.{option_and_then, option_map}
use Rattle.byte_text.specs.Number.{i64_of}
use Rattle.byte_text.proofs.Decimals.{fits}
use Rattle.sequences.specs.Words.{word}
use Rattle.core_types.specs.Keys.{Entry, KeysOf, deadline_at, entry_at, value_at}
use Rattle.core_types.specs.declared.reply.Reply.TheVariants as reply
use Rattle.key_cmds.specs.Deadlines.{deadline_told, due_at, expire, expire_at, expires_now, gets_deadline, is_past, left_told, moment_of, persist, persists}
use Rattle.key_cmds.specs.Run.{Run, answers}
use Rattle.key_cmds.proofs.OneKeyOf.{no_entry}

pub not_zero : (n : ℕ) → 0 < n → Some n ≢ Some 0
not_zero n above same =
    let zero : n ≡ 0 = ap (λ o. unwrap_or o 0) same in
    absurd (omega (arith, above, zero))

module _ {N : Type 0} where
  -- ---- EXPIRE

  pub due_absent : (moment : ℕ) (key : List ℕ) (deadline : ℤ) (keys : KeysOf N) → value_at keys key ≡ None → expire_at moment key deadline keys ≡ answers (reply.Int (pos 0)) keys
  due_absent moment key deadline keys none = ap (due_at moment key deadline keys) (no_entry keys key none)

  there_case : (moment : ℕ) (key : List ℕ) (deadline : ℤ) (keys : KeysOf N) (found : Option (Entry N)) → option_map (λ entry. entry.value) found ≢ None
      → due_at moment key deadline keys found ≡ (if is_past deadline moment then expires_now key keys else gets_deadline key (moment_of deadline) keys)
  there_case moment key deadline keys None some = absurd (some refl)
  there_case moment key deadline keys (Some entry) some = refl

  due_there : (moment : ℕ) (key : List ℕ) (deadline : ℤ) (keys : KeysOf N) → value_at keys key ≢ None
      → expire_at moment key deadline keys ≡ (if is_past deadline moment then expires_now key keys else gets_deadline key (moment_of deadline) keys)
  due_there moment key deadline keys some = there_case moment key deadline keys (entry_at keys key) some

  later_case : (past : Bool) (at till : ℕ) (now later : Run N) → Some at ≡ (if past then None else Some till) → (at ≡ till → now ≡ later) → (other : Run N) → (if past then other else now) ≡ later
  later_case true at till now later is same other = absurd (none-some at (sym is))
  later_case false at till now later is same other = same (ap (λ (o : Option ℕ). unwrap_or o at) is)

  -- a deadline that is not past is given,
  pub due_later : (moment : ℕ) (key : List ℕ) (deadline : ℤ) (keys : KeysOf N) (at : ℕ) → value_at keys key ≢ None
      → Some at ≡ (if is_past deadline moment then None else Some (moment_of deadline)) → expire_at moment key deadline keys ≡ gets_deadline key at keys
  due_later moment key deadline keys at some is =
      due_there moment key deadline keys some
      ∙ later_case (is_past deadline moment) at (moment_of deadline) (gets_deadline key (moment_of deadline) keys) (gets_deadline key at keys) is
      (λ e. ap (λ n. gets_deadline key n keys) (sym e)) (expires_now key keys)

  past_case : (past : Bool) (till : ℕ) (now later : Run N) → None ≡ (if past then None else Some till) → (if past then now else later) ≡ now
  past_case true till now later is = refl
  past_case false till now later is = absurd (none-some till is)

  -- and at one that is past the key goes
  pub due_past : (moment : ℕ) (key : List ℕ) (deadline : ℤ) (keys : KeysOf N) → value_at keys key ≢ None
      → None ≡ (if is_past deadline moment then None else Some (moment_of deadline)) → expire_at moment key deadline keys ≡ expires_now key keys
  due_past moment key deadline keys some is =
      due_there moment key deadline keys some
      ∙ past_case (is_past deadline moment) (moment_of deadline) (expires_now key keys) (gets_deadline key (moment_of deadline) keys) is

  -- ---- TTL

  told_case : (told : ℕ → ℕ) (found : Option (Entry N)) (deadline : ℕ) → option_and_then (λ entry. entry.deadline) found ≡ Some deadline → left_told told found ≡ pos (told deadline)
  told_case told None deadline is = absurd (none-some deadline is)
  told_case told (Some entry) deadline is = ap (deadline_told told) is

  pub told_due : (told : ℕ → ℕ) (keys : KeysOf N) (key : List ℕ) (deadline : ℕ) → deadline_at keys key ≡ Some deadline → left_told told (entry_at keys key) ≡ pos (told deadline)
  told_due told keys key deadline is = told_case told (entry_at keys key) deadline is

  none_case : (told : ℕ → ℕ) (found : Option (Entry N)) → option_and_then (λ entry. entry.deadline) found ≡ None
      → left_told told found ≡ (if is_some (option_map (λ entry. entry.value) found) then negsuc 0 else negsuc 1)
  none_case told None is = refl
  none_case told (Some entry) is = ap (deadline_told told) is

  pub told_none : (told : ℕ → ℕ) (keys : KeysOf N) (key : List ℕ) → deadline_at keys key ≡ None
      → left_told told (entry_at keys key) ≡ (if is_some (value_at keys key) then negsuc 0 else negsuc 1)
  told_none told keys key is = none_case told (entry_at keys key) is

  -- ---- PERSIST

  persists_case : (keys : KeysOf N) (words : List (List ℕ)) (deadline : Option ℕ) → (persists keys words deadline).left ≡ []
  persists_case keys words None = refl
  persists_case keys words (Some deadline) = refl

  pub none_persisted : (keys : KeysOf N) (words : List (List ℕ)) → (persist keys words).left ≡ []
  none_persisted keys words = persists_case keys words _

  -- seconds from the moment, where the sum has 64 bits
  pub expire_is : (moment : ℕ) (keys : KeysOf N) (words : List (List ℕ)) (key : List ℕ) (seconds deadline : ℤ) → key ≡ word 1 words → i64_of (word 2 words) ≡ Some seconds
      → FitsSigned w64 (pos moment +ℤ seconds *ℤ pos 1000) → deadline ≡ pos moment +ℤ seconds *ℤ pos 1000
      → expire_at moment key deadline keys ≡ expire moment keys words
  expire_is moment keys words key seconds deadline first second fits_sum sum =
      ap (λ k. expire_at moment k deadline keys) first
      ∙ ap (λ n. expire_at moment (word 1 words) n keys) sum
      ∙ sym (rw second (rw (fits (pos moment +ℤ seconds *ℤ pos 1000) fits_sum) refl))
