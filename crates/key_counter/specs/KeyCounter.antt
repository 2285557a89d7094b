-- A counter: a number that a key has. Commands set it, raise it by one, drop it and read it.
use Rattle.std.specs.Prelude.{◌+◌, ◌-◌, ◌^◌, ℕ, suc, zero, pos, min, false, List, [], ◌∷◌, Option, Some, None, Result, Ok, Err, if◌then◌else◌, codes}
use Rattle.std.specs.Fmt.{decimal}
use Rattle.std.specs.Option.{option_map}
use Rattle.std.specs.Str.{bytes_eq}
use Rattle.byte_text.specs.Number.{u64_of}
use Rattle.core_types.specs.CommandRow.{CommandRow, reading, writing}
use Rattle.core_types.specs.declared.load_fault.LoadFault.{LoadFault}
use Rattle.core_types.specs.declared.load_fault.LoadFault.TheVariants as load_fault
use Rattle.core_types.specs.declared.reply.Reply.{Reply}
use Rattle.core_types.specs.declared.reply.Reply.TheVariants as reply
use Rattle.core_types.specs.declared.tagged.Tagged.TheVariants as tagged
use Rattle.sequences.specs.Words.{word}
use Rattle.module_laws.specs.Words.{Bytes, Words, Saved}
use Rattle.one_key.specs.KeyMeaning.{KeyMeaning, Write, answers, changes}

abbrev pub counter_set : Bytes
counter_set = codes "COUNTER.SET"

abbrev pub counter_rows : List CommandRow
counter_rows = writing counter_set (pos 3) ∷ writing (codes "COUNTER.RAISE") (pos 2)
    ∷ writing (codes "COUNTER.DROP") (pos 2) ∷ reading (codes "COUNTER.GET") (pos 2) ∷ []

-- a number as it is saved, and the number that was saved, where one was
abbrev pub saved_number : ℕ → Saved
saved_number n = tagged.Number n ∷ []

abbrev pub number_saved : Option Saved → Option ℕ
number_saved (Some (tagged.Number n ∷ [])) = Some n
number_saved _ = None

-- What a command makes of a number or of none: a number or none. Where it is refused it makes
-- nothing of it.
abbrev pub counter_makes : Words → Option ℕ → Option (Option ℕ)
counter_makes words old =
    if bytes_eq (word 0 words) counter_set then option_map Some (u64_of (word 2 words)) else
    (if bytes_eq (word 0 words) (codes "COUNTER.RAISE")
    then option_map (λ n. Some (min (n + 1) (2 ^ 64 - 1))) old else option_map (λ n. None) old)

-- a command left its key so, or changed nothing
abbrev pub wrote : Option (Option ℕ) → Write
wrote None = answers (reply.Int (pos 0))
wrote (Some left) = changes (option_map saved_number left) (codes "counter") (reply.Int (pos 1))

abbrev pub number_reply : Option ℕ → Reply
number_reply None = reply.Null
number_reply (Some n) = reply.Bulk (decimal n)

abbrev pub counter_loads : Saved → ℕ → Result Saved LoadFault
counter_loads items (suc version) = Err (load_fault.Version (suc version))
counter_loads [] zero = Err (load_fault.Shape 0)
counter_loads (tagged.Bytes bytes ∷ items) zero = Err (load_fault.Shape 0)
counter_loads (tagged.Number n ∷ []) zero = Ok (saved_number n)
counter_loads (tagged.Number n ∷ item ∷ items) zero = Err (load_fault.Shape 1)

abbrev pub counter : KeyMeaning
counter = record {
  name = codes "upcounter";
  version = 0;
  rows = counter_rows;
  is_empty = λ items. false;
  reads = λ old words. number_reply (number_saved old);
  writes = λ old words. wrote (counter_makes words (number_saved old));
  others = λ words.
      if bytes_eq (word 0 words) (codes "COUNTER.GET") then reply.Null else reply.Int (pos 0);
  loads = counter_loads;
}
