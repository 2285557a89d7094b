-- That the counter obeys the laws.
use Rattle.std.proofs.Common.{◌≡◌, ℕ, suc, zero, pos, ◌<◌, ◌≤◌, ◌^◌, length, true, [], ◌∷◌, Option, Some, None, IfOk, refl, sym, ap, true≢false, arith}
use Rattle.std.specs.Prelude.{codes}
use Rattle.std.specs.Cmp.Lexicographic.{bytes_decides}
use Rattle.std.specs.Fmt.{decimal}
use Rattle.std.specs.List.{list_all}
use Rattle.std.specs.Option.{option_and_then, option_map}
use Rattle.byte_text.proofs.Decimals.{decimal-short, u64_of-decimal}
use Rattle.core_types.specs.CommandRow.{writing}
use Rattle.core_types.specs.Keyspace.{IsString}
use Rattle.core_types.specs.declared.tagged.Tagged.TheVariants as tagged
use Rattle.sequences.specs.Words.{word}
use Rattle.type_ids.proofs.Names.{named-found}
use Rattle.module_laws.specs.Laws.{IsWritten}
use Rattle.module_laws.specs.Named.{command_name}
use Rattle.module_laws.specs.Rewriting.{Builds}
use Rattle.module_laws.specs.Types.{is_short}
use Rattle.module_laws.specs.Words.{Bytes, Saved}
use Rattle.one_key.specs.Lawful.{IsKeyLawful, IsLawfulWhere, IsWriter}
use Rattle.one_key.specs.MeaningOf.{meaning_of}
use Rattle.key_counter.specs.KeyCounter.{counter, counter_loads, saved_number, counter_set, wrote}

wrote_lawful : (old : Option Saved) (key : Bytes) (made : Option (Option ℕ))
    → IsLawfulWhere counter old key (wrote made).change
wrote_lawful old key None = tt
wrote_lawful old key (Some None) = record { full = λ full. tt; remade = tt }
wrote_lawful old key (Some (Some n)) = record { full = λ full. refl; remade = tt }

set_used : IsWritten (meaning_of counter) (writing counter_set (pos 3))
unfolding word
set_used = record {
  words = counter_set ∷ [] ∷ decimal 7 ∷ [];
  old = None;
  left = Some (saved_number 7);
  named = refl;
  arity = refl;
  limits = record {
    some = omega arith;
    few = omega arith;
    each = (omega arith, (omega arith, (omega (arith, (decimal-short 7 (omega arith)).few), tt)));
  };
  full = tt;
  made = ap (λ n. option_map (λ change. change.left) (wrote (option_map Some n)).change)
      (u64_of-decimal 7 (omega arith));
}

set_writer : IsWriter counter (writing counter_set (pos 3))
unfolding word
set_writer =
    record { changes = λ old key more arity limits. wrote_lawful old key _; used = set_used }

-- a command on its key alone, which makes this of zero
zero_writer : (name : Bytes) (left : Option Saved)
    → (meaning_of counter).after (Some (saved_number 0)) (name ∷ [] ∷ []) ≡ Some left
    → command_name (name ∷ [] ∷ []) ≡ name → length name ≤ 20
    → IsWriter counter (writing name (pos 2))
zero_writer name left made named short = record {
  changes = λ old key more arity limits. wrote_lawful old key _;
  used = record {
    words = name ∷ [] ∷ [];
    old = Some (saved_number 0);
    left = left;
    named = named;
    arity = refl;
    limits = record {
      some = omega arith;
      few = omega arith;
      each = (omega (arith, short), (omega arith, tt));
    };
    full = refl;
    made = made;
  };
}

raise_writer : IsWriter counter (writing (codes "COUNTER.RAISE") (pos 2))
unfolding word
raise_writer = zero_writer (codes "COUNTER.RAISE") (Some (saved_number 1)) refl refl (omega arith)

drop_writer : IsWriter counter (writing (codes "COUNTER.DROP") (pos 2))
unfolding word
drop_writer = zero_writer (codes "COUNTER.DROP") None refl refl (omega arith)

loads_short : (items : Saved) (version : ℕ)
    → IfOk (counter_loads items version) (λ value. list_all is_short value ≡ true)
loads_short items (suc version) = tt
loads_short [] zero = tt
loads_short (tagged.Bytes bytes ∷ items) zero = tt
loads_short (tagged.Number n ∷ []) zero = refl
loads_short (tagged.Number n ∷ item ∷ items) zero = tt

pub counter_lawful : IsKeyLawful counter
counter_lawful = record {
  named = named-found counter.name refl refl
      (λ same. true≢false (sym ((bytes_decides counter.name _).1 same)));
  versioned = omega arith;
  rows = refl;
  writers = (set_writer, (raise_writer, (drop_writer, (tt, tt))));
  loads = λ items version short. loads_short items version;
}

-- setting a number builds its value again
pub rebuilds : (key : Bytes) (n : ℕ) → n < 2 ^ 64 → IsString key
    → Builds (meaning_of counter) key (saved_number n)
    (record { words = counter_set ∷ key ∷ decimal n ∷ [] } ∷ [])
unfolding word
rebuilds key n small short = record {
  some = omega arith;
  own = (
    record {
      row = writing counter_set (pos 3);
      named = refl;
      writes = refl;
      keyed = refl;
      small = record {
        some = omega arith;
        few = omega arith;
        each = (omega arith, (short, (omega (arith, (decimal-short n small).few), tt)));
      };
    },
    tt,
  );
  built = ap (λ k. option_and_then (λ m. Some m)
      (option_map (λ change. change.left) (wrote (option_map Some k)).change))
      (u64_of-decimal n small);
}
