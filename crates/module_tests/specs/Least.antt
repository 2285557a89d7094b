-- The least module: one command, which answers 1 and changes nothing, and no value that a key may
-- have.
use Rattle.std.specs.Prelude.{◌≡◌, ℕ, suc, zero, pos, true, false, [], ◌∷◌, Result, Ok, Err, refl, codes}
use Rattle.std.proofs.Common.{sym, ap, true≢false, arith}
use Rattle.std.specs.Result.{is_err, result_unwrap_or}
use Rattle.std.specs.Cmp.Lexicographic.{bytes_decides}
use Rattle.std.specs.List.{list_all}
use Rattle.std.proofs.lemmas.Option.{none-some}
use Rattle.core_types.specs.CommandRow.{CommandRow}
use Rattle.core_types.specs.declared.load_fault.LoadFault.{LoadFault}
use Rattle.core_types.specs.declared.load_fault.LoadFault.TheVariants as load_fault
use Rattle.core_types.specs.declared.reply.Reply.TheVariants as reply
use Rattle.type_ids.proofs.Names.{named-found}
use Rattle.module_laws.specs.Laws.{IsLawful}
use Rattle.module_laws.specs.Meaning.{Meaning}
use Rattle.module_laws.specs.Types.{is_short}
use Rattle.module_laws.specs.Words.{Bytes, Saved}
use Rattle.module_laws.specs.declared.verdict.Verdict.TheVariants as verdict
use Rattle.module_laws.specs.Plain.{answers_only, silent}

abbrev pub least_loads : Saved → ℕ → Result Saved LoadFault
least_loads items (suc version) = Err (load_fault.Version (suc version))
least_loads [] zero = Ok []
least_loads (item ∷ items) zero = Err (load_fault.Shape 0)

abbrev pub least_name : Bytes
least_name = codes "leasttype"

abbrev pub ping : CommandRow
ping = record { name = codes "LEAST.PING"; arity = pos 1; writes = false; key = 0 }

abbrev pub least : Meaning
least = record (silent least_name 0 (ping ∷ [])) {
  is_empty = λ items. true;
  says = λ private seen words. answers_only (verdict.Say (reply.Int (pos 1))) seen;
  loads = least_loads;
}

err-ok : {why : LoadFault} {value : Saved} → Err why ≡ Ok value → ⊥
err-ok e = true≢false (ap is_err e)

abbrev nothing : Result Saved LoadFault
nothing = Ok []

ok_short : (value : Saved) → nothing ≡ Ok value → list_all is_short value ≡ true
ok_short value loads = ap (λ r. list_all is_short (result_unwrap_or r [])) (sym loads)

loads_short : (items : Saved) (version : ℕ) (value : Saved) → least_loads items version ≡ Ok value
    → list_all is_short value ≡ true
loads_short items (suc version) value loads = absurd (err-ok loads)
loads_short [] zero value loads = ok_short value loads
loads_short (item ∷ items) zero value loads = absurd (err-ok loads)

pub least_lawful : IsLawful least
least_lawful = record {
  named = named-found least_name refl refl
      (λ same. true≢false (sym ((bytes_decides least_name _).1 same)));
  versioned = omega arith;
  commands = record {
    each = (
      record {
        upper = refl;
        dotted = refl;
        keyed =
            λ writes. absurd (true≢false (sym writes));
      },
      tt,
    );
    distinct = refl;
    few = omega arith;
  };
  effects = record {
    says = λ allowed private seen words sound call.
        record { replayed = refl; small = tt; kept = sound.keys };
    replies = λ allowed private seen payload sound.
        record { replayed = refl; small = tt; kept = sound.keys };
    times_out = λ allowed private seen job sound.
        record { replayed = refl; small = tt; kept = sound.keys };
    goes = λ allowed private seen job sound.
        record { replayed = refl; small = tt; kept = sound.keys };
    tells = λ allowed private seen op sound short.
        record { replayed = refl; small = tt; kept = sound.keys };
  };
  writes = record {
    none_else = λ old words left makes. absurd (none-some left makes);
    each = (tt, tt);
  };
  at_once = λ private seen words call writes. tt;
  limits = record {
    after = λ old words items full limits makes. absurd (none-some _ makes);
    loads = λ items version value short loads. loads_short items version value loads;
    chores = λ private note. tt;
  };
}
