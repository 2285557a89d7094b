-- Values of a type, as contracts see them.
use Rattle.std.proofs.Common.{◌≡◌, true, false, [], ◌∷◌, ap, refl}
use Rattle.std.specs.Prelude.{◌||◌}
use Rattle.std.specs.Cmp.Lexicographic.{bytes_decides}
use Rattle.core_types.specs.Keys.{Native}
use Rattle.module_laws.specs.Meaning.{type_of}
use Rattle.module_laws.specs.Types.{has_type}
use Rattle.module_laws.specs.Words.{Saved}
use Rattle.one_key.specs.KeyMeaning.{KeyMeaning}
use Rattle.one_key.specs.MeaningOf.{meaning_of}

-- a value that is saved so
abbrev pub shown : KeyMeaning → Saved → Native
shown m items = record { name = m.name; items = items }

pub shown_typed : (m : KeyMeaning) (items : Saved)
    → has_type (type_of (meaning_of m) ∷ []) (shown m items).name ≡ true
shown_typed m items = ap (λ b. b || false) ((bytes_decides m.name m.name).1 refl)
