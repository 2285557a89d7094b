-- Words that are looked up among commands. Serves the clause of at_work::is_call.
use Rattle.std.proofs.Common.{◌≡◌, ℕ, ◌<◌, ◌≤◌, arith, Bool, true, false, List, [], ◌∷◌, length, map, Option, Some, refl, sym, ap, ◌∙◌, true≢false, if◌then◌else◌}
use Rattle.std.specs.Prelude.{◌&&◌, ◌==◌, find, nat_le}
use Rattle.std.specs.Char.{to_ascii_uppercase}
use Rattle.std.specs.List.{AllByRecursion, list_all}
use Rattle.std.specs.Option.{option_map}
use Rattle.std.specs.Str.{bytes_eq}
use Rattle.std.proofs.lemmas.Bool.Decides.{nat_tests}
use Rattle.core_types.specs.CommandRow.{row_of_spec}
use Rattle.core_types.specs.Keyspace.{IsString, longest}
use Rattle.core_types.specs.declared.command_spec.CommandSpec.{CommandSpec}
use Rattle.sequences.specs.Words.{word}
use Rattle.module_laws.specs.Named.{command_name, row_named}
use Rattle.module_laws.specs.Words.{Bytes, Words}

abbrev pub is_spec : Bytes → CommandSpec → Bool
is_spec name spec = bytes_eq spec.name.now name

row_case : (b : Bool) (spec : CommandSpec) (rest : Option CommandSpec)
    → (if b then Some (row_of_spec spec) else option_map row_of_spec rest)
    ≡ option_map row_of_spec (if b then Some spec else rest)
row_case true spec rest = refl
row_case false spec rest = refl

-- the row that is found is that of the command that is found
pub row_found : (specs : List CommandSpec) (name : Bytes)
    → row_named name (map row_of_spec specs) ≡ option_map row_of_spec (find (is_spec name) specs)
row_found [] name = refl
row_found (spec ∷ specs) name =
    ap (λ rest. if is_spec name spec then Some (row_of_spec spec) else rest) (row_found specs name)
    ∙ row_case (is_spec name spec) spec (find (is_spec name) specs)

both : (a b : Bool) → (a && b) ≡ true → (a ≡ true) × (b ≡ true)
both true b e = (refl, e)
both false b e = absurd (true≢false (sym e))

short : (n : ℕ) → nat_le n longest ≡ true → n ≤ longest
short n is = grind (arith, nat_tests)

pub all_short : (words : Words) → list_all (λ word. nat_le (length word) longest) words ≡ true
    → AllByRecursion IsString words
all_short [] is = tt
all_short (word ∷ words) is =
    let parts = both (nat_le (length word) longest) (list_all (λ w. nat_le (length w) longest) words)
    is in (short (length word) parts.0, all_short words parts.1)

pub some_words : (count : ℕ) → (count == 0) ≡ false → 0 < count
some_words count is = grind (arith, nat_tests)

pub named : (words : Words) (name : Bytes) → 0 < length words
    → name ≡ map to_ascii_uppercase (word 0 words) → name ≡ command_name words
unfolding word
named [] name some is = absurd (omega (arith, some))
named (w ∷ words) name some is = is
