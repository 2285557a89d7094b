-- What a context with one string has under a key. Serves the clause of text::is_text.
use Rattle.std.proofs.Common.{◌≡◌, Bool, true, false, Option, Some, None, refl, ap, ◌∙◌, if◌then◌else◌}
use Rattle.std.specs.Prelude.{codes}
use Rattle.std.specs.Option.{option_map}
use Rattle.std.specs.Ordering.{nat_cmp}
use Rattle.std.specs.Cmp.Lexicographic.{slice_cmp}
use Rattle.std.specs.FinMap.{get-empty}
use Rattle.std.specs.Str.{bytes_eq}
use Rattle.core_types.proofs.KeyLemmas.{entry_at-with_entry}
use Rattle.core_types.specs.Keys.{Entry, Native, entry_at, no_keys}
use Rattle.core_types.specs.declared.value.Value.TheVariants as value
use Rattle.core_types.specs.declared.value.Kind.{Kind}
use Rattle.module_laws.specs.Told.{kind_at, kind_of}
use Rattle.module_laws.specs.Words.{Bytes}
use Rattle.module_tests.specs.Texts.{text_key, text_keys, text_kind}

abbrev kind_in : Option (Entry Native) → Option Kind
kind_in found = option_map kind_of (option_map (λ entry. entry.value) found)

abbrev text_entry : Entry Native
text_entry = record { value = value.Str (codes "text"); deadline = None }

found_case : (key : Bytes) (b : Bool) → kind_in (if b then Some text_entry else entry_at no_keys key) ≡ text_kind b
found_case key true = refl
found_case key false = ap kind_in (get-empty (slice_cmp nat_cmp) key)

pub text_found : (key : Bytes) → kind_at text_keys key ≡ text_kind (bytes_eq key text_key)
text_found key = ap kind_in (entry_at-with_entry no_keys text_key text_entry key) ∙ found_case key (bytes_eq key text_key)
