-- What a context tells that has one key, which has a string.
use Rattle.std.specs.Prelude.{ℕ, Bool, true, false, [], Option, Some, None, codes}
use Rattle.core_types.specs.Keys.{Keys, Native, no_keys, with_value}
use Rattle.core_types.specs.declared.value.Kind.{Kind}
use Rattle.core_types.specs.declared.value.Kind.TheVariants as kind
use Rattle.core_types.specs.declared.value.Value.TheVariants as value
use Rattle.module_laws.specs.Told.{Told}
use Rattle.module_laws.specs.Types.{NativeType}
use Rattle.module_laws.specs.Words.{Bytes}
use Rattle.module_tests.specs.Shelf.{no_builtins}

abbrev pub text_key : Bytes
text_key = codes "s"

abbrev pub text_keys : Keys
text_keys = with_value no_keys text_key (value.Str (codes "text"))

abbrev pub text_told : ℕ → Told
text_told moment = record {
  seen = record { builtins = no_builtins; keys = text_keys; moment = moment };
  effects = [];
  notes = [];
  added = [];
  has_serial = false;
}

-- the kind of a key that is the one with the string, or is not
abbrev pub text_kind : Bool → Option Kind
text_kind true = Some kind.Str
text_kind false = None

-- the value of a module, which no key of such a context has
abbrev pub mark_type : NativeType
mark_type = record { name = codes "marktypes"; is_empty = λ items. false }

abbrev pub mark : Native
mark = record { name = codes "marktypes"; items = [] }
