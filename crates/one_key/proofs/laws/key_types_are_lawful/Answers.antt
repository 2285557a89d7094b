-- Serves the clause of key_types_are_lawful.
use Rattle.one_key.specs.inner.KeyLawful.{key_lawful}
use Rattle.one_key.proofs.laws.key_types_are_lawful.Goals as goal

pub returns : goal.returns
returns c = λ meaning laws. key_lawful meaning laws
