-- serves the clause of taken_as_put
use Rattle.std.proofs.Common.{List, [], ◌∷◌, ◌++◌, map, refl, ap}
use Rattle.std.specs.Prelude.{Ok}
use Rattle.std.specs.Int.{w64}
use Rattle.std.specs.List.{AllByRecursion}
use Rattle.std.proofs.lemmas.Int.{to_z-of_z}
use Rattle.core_types.specs.declared.tagged.Tagged.{Tagged}
use Rattle.tagged_io.specs.Putting.{Put, part, HasRange}
use Rattle.tagged_io.specs.Taking.{TakesAll}

pub taken-put : (puts : List Put) (more : List Tagged) → AllByRecursion HasRange puts → TakesAll puts (map part puts ++ more) more
taken-put [] more ranges = refl
taken-put (Put.Unsigned n ∷ puts) more ranges = (refl, taken-put puts more ranges.1)
taken-put (Put.Signed n ∷ puts) more ranges = (ap Ok (to_z-of_z w64 n ranges.0), taken-put puts more ranges.1)
taken-put (Put.Bytes bytes ∷ puts) more ranges = (refl, taken-put puts more ranges.1)
