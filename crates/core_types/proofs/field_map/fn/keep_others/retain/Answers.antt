-- Serves clause left of HashBody::remove_all.
use Rattle.std.proofs.Common.{List, ℕ, not, refl, ap, ◌∙◌}
use Rattle.core_types.specs.inner.Removals.{is_among, set_names}
use Rattle.core_types.proofs.NameSets.{found_is}
use Rattle.core_types.proofs.field_map.fn.keep_others.retain.Goals as goal

pub returns : goal.returns
returns c =
    let keys = c.captures.names.now.keys in
    let name = c.as_slice.ensures.value in (
      ap not (c.contains.ensures ∙ found_is c.as_slice.result.now keys
          ∙ ap (λ (n : List ℕ). is_among (set_names keys) n) name),
      refl,
    )
