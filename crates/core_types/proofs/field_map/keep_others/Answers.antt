-- Serves clause left of HashBody::remove_all.
use Rattle.std.proofs.Common.{rules, ℕ, List, Bool, not, refl, ap, ◌∙◌}
use Rattle.std.specs.declared.alloc.Global.{Global}
use Rattle.std.specs.declared.vec.Vec.{Vec}
use Rattle.indexmap.proofs.CallerLemmas.{filter-RetainsPairs}
use Rattle.core_types.specs.HashEntries.{fields_of}
use Rattle.core_types.specs.inner.Removals.{is_among, set_names}
use Rattle.core_types.proofs.Removals.{entries_but}
use Rattle.core_types.proofs.field_map.keep_others.Goals as goal

pub returns-clause-left : goal.returns-clause-left
returns-clause-left c =
    let names = set_names c.args.names.now.keys in
    let stays : Vec ℕ Global × List ℕ → Bool =
    λ (entry : Vec ℕ Global × List ℕ). not (is_among names entry.0.items) in
    let kept = c.retain.ensures.filtered in
    ap fields_of (filter-RetainsPairs _ stays _ (λ k v b w g call. search rules) _ _ kept)
    ∙ entries_but names stays c.args.fields.now.entries (λ entry. refl)
