-- Serves clause copied of copy_keys.
use Rattle.std.proofs.Common.{◌++◌, ap, map, sym, ◌∙◌}
use Rattle.std.proofs.lemmas.List.{append-nil}
use Rattle.host_core.specs.inner.Saving.{saved_entry}
use Rattle.host_core.proofs.Copied.{copied_all, entry_of}
use Rattle.host_core.proofs.opening.copy_keys.Goals as goal

pub returns : goal.returns
returns c =
    record {
      copied = copied_all c.args.keys.now c.loop-key.saved.items
          (sym (append-nil (map saved_entry c.loop-key.saved.items)) ∙ ap (λ rest. map saved_entry c.loop-key.saved.items ++ map (entry_of c.args.keys.now) rest) (sym c.in-None.ensures.steps.0) ∙ c.loop-key.invariant);
    }
