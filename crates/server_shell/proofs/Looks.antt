-- Serves clauses usage and usage_untouched of `modhost`: a look never ends as faulty words do.
use Rattle.std.proofs.Common.{◌≡◌, subst, ℕ}
use Rattle.disk_model.specs.Told.{Told}
use Rattle.restart.specs.declared.opening.OpenStop.{OpenStop}
use Rattle.restart.specs.declared.opening.OpenStop.TheVariants as stops
use Rattle.server_shell.specs.Check.{CheckEnds}
use Rattle.server_shell.specs.Pipe.{Outside}
use Rattle.server_shell.specs.Stops.{status_of_stop}
use Rattle.server_shell.specs.declared.status.Status.{Status}
use Rattle.server_shell.specs.declared.status.Status.TheVariants as status

no_stop : (place : ℕ) (why : OpenStop) → status.Usage place ≡ status_of_stop why → ⊥
no_stop place (stops.LogRefused file at reason) is = absurd cc
no_stop place stops.NotBuilt is = absurd cc
no_stop place stops.Dir is = absurd cc
no_stop place (stops.Stopped why) is = absurd cc

pub looks_are_no_usage : (end : Status) (old new : Told) (o : Outside) (place : ℕ) → CheckEnds end old new o → end ≡ status.Usage place → ⊥
looks_are_no_usage end old new o place ends is =
    let refused = (subst (λ end. CheckEnds end old new o) is ends).1 in
    no_stop place refused.why refused.is
