-- Serves clause runs of `pipe`: a host that was just started has told client 1 nothing.
use Rattle.std.proofs.Common.{◌≡◌, sym, ap, subst, ◌∙◌, length, arith}
use Rattle.std.specs.List.{AllByRecursion}
use Rattle.disk_model.specs.Told.{Told}
use Rattle.host_core.specs.Clients.{client_at}
use Rattle.host_core.specs.Core.{Held}
use Rattle.durable_host.specs.Host.{Host, KeepsHistory}
use Rattle.durable_host.specs.Kept.{Kept}
use Rattle.durable_host.specs.Starts.{Begins}
use Rattle.client_book.specs.Register.{listed}
use Rattle.durable_host.proofs.Opened.{nobody_listed, nobody_there}
use Rattle.durable_host.specs.Taking.{taken_of}
use Rattle.server_shell.specs.Making.{tells}
use Rattle.server_shell.specs.Stream.{IsCaughtUp, StaysOn}

pub begun_caught_up : {D : Type 0} (told : D → Told) (old : Told) (host : Host D) → Begins told old host → KeepsHistory told host → IsCaughtUp told host
begun_caught_up told old host begins keeps =
    let nothing : length (tells host.kept.opening host.kept.events) ≡ 0 = ap (λ (k : Kept). length (tells k.opening k.events)) begins.kept in
    record {
      runs = begins.runs;
      keeps = keeps;
      one = record {
        from_first = ap (λ (k : Kept). k.first) begins.kept;
        none = ap (λ (k : Kept). client_at k.opening.clients 1) begins.kept ∙ nobody_there 1;
        stays = subst (λ (k : Kept). AllByRecursion StaysOn k.events) (sym begins.kept) tt;
      };
      taken = ap (λ (held : Held). taken_of (listed held.register 1)) begins.held ∙ ap taken_of (nobody_listed 1) ∙ sym nothing;
      safely = omega (arith, nothing);
    }
