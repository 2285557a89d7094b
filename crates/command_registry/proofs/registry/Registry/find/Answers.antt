-- Serves the clause on the command of a name.
use Rattle.std.proofs.Common.{◌<◌, length, Some, Ok, Err, sym, ap, subst, ◌∙◌}
use Rattle.byte_text.specs.Name.{upper_name}
use Rattle.command_registry.specs.Registry.{Commands, command_named, name_of}
use Rattle.command_registry.proofs.Placed.{Found, has_name, hit, not_known}
use Rattle.command_registry.proofs.registry.Registry.find.Goals as goal

pub returns-in-Ok : goal.returns-in-Ok
returns-in-Ok c =
    let cs = c.self.inside.commands.items in
    let q = upper_name c.args.name.now in
    let within = subst (λ n. c.in-Ok.place < n) (ap length c.deref.ensures.value) c.in-Ok.ensures.bound in
    let found : Found cs q (Ok c.in-Ok.place) = subst (λ xs. Found xs q (Ok c.in-Ok.place)) c.deref.ensures.value c.in-Ok.ensures.found in
    record {
      command = ap Some c.index.ensures ∙ sym (hit cs q c.in-Ok.place c.index.result.now c.self.invariant within found)
          ∙ ap (λ (m : Commands). command_named m c.args.name.now) c.self.view_is;
      named = ap name_of c.index.ensures ∙ has_name cs q c.in-Ok.place c.index.result.now found;
    }

pub returns-in-Err : goal.returns-in-Err
returns-in-Err c =
    let cs = c.self.inside.commands.items in
    let q = upper_name c.args.name.now in
    let place = c.in-Err.field-0 in
    let found : Found cs q (Err place) = subst (λ xs. Found xs q (Err place)) c.deref.ensures.value c.in-Err.ensures.found in
    record { command = sym (not_known cs q place c.self.invariant found) ∙ ap (λ (m : Commands). command_named m c.args.name.now) c.self.view_is; named = tt }
