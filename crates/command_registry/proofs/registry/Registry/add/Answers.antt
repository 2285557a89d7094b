-- Serves the clauses on a command that is added or refused, and the invariant.
use Rattle.std.proofs.Common.{◌<◌, ◌≤◌, length, IsSome, Ok, Err, sym, ap, subst, ◌∙◌, arith}
use Rattle.std.specs.FinMap as map
use Rattle.byte_text.specs.Name.{upper_name}
use Rattle.command_registry.specs.Registry.{Commands, Command, command_named, with_command, most_commands}
use Rattle.command_registry.specs.inner.Sorted.{IsSorted, named}
use Rattle.command_registry.proofs.Placed.{by_name, Found, known, len-named, map_with, not_known, sorted_with}
use Rattle.command_registry.proofs.registry.Registry.add.Goals as goal

pub returns-in_default-clause-cause : goal.returns-in_default-clause-cause
returns-in_default-clause-cause c =
    let cs = c.self.inside.commands.items in
    let q = upper_name c.args.spec.name.now in
    let place = c.in_default.field-0 in
    let within = subst (λ n. place < n) (ap length c.deref.ensures.value) c.in_default.ensures.bound in
    let found : Found cs q (Ok place) = subst (λ xs. Found xs q (Ok place)) c.deref.ensures.value c.in_default.ensures.found in
    subst (λ (m : Commands). IsSome (command_named m c.args.spec.name.now)) c.self.view_is (known cs q place c.self.invariant within found)

pub returns-then-len-ge-MOST-clause-cause : goal.returns-then-len-ge-MOST-clause-cause
returns-then-len-ge-MOST-clause-cause c =
    let cs = c.self.inside.commands.items in
    let q = upper_name c.args.spec.name.now in
    let place = c.in-Err.place in
    let found : Found cs q (Err place) = subst (λ xs. Found xs q (Err place)) c.deref.ensures.value c.in-Err.ensures.found in
    let len = ap map.len (sym c.self.view_is) ∙ len-named cs c.self.invariant in
    let is = c.len.ensures in
    let whole = c.self.inside.commands.ok.0 in
    let full = c.if-len-ge-MOST.true in
    let few = c.self.invariant.few in
    (sym (ap (λ (m : Commands). command_named m c.args.spec.name.now) c.self.view_is) ∙ not_known cs q place c.self.invariant found, omega arith)

pub returns-in-Err-insert-clause-cause : goal.returns-in-Err-insert-clause-cause
returns-in-Err-insert-clause-cause c =
    let cs = c.self.inside.commands.items in
    let q = upper_name c.args.spec.name.now in
    let place = c.in-Err.place in
    let found : Found cs q (Err place) = subst (λ xs. Found xs q (Err place)) c.deref.ensures.value c.in-Err.ensures.found in
    let len = ap map.len (sym c.self.view_is) ∙ len-named cs c.self.invariant in
    let is = c.len.ensures in
    let whole = c.self.inside.commands.ok.0 in
    let room = c.if-len-ge-MOST.false in
    (sym (ap (λ (m : Commands). command_named m c.args.spec.name.now) c.self.view_is) ∙ not_known cs q place c.self.invariant found, omega arith)

pub returns-clause-cause : goal.returns-clause-cause
returns-clause-cause c =
    let cs = c.self.inside.commands.items in
    let q = upper_name c.args.spec.name.now in
    let place = c.in-Err.place in
    let found : Found cs q (Err place) = subst (λ xs. Found xs q (Err place)) c.deref.ensures.value c.in-Err.ensures.found in
    let len = ap map.len (sym c.self.view_is) ∙ len-named cs c.self.invariant in
    let is = c.len.ensures in
    let whole = c.self.inside.commands.ok.0 in
    let room = c.if-len-ge-MOST.false in
    (sym (ap (λ (m : Commands). command_named m c.args.spec.name.now) c.self.view_is) ∙ not_known cs q place c.self.invariant found, omega arith)

pub invariant_of-self-2 : goal.invariant_of-self-2
invariant_of-self-2 c =
    let cs = c.self.inside.commands.items in
    let q = upper_name c.args.spec.name.now in
    let place = c.in-Err.place in
    let found : Found cs q (Err place) = subst (λ xs. Found xs q (Err place)) c.deref.ensures.value c.in-Err.ensures.found in
    let within : place ≤ length cs = subst (λ n. place ≤ n) (ap length c.deref.ensures.value) c.in-Err.ensures.bound in
    let room : length cs < most_commands = (let is = c.len.ensures in let whole = c.self.inside.commands.ok.0 in let room = c.if-len-ge-MOST.false in omega arith) in
    subst IsSorted (sym c.in_default-insert.ensures.items) (sorted_with cs place (c.args.spec, c.args.owner) c.self.invariant within found room)

pub returns-clause-added : goal.returns-clause-added
returns-clause-added c =
    let cs = c.self.inside.commands.items in
    let q = upper_name c.args.spec.name.now in
    let place = c.in-Err.place in
    let found : Found cs q (Err place) = subst (λ xs. Found xs q (Err place)) c.deref.ensures.value c.in-Err.ensures.found in
    let command : Command = (c.args.spec, c.args.owner) in
    ap (λ xs. map.from_entries {R = by_name} (named xs)) c.in_default-insert.ensures.items ∙ map_with cs place command c.self.invariant found
    ∙ ap (λ (m : Commands). with_command m c.args.spec c.args.owner) c.self.view_is
