-- Serves clause ok of Table::rename.
use Rattle.std.proofs.Common.{ap, sym, ◌∙◌, is_some}
use Rattle.std.specs.Option.{option_map}
use Rattle.std.proofs.lemmas.Option.{same_Some}
use Rattle.key_store.specs.inner.Held.{held}
use Rattle.key_store.proofs.Moves.{still_there, held_there, moved}
use Rattle.key_store.proofs.table.Table.rename.Goals as goal

pub unreachable-requires : goal.unreachable-requires
unreachable-requires g c =
    still_there c.args.self.now c.hold.new.self c.args.from.now c.args.to.now c.requires.there c.requires.apart c.in_ok-before.ensures.ok
    (sym c.remove.ensures.entry ∙ ap (option_map (λ p. p.1)) c.in_default.is)

pub exchange-requires : goal.exchange-requires
exchange-requires g c =
    record { there = ap is_some (held_there c.args.self.now c.hold.new.self c.remove.new.self c.args.from.now c.args.to.now c.requires.apart c.in_ok-before.ensures.ok c.remove.ensures.removed) }

pub discard-requires : goal.discard-requires
discard-requires g c =
    same_Some c.exchange.result held
    (c.exchange.ensures.before ∙ held_there c.args.self.now c.hold.new.self c.remove.new.self c.args.from.now c.args.to.now c.requires.apart c.in_ok-before.ensures.ok c.remove.ensures.removed)

pub returns-clause-ok : goal.returns-clause-ok
returns-clause-ok g c =
    c.exchange.ensures.after
    ∙ moved c.args.self.now c.hold.new.self c.remove.new.self c.args.from.now c.args.to.now c.in-Some.stored c.requires.apart c.in_ok-before.ensures.ok c.remove.ensures.removed
    c.in-Some.ensures.entry
