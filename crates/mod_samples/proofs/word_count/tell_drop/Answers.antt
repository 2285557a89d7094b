-- Serves clause ok of tell_drop.
use Rattle.std.proofs.Common.{[], ◌∷◌, ap, ◌∙◌, append_assoc}
use Rattle.std.specs.Prelude.{codes}
use Rattle.core_types.specs.declared.note.NoteClass.TheVariants as class
use Rattle.module_laws.specs.Told.{with_note}
use Rattle.mod_samples.specs.Changes.{module_note}
use Rattle.mod_samples.proofs.word_count.tell_drop.Goals as goal

pub returns-in_ok-notify-2-clause-ok : goal.returns-in_ok-notify-2-clause-ok
returns-in_ok-notify-2-clause-ok g c =
    let old = g.C.Context.told c.args.ctx.now in let key = c.args.key.now in
    rw c.if-gone.true (c.in_ok-notify-2.ensures.ok
    ∙ ap (with_note (record { class = class.Generic; name = codes "del"; key = key })) c.in_ok-notify.ensures.ok
    ∙ ap (λ ns. record old { notes = ns }) (append_assoc old.notes (module_note (codes "wordcount.drop") key ∷ []) (record { class = class.Generic; name = codes "del"; key = key } ∷ [])))

pub returns-else-gone-clause-ok : goal.returns-else-gone-clause-ok
returns-else-gone-clause-ok g c = rw c.if-gone.false c.in_ok-notify.ensures.ok
