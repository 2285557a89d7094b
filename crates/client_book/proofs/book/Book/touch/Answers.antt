use Rattle.std.proofs.Common.{ap, sym, ◌∙◌}
use Rattle.std.specs.Ordering.{nat_cmp}
use Rattle.std.specs.BTreeMap.{get}
use Rattle.client_book.specs.Client.{sees_change}
use Rattle.client_book.specs.Register.{changes_all}
use Rattle.client_book.specs.inner.Watching.{is_in}
use Rattle.client_book.proofs.Changing.{touched-view}
use Rattle.client_book.proofs.Marking.{unlisted}
use Rattle.client_book.proofs.book.Book.touch.Goals as goal

pub mark_all-requires : goal.mark_all-requires
mark_all-requires c = record {
  others = λ q out. unlisted c.self.inside.flushes c.self.inside.watchers q c.args.key.now (get nat_cmp c.self.inside.clients q) (c.self.invariant q) (ap (λ o. is_in o q) (sym c.in-Some.ensures.listed) ∙ out);
}

pub returns-in-Some : goal.returns-in-Some
returns-in-Some c = record {
  marked = touched-view c.self.inside c.mark_all.new.clients c.args.key.now c.mark_all.ensures.marked ∙ ap (changes_all (sees_change c.args.key.now)) c.self.view_is;
}

pub returns-in_default : goal.returns-in_default
returns-in_default c = record {
  marked = sym c.self.view_is
      ∙ touched-view c.self.inside c.self.inside.clients c.args.key.now
      (λ q. sym (unlisted c.self.inside.flushes c.self.inside.watchers q c.args.key.now (get nat_cmp c.self.inside.clients q) (c.self.invariant q) (ap (λ o. is_in o q) (sym c.in_default.ensures.listed))))
      ∙ ap (changes_all (sees_change c.args.key.now)) c.self.view_is;
}
