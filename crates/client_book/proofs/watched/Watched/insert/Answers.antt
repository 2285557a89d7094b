use Rattle.std.proofs.Common.{ap, ◌∙◌, map}
use Rattle.std.specs.Ordering.{nat_cmp}
use Rattle.std.specs.Cmp.Lexicographic.{slice_cmp}
use Rattle.std.specs.BTreeSet.{insert_key}
use Rattle.client_book.proofs.Keys.{insert_key-map}
use Rattle.client_book.proofs.watched.Watched.insert.Goals as goal

pub returns-clause-ok : goal.returns-clause-ok
returns-clause-ok c =
    ap (map (λ k. k.items)) c.in_ok-insert.ensures.keys
    ∙ insert_key-map (λ k. k.items) c.in_ok-key.key c.self.inside.keys.keys
    ∙ ap (λ keys. insert_key (slice_cmp nat_cmp) keys c.in_ok-key.key.items) c.self.view_is
    ∙ ap (insert_key (slice_cmp nat_cmp) c.args.self.now) c.in_ok-key.ensures.items
