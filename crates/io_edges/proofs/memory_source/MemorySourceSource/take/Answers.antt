-- Serves the clause `bytes`: what was taken stands at the front of the piece.
use Rattle.std.proofs.Common.{◌≡◌, drop, ap, ◌∙◌, arith}
use Rattle.io_edges.proofs.Taken.{copied_front, copied_none}
use Rattle.io_edges.proofs.memory_source.MemorySourceSource.take.Goals as goal

pub returns-clause-bytes : goal.returns-clause-bytes
returns-clause-bytes c =
    let source = c.self.inside in
    let rest = c.split_at.result.1.now in
    let is : rest ≡ drop source.taken source.bytes = c.split_at.ensures.back ∙ ap (drop source.taken) c.as_slice.ensures.bytes in
    rw (← c.self.view_is) (
      copied_front source.bytes _ rest source.taken c.copy_front-count.result is c.copy_front-count.ensures.copied,
      λ none room. copied_none source.bytes c.args.into.now rest source.taken c.copy_front-count.result is c.copy_front-count.ensures.count none (omega arith),
    )
