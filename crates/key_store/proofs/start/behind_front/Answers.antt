-- Serves the clauses of behind_front.
use Rattle.std.proofs.Common.{ap, ◌∙◌}
use Rattle.std.specs.Cmp.Lexicographic.{slice_cmp}
use Rattle.std.specs.Ordering.{nat_cmp, is_lt}
use Rattle.key_store.proofs.Listings.{front_after, front_from}
use Rattle.key_store.proofs.start.behind_front.Goals as goal

pub returns : goal.returns
returns c =
    record {
      from = λ name short. ap (λ front. is_lt (slice_cmp nat_cmp front name)) c.new.ensures
          ∙ front_from c.args.name.now c.requires.long name short;
      after = λ name short. ap (λ front. is_lt (slice_cmp nat_cmp front name)) c.new.ensures
          ∙ front_after c.args.name.now c.requires.long name short;
    }
