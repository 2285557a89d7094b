-- Serves clause left of HashBody::remove_all.
use Rattle.std.proofs.Common.{◌||◌, List, ℕ, sym, ap, ◌∙◌}
use Rattle.std.specs.Borrow.{Bor}
use Rattle.core_types.specs.inner.Removals.{is_among, set_names}
use Rattle.core_types.proofs.NameSets.{among_more}
use Rattle.core_types.proofs.field_map.name_set.Goals as goal

pub loop-name-preserved : goal.loop-name-preserved
loop-name-preserved c = λ name.
    let there = c.loop-name.set.keys in
    let left = c.next.new.self in
    ap (λ (keys : List (Bor (List ℕ))). is_among (set_names keys) name || is_among left name)
    c.in_ok-insert.ensures.keys
    ∙ among_more c.in-Some.name there left name
    ∙ ap (λ (names : List (List ℕ)). is_among (set_names there) name || is_among names name)
    (sym c.in-Some.ensures.steps)
    ∙ c.loop-name.invariant name
