use Rattle.std.proofs.Common.{◌≡◌, ap, sym, ◌∙◌, subst, ⊎_elim, false, map}
use Rattle.std.specs.List.{list_any}
use Rattle.std.proofs.lemmas.Bool.{false≢true}
use Rattle.std.proofs.lemmas.List.{map-id}
use Rattle.std.proofs.lemmas.Map.Iter.{iter_end}
use Rattle.client_book.specs.Client.{is_among}
use Rattle.client_book.specs.inner.Watching.{is_listed}
use Rattle.client_book.proofs.Keys.{is_among-map}
use Rattle.client_book.proofs.Listing.{is_same, among_more, still_false}
use Rattle.client_book.proofs.watchers.Watchers.forget.Goals as goal

pub loop-key-init : goal.loop-key-init
loop-key-init c = record {
  gone = λ q none. absurd (false≢true none);
  no_other = λ key client had. had;
  kept = λ key client apart had. had;
}

pub loop-key-preserved : goal.loop-key-preserved
loop-key-preserved c =
    let before = c.loop-key.invariant in
    let now = c.remove.ensures in
    let left = c.remove.new.self in
    let key_gone : is_listed left c.in-Some.key.items c.args.client ≡ false =
    ap (λ key. is_listed left key c.args.client) (sym c.deref.ensures.value) ∙ now.gone in
    record {
      gone = λ q among.
          ⊎_elim
          (λ old.
          still_false _ _ (now.no_other q c.args.client) (before.gone q old))
          (λ here. subst (λ key. is_listed left key c.args.client ≡ false) (sym here) key_gone)
          (among_more (λ key. key.items) q c.loop-key.yielded c.in-Some.key among);
      no_other = λ key client has. before.no_other key client (now.no_other key client has);
      kept = λ key other apart had.
          ⊎_elim (λ kept. kept) (λ gone. absurd (apart gone.1))
          (now.kept key other (before.kept key other apart had));
    }

pub returns-clause-gone : goal.returns-clause-gone
returns-clause-gone c = λ q among.
    let keys = c.into_keys-key-items.result.keys in
    let started = c.into_iter-key-iterator in
    let gone_through : map (λ key. key) c.loop-key.yielded ≡ keys =
    (iter_end (λ key. key) keys c.loop-key.yielded started.result c.loop-key.key-iterator
    c.next.new.self c.next.result started.ensures.into_iter_gives.0 c.loop-key.yielded_by
    c.in-None.is c.next.ensures.steps).0 in
    let all = sym (map-id c.loop-key.yielded) ∙ gone_through in
    c.loop-key.invariant.gone q
    (ap (list_any (λ key. is_same q key.items)) all
    ∙ is_among-map (λ key. key.items) q keys
    ∙ ap (is_among q) c.into_keys-key-items.ensures.keys
    ∙ among)

pub returns-clause-no_other : goal.returns-clause-no_other
returns-clause-no_other c = c.loop-key.invariant.no_other

pub returns-clause-kept : goal.returns-clause-kept
returns-clause-kept c = c.loop-key.invariant.kept
