-- Serves `mark_all` and `touch`: the clients that are listed for a key are marked, and no other
-- watches it.
use Rattle.std.proofs.Common.{◌≡◌, ◌==◌, refl, sym, ap, subst, ◌∙◌, ℕ, Bool, true, false, cond, ◌||◌, List, ◌∷◌, Option, Some, None, IfSome, eq-eqb}
use Rattle.std.specs.Option.{option_map}
use Rattle.std.specs.List.{list_any}
use Rattle.std.specs.Ordering.{nat_cmp}
use Rattle.std.specs.BTreeMap.{BTreeMap, get, is_at}
use Rattle.std.proofs.lemmas.Bool.{false≢true}
use Rattle.std.proofs.lemmas.Map.Lookups.{exact_unsigned}
use Rattle.std.proofs.lemmas.Map.Views.{tells_apart}
use Rattle.client_book.specs.declared.entry.Entry.{Entry}
use Rattle.client_book.specs.declared.watchers.Watchers.{Watchers}
use Rattle.client_book.specs.Client.{is_among}
use Rattle.client_book.specs.inner.Entry.{marked, Fits, BecomesAt}
use Rattle.client_book.specs.inner.Watching.{is_listed}

-- ---- one client

false_unless : (b : Bool) → (b ≡ true → ⊥) → b ≡ false
false_unless true never = absurd (never refl)
false_unless false never = refl

or_twice : (t b : Bool) → ((t || b) || b) ≡ (t || b)
or_twice true b = refl
or_twice false true = refl
or_twice false false = refl

marked_twice : (key : List ℕ) (o : Option Entry) → option_map (marked key) (option_map (marked key) o) ≡ option_map (marked key) o
marked_twice key None = refl
marked_twice key (Some e) = ap (λ touched. Some (record e { touched = touched })) (or_twice e.touched (is_among key e.watched))

same_of_test : (key : List ℕ) (t : Bool) (o : Option Entry) → option_map (marked key) (cond t (option_map (marked key) o) o) ≡ option_map (marked key) o
same_of_test key true o = marked_twice key o
same_of_test key false o = refl

-- a client that was marked stands for the same marked one
pub same_marked : (key : List ℕ) (client : ℕ) (before now : BTreeMap ℕ Entry) → BecomesAt client (marked key) before now → (q : ℕ) → option_map (marked key) (get nat_cmp now q) ≡ option_map (marked key) (get nat_cmp before q)
same_marked key client before now becomes q = ap (option_map (marked key)) (becomes q) ∙ same_of_test key (q == client) (get nat_cmp before q)

rest_of_test : (key : List ℕ) (t : Bool) (o : Option Entry) → (t ≡ false → option_map (marked key) o ≡ o) → option_map (marked key) (cond t (option_map (marked key) o) o) ≡ cond t (option_map (marked key) o) o
rest_of_test key true o rest = marked_twice key o
rest_of_test key false o rest = rest refl

-- and each that is left out of the rest is as if it were marked
pub rest_marked : (key : List ℕ) (client : ℕ) (before now : BTreeMap ℕ Entry) → BecomesAt client (marked key) before now → (q : ℕ)
    → (q == client ≡ false → option_map (marked key) (get nat_cmp before q) ≡ get nat_cmp before q) → option_map (marked key) (get nat_cmp now q) ≡ get nat_cmp now q
rest_marked key client before now becomes q rest =
    subst (λ o. option_map (marked key) o ≡ o) (sym (becomes q)) (rest_of_test key (q == client) (get nat_cmp before q) rest)

-- a client that is passed over is not the one that is met
pub skipped : (q client : ℕ) (rest : List ℕ) → q == client ≡ false → list_any (is_at (nat_cmp q)) rest ≡ false → list_any (is_at (nat_cmp q)) (client ∷ rest) ≡ false
skipped q client rest apart out =
    ap (λ b. b || list_any (is_at (nat_cmp q)) rest) (false_unless (is_at (nat_cmp q) client) (λ same. false≢true (sym apart ∙ eq-eqb q client (tells_apart exact_unsigned q client same)))) ∙ out

-- ---- a client that is not listed

unmarked : (b t : Bool) → b ≡ false → (t || b) ≡ t
unmarked b true is = refl
unmarked b false is = is

-- one that is not listed for the key does not watch it
pub unlisted : (flushes : ℕ) (watchers : Watchers) (client : ℕ) (key : List ℕ) (o : Option Entry) → IfSome o (Fits flushes watchers client) → is_listed watchers key client ≡ false → option_map (marked key) o ≡ o
unlisted flushes watchers client key None fits out = refl
unlisted flushes watchers client key (Some e) fits out =
    ap (λ touched. Some (record e { touched = touched })) (unmarked (is_among key e.watched) e.touched (false_unless _ (λ among. false≢true (sym out ∙ fits.indexed key among))))
