-- Serves the invariant of `Book` at `watch`: each key that a client watches lists it.
use Rattle.std.proofs.Common.{◌≡◌, ◌⊎◌, inl, inr, ⊎_elim, refl, sym, subst, ℕ, Bool, true, false, cond, ◌||◌, List, [], ◌∷◌, Option, Some, None, IfSome}
use Rattle.std.specs.declared.cmp.Ordering.{Ordering}
use Rattle.std.specs.declared.cmp.Ordering.TheVariants.{Less, Equal, Greater}
use Rattle.std.specs.Ordering.{nat_cmp, match_ordering}
use Rattle.std.specs.Cmp.Lexicographic.{slice_cmp}
use Rattle.std.specs.BTreeMap.{BTreeMap, get, is_at, UpdatesBy}
use Rattle.std.specs.BTreeSet.{insert_key}
use Rattle.std.proofs.lemmas.Map.Lookups.{exact_bytes, exact_unsigned}
use Rattle.std.proofs.lemmas.Map.Views.{tells_apart}
use Rattle.client_book.specs.declared.entry.Entry.{Entry}
use Rattle.client_book.specs.declared.watchers.Watchers.{Watchers}
use Rattle.client_book.specs.Client.{is_among}
use Rattle.client_book.specs.inner.Entry.{Fits, AllFit}
use Rattle.client_book.specs.inner.Watching.{Keeps}

-- ---- what a longer list of keys has

or_cases : (a b : Bool) → (a || b) ≡ true → (a ≡ true) ⊎ (b ≡ true)
or_cases true b is = inl refl
or_cases false b is = inr is

or_right : (a b : Bool) → b ≡ true → (a || b) ≡ true
or_right true b is = refl
or_right false b is = is

or_left : (a b : Bool) → a ≡ true → (a || b) ≡ true
or_left true b is = refl
or_left false b is = absurd (cc)

among_of_order : (o : Ordering) (q new k : List ℕ) (keys later : List (List ℕ)) → (is_among q later ≡ true → (q ≡ new) ⊎ (is_among q keys ≡ true))
    → is_among q (match_ordering o (new ∷ k ∷ keys) (k ∷ keys) (k ∷ later)) ≡ true → (q ≡ new) ⊎ (is_among q (k ∷ keys) ≡ true)
among_of_order Less q new k keys later rest is = ⊎_elim (λ same. inl (tells_apart exact_bytes q new same)) (λ old. inr old) (or_cases _ _ is)
among_of_order Equal q new k keys later rest is = inr is
among_of_order Greater q new k keys later rest is =
    ⊎_elim (λ here. inr (or_left _ _ here)) (λ there. ⊎_elim (λ same. inl same) (λ old. inr (or_right _ _ old)) (rest there)) (or_cases _ _ is)

pub among_inserted : (q new : List ℕ) (keys : List (List ℕ)) → is_among q (insert_key (slice_cmp nat_cmp) keys new) ≡ true → (q ≡ new) ⊎ (is_among q keys ≡ true)
among_inserted q new [] is = ⊎_elim (λ same. inl (tells_apart exact_bytes q new same)) (λ old. inr old) (or_cases _ _ is)
among_inserted q new (k ∷ keys) is = among_of_order (slice_cmp nat_cmp new k) q new k keys _ (among_inserted q new keys) is

-- ---- the table

pub fits_later : (flushes : ℕ) (before now : Watchers) (client : ℕ) (o : Option Entry) → Keeps before now → IfSome o (Fits flushes before client) → IfSome o (Fits flushes now client)
fits_later flushes before now client None kept fits = tt
fits_later flushes before now client (Some e) kept fits = record {
  past = fits.past;
  early = fits.early;
  indexed = λ key among. kept key client (fits.indexed key among);
  few = fits.few;
}

fits_of_test : (flushes : ℕ) (now : Watchers) (k q : ℕ) (w : Entry) (o : Option Entry) (t : Bool) → (t ≡ true → k ≡ q) → Fits flushes now k w → IfSome o (Fits flushes now q) → IfSome (cond t (Some w) o) (Fits flushes now q)
fits_of_test flushes now k q w o true same fits rest = subst (λ client. Fits flushes now client w) (same refl) fits
fits_of_test flushes now k q w o false same fits rest = rest

-- where the index keeps those that it lists, all fit it after one entry was written that does
pub all_fit : (flushes : ℕ) (before now : Watchers) (m n : BTreeMap ℕ Entry) (k : ℕ) {w : Entry} → UpdatesBy nat_cmp (nat_cmp k) m n (Some w) → Keeps before now → AllFit flushes before m → Fits flushes now k w → AllFit flushes now n
all_fit flushes before now m n k {w} updates kept all fits = λ q.
    subst (λ o. IfSome o (Fits flushes now q)) (sym (updates.0 q))
    (fits_of_test flushes now k q w (get nat_cmp m q) (is_at (nat_cmp k) q) (λ same. tells_apart exact_unsigned k q same) fits (fits_later flushes before now q (get nat_cmp m q) kept (all q)))
