-- Serves `contains` and `insert` of `Watched`: keys that are kept as vectors, by their bytes.
use Rattle.std.proofs.Common.{◌≡◌, refl, ap, ℕ, ◌||◌, List, [], ◌∷◌, map}
use Rattle.std.specs.List.{list_any}
use Rattle.std.specs.declared.cmp.Ordering.{Ordering}
use Rattle.std.specs.declared.cmp.Ordering.TheVariants.{Less, Equal, Greater}
use Rattle.std.specs.Ordering.{nat_cmp, eq_by_cmp, match_ordering}
use Rattle.std.specs.Cmp.Lexicographic.{slice_cmp}
use Rattle.std.specs.BTreeSet.{insert_key}
use Rattle.client_book.specs.Client.{is_among}

module _ {K : Type 0} (items : K → List ℕ) where
  pub is_among-map : (key : List ℕ) (keys : List K) → list_any (λ k. eq_by_cmp (slice_cmp nat_cmp) key (items k)) keys ≡ is_among key (map items keys)
  is_among-map key [] = refl
  is_among-map key (k ∷ keys) = ap (λ b. eq_by_cmp (slice_cmp nat_cmp) key (items k) || b) (is_among-map key keys)

  placed : (o : Ordering) (k new : K) (keys later : List K) (put : List (List ℕ)) → map items later ≡ put
      → map items (match_ordering o (new ∷ k ∷ keys) (k ∷ keys) (k ∷ later)) ≡ match_ordering o (items new ∷ items k ∷ map items keys) (items k ∷ map items keys) (items k ∷ put)
  placed Less k new keys later put is = refl
  placed Equal k new keys later put is = refl
  placed Greater k new keys later put is = ap (λ ks. items k ∷ ks) is

  pub insert_key-map : (new : K) (keys : List K) → map items (insert_key (λ x y. slice_cmp nat_cmp (items x) (items y)) keys new) ≡ insert_key (slice_cmp nat_cmp) (map items keys) (items new)
  insert_key-map new [] = refl
  insert_key-map new (k ∷ keys) = placed (slice_cmp nat_cmp (items new) (items k)) k new keys _ _ (insert_key-map new keys)
