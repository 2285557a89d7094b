-- The tree of words as the list that it is seen as. Serves the clauses of Counts.
use Rattle.std.proofs.Common.{◌≡◌, ℕ, Bool, true, false, List, [], ◌∷◌, map, Some, refl, ap, if◌then◌else◌}
use Rattle.std.specs.Ordering.{match_ordering}
use Rattle.std.specs.declared.cmp.Ordering.{Ordering}
use Rattle.std.specs.declared.cmp.Ordering.TheVariants.{Less, Equal, Greater}
use Rattle.std.specs.BTreeMap.{insert_entry}
use Rattle.std.specs.Map.{lookup, remove_entry}
use Rattle.module_laws.specs.Words.{Bytes}
use Rattle.mod_samples.specs.Counts.{Counted, count_at, counted, is_word, with_count, without_word, word_order}

module _ {K : Type 0} (bytes : K → Bytes) where
  -- an entry as a word with a count
  abbrev pub read : K × ℕ → Counted
  read e = record { word = bytes e.0; count = e.1 }

  abbrev pub by_bytes : K → K → Ordering
  by_bytes x y = word_order (bytes x) (bytes y)

  put_case : (o : Ordering) (k : K) (n : ℕ) (e : K × ℕ) (es : List (K × ℕ))
      → map read (insert_entry by_bytes es k n) ≡ with_count (bytes k) n (map read es)
      → map read (match_ordering o ((k, n) ∷ e ∷ es) ((e.0, n) ∷ es) (e ∷ insert_entry by_bytes es k n))
      ≡ match_ordering o (counted (bytes k) n ∷ read e ∷ map read es) (counted (bytes e.0) n ∷ map read es)
      (read e ∷ with_count (bytes k) n (map read es))
  put_case Less k n e es rest = refl
  put_case Equal k n e es rest = refl
  put_case Greater k n e es rest = ap (λ cs. read e ∷ cs) rest

  pub inserted : (es : List (K × ℕ)) (k : K) (n : ℕ)
      → map read (insert_entry by_bytes es k n) ≡ with_count (bytes k) n (map read es)
  inserted [] k n = refl
  inserted (e ∷ es) k n = put_case (by_bytes k e.0) k n e es (inserted es k n)

  -- whether a word is that of a key
  abbrev pub has_word : Bytes → K → Bool
  has_word word k = is_word word (bytes k)

  found_case : (b : Bool) (word : Bytes) (e : K × ℕ) (es : List (K × ℕ))
      → lookup (has_word word) es ≡ count_at word (map read es)
      → (if b then Some e.1 else lookup (has_word word) es)
      ≡ (if b then Some e.1 else count_at word (map read es))
  found_case true word e es rest = refl
  found_case false word e es rest = rest

  pub found : (es : List (K × ℕ)) (word : Bytes)
      → lookup (has_word word) es ≡ count_at word (map read es)
  found [] word = refl
  found (e ∷ es) word = found_case (has_word word e.0) word e es (found es word)

  out_case : (b : Bool) (word : Bytes) (e : K × ℕ) (es : List (K × ℕ))
      → map read (remove_entry (has_word word) es) ≡ without_word word (map read es)
      → map read (if b then es else e ∷ remove_entry (has_word word) es)
      ≡ (if b then map read es else read e ∷ without_word word (map read es))
  out_case true word e es rest = refl
  out_case false word e es rest = ap (λ cs. read e ∷ cs) rest

  pub removed : (es : List (K × ℕ)) (word : Bytes)
      → map read (remove_entry (has_word word) es) ≡ without_word word (map read es)
  removed [] word = refl
  removed (e ∷ es) word = out_case (has_word word e.0) word e es (removed es word)
