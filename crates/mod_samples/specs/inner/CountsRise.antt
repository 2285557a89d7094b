-- Words with counts stay in byte order.
use Rattle.std.proofs.Common.{◌≡◌, ℕ, Bool, true, false, ◌&&◌, List, [], ◌∷◌, ◌++◌, Option, Some, None, refl, ap, sym, subst, true≢false, ◌∙◌, arith, if◌then◌else◌}
use Rattle.std.specs.Prelude.{◌<◌, ◌≤◌, ◌^◌, nat_le, nat_lt}
use Rattle.std.specs.Cmp.Lexicographic.{nat_list_cmp_total}
use Rattle.std.specs.Ordering.{is_lt, match_ordering, ordering_reverse}
use Rattle.std.specs.declared.cmp.Ordering.{Ordering}
use Rattle.std.specs.declared.cmp.Ordering.TheVariants.{Less, Equal, Greater}
use Rattle.std.proofs.lemmas.Bool.Decides.{nat_tests}
use Rattle.std.proofs.lemmas.Option.{none-some, same_Some}
use Rattle.module_laws.specs.Words.{Bytes}
use Rattle.mod_samples.specs.Counts.{Counted, count_at, counted, counts_rise, is_behind, is_count, is_word, last_word, with_count, without_word, word_order}
use Rattle.mod_samples.specs.inner.Rises.{both, both_true}

-- what words in byte order say of the first and of those behind it
pub record CountsBy (last : Option Bytes) (c : Counted) (cs : List Counted) : Type 0 where
  pub above : is_behind last c.word ≡ true
  pub count : is_count c.count ≡ true
  pub behind : counts_rise (Some c.word) cs ≡ true

pub counts_by : (last : Option Bytes) (c : Counted) (cs : List Counted)
    → counts_rise last (c ∷ cs) ≡ true → CountsBy last c cs
counts_by last c cs h =
    let first = both (is_behind last c.word) (is_count c.count && counts_rise (Some c.word) cs) h in
    let second = both (is_count c.count) (counts_rise (Some c.word) cs) first.1 in
    record { above = first.0; count = second.0; behind = second.1 }

pub by_counts : (last : Option Bytes) (c : Counted) (cs : List Counted) → CountsBy last c cs
    → counts_rise last (c ∷ cs) ≡ true
by_counts last c cs h =
    both_true (is_behind last c.word) (is_count c.count && counts_rise (Some c.word) cs) h.above
    (both_true (is_count c.count) (counts_rise (Some c.word) cs) h.count h.behind)

-- the other way round
turned : (a b : Bytes) → word_order a b ≡ Greater → is_lt (word_order b a) ≡ true
turned a b is = ap is_lt (nat_list_cmp_total.antisymm b a ∙ ap ordering_reverse is)

less : (a b : Bytes) → word_order a b ≡ Less → is_lt (word_order a b) ≡ true
less a b is = ap is_lt is

lt_is : (o : Ordering) → is_lt o ≡ true → o ≡ Less
lt_is Less h = refl
lt_is Equal h = absurd (true≢false (sym h))
lt_is Greater h = absurd (true≢false (sym h))

-- what stands behind a word stands behind each word before that
pub behind_both : (last : Option Bytes) (a b : Bytes) → is_behind last a ≡ true
    → is_lt (word_order a b) ≡ true → is_behind last b ≡ true
behind_both None a b h k = refl
behind_both (Some last) a b h k =
    ap is_lt (nat_list_cmp_total.trans last a b (lt_is (word_order last a) h)
    (lt_is (word_order a b) k))

with_case : (last : Option Bytes) (word : Bytes) (n : ℕ) (c : Counted) (cs : List Counted)
    → (o : Ordering) → word_order word c.word ≡ o → CountsBy last c cs
    → is_behind last word ≡ true → is_count n ≡ true
    → (is_behind (Some c.word) word ≡ true → counts_rise (Some c.word) (with_count word n cs) ≡ true)
    → counts_rise last (match_ordering o (counted word n ∷ c ∷ cs) (counted c.word n ∷ cs)
    (c ∷ with_count word n cs)) ≡ true
with_case last word n c cs Less is h above count rest =
    by_counts last (counted word n) (c ∷ cs) (record {
      above = above;
      count = count;
      behind = by_counts (Some word) c cs
          (record { above = less word c.word is; count = h.count; behind = h.behind });
    })
with_case last word n c cs Equal is h above count rest =
    by_counts last (counted c.word n) cs
    (record { above = h.above; count = count; behind = h.behind })
with_case last word n c cs Greater is h above count rest =
    by_counts last c (with_count word n cs)
    (record { above = h.above; count = h.count; behind = rest (turned word c.word is) })

-- a word with a count leaves words in byte order
pub with_rises : (last : Option Bytes) (word : Bytes) (n : ℕ) (cs : List Counted)
    → counts_rise last cs ≡ true → is_behind last word ≡ true → is_count n ≡ true
    → counts_rise last (with_count word n cs) ≡ true
with_rises last word n [] h above count =
    by_counts last (counted word n) [] (record { above = above; count = count; behind = refl })
with_rises last word n (c ∷ cs) h above count =
    let by = counts_by last c cs h in
    with_case last word n c cs (word_order word c.word) refl by above count
    (λ behind. with_rises (Some c.word) word n cs by.behind behind count)

lowered : (last : Option Bytes) (word : Bytes) (cs : List Counted) → is_behind last word ≡ true
    → counts_rise (Some word) cs ≡ true → counts_rise last cs ≡ true
lowered last word [] above h = refl
lowered last word (c ∷ cs) above h =
    let by = counts_by (Some word) c cs h in
    by_counts last c cs (record {
      above = behind_both last word c.word above by.above;
      count = by.count;
      behind = by.behind;
    })

without_case : (last : Option Bytes) (word : Bytes) (c : Counted) (cs : List Counted) (b : Bool)
    → CountsBy last c cs → counts_rise (Some c.word) (without_word word cs) ≡ true
    → counts_rise last (if b then cs else c ∷ without_word word cs) ≡ true
without_case last word c cs true h rest = lowered last c.word cs h.above h.behind
without_case last word c cs false h rest =
    by_counts last c (without_word word cs)
    (record { above = h.above; count = h.count; behind = rest })

-- words but for one stay in byte order
pub without_rises : (last : Option Bytes) (word : Bytes) (cs : List Counted)
    → counts_rise last cs ≡ true → counts_rise last (without_word word cs) ≡ true
without_rises last word [] h = refl
without_rises last word (c ∷ cs) h =
    let by = counts_by last c cs h in
    without_case last word c cs (is_word word c.word) by (without_rises (Some c.word) word cs by.behind)

at_case : (last : Option Bytes) (word : Bytes) (n : ℕ) (c : Counted) (cs : List Counted)
    → (b : Bool) → CountsBy last c cs → (if b then Some c.count else count_at word cs) ≡ Some n
    → (count_at word cs ≡ Some n → is_count n ≡ true) → is_count n ≡ true
at_case last word n c cs true h is rest =
    subst (λ m. is_count m ≡ true) (same_Some c.count n is) h.count
at_case last word n c cs false h is rest = rest is

-- a word that is there has a count
pub count_there : (last : Option Bytes) (word : Bytes) (n : ℕ) (cs : List Counted)
    → counts_rise last cs ≡ true → count_at word cs ≡ Some n → is_count n ≡ true
count_there last word n [] h is = absurd (none-some n is)
count_there last word n (c ∷ cs) h is =
    let by = counts_by last c cs h in
    at_case last word n c cs (is_word word c.word) by is
    (λ more. count_there (Some c.word) word n cs by.behind more)

-- a count has 63 bits
pub count_small : (n : ℕ) → is_count n ≡ true → (1 ≤ n) × (n < 2 ^ 63)
count_small n h =
    let parts = both (nat_le 1 n) (nat_lt n (2 ^ 63)) h in
    let some = parts.0 in let few = parts.1 in (grind (arith, nat_tests), grind (arith, nat_tests))

pub is_small : (n : ℕ) → 1 ≤ n → n < 2 ^ 63 → is_count n ≡ true
is_small n some few =
    both_true (nat_le 1 n) (nat_lt n (2 ^ 63)) (grind (arith, nat_tests)) (grind (arith, nat_tests))

-- words in byte order, and one that stands behind them all
pub ends_rising : (last : Option Bytes) (cs : List Counted) (c : Counted)
    → counts_rise last (cs ++ c ∷ []) ≡ true → is_behind last c.word ≡ true
ends_rising last [] c h = (counts_by last c [] h).above
ends_rising last (d ∷ ds) c h =
    let by = counts_by last d (ds ++ c ∷ []) h in
    behind_both last d.word c.word by.above (ends_rising (Some d.word) ds c by.behind)

last_case : (word : Bytes) (n : ℕ) (d : Counted) (ds : List Counted) (o : Ordering)
    → o ≡ Greater → with_count word n ds ≡ ds ++ counted word n ∷ []
    → match_ordering o (counted word n ∷ d ∷ ds) (counted d.word n ∷ ds)
    (d ∷ with_count word n ds) ≡ d ∷ (ds ++ counted word n ∷ [])
last_case word n d ds o is rest =
    ap (λ p. match_ordering p (counted word n ∷ d ∷ ds) (counted d.word n ∷ ds)
    (d ∷ with_count word n ds)) is ∙ ap (λ l. d ∷ l) rest

-- a word behind all others goes to the end
pub with_last : (last : Option Bytes) (word : Bytes) (n : ℕ) (cs : List Counted)
    → counts_rise last (cs ++ counted word n ∷ []) ≡ true
    → with_count word n cs ≡ cs ++ counted word n ∷ []
with_last last word n [] h = refl
with_last last word n (d ∷ ds) h =
    let by = counts_by last d (ds ++ counted word n ∷ []) h in
    last_case word n d ds (word_order word d.word)
    (nat_list_cmp_total.antisymm word d.word
    ∙ ap ordering_reverse (lt_is (word_order d.word word) (ends_rising (Some d.word) ds (counted word n) by.behind)))
    (with_last (Some d.word) word n ds by.behind)

-- the first words of words in byte order are in byte order
pub first_counts : (last : Option Bytes) (cs more : List Counted)
    → counts_rise last (cs ++ more) ≡ true → counts_rise last cs ≡ true
first_counts last [] more h = refl
first_counts last (c ∷ cs) more h =
    let by = counts_by last c (cs ++ more) h in
    by_counts last c cs (record {
      above = by.above;
      count = by.count;
      behind =
          first_counts (Some c.word) cs more by.behind;
    })

-- words in byte order, and one more behind the last
pub rises_push : (last : Option Bytes) (cs : List Counted) (c : Counted)
    → counts_rise last cs ≡ true → is_behind (last_word last cs) c.word ≡ true
    → is_count c.count ≡ true → counts_rise last (cs ++ c ∷ []) ≡ true
rises_push last [] c h above count =
    by_counts last c [] (record { above = above; count = count; behind = refl })
rises_push last (d ∷ ds) c h above count =
    let by = counts_by last d ds h in
    by_counts last d (ds ++ c ∷ []) (record {
      above = by.above;
      count = by.count;
      behind =
          rises_push (Some d.word) ds c by.behind above count;
    })

pub last_word-push : (last : Option Bytes) (cs : List Counted) (c : Counted)
    → last_word last (cs ++ c ∷ []) ≡ Some c.word
last_word-push last [] c = refl
last_word-push last (d ∷ ds) c = last_word-push (Some d.word) ds c
