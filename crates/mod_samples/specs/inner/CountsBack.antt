-- Words that were saved are read again, and words that are read are in byte order.
use Rattle.std.proofs.Common.{◌≡◌, ℕ, suc, zero, ◌+◌, ◌≤◌, Bool, true, false, ◌&&◌, List, [], ◌∷◌, drop, length, Option, Some, None, Result, Ok, Err, refl, ap, sym, subst, true≢false, ◌∙◌, arith}
use Rattle.std.specs.Prelude.{nat_le}
use Rattle.std.specs.List.{list_all}
use Rattle.std.specs.Result.{result_unwrap_or}
use Rattle.core_types.specs.Keyspace.{longest}
use Rattle.core_types.specs.declared.load_fault.LoadFault.{LoadFault}
use Rattle.core_types.specs.declared.load_fault.LoadFault.TheVariants as load_fault
use Rattle.core_types.specs.declared.tagged.Tagged.TheVariants as tagged
use Rattle.module_laws.specs.Types.{is_short}
use Rattle.module_laws.specs.Words.{Bytes, Saved}
use Rattle.mod_samples.specs.CountParts.{count_behind, counted_then, counts_after, counts_in, counts_of, first_counted, parts_of, saved_counts, where_fits, word_before}
use Rattle.mod_samples.specs.Counts.{Counted, counted, counts_rise, is_behind, is_count, some_counts}
use Rattle.mod_samples.specs.inner.CountsRise.{by_counts, counts_by}
use Rattle.mod_samples.specs.inner.ReadBack.{err-ok, same_Ok}
use Rattle.mod_samples.specs.inner.Rises.{both, both_true}

pub record Fits (last : Option Bytes) (c : Counted) : Type 0 where
  pub above : is_behind last c.word ≡ true
  pub count : is_count c.count ≡ true

fits_case : (b : Bool) (place : ℕ) (r : Result Counted LoadFault) (c : Counted)
    → where_fits b place r ≡ Ok c → (b ≡ true) × (r ≡ Ok c)
fits_case true place r c is = (refl, is)
fits_case false place r c is = absurd (err-ok is)

count_fits : (word : Bytes) (place : ℕ) (parts : Saved) (c : Counted)
    → count_behind word place parts ≡ Ok c → (word ≡ c.word) × (is_count c.count ≡ true)
count_fits word place [] c is = absurd (err-ok is)
count_fits word place (tagged.Bytes bytes ∷ parts) c is = absurd (err-ok is)
count_fits word place (tagged.Number n ∷ parts) c is =
    let both = fits_case (is_count n) place (Ok (counted word n)) c is in
    let same : counted word n ≡ c = same_Ok (counted word n) c both.1 in
    (ap (λ d. d.word) same, subst (λ d. is_count d.count ≡ true) same both.0)

-- a word that is read stands behind the one before it, and has a count
pub first_fits : (last : Option Bytes) (place : ℕ) (parts : Saved) (c : Counted)
    → first_counted last place parts ≡ Ok c → Fits last c
first_fits last place [] c is = absurd (err-ok is)
first_fits last place (tagged.Number n ∷ parts) c is = absurd (err-ok is)
first_fits last place (tagged.Bytes word ∷ parts) c is =
    let both = fits_case (is_behind last word) place (count_behind word (place + 1) parts) c is in
    let fits = count_fits word (place + 1) parts c both.1 in
    record { above = subst (λ w. is_behind last w ≡ true) fits.0 both.0; count = fits.1 }

fits_true : (b : Bool) (place : ℕ) (r : Result Counted LoadFault) → b ≡ true → where_fits b place r ≡ r
fits_true true place r is = refl
fits_true false place r is = absurd (true≢false (sym is))

counts_back : (last : Option Bytes) (cs : List Counted) (place : ℕ) → counts_rise last cs ≡ true
    → counts_after last (length cs) place (parts_of cs) ≡ Ok cs
counts_back last [] place h = refl
counts_back last (c ∷ cs) place h =
    let by = counts_by last c cs h in
    let first : first_counted last place (parts_of (c ∷ cs)) ≡ Ok c =
    fits_true (is_behind last c.word) place (count_behind c.word (place + 1) (tagged.Number c.count ∷ parts_of cs)) by.above
    ∙ fits_true (is_count c.count) (place + 1) (Ok c) by.count in
    ap (λ r. counted_then r (λ d. counts_after (Some d.word) (length cs) (place + 2) (parts_of cs))) first
    ∙ ap (word_before c) (counts_back (Some c.word) cs (place + 2) by.behind)

-- what words in byte order are saved as is read as those words
pub counts_read_back : (cs : List Counted) → some_counts cs ≡ true
    → counts_in (saved_counts cs) ≡ Ok cs
counts_read_back [] h = absurd (true≢false (sym h))
counts_read_back (c ∷ cs) h = counts_back None (c ∷ cs) 1 h

before_case : (last : Option Bytes) (c : Counted) (cs : List Counted) (r : Result (List Counted) LoadFault)
    → word_before c r ≡ Ok cs → Fits last c
    → ((more : List Counted) → r ≡ Ok more → counts_rise (Some c.word) more ≡ true)
    → (counts_rise last cs ≡ true) × (1 ≤ length cs)
before_case last c cs (Err why) is fits behind = absurd (err-ok is)
before_case last c cs (Ok more) is fits behind =
    let same : c ∷ more ≡ cs = same_Ok (c ∷ more) cs is in (
      subst (λ list. counts_rise last list ≡ true) same
          (by_counts last c more (record { above = fits.above; count = fits.count; behind = behind more refl })),
      subst (λ list. 1 ≤ length list) same (omega arith),
    )

then_case : (last : Option Bytes) (left place : ℕ) (parts : Saved) (cs : List Counted)
    → (r : Result Counted LoadFault) → ((c : Counted) → r ≡ Ok c → Fits last c)
    → counted_then r (λ c. counts_after (Some c.word) left (place + 2) (drop 2 parts)) ≡ Ok cs
    → ((c : Counted) (more : List Counted)
    → counts_after (Some c.word) left (place + 2) (drop 2 parts) ≡ Ok more
    → counts_rise (Some c.word) more ≡ true) → (counts_rise last cs ≡ true) × (1 ≤ length cs)
then_case last left place parts cs (Err why) fits is behind = absurd (err-ok is)
then_case last left place parts cs (Ok c) fits is behind =
    before_case last c cs (counts_after (Some c.word) left (place + 2) (drop 2 parts)) is (fits c refl)
    (behind c)

after_rises : (last : Option Bytes) (left place : ℕ) (parts : Saved) (cs : List Counted)
    → counts_after last left place parts ≡ Ok cs → counts_rise last cs ≡ true
after_rises last zero place [] cs is =
    subst (λ list. counts_rise last list ≡ true) (same_Ok [] cs is) refl
after_rises last zero place (part ∷ parts) cs is = absurd (err-ok is)
after_rises last (suc left) place parts cs is =
    (then_case last left place parts cs (first_counted last place parts) (first_fits last place parts) is
    (λ c more. after_rises (Some c.word) left (place + 2) (drop 2 parts) more)).0

some_case : (cs : List Counted) → (counts_rise None cs ≡ true) × (1 ≤ length cs)
    → some_counts cs ≡ true
some_case [] both = absurd (omega (arith, both.1))
some_case (c ∷ cs) both = both.0

-- words that are read are in byte order, and at least one
pub counts_read : (parts : Saved) (cs : List Counted) → counts_in parts ≡ Ok cs
    → some_counts cs ≡ true
counts_read [] cs is = absurd (err-ok is)
counts_read (tagged.Bytes bytes ∷ parts) cs is = absurd (err-ok is)
counts_read (tagged.Number zero ∷ parts) cs is = absurd (err-ok is)
counts_read (tagged.Number (suc count) ∷ parts) cs is =
    some_case cs (then_case None count 1 parts cs (first_counted None 1 parts)
    (first_fits None 1 parts) is
    (λ c more. after_rises (Some c.word) count 3 (drop 2 parts) more))

-- no word is too long
abbrev pub short_words : List Counted → Bool
short_words cs = list_all (λ c. nat_le (length c.word) longest) cs

pub parts_short : (cs : List Counted) → list_all is_short (parts_of cs) ≡ short_words cs
parts_short [] = refl
parts_short (c ∷ cs) = ap (λ b. nat_le (length c.word) longest && b) (parts_short cs)

short_case : (c : Counted) (cs : List Counted) (r : Result (List Counted) LoadFault)
    → word_before c r ≡ Ok cs → nat_le (length c.word) longest ≡ true
    → ((more : List Counted) → r ≡ Ok more → short_words more ≡ true) → short_words cs ≡ true
short_case c cs (Err why) is short behind = absurd (err-ok is)
short_case c cs (Ok more) is short behind =
    subst (λ list. short_words list ≡ true) (same_Ok (c ∷ more) cs is)
    (both_true (nat_le (length c.word) longest) (short_words more) short (behind more refl))

-- the word that is read first is short, and so is what stands behind it
record ShortBy (c : Counted) (parts : Saved) : Type 0 where
  pub word : nat_le (length c.word) longest ≡ true
  pub behind : list_all is_short (drop 2 parts) ≡ true

first_short : (last : Option Bytes) (place : ℕ) (parts : Saved) (c : Counted)
    → first_counted last place parts ≡ Ok c → list_all is_short parts ≡ true → ShortBy c parts
first_short last place [] c is short = absurd (err-ok is)
first_short last place (tagged.Number n ∷ parts) c is short = absurd (err-ok is)
first_short last place (tagged.Bytes word ∷ []) c is short =
    absurd (err-ok (fits_case (is_behind last word) place (Err (load_fault.Shape (place + 1))) c is).1)
first_short last place (tagged.Bytes word ∷ tagged.Bytes other ∷ parts) c is short =
    absurd (err-ok (fits_case (is_behind last word) place (Err (load_fault.Shape (place + 1))) c is).1)
first_short last place (tagged.Bytes word ∷ tagged.Number n ∷ parts) c is short =
    let read = (fits_case (is_behind last word) place (count_behind word (place + 1) (tagged.Number n ∷ parts)) c is).1 in
    let same = (count_fits word (place + 1) (tagged.Number n ∷ parts) c read).0 in
    let parted = both (nat_le (length word) longest) (list_all is_short parts) short in
    record { word = subst (λ w. nat_le (length w) longest ≡ true) same parted.0; behind = parted.1 }

then_short : (last : Option Bytes) (left place : ℕ) (parts : Saved) (cs : List Counted)
    → (r : Result Counted LoadFault) → ((c : Counted) → r ≡ Ok c → ShortBy c parts)
    → counted_then r (λ c. counts_after (Some c.word) left (place + 2) (drop 2 parts)) ≡ Ok cs
    → ((c : Counted) (more : List Counted) → list_all is_short (drop 2 parts) ≡ true
    → counts_after (Some c.word) left (place + 2) (drop 2 parts) ≡ Ok more
    → short_words more ≡ true) → short_words cs ≡ true
then_short last left place parts cs (Err why) first is behind = absurd (err-ok is)
then_short last left place parts cs (Ok c) first is behind =
    let short = first c refl in
    short_case c cs (counts_after (Some c.word) left (place + 2) (drop 2 parts)) is short.word
    (λ more. behind c more short.behind)

after_short : (last : Option Bytes) (left place : ℕ) (parts : Saved) (cs : List Counted)
    → counts_after last left place parts ≡ Ok cs → list_all is_short parts ≡ true
    → short_words cs ≡ true
after_short last zero place [] cs is short =
    subst (λ list. short_words list ≡ true) (same_Ok [] cs is) refl
after_short last zero place (part ∷ parts) cs is short = absurd (err-ok is)
after_short last (suc left) place parts cs is short =
    then_short last left place parts cs (first_counted last place parts)
    (λ c read. first_short last place parts c read short) is
    (λ c more rest read. after_short (Some c.word) left (place + 2) (drop 2 parts) more read rest)

-- words that are read from short parts are short
pub read_short : (parts : Saved) (cs : List Counted) → counts_in parts ≡ Ok cs
    → list_all is_short parts ≡ true → short_words cs ≡ true
read_short [] cs is short = absurd (err-ok is)
read_short (tagged.Bytes bytes ∷ parts) cs is short = absurd (err-ok is)
read_short (tagged.Number zero ∷ parts) cs is short = absurd (err-ok is)
read_short (tagged.Number (suc count) ∷ parts) cs is short =
    after_short None (suc count) 1 parts cs is short

of_case : (r : Result (List Counted) LoadFault)
    → ((cs : List Counted) → r ≡ Ok cs → short_words cs ≡ true)
    → short_words (result_unwrap_or r []) ≡ true
of_case (Ok cs) short = short cs refl
of_case (Err why) short = refl

pub counts_of_short : (parts : Saved) → list_all is_short parts ≡ true
    → short_words (counts_of parts) ≡ true
counts_of_short parts short = of_case (counts_in parts) (λ cs is. read_short parts cs is short)
