-- Reading the words of saved parts one after the other. Serves the clauses of
-- count_reading::counts_in and count_reading::saved.
use Rattle.std.proofs.Common.{◌≡◌, ℕ, suc, zero, ◌+◌, ◌-◌, ◌<◌, true, List, [], ◌∷◌, ◌++◌, drop, length, Option, Some, None, Result, Ok, Err, OnOk, is_ok, refl, ap, sym, true≢false, ◌∙◌, append_assoc, arith}
use Rattle.core_types.specs.declared.load_fault.LoadFault.{LoadFault}
use Rattle.core_types.specs.declared.tagged.Tagged.TheVariants as tagged
use Rattle.module_laws.specs.Words.{Bytes, Saved}
use Rattle.tagged_io.specs.Taking.{first_number, taken_one}
use Rattle.mod_samples.specs.CountParts.{counted_then, counts_after, counts_in, first_counted, word_before}
use Rattle.mod_samples.specs.Counts.{Counted}

-- words that were read, and then others
abbrev pub behind_counts : List Counted → Result (List Counted) LoadFault → Result (List Counted) LoadFault
behind_counts cs (Ok more) = Ok (cs ++ more)
behind_counts cs (Err why) = Err why

nothing_read : (r : Result (List Counted) LoadFault) → behind_counts [] r ≡ r
nothing_read (Ok more) = refl
nothing_read (Err why) = refl

one_more : (cs : List Counted) (c : Counted) (r : Result (List Counted) LoadFault)
    → behind_counts cs (word_before c r) ≡ behind_counts (cs ++ c ∷ []) r
one_more cs c (Ok more) = ap Ok (sym (append_assoc cs (c ∷ []) more))
one_more cs c (Err why) = refl

-- the first part tells how many words there are
pub begins : (parts : Saved) (count : ℕ) → first_number parts ≡ Ok count → 0 < count
    → counts_in parts ≡ behind_counts [] (counts_after None count (length (taken_one [] parts).taken)
    (taken_one [] parts).left)
begins [] count is some = cc
begins (tagged.Bytes bytes ∷ parts) count is some = cc
begins (tagged.Number zero ∷ parts) count is some = let same : 0 ≡ count = cc in absurd (omega arith)
begins (tagged.Number (suc n) ∷ parts) count is some =
    let same : suc n ≡ count = cc in
    ap (λ k. counts_after None k 1 parts) same ∙ sym (nothing_read _)

-- a word was read, and reading goes on behind it
pub step : (last : Option Bytes) (left place : ℕ) (cs : List Counted) (parts : Saved) (c : Counted)
    → 0 < left → first_counted last place parts ≡ Ok c
    → behind_counts cs (counts_after last left place parts) ≡ behind_counts (cs ++ c ∷ [])
    (counts_after (Some c.word) (left - 1) (place + 2) (drop 2 parts))
step last zero place cs parts c some is = absurd (omega arith)
step last (suc left) place cs parts c some is =
    ap (λ r. behind_counts cs (counted_then r
    (λ d. counts_after (Some d.word) left (place + 2) (drop 2 parts)))) is
    ∙ one_more cs c (counts_after (Some c.word) left (place + 2) (drop 2 parts))
    ∙ ap (λ k. behind_counts (cs ++ c ∷ []) (counts_after (Some c.word) k (place + 2) (drop 2 parts)))
    (omega arith)

-- a part does not fit
pub unfit : (last : Option Bytes) (left place : ℕ) (cs : List Counted) (parts : Saved)
    (why : LoadFault) → 0 < left → first_counted last place parts ≡ Err why
    → behind_counts cs (counts_after last left place parts) ≡ Err why
unfit last zero place cs parts why some is = absurd (omega arith)
unfit last (suc left) place cs parts why some is =
    ap (λ r. behind_counts cs (counted_then r
    (λ d. counts_after (Some d.word) left (place + 2) (drop 2 parts)))) is

-- what holds on `Ok` holds where there is no error
pub holds_ok : {A E : Type 0} (r : Result A E) (P : Type 0) → is_ok r ≡ true → OnOk r P → P
holds_ok (Ok value) P is holds = holds
holds_ok (Err why) P is holds = absurd (true≢false (sym is))
