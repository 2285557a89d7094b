-- The words of a line are those of a request. Serves clause request of next, and the laws on lines.
use Rattle.std.proofs.Common.{◌≡◌, ℕ, suc, ◌<◌, ◌≤◌, Bool, true, eqb, not, List, [], ◌∷◌, ◌++◌, length, length-append, arith}
use Rattle.std.specs.List.{AllByRecursion, concat, filter, slice_split, onto_first}
use Rattle.std.specs.Str.Lines.{strip_carriage_return}
use Rattle.std.proofs.lemmas.Bool.{cond_both, false≢true}
use Rattle.std.proofs.lemmas.List.{length-take}
use Rattle.resp_codec.specs.Inline.{is_blank, line_words}
use Rattle.resp_codec.specs.Spelling.{IsWord, IsRequest}

abbrev pub full : List ℕ → Bool
full word = not (eqb (length word) 0)

-- no part is longer than this many bytes
abbrev Each : ℕ → List (List ℕ) → Type 0
Each n parts = AllByRecursion (λ part. length part ≤ n) parts

each_more : (n : ℕ) (parts : List (List ℕ)) → Each n parts → Each (suc n) parts
each_more n [] each = tt
each_more n (part ∷ parts) each = (omega (arith, each.0), each_more n parts each.1)

onto_each : (byte n : ℕ) (parts : List (List ℕ)) → Each n parts → Each (suc n) (onto_first byte parts)
onto_each byte n [] each = (omega arith, tt)
onto_each byte n (part ∷ parts) each = (omega (arith, each.0), each_more n parts each.1)

split_each : (text : List ℕ) → Each (length text) (slice_split is_blank text)
split_each [] = (omega arith, tt)
split_each (byte ∷ text) =
    let parts = slice_split is_blank text in
    cond_both (is_blank byte) ([] ∷ parts) (onto_first byte parts) (λ ps. Each (suc (length text)) ps) (λ e. (omega arith, each_more (length text) parts (split_each text))) (λ e. onto_each byte (length text) parts (split_each text))

filter_each : (n : ℕ) (parts : List (List ℕ)) → Each n parts → Each n (filter full parts)
filter_each n [] each = tt
filter_each n (part ∷ parts) each =
    cond_both (full part) (part ∷ filter full parts) (filter full parts) (λ ps. Each n ps) (λ e. (each.0, filter_each n parts each.1)) (λ e. filter_each n parts each.1)

onto_bytes : (byte : ℕ) (parts : List (List ℕ)) → length (concat (onto_first byte parts)) ≤ suc (length (concat parts))
onto_bytes byte [] = omega arith
onto_bytes byte (part ∷ parts) = omega arith

split_bytes : (text : List ℕ) → length (concat (slice_split is_blank text)) ≤ length text
split_bytes [] = omega arith
split_bytes (byte ∷ text) =
    let parts = slice_split is_blank text in
    cond_both (is_blank byte) ([] ∷ parts) (onto_first byte parts) (λ ps. length (concat ps) ≤ suc (length text)) (λ e. omega (arith, split_bytes text)) (λ e. omega (arith, split_bytes text, onto_bytes byte parts))

full_some : (word : List ℕ) → full word ≡ true → 0 < length word
full_some [] e = absurd (false≢true e)
full_some (byte ∷ word) e = omega arith

-- there are no more words than bytes
few_full : (parts : List (List ℕ)) → length (filter full parts) ≤ length (concat parts)
few_full [] = omega arith
few_full (part ∷ parts) =
    cond_both (full part) (part ∷ filter full parts) (filter full parts) (λ ps. length ps ≤ length (part ++ concat parts))
    (λ e. omega (arith, few_full parts, length-append part (concat parts), full_some part e)) (λ e. omega (arith, few_full parts, length-append part (concat parts)))

stripped_shorter : (line : List ℕ) → length (strip_carriage_return line) ≤ length line
stripped_shorter line = grind (arith, length-take)

each_word : (n : ℕ) (words : List (List ℕ)) → n ≤ 65536 → Each n words → AllByRecursion IsWord words
each_word n [] small each = tt
each_word n (word ∷ words) small each = (omega (arith, each.0), each_word n words small each.1)

pub IsRequest-line : (line : List ℕ) → length line ≤ 65536 → 0 < length (line_words line) → IsRequest (line_words line)
IsRequest-line line short some =
    let text = strip_carriage_return line in
    let parts = slice_split is_blank text in
    record {
      some = some;
      few = omega (arith, few_full parts, split_bytes text, stripped_shorter line);
      each = each_word (length text) (filter full parts) (omega (arith, stripped_shorter line)) (filter_each (length text) parts (split_each text));
    }
