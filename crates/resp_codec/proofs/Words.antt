-- A word at the front of a byte list, where one is due.
use Rattle.std.proofs.Common.{◌≡◌, ℕ, ◌+◌, ◌<◌, ◌≤◌, List, ◌++◌, length, take, drop, sym, ap, subst, ◌∙◌, append_assoc, arith, inl, inr}
use Rattle.std.proofs.lemmas.List.{length-append, length-take, length-drop, drop-drop}
use Rattle.core_types.specs.declared.bad_request.BadRequest.TheVariants.{NoLineEnd}
use Rattle.resp_codec.specs.Marks.{header}
use Rattle.resp_codec.specs.Spelling.{bulk}
use Rattle.resp_codec.specs.Faults.{BadAt}
use Rattle.resp_codec.specs.Stream.{IsUnfinished}
use Rattle.resp_codec.specs.inner.Line.{IsFound}
use Rattle.resp_codec.specs.inner.Word.{JudgesWord}
use Rattle.resp_codec.specs.declared.line.LineEnd.TheVariants as found
use Rattle.resp_codec.specs.declared.word.Word.TheVariants as answer
use Rattle.resp_codec.proofs.ReaderSteps.{unfinished_word, bad_word_end, word_whole}

-- what stands before a word's header stands before its bytes
behind_header : (before bytes : List ℕ) (start len : ℕ) → bytes ≡ header 36 len ++ drop start bytes → before ++ header 36 len ++ drop start bytes ≡ before ++ bytes
behind_header before bytes start len parts = append_assoc before (header 36 len) (drop start bytes) ∙ ap (λ (t : List ℕ). before ++ t) (sym parts)

pub header_size : (mark : ℕ) (bytes : List ℕ) (start n : ℕ) → start ≤ length bytes → bytes ≡ header mark n ++ drop start bytes → length (header mark n) ≡ start
header_size mark bytes start n within parts =
    omega (arith, ap (λ (t : List ℕ). length t) parts, length-append (header mark n) (drop start bytes), length-drop start bytes)

pub JudgesWord-open : (bytes : List ℕ) (start len : ℕ) → len ≤ 536870912 → bytes ≡ header 36 len ++ drop start bytes → IsFound (drop start bytes) len found.Open → JudgesWord bytes answer.Open
JudgesWord-open bytes start len small parts open_end before begun =
    subst (λ (t : List ℕ). IsUnfinished t) (behind_header before bytes start len parts) (unfinished_word before (drop start bytes) len begun small open_end)

found_within : (input : List ℕ) (len place : ℕ) → IsFound input len (found.Missing place) → place < length input
found_within input len place (inl (same, less, other)) = less
found_within input len place (inr (next, less, return, other)) = less

pub JudgesWord-missing : (bytes : List ℕ) (start len place : ℕ) → start ≤ length bytes → len ≤ 536870912 → bytes ≡ header 36 len ++ drop start bytes → IsFound (drop start bytes) len (found.Missing place) →
    JudgesWord bytes (answer.Bad NoLineEnd (start + place))
JudgesWord-missing bytes start len place within small parts missing = (
  omega (arith, found_within (drop start bytes) len place missing, length-drop start bytes),
  λ before begun.
      let there : length (before ++ header 36 len) + place ≡ length before + (start + place) = omega (arith, length-append before (header 36 len), header_size 36 bytes start len within parts) in
      subst (λ (t : List ℕ). BadAt t NoLineEnd (length before + (start + place))) (behind_header before bytes start len parts)
      (subst (λ (k : ℕ). BadAt (before ++ header 36 len ++ drop start bytes) NoLineEnd k) there (bad_word_end before (drop start bytes) len place begun small missing)),
)

pub JudgesWord-whole : (bytes : List ℕ) (start len : ℕ) → start ≤ length bytes → len ≤ 536870912 → bytes ≡ header 36 len ++ drop start bytes → IsFound (drop start bytes) len found.There →
    JudgesWord bytes (answer.Whole start len)
JudgesWord-whole bytes start len within small parts there =
    let rest = drop start bytes in
    let word = take len rest in
    let whole : bytes ≡ bulk word ++ drop (len + 2) rest = parts ∙ word_whole rest len there in
    let size : start + len + 2 ≡ length (bulk word) = omega (arith, ap (λ (t : List ℕ). length t) whole, length-append (bulk word) (drop (len + 2) rest), length-drop (len + 2) rest, length-drop start bytes, there.0) in
    let behind : start + (len + 2) ≡ start + len + 2 = omega arith in (
      omega (arith, there.0, length-drop start bytes),
      record {
        is_word = omega (arith, length-take len rest);
        takes = size;
        whole = whole ∙ ap (λ (t : List ℕ). bulk word ++ t) (drop-drop (len + 2) start bytes ∙ ap (λ (k : ℕ). drop k bytes) behind);
      },
    )
