-- An array at the front of a byte list, word after word.
use Rattle.std.proofs.Common.{◌≡◌, ℕ, ◌+◌, ◌<◌, ◌≤◌, true, List, [], ◌∷◌, ◌++◌, length, drop, get_or, refl, sym, ap, subst, ◌∙◌, zero-add, arith, inl}
use Rattle.std.specs.List.{flat_map, AllByRecursion}
use Rattle.std.proofs.lemmas.Bool.{eq-eqb}
use Rattle.std.proofs.lemmas.List.{length-append, length-drop, length_push, drop-drop, flat_map_more}
use Rattle.core_types.specs.declared.bad_request.BadRequest.{BadRequest}
use Rattle.resp_codec.specs.Marks.{header}
use Rattle.resp_codec.specs.Inline.{begins_array}
use Rattle.resp_codec.specs.Spelling.{bulk, IsWord}
use Rattle.resp_codec.specs.Faults.{IsBegun, BadAt}
use Rattle.resp_codec.specs.Stream.{IsUnfinished}
use Rattle.resp_codec.specs.inner.Header.{Judges}
use Rattle.resp_codec.specs.inner.Word.{BeginsBulk, JudgesWord}
use Rattle.resp_codec.specs.Array.{IsFront}
use Rattle.resp_codec.specs.declared.array.Array.TheVariants as array
use Rattle.resp_codec.specs.declared.header.Header.TheVariants as found
use Rattle.resp_codec.specs.declared.word.Word.TheVariants as answer
use Rattle.resp_codec.proofs.ReaderSteps.{IsBegun-words, bulk-push, AllByRecursion-push}

-- the header of an array and these of its words were read, up to this place
pub record HasRead (bytes : List ℕ) (count : ℕ) (words : List (List ℕ)) (place : ℕ) : Type 0 where
  pub few : count ≤ 1048576
  pub each : AllByRecursion IsWord words
  pub counted : length words ≤ count
  pub within : place ≤ length bytes
  pub place_is : place ≡ length (header 42 count ++ flat_map bulk words)
  pub parts : bytes ≡ header 42 count ++ flat_map bulk words ++ drop place bytes

-- a word more was read
pub HasRead-push : (bytes : List ℕ) (count : ℕ) (words : List (List ℕ)) (word : List ℕ) (place size : ℕ) → HasRead bytes count words place → length words < count → BeginsBulk (drop place bytes) word size →
    HasRead bytes count (words ++ word ∷ []) (place + size)
HasRead-push bytes count words word place size read more begins =
    let front = header 42 count ++ flat_map bulk words in
    let rest = drop (place + size) bytes in
    let here : drop place bytes ≡ bulk word ++ rest = begins.whole ∙ ap (λ (t : List ℕ). bulk word ++ t) (drop-drop size place bytes) in
    record {
      few = read.few;
      each = AllByRecursion-push words word read.each begins.is_word;
      counted = omega (arith, length_push words word);
      within = omega (arith, read.within, begins.takes, length-drop place bytes, ap (λ (t : List ℕ). length t) here, length-append (bulk word) rest);
      place_is = omega (arith, read.place_is, begins.takes, length-append front (bulk word), ap (λ (t : List ℕ). length t) (flat_map_more bulk (header 42 count) words word));
      parts = read.parts ∙ ap (λ (t : List ℕ). front ++ t) here ∙ bulk-push count words word rest;
    }

HasRead-array : (bytes : List ℕ) (count : ℕ) (words : List (List ℕ)) (place : ℕ) → HasRead bytes count words place → begins_array bytes ≡ true
HasRead-array bytes count words place read = ap begins_array read.parts

HasRead-begun : (bytes : List ℕ) (count : ℕ) (words : List (List ℕ)) (place : ℕ) → HasRead bytes count words place → length words < count → IsBegun (header 42 count ++ flat_map bulk words)
HasRead-begun bytes count words place read more = IsBegun-words count words record { few = read.few; each = read.each; more = more }

pub HasRead-open : (bytes : List ℕ) (count : ℕ) (words : List (List ℕ)) (place : ℕ) → HasRead bytes count words place → length words < count → JudgesWord (drop place bytes) answer.Open → IsFront bytes array.Unfinished
HasRead-open bytes count words place read more judged = record {
  array = HasRead-array bytes count words place read;
  unfinished = subst (λ (t : List ℕ). IsUnfinished t) (sym read.parts) (judged (header 42 count ++ flat_map bulk words) (HasRead-begun bytes count words place read more));
}

pub HasRead-bad : (bytes : List ℕ) (count : ℕ) (words : List (List ℕ)) (place : ℕ) (kind : BadRequest) (at : ℕ) → HasRead bytes count words place → length words < count → JudgesWord (drop place bytes) (answer.Bad kind at) →
    IsFront bytes (array.Bad kind (place + at))
HasRead-bad bytes count words place kind at read more judged =
    let front = header 42 count ++ flat_map bulk words in
    let bad : BadAt (front ++ drop place bytes) kind (place + at) = subst (λ (k : ℕ). BadAt (front ++ drop place bytes) kind (k + at)) (sym read.place_is) (judged.1 front (HasRead-begun bytes count words place read more)) in (
      record { array = HasRead-array bytes count words place read; bad = subst (λ (t : List ℕ). BadAt t kind (place + at)) (sym read.parts) bad },
      omega (arith, judged.0, length-drop place bytes),
    )

pub HasRead-whole : (bytes : List ℕ) (count : ℕ) (words : List (List ℕ)) (place : ℕ) → HasRead bytes count words place → 0 < count → count ≤ length words → IsFront bytes (array.Request words place)
HasRead-whole bytes count words place read some whole =
    let count_is : count ≡ length words = omega (arith, read.counted) in (
      record {
        request = record { some = omega arith; few = omega (arith, read.few); each = read.each };
        more = drop place bytes;
        whole = read.parts ∙ ap (λ (k : ℕ). header 42 k ++ flat_map bulk words ++ drop place bytes) count_is;
      },
      read.place_is ∙ ap (λ (k : ℕ). length (header 42 k ++ flat_map bulk words)) count_is,
    )

pub array_first : (bytes : List ℕ) → get_or bytes 0 0 ≡ 42 → begins_array bytes ≡ true
array_first [] first = absurd (omega arith)
array_first (byte ∷ bytes) first = eq-eqb byte 42 first

pub array-open : (bytes : List ℕ) → begins_array bytes ≡ true → Judges bytes found.Open → IsFront bytes array.Unfinished
array-open bytes is judged = record { array = is; unfinished = judged [] (inl (refl, is)) }

pub array-bad : (bytes : List ℕ) (kind : BadRequest) (place : ℕ) → begins_array bytes ≡ true → Judges bytes (found.Bad kind place) → IsFront bytes (array.Bad kind place)
array-bad bytes kind place is judged = (record { array = is; bad = subst (λ (k : ℕ). BadAt bytes kind k) (zero-add place) (judged.1 [] (inl (refl, is))) }, judged.0)
