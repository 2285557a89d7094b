-- Serves the law `ids_are_inverse`, and `number` of `id_of` and `ok` of `split`.
use Rattle.std.proofs.Common.{◌≡◌, ◌≢◌, ℕ, zero, suc, ◌+◌, ◌-◌, ◌*◌, ◌/◌, ◌%◌, ◌^◌, ◌<◌, ◌≤◌, List, [], ◌∷◌, map, length, get_or, take, drop, set, add-one, sym, ap, ◌∙◌, refl, arith}
use Rattle.std.specs.List.{AllByRecursion}
use Rattle.std.specs.Int.Digits.{number_from_digits_after, number_from_digits, AllBelowBase}
use Rattle.std.proofs.lemmas.Int.Digits.{number_lt, number_more, number_after_append, number_after_ge}
use Rattle.std.proofs.lemmas.List.{length-map, drop-set, take-append-drop, take-map, get_or-map}
use Rattle.std.proofs.Math.Nat.{pow-suc}
use Rattle.type_ids.specs.Letter.{letter_number, letter_at, IsLetter}
use Rattle.type_ids.specs.Name.{IsTypeName, reserved_name}
use Rattle.type_ids.specs.Id.{letters_value, id_number, IsIdOf}
use Rattle.type_ids.proofs.Letters.{letter-back, number-back}

-- letters, one after another
abbrev pub AreLetters : List ℕ → Type 0
AreLetters text = AllByRecursion IsLetter text

pub letters-at : (text : List ℕ) → AreLetters text → (k : ℕ) → k < length text → IsLetter (get_or text k 0)
letters-at [] h k less = absurd (omega arith)
letters-at (byte ∷ text) h zero less = h.0
letters-at (byte ∷ text) h (suc k) less = letters-at text h.1 k (omega arith)

letters-from : (text : List ℕ) → ((k : ℕ) → k < length text → IsLetter (get_or text k 0)) → AreLetters text
letters-from [] h = tt
letters-from (byte ∷ text) h =
    (h 0 (omega arith), letters-from text (λ k less. h (suc k) (omega arith)))

pub named-letters : (text : List ℕ) → IsTypeName text → AreLetters text
named-letters text h = letters-from text (λ k less. h.letters k (omega (arith, h.nine)))

below_base : (text : List ℕ) → AreLetters text → AllBelowBase 64 (map letter_number text)
below_base [] h = tt
below_base (byte ∷ text) h = (h.0, below_base text h.1)

letters-back : (text : List ℕ) → AreLetters text → map letter_at (map letter_number text) ≡ text
letters-back [] h = refl
letters-back (byte ∷ text) h =
    ap (λ (b : ℕ). b ∷ map letter_at (map letter_number text)) (letter-back byte h.0) ∙ ap (λ (more : List ℕ). byte ∷ more) (letters-back text h.1)

-- two lists of letters that write one number are one list
after_one : (ds es : List ℕ) (m n : ℕ) → length ds ≡ length es → AllBelowBase 64 ds → AllBelowBase 64 es → number_from_digits_after 64 m ds ≡ number_from_digits_after 64 n es → (m ≡ n) × (ds ≡ es)
after_one [] [] m n long low other e = (e, refl)
after_one [] (y ∷ es) m n long low other e = absurd (omega arith)
after_one (x ∷ ds) [] m n long low other e = absurd (omega arith)
after_one (x ∷ ds) (y ∷ es) m n long low other e =
    let rest = after_one ds es (m * 64 + x) (n * 64 + y) (omega arith) low.1 other.1 e in
    let here : x < 64 = low.0 in
    let there : y < 64 = other.0 in
    let sums : m * 64 + x ≡ n * 64 + y = rest.0 in
    let same : x ≡ y = omega arith in
    (omega arith, ap (λ (d : ℕ). d ∷ ds) same ∙ ap (λ (more : List ℕ). y ∷ more) rest.1)

texts_one : (a b : List ℕ) → AreLetters a → AreLetters b → length a ≡ length b → letters_value a ≡ letters_value b → a ≡ b
texts_one a b are others long e =
    let same_length : length (map letter_number a) ≡ length (map letter_number b) = length-map a letter_number ∙ long ∙ sym (length-map b letter_number) in
    let numbers = after_one (map letter_number a) (map letter_number b) 0 0 same_length (below_base a are) (below_base b others) e in
    sym (letters-back a are) ∙ ap (λ (ds : List ℕ). map letter_at ds) numbers.1 ∙ letters-back b others

pub value-lt : (text : List ℕ) → IsTypeName text → letters_value text < 64 ^ 9
value-lt text h =
    let nine : length (map letter_number text) ≡ 9 = length-map text letter_number ∙ h.nine in
    rw nine at (number_lt 64 (map letter_number text) (below_base text (named-letters text h)))

reserved-letters : AreLetters reserved_name
reserved-letters =
    let a : IsLetter 65 = omega arith in (a, (a, (a, (a, (a, (a, (a, (a, (a, tt)))))))))

pub reserved-at : (k : ℕ) → k < 9 → IsLetter (get_or reserved_name k 0)
reserved-at k less = letters-at reserved_name reserved-letters k less

pub value-some : (text : List ℕ) → IsTypeName text → letters_value text ≢ 0
value-some text h e =
    h.free (texts_one text reserved_name (named-letters text h) reserved-letters h.nine e)

pub id-range : (name : List ℕ) (version : ℕ) → IsTypeName name → version ≤ 1023 → (1024 ≤ id_number name version) × (id_number name version < 2 ^ 64)
id-range name version h fits =
    let some : letters_value name ≢ 0 = value-some name h in
    let less : letters_value name < 64 ^ 9 = value-lt name h in
    (omega arith, omega arith)

pub ids_one : (name other : List ℕ) (version another id : ℕ) → IsIdOf name version id → IsIdOf other another id → (name ≡ other) × (version ≡ another)
ids_one name other version another id h k =
    let sums : id_number name version ≡ id_number other another = sym h.number ∙ k.number in
    let fits : version ≤ 1023 = h.version_fits in
    let fit : another ≤ 1023 = k.version_fits in
    let values : letters_value name ≡ letters_value other = omega arith in
    (texts_one name other (named-letters name h.named) (named-letters other k.named) (h.named.nine ∙ sym k.named.nine) values, omega arith)

-- the last letters of a number, put before those that stand
abbrev pub letters_before : ℕ → ℕ → List ℕ → List ℕ
letters_before zero number text = text
letters_before (suc count) number text =
    letters_before count (number / 64) (letter_at (number % 64) ∷ text)

quotient-lt : (count number : ℕ) → number < 64 ^ suc count → number / 64 < 64 ^ count
quotient-lt count number less = let step = pow-suc 64 count in omega (arith, step, less)

before-value : (count number : ℕ) (text : List ℕ) → number < 64 ^ count → number_from_digits_after 64 0 (map letter_number (letters_before count number text)) ≡ number_from_digits_after 64 number (map letter_number text)
before-value zero number text less =
    ap (λ (n : ℕ). number_from_digits_after 64 n (map letter_number text)) (omega arith)
before-value (suc count) number text less =
    let digit : letter_number (letter_at (number % 64)) ≡ number % 64 = number-back (number % 64) (omega arith) in
    let whole : number / 64 * 64 + letter_number (letter_at (number % 64)) ≡ number = omega arith in
    before-value count (number / 64) (letter_at (number % 64) ∷ text) (quotient-lt count number less)
    ∙ ap (λ (n : ℕ). number_from_digits_after 64 n (map letter_number text)) whole

before-length : (count number : ℕ) (text : List ℕ) → length (letters_before count number text) ≡ count + length text
before-length zero number text = omega arith
before-length (suc count) number text =
    omega (arith, before-length count (number / 64) (letter_at (number % 64) ∷ text))

before-letters : (count number : ℕ) (text : List ℕ) → AreLetters text → AreLetters (letters_before count number text)
before-letters zero number text h = h
before-letters (suc count) number text h =
    let small : number % 64 < 64 = omega arith in
    let digit : letter_number (letter_at (number % 64)) ≡ number % 64 = number-back (number % 64) small in
    let letter : IsLetter (letter_at (number % 64)) = omega arith in
    before-letters count (number / 64) (letter_at (number % 64) ∷ text) (letter, h)

-- nine letters that a number writes
unfoldable pub nine_letters : ℕ → List ℕ
nine_letters number = letters_before 9 number []

pub nine_letters-are : (number : ℕ) → AreLetters (nine_letters number)
unfolding nine_letters
nine_letters-are number = before-letters 9 number [] tt

pub nine_letters-length : (number : ℕ) → length (nine_letters number) ≡ 9
unfolding nine_letters
nine_letters-length number = before-length 9 number []

pub nine_letters-value : (number : ℕ) → number < 64 ^ 9 → letters_value (nine_letters number) ≡ number
unfolding nine_letters
nine_letters-value number less = before-value 9 number [] less

pub nine_letters-at : (number k : ℕ) → k < 9 → IsLetter (get_or (nine_letters number) k 0)
nine_letters-at number k less =
    letters-at (nine_letters number) (nine_letters-are number) k (omega (arith, nine_letters-length number))

-- a letter set before those that stand
pub letter_set : (text : List ℕ) (place rest : ℕ) → 0 < place → place ≤ length text → letters_before (place - 1) (rest / 64) (drop (place - 1) (set text (place - 1) (letter_at (rest % 64)))) ≡ letters_before place rest (drop place text)
letter_set text zero rest some within = absurd (omega arith)
letter_set text (suc k) rest some within =
    let last : suc k - 1 ≡ k = omega arith in
    rw last (ap (λ (ds : List ℕ). letters_before k (rest / 64) ds) (drop-set text k (letter_at (rest % 64)) (omega arith) ∙ ap (λ (i : ℕ). letter_at (rest % 64) ∷ drop i text) (add-one k)))

-- and all of them stand
pub all_set : (text all : List ℕ) (place rest : ℕ) → place ≤ 0 → letters_before place rest (drop place text) ≡ all → text ≡ all
all_set text all zero rest done e = e
all_set text all (suc place) rest done e = absurd (omega arith)

-- a name of letters that write a number
nine-named : (number : ℕ) → 0 < number → number < 64 ^ 9 → IsTypeName (nine_letters number)
nine-named number some less =
    let nine = nine_letters-length number in
    record {
      nine = nine;
      letters = λ k within. letters-at (nine_letters number) (nine_letters-are number) k (omega arith);
      free = λ e. omega (arith, nine_letters-value number less, ap letters_value e);
    }

pub id-some : (id : ℕ) → 1024 ≤ id → id < 2 ^ 64 → (name : List ℕ) × (version : ℕ) × IsIdOf name version id
id-some id large less =
    let small : id / 1024 < 64 ^ 9 = omega arith in (
      nine_letters (id / 1024),
      id % 1024,
      record {
        named = nine-named (id / 1024) (omega arith) small;
        version_fits = omega arith;
        number = omega (arith, nine_letters-value (id / 1024) small);
      },
    )

-- what the first letters write, with one more, is at most what all write
prefix_le : (ds : List ℕ) (i : ℕ) → number_from_digits 64 (take i ds) ≤ number_from_digits 64 ds
prefix_le ds i =
    let parts = ap (number_from_digits 64) (sym (take-append-drop i ds)) ∙ number_after_append 64 0 (take i ds) (drop i ds) in
    omega (arith, parts, number_after_ge 64 (number_from_digits 64 (take i ds)) (drop i ds) (omega arith))

pub value_more : (text : List ℕ) (i : ℕ) → i < length text → letters_value (take (i + 1) text) ≡ letters_value (take i text) * 64 + letter_number (get_or text i 0)
value_more text i less =
    let numbers = map letter_number text in
    let long : i < length numbers = omega (arith, length-map text letter_number) in
    let one = number_more 64 numbers i long in
    rw (take-map letter_number (i + 1) text, take-map letter_number i text, get_or-map letter_number text i 0 0 less) at one

pub value_more-le : (text : List ℕ) (i : ℕ) → i < length text → letters_value (take i text) * 64 + letter_number (get_or text i 0) ≤ letters_value text
value_more-le text i less =
    let whole = prefix_le (map letter_number text) (i + 1) in
    let front = rw (take-map letter_number (i + 1) text) at whole in
    omega (arith, value_more text i less, front)

pub ruleset one_more = (value_more, value_more-le, value-lt)
