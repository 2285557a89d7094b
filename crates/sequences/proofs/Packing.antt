-- What is cut out of bytes at rising ends. Serves the clauses of Packed.
use Rattle.std.proofs.Common.{◌≡◌, ℕ, zero, suc, ◌-◌, ◌<◌, ◌≤◌, List, [], ◌∷◌, ◌++◌, length, get_or, take, drop, slice_range, refl, ap, ◌∙◌, arith}
use Rattle.std.proofs.lemmas.List.{length-append, take-append-le, drop-append-le, length-drop, take_all, drop_all}
use Rattle.sequences.specs.inner.Packing.{words_from, last_end, cut_at, Rises}

-- no end is above the top
pub low_top : (low top : ℕ) (ends : List ℕ) → Rises low top ends → low ≤ top
low_top low top [] rises = rises
low_top low top (end ∷ ends) rises =
    let rest = low_top end top ends rises.1 in
    let first = rises.0 in
    omega (arith, rest, first)

pub last_top : (low top : ℕ) (ends : List ℕ) → Rises low top ends → last_end low ends ≤ top
last_top low top [] rises = rises
last_top low top (end ∷ ends) rises = last_top end top ends rises.1

-- a place that was cut out is not touched by what comes behind
pub range_before : (bytes more : List ℕ) (start end : ℕ) → start ≤ end → end ≤ length bytes
    → slice_range (bytes ++ more) start end ≡ slice_range bytes start end
range_before bytes more start end low top =
    let long = length-drop start bytes in
    let inside : start ≤ length bytes = omega (arith, low, top) in
    let within : end - start ≤ length (drop start bytes) = omega (arith, long, top) in
    ap (take (end - start)) (drop-append-le start bytes more inside)
    ∙ take-append-le (end - start) (drop start bytes) more within

-- more bytes change no word
pub words_before : (start : ℕ) (bytes more ends : List ℕ) → Rises start (length bytes) ends
    → words_from start (bytes ++ more) ends ≡ words_from start bytes ends
words_before start bytes more [] rises = refl
words_before start bytes more (end ∷ ends) rises =
    let top = low_top end (length bytes) ends rises.1 in
    let first = range_before bytes more start end rises.0 top in
    rw first (ap (λ (rest : List (List ℕ)). slice_range bytes start end ∷ rest)
    (words_before end bytes more ends rises.1))

-- and go behind the last of them
pub tail_more : (start : ℕ) (bytes more ends : List ℕ) → Rises start (length bytes) ends
    → drop (last_end start ends) (bytes ++ more) ≡ drop (last_end start ends) bytes ++ more
tail_more start bytes more ends rises =
    drop-append-le (last_end start ends) bytes more (last_top start (length bytes) ends rises)

-- more bytes leave the ends rising
pub rises_more : (low top more : ℕ) (ends : List ℕ) → top ≤ more → Rises low top ends
    → Rises low more ends
rises_more low top more [] above rises = omega (arith, above, rises)
rises_more low top more (end ∷ ends) above rises =
    (rises.0, rises_more end top more ends above rises.1)

-- one more end, at the end of the bytes
pub rises_end : (low top : ℕ) (ends : List ℕ) → Rises low top ends
    → Rises low top (ends ++ top ∷ [])
rises_end low top [] rises = let same : top ≤ top = omega arith in (rises, same)
rises_end low top (end ∷ ends) rises = (rises.0, rises_end end top ends rises.1)

pub last_end_push : (start end : ℕ) (ends : List ℕ) → last_end start (ends ++ end ∷ []) ≡ end
last_end_push start end [] = refl
last_end_push start end (e ∷ ends) = last_end_push e end ends

-- makes a word of what stands behind the last one
pub words_end : (start : ℕ) (bytes ends : List ℕ)
    → words_from start bytes (ends ++ length bytes ∷ [])
    ≡ words_from start bytes ends ++ drop (last_end start ends) bytes ∷ []
words_end start bytes [] =
    let long = length-drop start bytes in
    let whole : length (drop start bytes) ≤ length bytes - start = omega (arith, long) in
    ap (λ (word : List ℕ). word ∷ []) (take_all (length bytes - start) (drop start bytes) whole)
words_end start bytes (end ∷ ends) =
    ap (λ (rest : List (List ℕ)). slice_range bytes start end ∷ rest) (words_end end bytes ends)

pub length-words_from : (start : ℕ) (bytes ends : List ℕ)
    → length (words_from start bytes ends) ≡ length ends
length-words_from start bytes [] = refl
length-words_from start bytes (end ∷ ends) = ap suc (length-words_from end bytes ends)

-- the word at a place
pub word_at : (start : ℕ) (bytes ends : List ℕ) (n : ℕ) (d : List ℕ) → n < length ends
    → get_or (words_from start bytes ends) n d
    ≡ slice_range bytes (last_end start (take n ends)) (get_or ends n 0)
word_at start bytes [] n d there = absurd (omega (arith, there))
word_at start bytes (end ∷ ends) zero d there = refl
word_at start bytes (end ∷ ends) (suc n) d there =
    let next : n < length ends = omega (arith, there) in
    word_at end bytes ends n d next

-- lies within the bytes
pub word_within : (start top : ℕ) (ends : List ℕ) (n : ℕ) → Rises start top ends → n < length ends
    → (last_end start (take n ends) ≤ get_or ends n 0) × (get_or ends n 0 ≤ top)
word_within start top [] n rises there = absurd (omega (arith, there))
word_within start top (end ∷ ends) zero rises there = (rises.0, low_top end top ends rises.1)
word_within start top (end ∷ ends) (suc n) rises there =
    let next : n < length ends = omega (arith, there) in
    word_within end top ends n rises.1 next

-- and begins where the one before it ends
pub last_end_take : (start : ℕ) (ends : List ℕ) (n : ℕ) → n < length ends
    → last_end start (take (suc n) ends) ≡ get_or ends n 0
last_end_take start [] n there = absurd (omega (arith, there))
last_end_take start (end ∷ ends) zero there = refl
last_end_take start (end ∷ ends) (suc n) there =
    let next : n < length ends = omega (arith, there) in
    last_end_take end ends n next

-- more bytes leave the ends rising
pub rises_append : (bytes more ends : List ℕ) → Rises 0 (length bytes) ends
    → Rises 0 (length (bytes ++ more)) ends
rises_append bytes more ends rises =
    let above : length bytes ≤ length (bytes ++ more) = omega (arith, length-append bytes more) in
    rises_more 0 (length bytes) (length (bytes ++ more)) ends above rises

-- and go behind the last word
pub cut_append : (bytes more ends : List ℕ) → Rises 0 (length bytes) ends
    → cut_at (bytes ++ more) ends
    ≡ record { words = (cut_at bytes ends).words; tail = (cut_at bytes ends).tail ++ more }
cut_append bytes more ends rises =
    let words = words_before 0 bytes more ends rises in
    let tail = tail_more 0 bytes more ends rises in
    cc

-- what stands behind the last word is made a word
pub cut_end : (bytes ends : List ℕ)
    → cut_at bytes (ends ++ length bytes ∷ [])
    ≡ record { words = (cut_at bytes ends).words ++ (cut_at bytes ends).tail ∷ []; tail = [] }
cut_end bytes ends =
    let words = words_end 0 bytes ends in
    let last = last_end_push 0 (length bytes) ends in
    let same : length bytes ≤ length bytes = omega arith in
    let none = drop_all (length bytes) bytes same in
    let tail : drop (last_end 0 (ends ++ length bytes ∷ [])) bytes ≡ [] = rw last none in
    cc

-- the tail that was empty, and a word behind it
pub cut_push : (bytes word ends : List ℕ) → Rises 0 (length bytes) ends
    → (cut_at bytes ends).tail ≡ []
    → cut_at (bytes ++ word) (ends ++ length (bytes ++ word) ∷ [])
    ≡ record { words = (cut_at bytes ends).words ++ word ∷ []; tail = [] }
cut_push bytes word ends rises none =
    let words = words_before 0 bytes word ends rises in
    let more = tail_more 0 bytes word ends rises in
    let tail : drop (last_end 0 ends) (bytes ++ word) ≡ word =
    more ∙ ap (λ (there : List ℕ). there ++ word) none in
    cut_end (bytes ++ word) ends ∙ (let done = words in cc)
