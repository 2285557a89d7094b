-- Serves clause ok of lay_over, and clause does of set_range and set_range_new.
use Rattle.std.proofs.Common.{◌≡◌, ◌+◌, ◌-◌, ◌<◌, ◌≤◌, ◌&&◌, ◌++◌, ℕ, zero, suc, Bool, true, false, nat_lt, nat_le, max, if◌then◌else◌, List, [], ◌∷◌, length, take, drop, get_or, refl, ap, ◌∙◌, arith, length-append, length-drop}
use Rattle.std.specs.Prelude.{replicate}
use Rattle.std.proofs.lemmas.Bool.Decides.{nat_tests}
use Rattle.std.proofs.lemmas.List.{get_or_append_left, get_or-append_right, get_or-take, get_or-drop, length-take-le, length-replicate}
use Rattle.std.proofs.lemmas.List.FromFn.{fill_by_all, length-map-range_with_len}
use Rattle.string_cmds.specs.Writing.{byte_over, laid_over}

pub length-laid_over : (held : List ℕ) (offset : ℕ) (piece : List ℕ) → length (laid_over held offset piece) ≡ max (length held) (offset + length piece)
unfolding laid_over
length-laid_over held offset piece =
    length-map-range_with_len (byte_over held offset piece) 0 (max (length held) (offset + length piece))

zero_at : (n k : ℕ) → get_or {A = ℕ} (replicate n 0) k 0 ≡ 0
zero_at zero k = refl
zero_at (suc n) zero = refl
zero_at (suc n) (suc k) = zero_at n k

-- zero bytes at the end read as the end does
pub read_grown : (held : List ℕ) (n k : ℕ) → get_or (held ++ replicate n 0) k 0 ≡ get_or held k 0
read_grown [] n k = zero_at n k
read_grown (x ∷ held) n zero = refl
read_grown (x ∷ held) n (suc k) = read_grown held n k

-- where a place lies: before the piece, in it or behind it
data Lies (start size k : ℕ) : Type 0 where
  Before : k < start → Lies start size k
  Inside : start ≤ k → k < start + size → Lies start size k
  Behind : start + size ≤ k → Lies start size k

lies_by : (start size k : ℕ) (before behind : Bool) → nat_lt k start ≡ before → nat_lt k (start + size) ≡ behind → Lies start size k
lies_by start size k true behind e f = Before (grind (arith, nat_tests))
lies_by start size k false true e f = Inside (grind (arith, nat_tests)) (grind (arith, nat_tests))
lies_by start size k false false e f = Behind (grind (arith, nat_tests))

lies : (start size k : ℕ) → Lies start size k
lies start size k = lies_by start size k (nat_lt k start) (nat_lt k (start + size)) refl refl

written : List ℕ → ℕ → List ℕ → List ℕ
written bytes start piece = take start bytes ++ piece ++ drop (start + length piece) bytes

length-written : (bytes : List ℕ) (start : ℕ) (piece : List ℕ) → start + length piece ≤ length bytes → length (written bytes start piece) ≡ length bytes
unfolding written
length-written bytes start piece h =
    let front : length (take start bytes) ≡ start = length-take-le start bytes (omega arith) in
    simp (length-append, length-drop) (omega arith)

test_and : (a b : Bool) (x y z : ℕ) → a && b ≡ true → z ≡ x → z ≡ (if a && b then x else y)
test_and true true x y z e f = f
test_and true false x y z e f = cc
test_and false b x y z e f = cc

test_or : (a b : Bool) (x y z : ℕ) → a && b ≡ false → z ≡ y → z ≡ (if a && b then x else y)
test_or true true x y z e f = cc
test_or true false x y z e f = f
test_or false b x y z e f = f

-- a byte that was written is the piece's where the piece lies, and elsewhere the one that stood
read_written : (bytes : List ℕ) (start : ℕ) (piece : List ℕ) (k : ℕ) → start + length piece ≤ length bytes → Lies start (length piece) k → get_or (written bytes start piece) k 0 ≡ byte_over bytes start piece k
unfolding written
read_written bytes start piece k h (Before less) =
    let front : length (take start bytes) ≡ start = length-take-le start bytes (omega arith) in
    let whole : length (take start bytes ++ piece) ≡ start + length piece = simp length-append (omega arith) in
    let test : nat_le start k && nat_lt k (start + length piece) ≡ false = grind (arith, nat_tests) in
    test_or (nat_le start k) (nat_lt k (start + length piece)) _ _ _ test
    (get_or_append_left (take start bytes ++ piece) (drop (start + length piece) bytes) 0 k (omega arith)
    ∙ get_or_append_left (take start bytes) piece 0 k (omega arith) ∙ get_or-take start bytes k 0 less)
read_written bytes start piece k h (Inside low high) =
    let front : length (take start bytes) ≡ start = length-take-le start bytes (omega arith) in
    let whole : length (take start bytes ++ piece) ≡ start + length piece = simp length-append (omega arith) in
    let test : nat_le start k && nat_lt k (start + length piece) ≡ true = grind (arith, nat_tests) in
    test_and (nat_le start k) (nat_lt k (start + length piece)) _ _ _ test
    (get_or_append_left (take start bytes ++ piece) (drop (start + length piece) bytes) 0 k (omega arith)
    ∙ get_or-append_right (take start bytes) piece start k 0 front low)
read_written bytes start piece k h (Behind high) =
    let front : length (take start bytes) ≡ start = length-take-le start bytes (omega arith) in
    let whole : length (take start bytes ++ piece) ≡ start + length piece = simp length-append (omega arith) in
    let test : nat_le start k && nat_lt k (start + length piece) ≡ false = grind (arith, nat_tests) in
    let again : start + length piece + (k - (start + length piece)) ≡ k = omega arith in
    test_or (nat_le start k) (nat_lt k (start + length piece)) _ _ _ test
    (get_or-append_right (take start bytes ++ piece) (drop (start + length piece) bytes) (start + length piece) k 0 whole high
    ∙ get_or-drop (start + length piece) bytes (k - (start + length piece)) 0 ∙ ap (λ n. get_or bytes n 0) again)

over_grown : (held : List ℕ) (n start : ℕ) (piece : List ℕ) (k : ℕ) → byte_over (held ++ replicate n 0) start piece k ≡ byte_over held start piece k
over_grown held n start piece k = rw (read_grown held n k) refl

-- zero bytes to the end of the piece, and the piece written over them
pub laid_by_steps : (held : List ℕ) (start : ℕ) (piece grown : List ℕ) → grown ≡ held ++ replicate (start + length piece - length held) 0 → take start grown ++ piece ++ drop (start + length piece) grown ≡ laid_over held start piece
unfolding written laid_over
laid_by_steps held start piece grown e =
    let size : length grown ≡ max (length held) (start + length piece) =
    ap length e ∙ simp (length-append, length-replicate) (omega arith) in
    let room : start + length piece ≤ length grown = omega arith in
    let same : (k : ℕ) → byte_over grown start piece k ≡ byte_over held start piece k =
    λ k. ap (λ bytes. byte_over bytes start piece k) e ∙ over_grown held (start + length piece - length held) start piece k in
    fill_by_all (byte_over held start piece) (written grown start piece) (max (length held) (start + length piece)) 0
    (length-written grown start piece room ∙ size)
    (λ k h. read_written grown start piece k room (lies start (length piece) k) ∙ same k)
