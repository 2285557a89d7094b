-- A pattern and a text that are gone through side by side. It serves the clauses of `matches`.
use Rattle.std.proofs.Common.{◌≡◌, ◌≢◌, ℕ, ◌+◌, ◌==◌, Bool, true, false, ◌&&◌, ◌||◌}
use Rattle.std.proofs.Common.{List, [], ◌∷◌, drop, length, zero, suc, refl, sym, ap, ◌∙◌, add_comm, arith}
use Rattle.std.proofs.lemmas.List.{drop-drop}
use Rattle.std.proofs.Math.Seq.{drop-nil}
use Rattle.std.proofs.lemmas.Bool.Decides.{nat_tests}
use Rattle.std.proofs.lemmas.Bool.{true≢false, false≢true}
use Rattle.key_events.specs.declared.piece.Piece.{Piece}
use Rattle.key_events.specs.declared.piece.Piece.TheVariants.{Any, One, Byte}
use Rattle.key_events.specs.Patterns.{fits, some_end}
use Rattle.key_events.specs.inner.Walks.{Reaches, takes}

pub begins : (pieces : List Piece) (text : List ℕ) → Reaches pieces text pieces text
begins pieces text = record {
  same = refl;
  bytes = 0;
  behind = refl;
  each = λ other is. is;
}

-- behind one byte more
next_end : (n : ℕ) (text : List ℕ) (byte : ℕ) (rest : List ℕ) → drop n text ≡ byte ∷ rest
    → drop (n + 1) text ≡ rest
next_end n text byte rest is = sym (drop-drop 1 n text) ∙ ap (drop 1) is

one_fits : (piece : Piece) (pieces : List Piece) (byte : ℕ) (rest : List ℕ)
    → takes piece byte ≡ true → fits (piece ∷ pieces) (byte ∷ rest) ≡ fits pieces rest
one_fits Any pieces byte rest taken = absurd (false≢true taken)
one_fits One pieces byte rest taken = refl
one_fits (Byte itself) pieces byte rest taken = ap (λ b. b && fits pieces rest) taken

-- where a piece stands for one byte, what it stands for with others has a byte
one_needed : (piece : Piece) (pieces : List Piece) (byte : ℕ) → takes piece byte ≡ true
    → (n : ℕ) (other left : List ℕ) → drop n other ≡ left → fits (piece ∷ pieces) left ≡ true
    → fits pieces (drop (n + 1) other) ≡ true
one_needed Any pieces byte taken n other left at is = absurd (false≢true taken)
one_needed One pieces byte taken n other [] at is = absurd (false≢true is)
one_needed One pieces byte taken n other (first ∷ rest) at is =
    ap (fits pieces) (next_end n other first rest at) ∙ is
one_needed (Byte itself) pieces byte taken n other [] at is = absurd (false≢true is)
one_needed (Byte itself) pieces byte taken n other (first ∷ rest) at is =
    ap (fits pieces) (next_end n other first rest at) ∙ second (first == itself) is
  where
    second : (b : Bool) → (b && fits pieces rest) ≡ true → fits pieces rest ≡ true
    second true is = is
    second false is = absurd (false≢true is)

pub goes_on : (pieces : List Piece) (text : List ℕ) (at : List Piece) (piece : Piece)
    (behind : List Piece) (left : List ℕ) (byte : ℕ) (rest : List ℕ) → at ≡ piece ∷ behind
    → left ≡ byte ∷ rest → takes piece byte ≡ true → Reaches pieces text at left
    → Reaches pieces text behind rest
goes_on pieces text at piece behind left byte rest splits begins taken reached = record {
  same = reached.same ∙ ap (λ ps. fits ps left) splits ∙ ap (fits (piece ∷ behind)) begins
      ∙ one_fits piece behind byte rest taken;
  bytes = reached.bytes + 1;
  behind = sym (next_end reached.bytes text byte rest (sym reached.behind ∙ begins));
  each = λ other is. one_needed piece behind byte taken reached.bytes other
      (drop reached.bytes other) refl
      (ap (λ ps. fits ps (drop reached.bytes other)) (sym splits) ∙ reached.each other is);
}

-- ---- where a walk ends

pub whole : (left : List ℕ) → fits [] left ≡ (length left == 0)
whole [] = refl
whole (byte ∷ rest) = grind (arith, nat_tests)

pub no_byte : (piece : Piece) (pieces : List Piece) → piece ≢ Any → fits (piece ∷ pieces) [] ≡ false
no_byte Any pieces is = absurd (is refl)
no_byte One pieces is = refl
no_byte (Byte itself) pieces is = refl

pub no_match : (piece : Piece) (pieces : List Piece) (byte : ℕ) (rest : List ℕ) → piece ≢ Any
    → takes piece byte ≡ false → fits (piece ∷ pieces) (byte ∷ rest) ≡ false
no_match Any pieces byte rest is not_taken = absurd (is refl)
no_match One pieces byte rest is not_taken = absurd (true≢false not_taken)
no_match (Byte itself) pieces byte rest is not_taken = ap (λ b. b && fits pieces rest) not_taken

-- ---- the first place where a pattern fits as far as to its next `*`

-- an end of an end is an end
end_of_end : (passes : List ℕ → Bool) (n : ℕ) (text : List ℕ)
    → some_end passes (drop n text) ≡ true → some_end passes text ≡ true
end_of_end passes n [] is = ap (some_end passes) (sym (drop-nil n)) ∙ is
end_of_end passes zero (byte ∷ rest) is = is
end_of_end passes (suc n) (byte ∷ rest) is =
    later (passes (byte ∷ rest)) (end_of_end passes n rest is)
  where
    later : (b : Bool) → some_end passes rest ≡ true → (b || some_end passes rest) ≡ true
    later true is = refl
    later false is = is

-- one of the ends passes
an_end : (passes : List ℕ → Bool) (text : List ℕ) → some_end passes text ≡ true
    → (n : ℕ) × (passes (drop n text) ≡ true)
an_end passes [] is = (0, is)
an_end passes (byte ∷ rest) is =
    elim (passes (byte ∷ rest)) as (λ b. passes (byte ∷ rest) ≡ b
    → (b || some_end passes rest) ≡ true
    → (n : ℕ) × (passes (drop n (byte ∷ rest)) ≡ true)) [
      | true ↦ λ here _. (0, here)
      | false ↦ λ _ later. let found = an_end passes rest later in (suc found.0, found.1)
    ] refl is

pub all_passes : (passes : List ℕ → Bool) (text : List ℕ) → passes text ≡ true
    → some_end passes text ≡ true
all_passes passes [] is = is
all_passes passes (byte ∷ rest) is = ap (λ b. b || some_end passes rest) is

same_truth : (a b : Bool) → (a ≡ true → b ≡ true) → (b ≡ true → a ≡ true) → a ≡ b
same_truth true b to from = sym (to refl)
same_truth false true to from = from refl
same_truth false false to from = refl

-- where the pieces lead to a `*`, an end of the text fits exactly where what is behind the `*` fits
-- an end of what is left there
pub first_place : (pieces : List Piece) (text : List ℕ) (behind : List Piece) (left : List ℕ)
    → Reaches pieces text (Any ∷ behind) left
    → some_end (fits pieces) text ≡ some_end (fits behind) left
first_place pieces text behind left reached = same_truth _ _ down up
  where
    down : some_end (fits pieces) text ≡ true → some_end (fits behind) left ≡ true
    down is =
        let found = an_end (fits pieces) text is in
        let there = reached.each (drop found.0 text) found.1 in
        let same : drop reached.bytes (drop found.0 text) ≡ drop found.0 left =
        drop-drop reached.bytes found.0 text
        ∙ ap (λ n. drop n text) (add_comm found.0 reached.bytes)
        ∙ sym (drop-drop found.0 reached.bytes text) ∙ ap (drop found.0) (sym reached.behind) in
        end_of_end (fits behind) found.0 left (ap (some_end (fits behind)) (sym same) ∙ there)

    up : some_end (fits behind) left ≡ true → some_end (fits pieces) text ≡ true
    up is = all_passes (fits pieces) text (reached.same ∙ is)

-- where the whole text does not fit, one of the other ends does
pub next_place : (passes : List ℕ → Bool) (byte : ℕ) (rest : List ℕ)
    → passes (byte ∷ rest) ≡ false → some_end passes (byte ∷ rest) ≡ some_end passes rest
next_place passes byte rest fails = ap (λ b. b || some_end passes rest) fails

pub no_place : (passes : List ℕ → Bool) → passes [] ≡ false → some_end passes [] ≡ false
no_place passes fails = fails
