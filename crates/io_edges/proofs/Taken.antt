-- Serves the clause `bytes` of `take` of a source in memory, and the law `zero_is_the_end`.
use Rattle.std.proofs.Common.{◌≡◌, ℕ, ◌+◌, ◌<◌, min, List, [], ◌++◌, length, take, drop, Option, Some, None, Result, Ok, Err, IfOk, sym, ap, ◌∙◌, arith}
use Rattle.std.specs.Prelude.{◌↔◌}
use Rattle.std.specs.Io.{ReadsAtMost}
use Rattle.std.specs.Io.KnownBytes.{ReadConsumes}
use Rattle.std.proofs.lemmas.List.{take-append-drop, drop-drop, length-drop, length-append, length-take-le, nil_from_length}
use Rattle.io_edges.specs.declared.source.SourceFault.{SourceFault}

-- what is left is the piece that was copied, and what is left then
pub copied_front : (bytes piece rest : List ℕ) (at count : ℕ) → rest ≡ drop at bytes → take count piece ≡ take count rest → drop at bytes ≡ take count piece ++ drop (at + count) bytes
copied_front bytes piece rest at count is e =
    sym (take-append-drop count (drop at bytes)) ∙ ap (λ front. front ++ drop count (drop at bytes)) (sym (e ∙ ap (take count) is)) ∙ ap (λ rest. take count piece ++ rest) (drop-drop count at bytes)

-- nothing was copied into a place with room, so nothing is left
pub copied_none : (bytes into rest : List ℕ) (at count : ℕ) → rest ≡ drop at bytes → count ≡ min (length rest) (length into) → count ≡ 0 → 0 < length into → drop (at + count) bytes ≡ []
copied_none bytes into rest at count is e none room =
    let short : length (drop (at + count) bytes) ≡ 0 = omega (arith, length-drop at bytes, length-drop (at + count) bytes, ap length is) in
    nil_from_length _ short

-- a piece with room is left empty exactly where nothing was left
pub ends : (left piece : List ℕ) (now : Option (List ℕ)) (taken : Result ℕ SourceFault) → 0 < length piece → ReadsAtMost taken piece → ReadConsumes (Some left) now taken piece
    → IfOk taken (λ count. (count ≡ 0) ↔ (left ≡ []))
ends left piece now (Err fault) room fits read = tt
ends left piece None (Ok count) room fits read = absurd read.0
ends left piece (Some rest) (Ok count) room fits read = (
  λ none. read.0 ∙ ap (λ (n : ℕ). take n piece ++ rest) none ∙ read.1 none room,
  λ nothing. omega (arith, ap length (sym read.0 ∙ nothing), length-append (take count piece) rest, length-take-le count piece fits.0),
)
