-- Serves the law `one_outcome` and `first_bad` of `items`: the first length that is told wrong.
use Rattle.std.proofs.Common.{◌≡◌, ◌≢◌, ◌⊎◌, ℕ, ◌+◌, ◌≤◌, List, [], ◌∷◌, ◌++◌, length, Option, Some}
use Rattle.std.proofs.Common.{None, refl, sym, ap, ◌∙◌, inl, inr, arith}
use Rattle.std.proofs.lemmas.Bool.Decides.{nat_tests}
use Rattle.std.proofs.lemmas.List.{length-append}
use Rattle.zip_lists.specs.Entry.{Entry, entry_bytes, told}
use Rattle.zip_lists.specs.Ziplist.{entries_bytes, last_size, AllTell}
use Rattle.zip_lists.specs.inner.Walking.{wrong_among, or_here}

-- an entry among these tells another length than that of the one before it
pub record TellsWrong (before start : ℕ) (entries : List Entry) (place : ℕ) : Type 0 where
  pub front : List Entry
  pub entry : Entry
  pub back : List Entry
  pub entries_are : entries ≡ front ++ entry ∷ back
  pub wrong : told entry.previous ≢ last_size before front
  pub place_is : place ≡ start + length (entries_bytes front)

-- it is so
same_or_not : (m n : ℕ) → (m ≡ n) ⊎ (m ≢ n)
same_or_not m n = grind (arith, nat_tests)

passed : (before start : ℕ) (e : Entry) (more : List Entry) → told e.previous ≡ before →
    wrong_among before start (e ∷ more) ≡ wrong_among (length (entry_bytes e))
    (start + length (entry_bytes e)) more
passed before start e more same = grind (arith, nat_tests)

stopped : (before start : ℕ) (e : Entry) (more : List Entry) → told e.previous ≢ before →
    wrong_among before start (e ∷ more) ≡ Some start
stopped before start e more other = grind (arith, nat_tests)

-- where an entry tells another length, one is found, no further on
pub record FoundBy (before start : ℕ) (entries front : List Entry) : Type 0 where
  pub place : ℕ
  pub found : wrong_among before start entries ≡ Some place
  pub near : place ≤ start + length (entries_bytes front)

pub wrong-found : (before start : ℕ) (front : List Entry) (e : Entry) (back : List Entry) →
    told e.previous ≢ last_size before front → FoundBy before start (front ++ e ∷ back) front
wrong-found before start [] e back other = record {
  place = start;
  found =
      stopped before start e back other;
  near = omega arith;
}
wrong-found before start (f ∷ front) e back other =
    elim (same_or_not (told f.previous) before) [
      | inl same ↦
          let size = length (entry_bytes f) in
          let later = wrong-found size (start + size) front e back other in
          record {
            place = later.place;
            found = passed before start f (front ++ e ∷ back) same ∙ later.found;
            near = omega (arith, later.near, length-append (entry_bytes f) (entries_bytes front));
          }
      | inr unlike ↦ record {
        place = start;
        found =
            stopped before start f (front ++ e ∷ back) unlike;
        near = omega arith;
      }
    ]

-- and what is found is one
pub found-wrong : (before start : ℕ) (entries : List Entry) (place : ℕ) →
    wrong_among before start entries ≡ Some place → TellsWrong before start entries place
found-wrong before start [] place e = cc
found-wrong before start (f ∷ entries) place e =
    elim (same_or_not (told f.previous) before) [
      | inl same ↦
          let size = length (entry_bytes f) in
          let later = found-wrong size (start + size) entries place
          (sym (passed before start f entries same) ∙ e) in
          record {
            front = f ∷ later.front;
            entry = later.entry;
            back = later.back;
            entries_are = ap (λ (es : List Entry). f ∷ es) later.entries_are;
            wrong = later.wrong;
            place_is = omega (
              arith,
              later.place_is,
              length-append (entry_bytes f)
                  (entries_bytes later.front),
            );
          }
      | inr unlike ↦
          let here : Some start ≡ Some place = sym (stopped before start f entries unlike) ∙ e in
          let same : start ≡ place = cc in
          record {
            front = [];
            entry = f;
            back = entries;
            entries_are = refl;
            wrong = unlike;
            place_is = omega arith;
          }
    ]

-- where none is found, all tell the length of the one before
pub none-tell : (before start : ℕ) (entries : List Entry) →
    wrong_among before start entries ≡ None → AllTell before entries
none-tell before start [] e = tt
none-tell before start (f ∷ entries) e =
    elim (same_or_not (told f.previous) before) [
      | inl same ↦
          let size = length (entry_bytes f) in (
            same,
            none-tell size (start + size) entries (sym (passed before start f entries same)
                ∙ e),
          )
      | inr unlike ↦
          let here : Some start ≡ None = sym (stopped before start f entries unlike) ∙ e in
          cc
    ]

pub tell-none : (before start : ℕ) (entries : List Entry) → AllTell before entries →
    wrong_among before start entries ≡ None
tell-none before start [] all = refl
tell-none before start (f ∷ entries) all =
    let size = length (entry_bytes f) in
    passed before start f entries all.0 ∙ tell-none size (start + size) entries all.1

-- one entry more
pub wrong_among-push : (before start : ℕ) (entries : List Entry) (e : Entry) →
    wrong_among before start (entries ++ e ∷ []) ≡ or_here (wrong_among before start entries)
    (last_size before entries) (start + length (entries_bytes entries)) (told e.previous)
wrong_among-push before start [] e = grind (arith, nat_tests)
wrong_among-push before start (f ∷ entries) e =
    elim (same_or_not (told f.previous) before) [
      | inl same ↦
          let size = length (entry_bytes f) in
          let later = wrong_among-push size (start + size) entries e in
          let place : (start + size) + length (entries_bytes entries) ≡ start + length
          (entries_bytes (f ∷ entries)) = omega
          (arith, length-append (entry_bytes f) (entries_bytes entries)) in
          let left = passed before start f (entries ++ e ∷ []) same in
          let right = passed before start f entries same in
          left ∙ later ∙ ap (λ (k : ℕ). or_here (wrong_among size (start + size) entries)
          (last_size size entries) k (told e.previous)) place
          ∙ ap (λ (w : Option ℕ). or_here w (last_size size entries)
          (start + length (entries_bytes (f ∷ entries))) (told e.previous)) (sym right)
      | inr unlike ↦
          let left = stopped before start f (entries ++ e ∷ []) unlike in
          let right = stopped before start f entries unlike in
          left ∙ ap (λ (w : Option ℕ). or_here w (last_size before (f ∷ entries))
          (start + length (entries_bytes (f ∷ entries))) (told e.previous)) (sym right)
    ]

pub last_size-push : (before : ℕ) (entries : List Entry) (e : Entry) →
    last_size before (entries ++ e ∷ []) ≡ length (entry_bytes e)
last_size-push before [] e = refl
last_size-push before (f ∷ entries) e = last_size-push (length (entry_bytes f)) entries e
