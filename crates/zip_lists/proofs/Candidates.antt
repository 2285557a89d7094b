-- Serves the law `one_outcome` and `first_bad` of `items`: which places can be bad, by what the
-- bytes were read as.
use Rattle.std.proofs.Common.{◌≡◌, ◌≢◌, ◌⊎◌, ℕ, ◌+◌, ◌<◌, ◌≤◌, List, [], ◌∷◌, ◌++◌, length, Some}
use Rattle.std.proofs.Common.{sym, ap, subst, ◌∙◌, inl, inr, arith}
use Rattle.std.specs.List.{AllByRecursion}
use Rattle.std.proofs.lemmas.List.{length-append, length-drop, append_assoc, append-nil}
use Rattle.std.proofs.lemmas.List.Concat.{flat_map-append}
use Rattle.zip_lists.specs.Entry.{Previous, IsPrevious, previous_bytes, content_bytes, told, Entry}
use Rattle.zip_lists.specs.Entry.{IsEntry, entry_bytes}
use Rattle.zip_lists.specs.Ziplist.{header_size, end_mark, total_of, last_of, count_of}
use Rattle.zip_lists.specs.Ziplist.{entries_bytes, place_behind, last_start, last_size, IsCount}
use Rattle.zip_lists.specs.Ziplist.{Stands}
use Rattle.zip_lists.specs.BadPlace.{IsBegun, IsUnknown, WrongPrevious, IsBad, IsCut}
use Rattle.zip_lists.specs.inner.Walking.{wrong_among}
use Rattle.zip_lists.proofs.Parts.{same_previous}
use Rattle.zip_lists.proofs.Readings.{NoEntry, end-no_entry, begun-no_entry, unknown-no_entry}
use Rattle.zip_lists.proofs.Readings.{stands-goes_on, same_end}
use Rattle.zip_lists.proofs.Wrongs.{wrong-found, found-wrong}

-- how many bytes there are
pub stands-length : (bytes : List ℕ) (entries : List Entry) (rest : List ℕ) →
    Stands bytes entries rest → length bytes ≡ place_behind entries + length rest
stands-length bytes entries rest stands =
    omega (
      arith,
      stands.header,
      length-drop 10 bytes,
      ap (λ (t : List ℕ). length t) stands.body,
      length-append (entries_bytes entries) rest,
    )

All-front : (xs : List Entry) (e : Entry) (ys : List Entry) →
    AllByRecursion IsEntry (xs ++ e ∷ ys) → AllByRecursion IsEntry xs × IsEntry e
    × AllByRecursion IsEntry ys
All-front [] e ys all = (tt, all.0, all.1)
All-front (x ∷ xs) e ys all =
    let later = All-front xs e ys all.1 in
    ((all.0, later.0), later.1, later.2)

-- what stands behind the front of the entries: the next one, and all that follows
pub behind_front : (front : List Entry) (e : Entry) (back : List Entry) (tail : List ℕ) →
    entries_bytes (front ++ e ∷ back) ++ tail ≡ entries_bytes front ++
    (previous_bytes e.previous ++ (content_bytes e.content ++ (entries_bytes back ++ tail)))
behind_front front e back tail =
    ap (λ (t : List ℕ). t ++ tail) (flat_map-append entry_bytes front (e ∷ back))
    ∙ append_assoc (entries_bytes front) (entry_bytes e ++ entries_bytes back) tail
    ∙ ap (λ (t : List ℕ). entries_bytes front ++ t)
    (append_assoc (entry_bytes e) (entries_bytes back) tail
    ∙ append_assoc (previous_bytes e.previous) (content_bytes e.content)
    (entries_bytes back ++ tail))

-- an entry that tells another length is a bad place
pub wrong-bad : (bytes : List ℕ) (entries : List Entry) (tail : List ℕ) (place : ℕ) →
    Stands bytes entries tail → wrong_among 0 header_size entries ≡ Some place → IsBad bytes place
wrong-bad bytes entries tail place stands found =
    let t = found-wrong 0 header_size entries place found in
    let each = All-front t.front t.entry t.back
    (subst (λ (es : List Entry). AllByRecursion IsEntry es) t.entries_are stands.each) in
    IsBad.Told record {
      entries = t.front;
      previous = t.entry.previous;
      more = content_bytes t.entry.content ++ (entries_bytes t.back ++ tail);
      is_previous = each.1.previous;
      stands = record {
        header = stands.header;
        each = each.0;
        body = stands.body ∙ ap (λ (es : List Entry). entries_bytes es ++ tail) t.entries_are
            ∙ behind_front t.front t.entry t.back tail;
      };
      other = t.wrong;
      place_is = t.place_is;
    }

-- and stands before what follows the entries
pub wrong-near : (entries : List Entry) (place : ℕ) →
    wrong_among 0 header_size entries ≡ Some place → place ≤ place_behind entries
wrong-near entries place found =
    let t = found-wrong 0 header_size entries place found in
    omega (
      arith,
      t.place_is,
      ap (λ (es : List Entry). length (entries_bytes es)) t.entries_are,
      ap (λ (b : List ℕ). length b) (flat_map-append entry_bytes t.front (t.entry ∷ t.back)),
      length-append (entries_bytes t.front) (entry_bytes t.entry ++ entries_bytes t.back),
    )

pub wrong-far : (entries : List Entry) (place : ℕ) →
    wrong_among 0 header_size entries ≡ Some place → header_size ≤ place
wrong-far entries place found =
    let t = found-wrong 0 header_size entries place found in
    omega (arith, t.place_is)

-- what a bad place can be, where the bytes hold these entries and then a tail that no entry begins
pub data Kind (bytes : List ℕ) (entries : List Entry) (tail : List ℕ) (place : ℕ) : Type 0 where
  Total : total_of bytes ≢ length bytes → Kind bytes entries tail place
  Last : (after : List ℕ) → tail ≡ end_mark ∷ after → last_of bytes ≢ last_start entries →
      place ≡ 4 → Kind bytes entries tail place
  Count : (after : List ℕ) → tail ≡ end_mark ∷ after →
      ¬ IsCount (count_of bytes) (length entries) → place ≡ 8 → Kind bytes entries tail place
  Inside : (near : ℕ) → wrong_among 0 header_size entries ≡ Some near → near ≤ place →
      Kind bytes entries tail place
  AtTail : (p : Previous) (more : List ℕ) → IsPrevious p → tail ≡ previous_bytes p ++ more →
      told p ≢ last_size 0 entries → place ≡ place_behind entries → Kind bytes entries tail place
  Encoding : (p : Previous) (mark : ℕ) (more : List ℕ) → IsPrevious p → IsUnknown mark →
      tail ≡ previous_bytes p ++ mark ∷ more →
      place ≡ place_behind entries + length (previous_bytes p) → Kind bytes entries tail place
  Trailing : (before : List ℕ) (byte : ℕ) (more : List ℕ) →
      tail ≡ end_mark ∷ (before ++ byte ∷ more) →
      place ≡ place_behind entries + 1 + length before → Kind bytes entries tail place
  Missing : IsBegun tail → place ≡ length bytes → Kind bytes entries tail place

-- it is one of these
module _ (bytes : List ℕ) (entries : List Entry) (tail : List ℕ)
    (stands : Stands bytes entries tail) (none : NoEntry tail) (place : ℕ) where
  at_previous : (w : WrongPrevious bytes place) (more : List Entry) → entries ≡ w.entries ++ more →
      AllByRecursion IsEntry more → previous_bytes w.previous ++ w.more ≡ entries_bytes
      more ++ tail → Kind bytes entries tail place
  at_previous w [] e all b =
      let same : entries ≡ w.entries = e ∙ append-nil w.entries in
      Kind.AtTail w.previous w.more w.is_previous (sym b)
      (λ h. w.other (h ∙ ap (λ (es : List Entry). last_size 0 es) same)) (w.place_is
      ∙ ap place_behind (sym same))
  at_previous w (m ∷ more) e all b =
      let turned : previous_bytes w.previous ++ w.more ≡ previous_bytes m.previous ++
      (content_bytes m.content ++ (entries_bytes more ++ tail)) =
      b ∙ append_assoc (entry_bytes m) (entries_bytes more) tail
      ∙ append_assoc (previous_bytes m.previous) (content_bytes m.content)
      (entries_bytes more ++ tail) in
      let same = same_previous w.previous m.previous w.more
      (content_bytes m.content ++ (entries_bytes more ++ tail)) w.is_previous all.0.previous
      turned in
      let by = wrong-found 0 header_size w.entries m more (λ h. w.other (ap told same.part ∙ h)) in
      Kind.Inside by.place (ap (λ (es : List Entry). wrong_among 0 header_size es) e ∙ by.found)
      (omega (arith, by.near, w.place_is))

  pub kind : IsBad bytes place → Kind bytes entries tail place
  kind (IsBad.Total w) = Kind.Total w.other
  kind (IsBad.Last w) =
      let same = same_end bytes entries w.entries tail (end_mark ∷ w.after) stands none w.ends
      (end-no_entry w.after) in
      Kind.Last w.after same.tail_is (λ h. w.other (h ∙ ap last_start same.entries_are)) w.place_is
  kind (IsBad.Count w) =
      let same = same_end bytes entries w.entries tail (end_mark ∷ w.after) stands none w.ends
      (end-no_entry w.after) in
      Kind.Count w.after same.tail_is (λ h. w.other
      (subst (λ (es : List Entry). IsCount (count_of bytes) (length es)) same.entries_are h))
      w.place_is
  kind (IsBad.Told w) =
      let on = stands-goes_on bytes entries w.entries tail
      (previous_bytes w.previous ++ w.more) stands none w.stands in
      at_previous w on.more on.entries_are on.each on.bytes
  kind (IsBad.Encoding w) =
      let same = same_end bytes entries w.entries tail
      (previous_bytes w.previous ++ w.mark ∷ w.more) stands none w.stands
      (unknown-no_entry w.previous w.mark w.more w.is_previous w.unknown) in
      Kind.Encoding w.previous w.mark w.more w.is_previous w.unknown same.tail_is (w.place_is
      ∙ ap (λ (es : List Entry). place_behind es + length (previous_bytes w.previous))
      (sym same.entries_are))
  kind (IsBad.Trailing w) =
      let same = same_end bytes entries w.entries tail
      (end_mark ∷ (w.before ++ w.byte ∷ w.more)) stands none w.ends
      (end-no_entry (w.before ++ w.byte ∷ w.more)) in
      Kind.Trailing w.before w.byte w.more same.tail_is (w.place_is
      ∙ ap (λ (es : List Entry). place_behind es + 1 + length w.before) (sym same.entries_are))
  kind (IsBad.Missing w) = at_cut w.short where
    at_cut : (length bytes < header_size) ⊎ IsCut bytes → Kind bytes entries tail place
    at_cut (inl short) = absurd (omega (arith, stands.header))
    at_cut (inr cut) =
        let same = same_end bytes entries cut.entries tail cut.rest stands none cut.stands
        (begun-no_entry cut.rest cut.begun) in
        Kind.Missing (subst IsBegun (sym same.tail_is) cut.begun) w.place_is
