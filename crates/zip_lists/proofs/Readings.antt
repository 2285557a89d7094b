-- Serves the law `one_outcome`: bytes have one reading as entries, up to where no entry stands.
use Rattle.std.proofs.Common.{◌≡◌, ◌≢◌, ℕ, List, [], ◌∷◌, ◌++◌, length, refl, sym, ap, ◌∙◌, arith}
use Rattle.std.specs.List.{AllByRecursion}
use Rattle.std.proofs.lemmas.List.{length-append, append_assoc, append-nil}
use Rattle.zip_lists.specs.Entry.{Previous, IsPrevious, previous_bytes, content_bytes, Entry}
use Rattle.zip_lists.specs.Entry.{IsEntry, entry_bytes}
use Rattle.zip_lists.specs.Entry.Previous.{Byte, Four}
use Rattle.zip_lists.specs.Ziplist.{end_mark, entries_bytes, Stands}
use Rattle.zip_lists.specs.BadPlace.{IsBegun, IsUnknown}
use Rattle.zip_lists.proofs.Parts.{same_previous, same_entry, mark_of, behind_mark, content-marked}

-- no whole entry begins these bytes
pub record NoEntry (tail : List ℕ) : Type 0 where
  pub none : (entry : Entry) (more : List ℕ) → IsEntry entry → tail ≢ entry_bytes entry ++ more

end_no_previous : (p : Previous) (after more : List ℕ) → IsPrevious p →
    end_mark ∷ after ≢ previous_bytes p ++ more
end_no_previous (Byte n) after more is e = let h : 255 ≡ n = cc in omega arith
end_no_previous (Four ds) after more is e = let h : ◌≡◌ {A = ℕ} 255 254 = cc in omega arith

pub end_previous : (p : Previous) (after more : List ℕ) → IsPrevious p →
    end_mark ∷ after ≢ previous_bytes p ++ more
end_previous p after more is e = end_no_previous p after more is e

pub end-no_entry : (after : List ℕ) → NoEntry (end_mark ∷ after)
end-no_entry after = record {
  none = λ entry more is e. end_no_previous entry.previous after
      (content_bytes entry.content ++ more) is.previous (e
      ∙ append_assoc (previous_bytes entry.previous) (content_bytes entry.content) more);
}

pub begun-no_entry : (rest : List ℕ) → IsBegun rest → NoEntry rest
begun-no_entry rest begun = record {
  none = λ entry more is e.
      let whole : entry_bytes begun.entry ++ [] ≡ entry_bytes entry ++ (more ++ begun.more) =
      append-nil (entry_bytes begun.entry) ∙ begun.whole ∙ ap (λ (t : List ℕ). t ++ begun.more) e
      ∙ append_assoc (entry_bytes entry) more begun.more in
      let same = same_entry begun.entry entry [] (more ++ begun.more) begun.is_entry is whole in
      omega (
        arith,
        begun.missing,
        length-append more begun.more,
        ap (λ (t : List ℕ). length t) same.rest,
      );
}

pub unknown-no_entry : (p : Previous) (mark : ℕ) (rest : List ℕ) → IsPrevious p → IsUnknown mark →
    NoEntry (previous_bytes p ++ mark ∷ rest)
unknown-no_entry p mark rest is_p unknown = record {
  none = λ entry more is e.
      let whole = e ∙ append_assoc (previous_bytes entry.previous)
      (content_bytes entry.content) more in
      let same = same_previous p entry.previous (mark ∷ rest)
      (content_bytes entry.content ++ more) is_p is.previous whole in
      let marked = same.rest ∙ ap (λ (t : List ℕ). t ++ more) (content-marked entry.content) in
      let marks : mark ≡ mark_of entry.content = cc in
      unknown entry.content (behind_mark entry.content) is.content (content-marked entry.content
      ∙ ap (λ (m : ℕ). m ∷ behind_mark entry.content) (sym marks));
}

-- one reading goes on with more entries where the other has its rest
pub record GoesOn (entries front : List Entry) (tail rest : List ℕ) : Type 0 where
  pub more : List Entry
  pub entries_are : entries ≡ front ++ more
  pub each : AllByRecursion IsEntry more
  pub bytes : rest ≡ entries_bytes more ++ tail

goes_on : (es fs : List Entry) (tail rest : List ℕ) → AllByRecursion IsEntry es →
    AllByRecursion IsEntry fs → NoEntry tail →
    entries_bytes es ++ tail ≡ entries_bytes fs ++ rest → GoesOn es fs tail rest
goes_on es [] tail rest all all' none e = record {
  more = es;
  entries_are = refl;
  each = all;
  bytes = sym e;
}
goes_on [] (f ∷ fs) tail rest all all' none e =
    absurd (none.none f (entries_bytes fs ++ rest) all'.0 (e
    ∙ append_assoc (entry_bytes f) (entries_bytes fs) rest))
goes_on (g ∷ es) (f ∷ fs) tail rest all all' none e =
    let turned : entry_bytes g ++ (entries_bytes es ++ tail) ≡ entry_bytes f ++
    (entries_bytes fs ++ rest) =
    sym (append_assoc (entry_bytes g) (entries_bytes es) tail) ∙ e
    ∙ append_assoc (entry_bytes f) (entries_bytes fs) rest in
    let same = same_entry g f (entries_bytes es ++ tail)
    (entries_bytes fs ++ rest) all.0 all'.0 turned in
    let later = goes_on es fs tail rest all.1 all'.1 none same.rest in
    record {
      more = later.more;
      entries_are = λ i. same.part i ∷ later.entries_are i;
      each =
          later.each;
      bytes = later.bytes;
    }

pub stands-goes_on : (bytes : List ℕ) (es fs : List Entry) (tail rest : List ℕ) →
    Stands bytes es tail → NoEntry tail → Stands bytes fs rest → GoesOn es fs tail rest
stands-goes_on bytes es fs tail rest stands none other =
    goes_on es fs tail rest stands.each other.each none (sym stands.body ∙ other.body)

-- two readings up to where no entry stands are one
pub record SameEnd (entries others : List Entry) (tail rest : List ℕ) : Type 0 where
  pub entries_are : entries ≡ others
  pub tail_is : tail ≡ rest

ends_there : (es fs : List Entry) (tail rest : List ℕ) → NoEntry rest → GoesOn es fs tail rest →
    SameEnd es fs tail rest
ends_there es fs tail rest none on = at_more on.more on.entries_are on.each on.bytes where
  at_more : (more : List Entry) → es ≡ fs ++ more → AllByRecursion IsEntry more →
      rest ≡ entries_bytes more ++ tail → SameEnd es fs tail rest
  at_more [] e all b = record { entries_are = e ∙ append-nil fs; tail_is = sym b }
  at_more (m ∷ more) e all b = absurd (none.none m (entries_bytes more ++ tail) all.0 (b
      ∙ append_assoc (entry_bytes m) (entries_bytes more) tail))

pub same_end : (bytes : List ℕ) (es fs : List Entry) (tail rest : List ℕ) → Stands bytes es tail →
    NoEntry tail → Stands bytes fs rest → NoEntry rest → SameEnd es fs tail rest
same_end bytes es fs tail rest stands none other last =
    ends_there es fs tail rest last (stands-goes_on bytes es fs tail rest stands none other)
