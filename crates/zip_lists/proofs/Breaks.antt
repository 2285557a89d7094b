-- Serves the law `one_outcome` and `first_bad` of `items`: what is bad where the entries do not
-- end.
use Rattle.std.proofs.Common.{◌≡◌, ◌≢◌, ◌⊎◌, ℕ, ◌+◌, ◌≤◌, List, [], ◌∷◌, ◌++◌, length, Option, Some}
use Rattle.std.proofs.Common.{None, refl, sym, ap, subst, ◌∙◌, inl, inr, arith}
use Rattle.std.proofs.lemmas.Bool.Decides.{nat_tests}
use Rattle.std.proofs.lemmas.List.{length-append, append_assoc, append-nil}
use Rattle.zip_lists.specs.Entry.{Previous, IsPrevious, previous_bytes, Content, content_bytes}
use Rattle.zip_lists.specs.Entry.{told, Entry}
use Rattle.zip_lists.specs.Ziplist.{header_size, end_mark, total_of, place_behind, last_size}
use Rattle.zip_lists.specs.Ziplist.{Stands}
use Rattle.zip_lists.specs.BadPlace.{IsBegun, IsUnknown, IsBad}
use Rattle.zip_lists.specs.inner.Walking.{wrong_among, or_here}
use Rattle.zip_lists.specs.inner.Fronts.{IsBegunLength, IsBegunItem}
use Rattle.zip_lists.proofs.Parts.{same_previous}
use Rattle.zip_lists.proofs.Readings.{NoEntry, end_previous, begun-no_entry, unknown-no_entry}
use Rattle.zip_lists.proofs.Candidates.{Kind, stands-length, wrong-bad, wrong-near}
use Rattle.zip_lists.proofs.Outcomes.{Breaks, begun_end}

-- what a bad place is, where the entries do not end
abbrev IsLeast : (wrong : Option ℕ) (end place : ℕ) → Type 0
IsLeast wrong end place = (end ≤ place) ⊎ ((near : ℕ) × (wrong ≡ Some near) × (near ≤ place))

-- a part of a length makes a part of an entry
pub begun_length : (rest : List ℕ) → IsBegunLength rest → IsBegun rest
begun_length rest begun = record {
  entry = record { previous = begun.previous; content = Content.Small 0 };
  more = begun.more ++ content_bytes (Content.Small 0);
  is_entry = record { previous = begun.is_previous; content = omega arith };
  missing = omega (
    arith,
    begun.missing,
    length-append begun.more
        (content_bytes (Content.Small 0)),
  );
  whole = ap (λ (t : List ℕ). t ++ content_bytes (Content.Small 0)) begun.whole
      ∙ append_assoc rest begun.more (content_bytes (Content.Small 0));
}

-- and so does a part of an item behind a length
pub begun_item : (p : Previous) (rest : List ℕ) → IsPrevious p → IsBegunItem rest →
    IsBegun (previous_bytes p ++ rest)
begun_item p rest is begun = record {
  entry = record { previous = p; content = begun.content };
  more = begun.more;
  is_entry = record { previous = is; content = begun.is_content };
  missing = begun.missing;
  whole = ap (λ (t : List ℕ). previous_bytes p ++ t) begun.whole
      ∙ sym (append_assoc (previous_bytes p) rest begun.more);
}

-- a part of a length is none
no_length : (rest : List ℕ) (p : Previous) (more : List ℕ) → IsBegunLength rest → IsPrevious p →
    rest ≢ previous_bytes p ++ more
no_length rest p more begun is e =
    let whole : previous_bytes begun.previous ++ [] ≡ previous_bytes p ++ (more ++ begun.more) =
    append-nil (previous_bytes begun.previous) ∙ begun.whole
    ∙ ap (λ (t : List ℕ). t ++ begun.more) e
    ∙ append_assoc (previous_bytes p) more begun.more in
    let same = same_previous begun.previous p [] (more ++ begun.more) begun.is_previous is whole in
    omega (
      arith,
      begun.missing,
      length-append more begun.more,
      ap (λ (t : List ℕ). length t) same.rest,
    )

-- The entries, and what is told wrong among them.
pub record Torn (bytes : List ℕ) (entries : List Entry) (tail : List ℕ) : Type 0 where
  pub total : total_of bytes ≡ length bytes
  pub stands : Stands bytes entries tail

wrong_near_end : (bytes : List ℕ) (entries : List Entry) (tail : List ℕ) (place : ℕ) →
    Torn bytes entries tail → wrong_among 0 header_size entries ≡ Some place → place ≤ length bytes
wrong_near_end bytes entries tail place torn found =
    omega (arith, wrong-near entries place found, stands-length bytes entries tail torn.stands)

missing : (bytes : List ℕ) (entries : List Entry) (tail : List ℕ) → Torn bytes entries tail →
    IsBegun tail → IsBad bytes (length bytes)
missing bytes entries tail torn begun = IsBad.Missing record {
  short = inr record { entries = entries; rest = tail; begun = begun; stands = torn.stands };
  place_is = refl;
}

-- only a part of a length stands behind the entries
module _ (bytes : List ℕ) (entries : List Entry) (tail : List ℕ) (torn : Torn bytes entries tail)
    (begun : IsBegunLength tail) where
  length_least : (place : ℕ) → Kind bytes entries tail place →
      IsLeast (wrong_among 0 header_size entries) (length bytes) place
  length_least place (Kind.Total wrong) = absurd (wrong torn.total)
  length_least place (Kind.Last after is _ _) =
      absurd (begun_end after (subst IsBegun is (begun_length tail begun)))
  length_least place (Kind.Count after is _ _) =
      absurd (begun_end after (subst IsBegun is (begun_length tail begun)))
  length_least place (Kind.Inside near found before) = inr (near, found, before)
  length_least place (Kind.AtTail p more is at _ _) = absurd (no_length tail p more begun is at)
  length_least place (Kind.Encoding p mark more is _ at _) =
      absurd (no_length tail p (mark ∷ more) begun is at)
  length_least place (Kind.Trailing before byte more is _) =
      absurd (begun_end (before ++ byte ∷ more) (subst IsBegun is (begun_length tail begun)))
  length_least place (Kind.Missing _ at) = inl (omega arith)

  pub breaks_length : Breaks bytes entries tail (wrong_among 0 header_size entries) (length bytes)
  breaks_length = record {
    total = torn.total;
    stands = torn.stands;
    none = begun-no_entry tail (begun_length tail begun);
    bad = missing bytes entries tail torn (begun_length tail begun);
    wrong_bad = λ place found. (
      wrong-bad bytes entries tail place torn.stands found,
      wrong_near_end bytes entries tail place torn found,
    );
    least = λ place k total. length_least place k;
  }

-- what is told wrong, with one entry more
or_here-some : (wrong : Option ℕ) (before here t near : ℕ) → wrong ≡ Some near →
    or_here wrong before here t ≡ Some near
or_here-some wrong before here t near found = ap (λ (w : Option ℕ). or_here w before here t) found

or_here-cases : (wrong : Option ℕ) (before here t place : ℕ) →
    or_here wrong before here t ≡ Some place →
    (wrong ≡ Some place) ⊎ ((t ≢ before) × (place ≡ here))
or_here-cases (Some at) before here t place e = inl e
or_here-cases None before here t place e = inr (grind (arith, nat_tests), grind (arith, nat_tests))

or_here-other : (wrong : Option ℕ) (before here t : ℕ) → t ≢ before → (wrong ≡ None) →
    or_here wrong before here t ≡ Some here
or_here-other (Some at) before here t other e = cc
or_here-other None before here t other e = grind (arith, nat_tests)

-- something is told wrong, no further on than the next entry
or_here-near : (entries : List Entry) (t : ℕ) → t ≢ last_size 0 entries →
    (near : ℕ) × (or_here (wrong_among 0 header_size entries) (last_size 0 entries)
    (place_behind entries) t ≡ Some near) × (near ≤ place_behind entries)
or_here-near entries t other = at_wrong (wrong_among 0 header_size entries) refl where
  at_wrong : (wrong : Option ℕ) → wrong_among 0 header_size entries ≡ wrong →
      (near : ℕ) × (or_here (wrong_among 0 header_size entries) (last_size 0 entries)
      (place_behind entries) t ≡ Some near) × (near ≤ place_behind entries)
  at_wrong None is = (
    place_behind entries,
    or_here-other (wrong_among 0 header_size entries)
        (last_size 0 entries) (place_behind entries) t other is,
    omega arith,
  )
  at_wrong (Some near) is = (
    near,
    or_here-some (wrong_among 0 header_size entries)
        (last_size 0 entries) (place_behind entries) t near is,
    wrong-near entries near is,
  )

-- a length is told behind the entries, and what follows it is no item
module _ (bytes : List ℕ) (entries : List Entry) (p : Previous) (rest : List ℕ)
    (is_p : IsPrevious p) (torn : Torn bytes entries (previous_bytes p ++ rest)) where
  abbrev wrong : Option ℕ
  wrong = or_here (wrong_among 0 header_size entries) (last_size 0 entries) (place_behind entries)
      (told p)

  told_bad : (place : ℕ) → wrong ≡ Some place → IsBad bytes place × (place ≤ place_behind entries)
  told_bad place found = elim (or_here-cases (wrong_among 0 header_size entries)
      (last_size 0 entries) (place_behind entries) (told p) place found) [
        | inl among ↦ (
          wrong-bad bytes entries (previous_bytes p ++ rest) place torn.stands among,
          wrong-near entries place among,
        )
        | inr here ↦ (
          IsBad.Told record {
            entries = entries;
            previous = p;
            more = rest;
            is_previous =
                is_p;
            stands = torn.stands;
            other = here.0;
            place_is = here.1;
          },
          omega (arith, here.1),
        )
      ]

  no_end : (after : List ℕ) → previous_bytes p ++ rest ≢ end_mark ∷ after
  no_end after e = end_previous p after rest is_p (sym e)

  told_least : (place : ℕ) (q : Previous) (more : List ℕ) → IsPrevious q →
      previous_bytes p ++ rest ≡ previous_bytes q ++ more → told q ≢ last_size 0 entries →
      place ≡ place_behind entries →
      (near : ℕ) × (wrong ≡ Some near) × (near ≤ place)
  told_least place q more is_q at other here =
      let same = same_previous p q rest more is_p is_q at in
      let near = or_here-near entries (told p) (λ h. other (sym (ap told same.part) ∙ h)) in
      (near.0, near.1, omega (arith, near.2))

  -- a part of an item
  module _ (begun : IsBegunItem rest) where
    item_least : (place : ℕ) → Kind bytes entries (previous_bytes p ++ rest) place →
        IsLeast wrong (length bytes) place
    item_least place (Kind.Total other) = absurd (other torn.total)
    item_least place (Kind.Last after is _ _) = absurd (no_end after is)
    item_least place (Kind.Count after is _ _) = absurd (no_end after is)
    item_least place (Kind.Inside near found before) =
        inr (
          near,
          or_here-some (wrong_among 0 header_size entries) (last_size 0 entries)
              (place_behind entries) (told p) near found,
          before,
        )
    item_least place (Kind.AtTail q more is at other here) =
        inr (told_least place q more is at other here)
    item_least place (Kind.Encoding q mark more is unknown at _) =
        let same = same_previous p q rest (mark ∷ more) is_p is at in
        absurd (unknown begun.content (more ++ begun.more) begun.is_content (begun.whole
        ∙ ap (λ (t : List ℕ). t ++ begun.more) same.rest))
    item_least place (Kind.Trailing before byte more is _) =
        absurd (no_end (before ++ byte ∷ more) is)
    item_least place (Kind.Missing _ at) = inl (omega arith)

    pub breaks_item : Breaks bytes entries (previous_bytes p ++ rest) wrong (length bytes)
    breaks_item = record {
      total = torn.total;
      stands = torn.stands;
      none = begun-no_entry (previous_bytes p ++ rest) (begun_item p rest is_p begun);
      bad = missing bytes entries (previous_bytes p ++ rest) torn (begun_item p rest is_p begun);
      wrong_bad = λ place found.
          let at = told_bad place found in (
            at.0,
            omega (
              arith,
              at.1,
              stands-length bytes entries
                  (previous_bytes p ++ rest) torn.stands,
            ),
          );
      least = λ place k total. item_least place k;
    }

  -- an encoding byte that no item has
  module _ (mark : ℕ) (more : List ℕ) (unknown : IsUnknown mark) (first : rest ≡ mark ∷ more) where
    abbrev here : ℕ
    here = place_behind entries + length (previous_bytes p)

    short : here ≤ length bytes
    short = omega (
      arith,
      stands-length bytes entries
          (previous_bytes p ++ rest) torn.stands,
      length-append (previous_bytes p) rest,
    )

    mark_least : (place : ℕ) → Kind bytes entries (previous_bytes p ++ rest) place →
        IsLeast wrong here place
    mark_least place (Kind.Total other) = absurd (other torn.total)
    mark_least place (Kind.Last after is _ _) = absurd (no_end after is)
    mark_least place (Kind.Count after is _ _) = absurd (no_end after is)
    mark_least place (Kind.Inside near found before) =
        inr (
          near,
          or_here-some (wrong_among 0 header_size entries) (last_size 0 entries)
              (place_behind entries) (told p) near found,
          before,
        )
    mark_least place (Kind.AtTail q behind is at other there) =
        inr (told_least place q behind is at other there)
    mark_least place (Kind.Encoding q byte behind is _ at there) =
        let same = same_previous p q rest (byte ∷ behind) is_p is at in
        let sizes : length (previous_bytes p) ≡ length (previous_bytes q) =
        ap (λ (t : Previous). length (previous_bytes t)) same.part in
        inl (omega arith)
    mark_least place (Kind.Trailing before byte behind is _) =
        absurd (no_end (before ++ byte ∷ behind) is)
    mark_least place (Kind.Missing _ at) = inl (omega (arith, short))

    pub breaks_mark : Breaks bytes entries (previous_bytes p ++ rest) wrong here
    breaks_mark = record {
      total = torn.total;
      stands = torn.stands;
      none = subst (λ (t : List ℕ). NoEntry (previous_bytes p ++ t)) (sym first)
          (unknown-no_entry p mark more is_p unknown);
      bad = IsBad.Encoding record {
        entries = entries;
        previous = p;
        mark = mark;
        more = more;
        is_previous = is_p;
        unknown = unknown;
        stands = subst (λ (t : List ℕ). Stands bytes entries (previous_bytes p ++ t)) first
            torn.stands;
        place_is = refl;
      };
      wrong_bad = λ place found.
          let at = told_bad place found in
          (at.0, omega (arith, at.1));
      least = λ place k total. mark_least place k;
    }
