-- Serves the law `one_outcome`, and `first_bad` and `ziplist` of `items`: what bytes are, by what
-- they were read as.
use Rattle.std.proofs.Common.{◌≡◌, ◌≢◌, ◌⊎◌, ℕ, ◌+◌, ◌≤◌, List, [], ◌∷◌, ◌++◌, length, map, Option}
use Rattle.std.proofs.Common.{Some, None, unwrap_or, refl, sym, ◌∙◌, inl, inr, arith}
use Rattle.zip_lists.specs.Entry.{content_bytes, told, Entry, item_of}
use Rattle.zip_lists.specs.Ziplist.{header_size, end_mark, total_of, last_of, count_of}
use Rattle.zip_lists.specs.Ziplist.{place_behind, last_start, IsCount, Stands, IsZiplist}
use Rattle.zip_lists.specs.BadPlace.{IsBegun, IsBad, IsFirstBad}
use Rattle.zip_lists.specs.inner.Walking.{wrong_among}
use Rattle.zip_lists.proofs.Readings.{NoEntry, end_previous, end-no_entry}
use Rattle.zip_lists.proofs.Wrongs.{none-tell}
use Rattle.zip_lists.proofs.Candidates.{Kind, kind, stands-length, wrong-bad, wrong-near, wrong-far}

-- The header is whole, and its total that of all bytes; behind it stand these entries, and then the
-- end mark.
pub record Closed (bytes : List ℕ) (entries : List Entry) (after : List ℕ) : Type 0 where
  pub total : total_of bytes ≡ length bytes
  pub stands : Stands bytes entries (end_mark ∷ after)

pub closed-kind : (bytes : List ℕ) (entries : List Entry) (after : List ℕ) (place : ℕ) →
    Closed bytes entries after → IsBad bytes place → Kind bytes entries (end_mark ∷ after) place
closed-kind bytes entries after place closed is =
    kind bytes entries (end_mark ∷ after) closed.stands (end-no_entry after) place is

pub begun_end : (after : List ℕ) → ¬ IsBegun (end_mark ∷ after)
begun_end after begun = end_previous begun.entry.previous (after ++ begun.more)
    (content_bytes begun.entry.content) begun.is_entry.previous (sym begun.whole)

-- the offset of the last entry is wrong, and nothing before it
pub closed-last : (bytes : List ℕ) (entries : List Entry) (after : List ℕ) →
    Closed bytes entries after → last_of bytes ≢ last_start entries → IsFirstBad bytes 4
closed-last bytes entries after closed other = record {
  bad = IsBad.Last record {
    entries = entries;
    after = after;
    ends = closed.stands;
    other = other;
    place_is = refl;
  };
  least = λ place is. least place (closed-kind bytes entries after place closed is);
} where
  least : (place : ℕ) → Kind bytes entries (end_mark ∷ after) place → 4 ≤ place
  least place (Kind.Total wrong) = absurd (wrong closed.total)
  least place (Kind.Last _ _ _ at) = omega arith
  least place (Kind.Count _ _ _ at) = omega arith
  least place (Kind.Inside near found before) = omega (arith, wrong-far entries near found)
  least place (Kind.AtTail _ _ _ _ _ at) = omega arith
  least place (Kind.Encoding _ _ _ _ _ _ at) = omega arith
  least place (Kind.Trailing _ _ _ _ at) = omega arith
  least place (Kind.Missing _ at) = omega (arith, closed.stands.header)

-- the number of entries is wrong, and nothing before it
pub closed-count : (bytes : List ℕ) (entries : List Entry) (after : List ℕ) →
    Closed bytes entries after → last_of bytes ≡ last_start entries →
    ¬ IsCount (count_of bytes) (length entries) →
    IsFirstBad bytes 8
closed-count bytes entries after closed last other = record {
  bad = IsBad.Count record {
    entries = entries;
    after = after;
    ends = closed.stands;
    other = other;
    place_is = refl;
  };
  least = λ place is. least place (closed-kind bytes entries after place closed is);
} where
  least : (place : ℕ) → Kind bytes entries (end_mark ∷ after) place → 8 ≤ place
  least place (Kind.Total wrong) = absurd (wrong closed.total)
  least place (Kind.Last _ _ wrong _) = absurd (wrong last)
  least place (Kind.Count _ _ _ at) = omega arith
  least place (Kind.Inside near found before) = omega (arith, wrong-far entries near found)
  least place (Kind.AtTail _ _ _ _ _ at) = omega arith
  least place (Kind.Encoding _ _ _ _ _ _ at) = omega arith
  least place (Kind.Trailing _ _ _ _ at) = omega arith
  least place (Kind.Missing _ at) = omega (arith, closed.stands.header)

-- the header is right
pub record Counted (bytes : List ℕ) (entries : List Entry) : Type 0 where
  pub last : last_of bytes ≡ last_start entries
  pub count : IsCount (count_of bytes) (length entries)

-- an entry tells another length, and nothing before it is wrong
pub closed-wrong : (bytes : List ℕ) (entries : List Entry) (after : List ℕ) (first : ℕ) →
    Closed bytes entries after → Counted bytes entries →
    wrong_among 0 header_size entries ≡ Some first →
    IsFirstBad bytes first
closed-wrong bytes entries after first closed counted found = record {
  bad = wrong-bad bytes entries (end_mark ∷ after) first closed.stands found;
  least = λ place is. least place (closed-kind bytes entries after place closed is);
} where
  near : first ≤ place_behind entries
  near = wrong-near entries first found

  least : (place : ℕ) → Kind bytes entries (end_mark ∷ after) place → first ≤ place
  least place (Kind.Total wrong) = absurd (wrong closed.total)
  least place (Kind.Last _ _ wrong _) = absurd (wrong counted.last)
  least place (Kind.Count _ _ wrong _) = absurd (wrong counted.count)
  least place (Kind.Inside other found' before) =
      let both : Some first ≡ Some other = sym found ∙ found' in
      let same : first ≡ other = cc in
      omega arith
  least place (Kind.AtTail _ _ _ _ _ at) = omega (arith, near)
  least place (Kind.Encoding _ _ _ _ _ _ at) = omega (arith, near)
  least place (Kind.Trailing _ _ _ _ at) = omega (arith, near)
  least place (Kind.Missing _ at) = omega (
    arith,
    near,
    stands-length bytes entries
        (end_mark ∷ after) closed.stands,
  )

-- all is right up to the end mark
pub record Told (bytes : List ℕ) (entries : List Entry) : Type 0 where
  pub counted : Counted bytes entries
  pub none : wrong_among 0 header_size entries ≡ None

some_none : {a : ℕ} → Some a ≡ None → ⊥
some_none e = cc

-- which places can be bad then: none but those behind the end mark
pub closed-behind : (bytes : List ℕ) (entries : List Entry) (after : List ℕ) (place : ℕ) →
    Closed bytes entries after → Told bytes entries → IsBad bytes place →
    (before : List ℕ) × (byte : ℕ) × (more : List ℕ) × (after ≡ before ++ byte ∷ more)
    × (place ≡ place_behind entries + 1 + length before)
closed-behind bytes entries after place closed told is =
    behind (closed-kind bytes entries after place closed is) where
      behind : Kind bytes entries (end_mark ∷ after) place → (before : List ℕ) × (byte : ℕ)
          × (more : List ℕ) × (after ≡ before ++ byte ∷ more)
          × (place ≡ place_behind entries + 1 + length before)
      behind (Kind.Total wrong) = absurd (wrong closed.total)
      behind (Kind.Last _ _ wrong _) = absurd (wrong told.counted.last)
      behind (Kind.Count _ _ wrong _) = absurd (wrong told.counted.count)
      behind (Kind.Inside near found _) = absurd (some_none (sym found ∙ told.none))
      behind (Kind.AtTail p more is tail _ _) = absurd (end_previous p after more is tail)
      behind (Kind.Encoding p mark more is _ tail _) =
          absurd (end_previous p after (mark ∷ more) is tail)
      behind (Kind.Trailing before byte more tail at) = (before, byte, more, cc, at)
      behind (Kind.Missing begun _) = absurd (begun_end after begun)

-- a byte follows the end mark, and nothing before it is wrong
pub closed-after : (bytes : List ℕ) (entries : List Entry) (byte : ℕ) (more : List ℕ) →
    Closed bytes entries (byte ∷ more) → Told bytes entries →
    IsFirstBad bytes (place_behind entries + 1)
closed-after bytes entries byte more closed told = record {
  bad = IsBad.Trailing record {
    entries = entries;
    before = [];
    byte = byte;
    more = more;
    ends =
        closed.stands;
    place_is = omega arith;
  };
  least = λ place is.
      let w = closed-behind bytes entries (byte ∷ more) place closed told is in
      omega (arith, w.4);
}

-- nothing is wrong
pub closed-ziplist : (bytes : List ℕ) (entries : List Entry) → Closed bytes entries [] →
    Told bytes entries → IsZiplist bytes (map item_of entries)
closed-ziplist bytes entries closed told = record {
  entries = entries;
  whole = closed.stands;
  total = closed.total;
  last = told.counted.last;
  count = told.counted.count;
  tell = none-tell 0 header_size entries told.none;
  items_are = refl;
}

-- The entries do not end: with what they and what follows them tell wrong, and this place behind
-- that.
pub record Breaks (bytes : List ℕ) (entries : List Entry) (tail : List ℕ) (wrong : Option ℕ)
    (end : ℕ) : Type 0 where
  pub total : total_of bytes ≡ length bytes
  pub stands : Stands bytes entries tail
  pub none : NoEntry tail
  pub bad : IsBad bytes end
  pub wrong_bad : (place : ℕ) → wrong ≡ Some place → IsBad bytes place × (place ≤ end)
  pub least : (place : ℕ) → Kind bytes entries tail place → total_of bytes ≡ length bytes →
      (end ≤ place) ⊎ ((near : ℕ) × (wrong ≡ Some near) × (near ≤ place))

pub breaks-first : (bytes : List ℕ) (entries : List Entry) (tail : List ℕ) (wrong : Option ℕ)
    (end : ℕ) → Breaks bytes entries tail wrong end → IsFirstBad bytes (unwrap_or wrong end)
breaks-first bytes entries tail None end breaks = record {
  bad = breaks.bad;
  least = λ place is. elim (breaks.least place
      (kind bytes entries tail breaks.stands breaks.none place is) breaks.total)
      [ inl near ↦ near | inr w ↦ absurd (some_none (sym w.1)) ];
}
breaks-first bytes entries tail (Some first) end breaks =
    let at = breaks.wrong_bad first refl in
    record {
      bad = at.0;
      least = λ place is. elim (breaks.least place
          (kind bytes entries tail breaks.stands breaks.none place is) breaks.total) [
            | inl near ↦ omega (arith, at.1)
            | inr w ↦ let same : first ≡ w.0 = cc (w.1) in omega (arith, w.2)
          ];
    }
