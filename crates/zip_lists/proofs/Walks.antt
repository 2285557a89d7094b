-- Serves the calls of `Walk`: what is kept of the entries that were read, and what is answered.
use Rattle.std.proofs.Common.{◌≡◌, ℕ, ◌+◌, ◌-◌, ◌<◌, ◌≤◌, List, [], ◌∷◌, ◌++◌, length, take, drop}
use Rattle.std.proofs.Common.{map, Option, Some, None, unwrap_or, IfSome, is_some, false, refl, sym}
use Rattle.std.proofs.Common.{ap, subst, ◌∙◌, arith}
use Rattle.std.specs.List.{AllByRecursion}
use Rattle.std.proofs.lemmas.List.{length-append, length-drop, length-map, length_push}
use Rattle.std.proofs.lemmas.List.{append_assoc, append-nil, drop-drop, take_at, map_push, drop_all}
use Rattle.std.proofs.lemmas.List.Concat.{flat_map-append}
use Rattle.zip_lists.specs.Entry.{Previous, previous_bytes, told, content_bytes, Entry, IsEntry}
use Rattle.zip_lists.specs.Entry.{entry_bytes, item_of}
use Rattle.zip_lists.specs.Ziplist.{header_size, end_mark, total_of, last_of, count_of}
use Rattle.zip_lists.specs.Ziplist.{entries_bytes, place_behind, last_start, last_size, IsCount}
use Rattle.zip_lists.specs.Ziplist.{Stands, IsZiplist}
use Rattle.zip_lists.specs.BadPlace.{IsFirstBad}
use Rattle.zip_lists.specs.inner.Fronts.{TellsFirst, IsBegunLength, HoldsFirst, IsBegunItem}
use Rattle.zip_lists.specs.inner.Fronts.{IsUnknownFront}
use Rattle.zip_lists.specs.inner.Walking.{wrong_among, or_here, pushed, HasWalked}
use Rattle.zip_lists.specs.declared.walk.Walk.{Walk}
use Rattle.zip_lists.proofs.Candidates.{stands-length}
use Rattle.zip_lists.proofs.Wrongs.{wrong_among-push, last_size-push}
use Rattle.zip_lists.proofs.Outcomes.{Closed, Counted, Told, closed-count, closed-wrong}
use Rattle.zip_lists.proofs.Outcomes.{closed-after, closed-ziplist, breaks-first}
use Rattle.zip_lists.proofs.Breaks.{Torn, breaks_length, breaks_item, breaks_mark}

-- no entry was read yet
pub walked-new : (bytes : List ℕ) (walk : Walk) → header_size ≤ length bytes → walk.place ≡ 10 →
    walk.last ≡ 10 → walk.before ≡ 0 → walk.wrong ≡ None → walk.items ≡ [] → HasWalked bytes walk
walked-new bytes walk header place last before wrong items = record {
  entries = [];
  stands = record { header = header; each = tt; body = ap (λ (k : ℕ). drop k bytes) (sym place) };
  keeps = record { place = place; last = last; before = before; wrong = wrong; items = items };
}

-- where the entries end
pub torn : (bytes : List ℕ) (walk : Walk) (w : HasWalked bytes walk) →
    total_of bytes ≡ length bytes → Torn bytes w.entries (drop walk.place bytes)
torn bytes walk w total = record { total = total; stands = w.stands }

pub length_open : (bytes : List ℕ) (walk : Walk) → HasWalked bytes walk →
    total_of bytes ≡ length bytes → IsBegunLength (drop walk.place bytes) →
    IsFirstBad bytes (unwrap_or walk.wrong (length bytes))
length_open bytes walk w total begun =
    subst (λ (o : Option ℕ). IsFirstBad bytes (unwrap_or o (length bytes))) (sym w.keeps.wrong)
    (breaks-first bytes w.entries (drop walk.place bytes) (wrong_among 0 header_size w.entries)
    (length bytes) (breaks_length bytes w.entries (drop walk.place bytes)
    (torn bytes walk w total) begun))

-- what is told wrong with the next entry, said of the entries
wrong_is : (bytes : List ℕ) (walk : Walk) (length_told size : ℕ) (w : HasWalked bytes walk)
    (t : TellsFirst (drop walk.place bytes) length_told size) →
    or_here walk.wrong walk.before walk.place length_told ≡ or_here
    (wrong_among 0 header_size w.entries) (last_size 0 w.entries) (place_behind w.entries)
    (told t.previous)
wrong_is bytes walk length_told size w t =
    let k = w.keeps in
    λ i. or_here (k.wrong i) (k.before i) (k.place i) (t.told_is i)

-- behind the length that the next entry tells
behind_told : (bytes : List ℕ) (walk : Walk) (length_told size : ℕ)
    (t : TellsFirst (drop walk.place bytes) length_told size) →
    drop walk.place bytes ≡ previous_bytes t.previous ++ drop (walk.place + size) bytes
behind_told bytes walk length_told size t = t.whole
    ∙ ap (λ (l : List ℕ). previous_bytes t.previous ++ l) (drop-drop size walk.place bytes)

torn_behind : (bytes : List ℕ) (walk : Walk) (length_told size : ℕ) (w : HasWalked bytes walk)
    (t : TellsFirst (drop walk.place bytes) length_told size) → total_of bytes ≡ length bytes →
    Torn bytes w.entries (previous_bytes t.previous ++ drop (walk.place + size) bytes)
torn_behind bytes walk length_told size w t total = record {
  total = total;
  stands = subst (λ (l : List ℕ). Stands bytes w.entries l)
      (behind_told bytes walk length_told size t) w.stands;
}

pub item_open : (bytes : List ℕ) (walk : Walk) (length_told size : ℕ) → HasWalked bytes walk →
    total_of bytes ≡ length bytes → TellsFirst (drop walk.place bytes) length_told size →
    IsBegunItem (drop (walk.place + size) bytes) →
    IsFirstBad bytes (unwrap_or (or_here walk.wrong walk.before walk.place length_told)
    (length bytes))
item_open bytes walk length_told size w total t begun =
    let rest = drop (walk.place + size) bytes in
    subst (λ (o : Option ℕ). IsFirstBad bytes (unwrap_or o (length bytes)))
    (sym (wrong_is bytes walk length_told size w t))
    (breaks-first bytes w.entries (previous_bytes t.previous ++ rest) _ (length bytes)
    (breaks_item bytes w.entries t.previous rest t.is_previous
    (torn_behind bytes walk length_told size w t total) begun))

pub item_unknown : (bytes : List ℕ) (walk : Walk) (length_told size : ℕ) → HasWalked bytes walk →
    total_of bytes ≡ length bytes → TellsFirst (drop walk.place bytes) length_told size →
    IsUnknownFront (drop (walk.place + size) bytes) →
    IsFirstBad bytes (unwrap_or (or_here walk.wrong walk.before walk.place length_told)
    (walk.place + size))
item_unknown bytes walk length_told size w total t front =
    let rest = drop (walk.place + size) bytes in
    let place : place_behind w.entries + length (previous_bytes t.previous) ≡ walk.place + size =
    omega (arith, w.keeps.place, t.size_is) in
    let first = breaks-first bytes w.entries (previous_bytes t.previous ++ rest) _ _
    (breaks_mark bytes w.entries t.previous rest t.is_previous
    (torn_behind bytes walk length_told size w t total) front.mark
    (drop 1 rest) front.unknown front.first) in
    let turned = subst (λ (o : Option ℕ). IsFirstBad bytes
    (unwrap_or o (place_behind w.entries + length (previous_bytes t.previous))))
    (sym (wrong_is bytes walk length_told size w t)) first in
    subst (λ (k : ℕ). IsFirstBad bytes (unwrap_or
    (or_here walk.wrong walk.before walk.place length_told) k)) place turned

-- one entry more
All-push : (entries : List Entry) (e : Entry) → AllByRecursion IsEntry entries → IsEntry e →
    AllByRecursion IsEntry (entries ++ e ∷ [])
All-push [] e all is = (is, tt)
All-push (x ∷ entries) e all is = (all.0, All-push entries e all.1 is)

module _ (bytes : List ℕ) (walk : Walk) (length_told size : ℕ) (item : List ℕ) (more : ℕ)
    (w : HasWalked bytes walk) (t : TellsFirst (drop walk.place bytes) length_told size)
    (h : HoldsFirst (drop (walk.place + size) bytes) item more) where
  next : Entry
  next = record { previous = t.previous; content = h.content }

  next-is : IsEntry next
  unfolding next
  next-is = record { previous = t.is_previous; content = h.is_content }

  next-length : length (entry_bytes next) ≡ size + more
  unfolding next
  next-length = omega (
    arith,
    length-append (previous_bytes t.previous)
        (content_bytes h.content),
    t.size_is,
    h.size_is,
  )

  next-told : told next.previous ≡ length_told
  unfolding next
  next-told = sym t.told_is

  next-item : item_of next ≡ item
  unfolding next
  next-item = sym h.item_is

  next-behind : drop walk.place bytes ≡ entry_bytes next ++ drop (walk.place + (size + more)) bytes
  unfolding next
  next-behind =
      let place : walk.place + size + more ≡ walk.place + (size + more) = omega arith in
      let rest = drop-drop more (walk.place + size) bytes ∙ ap (λ (k : ℕ). drop k bytes) place in
      behind_told bytes walk length_told size t
      ∙ ap (λ (l : List ℕ). previous_bytes t.previous ++ l) (h.whole
      ∙ ap (λ (l : List ℕ). content_bytes h.content ++ l) rest)
      ∙ sym (append_assoc (previous_bytes t.previous) (content_bytes h.content)
      (drop (walk.place + (size + more)) bytes))

  entries_bytes-next : entries_bytes (w.entries ++ next ∷ []) ≡ entries_bytes
      w.entries ++ entry_bytes next
  entries_bytes-next = flat_map-append entry_bytes w.entries (next ∷ [])
      ∙ ap (λ (l : List ℕ). entries_bytes w.entries ++ l) (append-nil (entry_bytes next))

  next-stands : Stands bytes (w.entries ++ next ∷ []) (drop (walk.place + (size + more)) bytes)
  next-stands = record {
    header = w.stands.header;
    each = All-push w.entries next w.stands.each next-is;
    body =
        let rest = drop (walk.place + (size + more)) bytes in
        w.stands.body ∙ ap (λ (l : List ℕ). entries_bytes w.entries ++ l) next-behind
        ∙ sym (append_assoc (entries_bytes w.entries) (entry_bytes next) rest)
        ∙ ap (λ (l : List ℕ). l ++ rest) (sym entries_bytes-next);
  }

  next-place : walk.place + (size + more) ≡ place_behind (w.entries ++ next ∷ [])
  next-place = omega (
    arith,
    w.keeps.place,
    next-length,
    ap (λ (l : List ℕ). length l) entries_bytes-next,
    length-append (entries_bytes w.entries)
        (entry_bytes next),
  )

  -- what the code needs of the places
  pub next-within : walk.place + (size + more) ≤ length bytes
  next-within = omega (
    arith,
    next-place,
    stands-length bytes (w.entries ++ next ∷ [])
        (drop (walk.place + (size + more)) bytes) next-stands,
  )

  next-last : walk.place ≡ last_start (w.entries ++ next ∷ [])
  next-last =
      let count : length (w.entries ++ next ∷ []) - 1 ≡ length w.entries =
      omega (arith, length_push w.entries next) in
      let front : take (length (w.entries ++ next ∷ []) - 1) (w.entries ++ next ∷ []) ≡ w.entries =
      ap (λ (k : ℕ). take k (w.entries ++ next ∷ [])) count
      ∙ take_at w.entries (next ∷ []) (length w.entries) refl in
      w.keeps.place ∙ ap place_behind (sym front)

  next-wrong : or_here walk.wrong walk.before walk.place length_told ≡ wrong_among 0 header_size
      (w.entries ++ next ∷ [])
  next-wrong =
      wrong_is bytes walk length_told size w t
      ∙ ap (λ (n : ℕ). or_here (wrong_among 0 header_size w.entries) (last_size 0 w.entries)
      (place_behind w.entries) n) (sym t.told_is ∙ sym next-told)
      ∙ sym (wrong_among-push 0 header_size w.entries next)

  next-items : walk.items ++ item ∷ [] ≡ map item_of (w.entries ++ next ∷ [])
  next-items = (λ i. w.keeps.items i ++ sym next-item i ∷ [])
      ∙ sym (map_push item_of w.entries next)

  pub walked-push : HasWalked bytes (pushed walk item (size + more)
      (or_here walk.wrong walk.before walk.place length_told))
  walked-push = record {
    entries = w.entries ++ next ∷ [];
    stands = next-stands;
    keeps = record {
      place = next-place;
      last = next-last;
      before = sym next-length ∙ sym (last_size-push 0 w.entries next);
      wrong = next-wrong;
      items = next-items;
    };
  }

previous-some : (p : Previous) → 0 < length (previous_bytes p)
previous-some (Previous.Byte size) = omega arith
previous-some (Previous.Four digits) = omega arith

pub told-some : (bytes : List ℕ) (length_told size : ℕ) → TellsFirst bytes length_told size →
    0 < size
told-some bytes length_told size t = omega (arith, previous-some t.previous, t.size_is)

-- an entry was kept, and the walk goes on behind it
pub walked-on : (bytes : List ℕ) (old new : Walk) (length_told size : ℕ) (item : List ℕ) (more : ℕ)
    (wrong : Option ℕ) → HasWalked bytes old → TellsFirst (drop old.place bytes) length_told size →
    HoldsFirst (drop (old.place + size) bytes) item more →
    wrong ≡ or_here old.wrong old.before old.place length_told →
    new ≡ pushed old item (size + more) wrong → HasWalked bytes new × (old.place < new.place)
walked-on bytes old new length_told size item more wrong walked tells holds first kept =
    let next = kept ∙ ap (λ (w : Option ℕ). pushed old item (size + more) w) first in
    let place : new.place ≡ old.place + (size + more) = ap (λ (w : Walk). w.place) kept in (
      subst (λ (w : Walk). HasWalked bytes w) (sym next)
          (walked-push bytes old length_told size item more walked tells holds),
      omega (arith, place, told-some (drop old.place bytes) length_told size tells),
    )

pub told-within : (bytes : List ℕ) (length_told size : ℕ) → TellsFirst bytes length_told size →
    size ≤ length bytes
told-within bytes length_told size t = omega (
  arith,
  t.size_is,
  ap (λ (l : List ℕ). length l) t.whole,
  length-append (previous_bytes t.previous) (drop size bytes),
)

pub walked-within : (bytes : List ℕ) (walk : Walk) → HasWalked bytes walk →
    walk.place ≤ length bytes
walked-within bytes walk w = omega (
  arith,
  w.keeps.place,
  stands-length bytes w.entries
      (drop walk.place bytes) w.stands,
)

-- the end mark stands where the next entry would
pub record HasEnded (bytes : List ℕ) (walk : Walk) : Type 0 where
  pub total : total_of bytes ≡ length bytes
  pub ended : drop walk.place bytes ≡ end_mark ∷ drop (walk.place + 1) bytes

pub end_there : (bytes : List ℕ) (place : ℕ) →
    drop place bytes ≡ end_mark ∷ drop 1 (drop place bytes) →
    drop place bytes ≡ end_mark ∷ drop (place + 1) bytes
end_there bytes place is = is ∙ ap (λ (l : List ℕ). end_mark ∷ l) (drop-drop 1 place bytes)

closed : (bytes : List ℕ) (walk : Walk) (w : HasWalked bytes walk) → HasEnded bytes walk →
    Closed bytes w.entries (drop (walk.place + 1) bytes)
closed bytes walk w e = record {
  total = e.total;
  stands =
      subst (λ (l : List ℕ). Stands bytes w.entries l) e.ended w.stands;
}

items-length : (bytes : List ℕ) (walk : Walk) (w : HasWalked bytes walk) →
    length walk.items ≡ length w.entries
items-length bytes walk w = ap (λ (l : List (List ℕ)). length l) w.keeps.items
    ∙ length-map w.entries item_of

-- what was compared with the number of entries that is told
pub record Compared (bytes : List ℕ) (walk : Walk) (stated count : ℕ) : Type 0 where
  pub stated_is : stated ≡ count_of bytes
  pub count_is : count ≡ length walk.items

count_there : (bytes : List ℕ) (walk : Walk) (stated count : ℕ) (w : HasWalked bytes walk) →
    Compared bytes walk stated count → IsCount stated count →
    IsCount (count_of bytes) (length w.entries)
count_there bytes walk stated count w same is =
    subst (λ (m : ℕ). IsCount m (length w.entries)) same.stated_is
    (subst (λ (n : ℕ). IsCount stated n) (same.count_is ∙ items-length bytes walk w) is)

count_back : (bytes : List ℕ) (walk : Walk) (stated count : ℕ) (w : HasWalked bytes walk) →
    Compared bytes walk stated count → IsCount (count_of bytes) (length w.entries) →
    IsCount stated count
count_back bytes walk stated count w same is =
    subst (λ (m : ℕ). IsCount m count) (sym same.stated_is)
    (subst (λ (n : ℕ). IsCount (count_of bytes) n)
    (sym (same.count_is ∙ items-length bytes walk w)) is)

pub judge_count : (bytes : List ℕ) (walk : Walk) (stated count : ℕ) → HasWalked bytes walk →
    HasEnded bytes walk → last_of bytes ≡ walk.last → Compared bytes walk stated count →
    ¬ IsCount stated count → IsFirstBad bytes 8
judge_count bytes walk stated count w e last same other =
    closed-count bytes w.entries (drop (walk.place + 1) bytes) (closed bytes walk w e) (last
    ∙ w.keeps.last) (λ is. other (count_back bytes walk stated count w same is))

-- the header is right
pub record IsCounted (bytes : List ℕ) (walk : Walk) (stated count : ℕ) : Type 0 where
  pub last : last_of bytes ≡ walk.last
  pub same : Compared bytes walk stated count
  pub is : IsCount stated count

counted : (bytes : List ℕ) (walk : Walk) (stated count : ℕ) (w : HasWalked bytes walk) →
    IsCounted bytes walk stated count → Counted bytes w.entries
counted bytes walk stated count w c = record {
  last = c.last ∙ w.keeps.last;
  count =
      count_there bytes walk stated count w c.same c.is;
}

pub judge_wrong : (bytes : List ℕ) (walk : Walk) (stated count : ℕ) → HasWalked bytes walk →
    HasEnded bytes walk → IsCounted bytes walk stated count → IfSome walk.wrong (IsFirstBad bytes)
judge_wrong bytes walk stated count w e c = at_wrong walk.wrong refl where
  at_wrong : (wrong : Option ℕ) → walk.wrong ≡ wrong → IfSome wrong (IsFirstBad bytes)
  at_wrong None is = tt
  at_wrong (Some place) is =
      closed-wrong bytes w.entries (drop (walk.place + 1) bytes) place (closed bytes walk w e)
      (counted bytes walk stated count w c) (sym w.keeps.wrong ∙ is)

none_wrong : (wrong : Option ℕ) → is_some wrong ≡ false → wrong ≡ None
none_wrong None e = refl
none_wrong (Some place) e = cc

all_told : (bytes : List ℕ) (walk : Walk) (stated count : ℕ) (w : HasWalked bytes walk) →
    IsCounted bytes walk stated count → is_some walk.wrong ≡ false → Told bytes w.entries
all_told bytes walk stated count w c none = record {
  counted = counted bytes walk stated count w c;
  none = sym w.keeps.wrong ∙ none_wrong walk.wrong none;
}

pub judge_after : (bytes : List ℕ) (walk : Walk) (stated count : ℕ) → HasWalked bytes walk →
    HasEnded bytes walk → IsCounted bytes walk stated count → is_some walk.wrong ≡ false →
    walk.place + 1 < length bytes →
    IsFirstBad bytes (walk.place + 1)
judge_after bytes walk stated count w e c none more =
    at_after (drop (walk.place + 1) bytes) (closed bytes walk w e)
    (omega (arith, length-drop (walk.place + 1) bytes)) where
      at_after : (after : List ℕ) → Closed bytes w.entries after → 0 < length after →
          IsFirstBad bytes (walk.place + 1)
      at_after [] closed some = absurd (omega arith)
      at_after (byte ∷ after) closed some =
          subst (λ (k : ℕ). IsFirstBad bytes (k + 1)) (sym w.keeps.place)
          (closed-after bytes w.entries byte after closed
          (all_told bytes walk stated count w c none))

pub judge_whole : (bytes : List ℕ) (walk : Walk) (stated count : ℕ) → HasWalked bytes walk →
    HasEnded bytes walk → IsCounted bytes walk stated count → is_some walk.wrong ≡ false →
    length bytes ≤ walk.place + 1 →
    IsZiplist bytes walk.items
judge_whole bytes walk stated count w e c none whole =
    let end = subst (λ (l : List ℕ). Closed bytes w.entries l)
    (drop_all (walk.place + 1) bytes whole) (closed bytes walk w e) in
    subst (λ (items : List (List ℕ)). IsZiplist bytes items) (sym w.keeps.items)
    (closed-ziplist bytes w.entries end (all_told bytes walk stated count w c none))
