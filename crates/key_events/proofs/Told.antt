-- Who is told, by lists of clients and by the entries of a roll. It serves the clauses of `tell` and
-- of `messages`.
use Rattle.std.proofs.Common.{◌≡◌, ℕ, ◌==◌, Bool, true, false, cond, ◌||◌, ◌&&◌, List, [], ◌∷◌, ◌++◌}
use Rattle.std.proofs.Common.{filter, map, Option, None, Some, is_some, unwrap_or, refl, sym, ap, subst, ◌∙◌, eqb-true}
use Rattle.std.specs.declared.cmp.Ordering.{Ordering}
use Rattle.std.specs.declared.cmp.Ordering.TheVariants.{Less, Equal, Greater}
use Rattle.std.specs.Ordering.{nat_cmp, is_lt, ordering_reverse}
use Rattle.std.specs.Cmp.{nat_cmp_total, nat_eq_equiv, unsigned_tied}
use Rattle.std.specs.List.{AllByRecursion, flat_map, list_any}
use Rattle.std.specs.List.Sorted.{IsStrictlySortedBy}
use Rattle.std.specs.Map.{keys_of}
use Rattle.std.specs.BTreeMap.{is_at}
use Rattle.std.specs.FinMap as finite
use Rattle.std.specs.FinMap.Entries as entries
use Rattle.std.proofs.lemmas.Bool.{true≢false, false≢true}
use Rattle.std.proofs.lemmas.List.{append_assoc}
use Rattle.std.proofs.lemmas.List.Kept.{IsStrictlySortedBy-filter}
use Rattle.std.proofs.lemmas.Map.Views.{any-filter_same}
use Rattle.core_types.specs.declared.note.Note.{Note}
use Rattle.core_types.specs.declared.outs.Out.{Out}
use Rattle.key_events.specs.Patterns.{matches}
use Rattle.key_events.specs.Rolls.{RollMap, NameList, has_name, names_at}
use Rattle.key_events.specs.Subscribers.{Subscribers}
use Rattle.key_events.specs.Messages.{to, message, pattern_message, by_channel, by_patterns}
use Rattle.key_events.specs.Messages.{keyspace_channel, keyevent_channel, told, messages}
use Rattle.key_events.specs.inner.Listing.{Lists, FindsIn, is_among}
use Rattle.key_events.specs.inner.Bounds.{have_none}
use Rattle.key_events.proofs.Entries.{no_length}
use Rattle.key_events.proofs.LineSet.{none_at}
use Rattle.key_events.proofs.Listed.{entries_found}
use lib.Dec.{T}

-- ---- members of a list

among_more : (q k : ℕ) (ks : List ℕ) → is_among q (k ∷ ks) ≡ ((q == k) || is_among q ks)
among_more q k ks = ap (λ b. b || is_among q ks) (unsigned_tied q k)

among_first : (k : ℕ) (ks : List ℕ) → is_among k (k ∷ ks) ≡ true
among_first k ks = among_more k k ks ∙ ap (λ b. b || is_among k ks) (nat_eq_equiv.refl k)

among_later : (q k : ℕ) (ks : List ℕ) → is_among q ks ≡ true → is_among q (k ∷ ks) ≡ true
among_later q k ks is = either (is_at (nat_cmp q) k) (is_among q ks) is
  where
    either : (a b : Bool) → b ≡ true → (a || b) ≡ true
    either true b is = refl
    either false b is = is

at_member : (P : ℕ → Type 0) (ks : List ℕ) → AllByRecursion P ks → (q : ℕ) → is_among q ks ≡ true
    → P q
at_member P [] all q is = absurd (false≢true is)
at_member P (k ∷ ks) all q is =
    elim (q == k) as (λ b. (q == k) ≡ b → (b || is_among q ks) ≡ true → P q) [
      | true ↦ λ here _. subst P (sym (eqb-true q k here)) all.0
      | false ↦ λ _ later. at_member P ks all.1 q later
    ] refl (sym (among_more q k ks) ∙ is)

of_members : (P : ℕ → Type 0) (ks : List ℕ) → ((q : ℕ) → is_among q ks ≡ true → P q)
    → AllByRecursion P ks
of_members P [] gives = tt
of_members P (k ∷ ks) gives =
    (gives k (among_first k ks), of_members P ks (λ q is. gives q (among_later q k ks is)))

-- ---- two lists that rise and have the same members are the same

abbrev Below : ℕ → List ℕ → Type 0
Below k ks = AllByRecursion (λ y. nat_cmp k y ≡ Less) ks

no_loop : (x y : ℕ) → nat_cmp x y ≡ Less → nat_cmp y x ≡ Less → false ≡ true
no_loop x y up down = ap is_lt (sym (ap ordering_reverse up)
    ∙ sym (nat_cmp_total.antisymm y x) ∙ down)

same_first : (x y : ℕ) (xs ys : List ℕ) → Below x xs → Below y ys
    → is_among x (y ∷ ys) ≡ true → is_among y (x ∷ xs) ≡ true → x ≡ y
same_first x y xs ys under over one other =
    elim (x == y) as (λ b. (x == y) ≡ b → (b || is_among x ys) ≡ true → x ≡ y) [
      | true ↦ λ here _. eqb-true x y here
      | false ↦ λ apart above. elim (y == x) as (λ b. (y == x) ≡ b
          → (b || is_among y xs) ≡ true → x ≡ y) [
            | true ↦ λ here _. sym (eqb-true y x here)
            | false ↦ λ _ below. absurd (false≢true (no_loop x y
                (at_member (λ z. nat_cmp x z ≡ Less) xs under y below)
                (at_member (λ z. nat_cmp y z ≡ Less) ys over x above)))
          ] refl (sym (among_more y x xs) ∙ other)
    ] refl (sym (among_more x y ys) ∙ one)

same_rest : (x : ℕ) (xs ys : List ℕ) → Below x xs → Below x ys
    → ((q : ℕ) → is_among q (x ∷ xs) ≡ is_among q (x ∷ ys)) → (q : ℕ) → is_among q xs ≡ is_among q ys
same_rest x xs ys under over same q =
    elim (q == x) as (λ b. (q == x) ≡ b → (b || is_among q xs) ≡ (b || is_among q ys)
    → is_among q xs ≡ is_among q ys) [
      | true ↦ λ here _. ap (λ k. is_among k xs) (eqb-true q x here) ∙ none_at x xs under
          ∙ sym (ap (λ k. is_among k ys) (eqb-true q x here) ∙ none_at x ys over)
      | false ↦ λ _ is. is
    ] refl (sym (among_more q x xs) ∙ same q ∙ among_more q x ys)

same_lists : (xs ys : List ℕ) → IsStrictlySortedBy nat_cmp xs → IsStrictlySortedBy nat_cmp ys
    → ((q : ℕ) → is_among q xs ≡ is_among q ys) → xs ≡ ys
unfolding IsStrictlySortedBy
same_lists [] [] rises rise same = refl
same_lists [] (y ∷ ys) rises rise same = absurd (false≢true (same y ∙ among_first y ys))
same_lists (x ∷ xs) [] rises rise same =
    absurd (true≢false (sym (among_first x xs) ∙ same x))
same_lists (x ∷ xs) (y ∷ ys) rises rise same =
    let first : x ≡ y = same_first x y xs ys rises.0 rise.0
    (sym (same x) ∙ among_first x xs) (same y ∙ among_first y ys) in
    let over : Below x ys = subst (λ k. Below k ys) (sym first) rise.0 in
    let rest : xs ≡ ys = same_lists xs ys rises.1 rise.1 (same_rest x xs ys rises.0 over
    (λ q. same q ∙ ap (λ k. is_among q (k ∷ ys)) (sym first))) in
    λ i. first i ∷ rest i

-- ---- what is told is what those are told who are told something

abbrev pub some : List Out → Bool
some [] = false
some (o ∷ os) = true

told_alone : (h : ℕ → List Out) (ks : List ℕ)
    → flat_map h ks ≡ flat_map h (filter (λ k. some (h k)) ks)
told_alone h [] = refl
told_alone h (k ∷ ks) =
    elim (h k) as (λ os. h k ≡ os → os ++ flat_map h ks
    ≡ flat_map h (cond (some os) (k ∷ filter (λ q. some (h q)) ks) (filter (λ q. some (h q)) ks))) [
      | [] ↦ λ _. told_alone h ks
      | o ∷ os ↦ λ is. ap (λ more. (o ∷ os) ++ more) (told_alone h ks)
          ∙ ap (λ first. first ++ flat_map h (filter (λ q. some (h q)) ks)) (sym is)
    ] refl

among_filter : (p : ℕ → Bool) (q : ℕ) (ks : List ℕ)
    → is_among q (filter p ks) ≡ (p q && is_among q ks)
among_filter p q ks = any-filter_same (is_at (nat_cmp q)) p (p q)
    (λ k here. ap p (sym (eqb-true q k (sym (unsigned_tied q k) ∙ here)))) ks

pub same_told : (h : ℕ → List Out) (xs ys : List ℕ) → IsStrictlySortedBy nat_cmp xs
    → IsStrictlySortedBy nat_cmp ys → ((q : ℕ) → some (h q) ≡ true → is_among q xs ≡ true)
    → ((q : ℕ) → some (h q) ≡ true → is_among q ys ≡ true) → flat_map h xs ≡ flat_map h ys
same_told h xs ys rises rise all each =
    told_alone h xs
    ∙ ap (flat_map h) (same_lists (filter (λ k. some (h k)) xs) (filter (λ k. some (h k)) ys)
    (IsStrictlySortedBy-filter nat_cmp (λ k. some (h k)) xs rises)
    (IsStrictlySortedBy-filter nat_cmp (λ k. some (h k)) ys rise)
    (λ q. among_filter (λ k. some (h k)) q xs ∙ alike q (some (h q)) refl
    ∙ sym (among_filter (λ k. some (h k)) q ys)))
    ∙ sym (told_alone h ys)
  where
    alike : (q : ℕ) (b : Bool) → some (h q) ≡ b → (b && is_among q xs) ≡ (b && is_among q ys)
    alike q true is = all q is ∙ sym (each q is)
    alike q false is = refl

-- ---- the entries of a roll

below_keys : (k : ℕ) (es : List (ℕ × NameList)) → T (entries.below_all nat_cmp k es)
    → Below k (keys_of es)
below_keys k [] below = tt
below_keys k (e ∷ es) below = (
  less (nat_cmp k e.0) (entries.below_all nat_cmp k es) below,
  below_keys k es (rest (is_lt (nat_cmp k e.0)) (entries.below_all nat_cmp k es) below),
)
  where
    less : (o : Ordering) (b : Bool) → T (is_lt o && b) → o ≡ Less
    less Less b t = refl
    less Equal b t = absurd t
    less Greater b t = absurd t

    rest : (a b : Bool) → T (a && b) → T b
    rest true b t = t
    rest false b t = absurd t

keys_rise : (es : List (ℕ × NameList)) → T (entries.is_sorted nat_cmp es)
    → IsStrictlySortedBy nat_cmp (keys_of es)
unfolding IsStrictlySortedBy
keys_rise [] rises = tt
keys_rise (e ∷ es) rises = (
  below_keys e.0 es (left (entries.below_all nat_cmp e.0 es) (entries.is_sorted nat_cmp es) rises),
  keys_rise es (right (entries.below_all nat_cmp e.0 es) (entries.is_sorted nat_cmp es) rises),
)
  where
    left : (a b : Bool) → T (a && b) → T a
    left true b t = tt
    left false b t = absurd t

    right : (a b : Bool) → T (a && b) → T b
    right true b t = t
    right false b t = absurd t

by_keys : (m : RollMap) (f : ℕ × NameList → List Out) (es : List (ℕ × NameList))
    → AllByRecursion (λ e. finite.get m e.0 ≡ Some e.1) es
    → flat_map (λ c. f (c, names_at m c)) (keys_of es) ≡ flat_map f es
by_keys m f [] all = refl
by_keys m f (e ∷ es) all =
    ap (λ o. f (e.0, unwrap_or o []) ++ flat_map (λ c. f (c, names_at m c)) (keys_of es)) all.0
    ∙ ap (λ more. f e ++ more) (by_keys m f es all.1)

pub by_entries : (m : RollMap) (f : ℕ × NameList → List Out) (cs : List ℕ)
    → IsStrictlySortedBy nat_cmp cs → ((c : ℕ) → f (c, []) ≡ [])
    → ((c : ℕ) → some (f (c, names_at m c)) ≡ true → is_among c cs ≡ true)
    → flat_map (λ c. f (c, names_at m c)) cs ≡ flat_map f (finite.entries m)
by_entries m f cs rises none all =
    same_told (λ c. f (c, names_at m c)) cs (keys_of (finite.entries m)) rises
    (keys_rise (finite.entries m) (finite.entries_sorted m)) all
    (λ c is. sym (entries.is_some-find nat_cmp c (finite.entries m))
    ∙ ap is_some (sym (finite.get-entries m c)) ∙ there c (finite.get m c) refl is)
    ∙ by_keys m f (finite.entries m) (entries_found m)
  where
    there : (c : ℕ) (o : Option NameList) → finite.get m c ≡ o
        → some (f (c, unwrap_or o [])) ≡ true → is_some o ≡ true
    there c None is told = absurd (false≢true (sym (ap some (none c)) ∙ told))
    there c (Some names) is told = refl

-- ---- those who have the channel

each_told : (p : ℕ → Bool) (g : ℕ → Out) (cs : List ℕ) → AllByRecursion (λ c. p c ≡ true) cs
    → map g cs ≡ flat_map (λ c. cond (p c) (g c ∷ []) []) cs
each_told p g [] all = refl
each_told p g (c ∷ cs) all =
    ap (λ more. g c ∷ more) (each_told p g cs all.1)
    ∙ ap (λ b. cond b (g c ∷ []) [] ++ flat_map (λ q. cond (p q) (g q ∷ []) []) cs) (sym all.0)

pub listeners_told : (m : RollMap) (channel payload cs : List ℕ)
    → Lists cs (λ c. has_name channel (names_at m c))
    → map (λ c. to c (message channel payload)) cs
    ≡ flat_map (by_channel channel payload) (finite.entries m)
listeners_told m channel payload cs lists =
    each_told (λ c. has_name channel (names_at m c)) (λ c. to c (message channel payload)) cs
    (of_members (λ c. has_name channel (names_at m c) ≡ true) cs
    (λ c is. sym (lists.same c) ∙ is))
    ∙ by_entries m (by_channel channel payload) cs lists.rises (λ c. refl)
    (λ c is. lists.same c ∙ named (has_name channel (names_at m c))
    (to c (message channel payload)) is)
  where
    named : (b : Bool) (o : Out) → some (cond b (o ∷ []) []) ≡ true → b ≡ true
    named true o is = refl
    named false o is = is

-- ---- those whose patterns match it

matched : (channel payload : List ℕ) (c : ℕ) (names : NameList)
    → some (by_patterns channel payload (c, names)) ≡ true
    → list_any (λ n. matches n channel) names ≡ true
matched channel payload c [] is = is
matched channel payload c (n ∷ ns) is =
    elim (matches n channel) as (λ b. some (map
    (λ pattern. to c (pattern_message pattern channel payload))
    (cond b (n ∷ filter (λ k. matches k channel) ns) (filter (λ k. matches k channel) ns))) ≡ true
    → (b || list_any (λ k. matches k channel) ns) ≡ true) [
      | true ↦ λ _. refl
      | false ↦ λ more. matched channel payload c ns more
    ] is

pub matching_told : (m : RollMap) (channel payload cs : List ℕ) → FindsIn cs m channel
    → flat_map (λ c. by_patterns channel payload (c, names_at m c)) cs
    ≡ flat_map (by_patterns channel payload) (finite.entries m)
matching_told m channel payload cs finds =
    by_entries m (by_patterns channel payload) cs finds.rises (λ c. refl)
    (λ c is. finds.all c (matched channel payload c (names_at m c) is))

-- ---- one behind the other

pub joined : (outs mid last a a' b b' : List Out) → mid ≡ outs ++ a → last ≡ mid ++ b → a ≡ a'
    → b ≡ b' → last ≡ outs ++ (a' ++ b')
joined outs mid last a a' b b' first second one two =
    second ∙ (λ i. first i ++ two i) ∙ (λ i. (outs ++ one i) ++ b') ∙ append_assoc outs a' b'

-- ---- both channels of an event

pub in_all : (s s' : Subscribers) (space name event key : List ℕ) (note : Note) → s ≡ s'
    → space ≡ keyspace_channel note.key → name ≡ note.name → event ≡ keyevent_channel note.name
    → key ≡ note.key → told s space name ++ told s event key ≡ messages s' note
in_all s s' space name event key note one two three four five =
    λ i. told (one i) (two i) (three i) ++ told (one i) (four i) (five i)

-- ---- where nobody has a name

pub to_nobody : (s : Subscribers) (note : Note) → have_none s ≡ true → [] ≡ messages s note
to_nobody s note none =
    let one : finite.entries s.channels ≡ [] =
    no_entries s.channels (left (finite.len s.channels == 0) (finite.len s.patterns == 0) none) in
    let two : finite.entries s.patterns ≡ [] =
    no_entries s.patterns (right (finite.len s.channels == 0) (finite.len s.patterns == 0) none) in
    let on : List ℕ → List ℕ → List (ℕ × NameList) → List (ℕ × NameList) → List Out =
    λ channel payload es fs.
    flat_map (by_channel channel payload) es ++ flat_map (by_patterns channel payload) fs in
    sym (λ i. on (keyspace_channel note.key) note.name (one i) (two i)
    ++ on (keyevent_channel note.name) note.key (one i) (two i))
  where
    left : (a b : Bool) → (a && b) ≡ true → a ≡ true
    left true b is = refl
    left false b is = is

    right : (a b : Bool) → (a && b) ≡ true → b ≡ true
    right true b is = is
    right false b is = absurd (false≢true is)

    no_entries : (m : RollMap) → (finite.len m == 0) ≡ true → finite.entries m ≡ []
    no_entries m is = no_length (finite.entries m)
        (sym (finite.len-entries m) ∙ eqb-true (finite.len m) 0 is)
