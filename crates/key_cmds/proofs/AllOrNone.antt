-- What stands between the two passes over the pairs of MSET. Serves the clauses of `set_pairs`.
use Rattle.std.proofs.Common.{◌≡◌, ◌≢◌, ◌+◌, ◌≤◌, ℕ, Bool, true, false, List, [], ◌∷◌, ◌++◌, length, map, Option, Some, None, IsSome, if◌then◌else◌, refl, sym, ap, subst, ◌∙◌, append_assoc, arith, length-append}
use Rattle.std.specs.Borrow.{Bor}
use Rattle.std.specs.Option.{option_map}
use Rattle.std.specs.Str.{bytes_eq}
use Rattle.std.specs.Cmp.Lexicographic.{bytes_decides}
use Rattle.std.proofs.SliceLists.{all_by_recursion_push}
use Rattle.std.proofs.lemmas.Bool.{false≢true}
use Rattle.std.proofs.lemmas.List.{append-nil}
use Rattle.core_types.specs.Keys.{Entry, KeysOf, entry_at, value_at, with_entry, with_value, without}
use Rattle.core_types.specs.declared.value.Value.{Value}
use Rattle.core_types.specs.declared.value.Value.TheVariants as value
use Rattle.core_types.proofs.KeyLemmas.{entry_at-with_entry, same_keys}
use Rattle.key_cmds.specs.Leaving.{KeysAndLeft}
use Rattle.key_cmds.specs.Run.{native_in}
use Rattle.key_cmds.specs.SeveralKeys.{Pair, left_by_pairs, with_pairs}
use Rattle.key_cmds.specs.inner.Setting.{ArePut, AreThere, Begun, IsBegun, WerePut, keys_looked_at, looked_at, none_begun, with_pair}
use Rattle.key_cmds.proofs.OneKeyOf.{without_absent, without_entry}
use Rattle.key_cmds.proofs.PairsSet.{left_more, set_more}

other_way : (a b : List ℕ) → bytes_eq a b ≡ false → bytes_eq b a ≡ false
other_way a b differs = by (bytes_eq b a) refl
  where
    by : (t : Bool) → bytes_eq b a ≡ t → t ≡ false
    by true same =
        let equal : a ≡ b = sym ((bytes_decides b a).0 same) in
        absurd (false≢true (sym differs ∙ (bytes_decides a b).1 equal))
    by false same = refl

module _ {N : Type 0} where
  -- ---- one key is set

  -- what a key has then: the string, where it is that one
  text_there : (keys : KeysOf N) (key text other : List ℕ)
      → value_at (with_value keys key (value.Str text)) other
      ≡ (if bytes_eq other key then Some (value.Str text) else value_at keys other)
  text_there keys key text other =
      let entry : Entry N = record { value = value.Str text; deadline = None } in
      ap (option_map (λ (e : Entry N). e.value)) (entry_at-with_entry keys key entry other)
      ∙ by (bytes_eq other key) entry (entry_at keys other)
    where
      by : (b : Bool) (entry : Entry N) (found : Option (Entry N))
          → option_map (λ (e : Entry N). e.value) (if b then Some entry else found)
          ≡ (if b then Some entry.value else option_map (λ (e : Entry N). e.value) found)
      by true entry found = refl
      by false entry found = refl

  -- one that is there stays there
  still_there : (keys : KeysOf N) (key text other : List ℕ) → IsSome (value_at keys other)
      → IsSome (value_at (with_value keys key (value.Str text)) other)
  still_there keys key text other there =
      subst IsSome (sym (text_there keys key text other)) (by (bytes_eq other key))
    where
      by : (b : Bool) → IsSome (if b then Some (value.Str text) else value_at keys other)
      by true = refl
      by false = there

  pub all_there : (pairs : List Pair) (keys : KeysOf N) (key text : List ℕ) → AreThere pairs keys
      → AreThere pairs (with_value keys key (value.Str text))
  all_there [] keys key text there = tt
  all_there (pair ∷ more) keys key text there =
      (still_there keys key text pair.key there.0, all_there more keys key text there.1)

  -- two keys differ where one is there and the other is not
  apart : (keys : KeysOf N) (here gone : List ℕ) → IsSome (value_at keys here)
      → value_at keys gone ≡ None → bytes_eq gone here ≡ false
  apart keys here gone there absent = by (bytes_eq gone here) refl
    where
      by : (b : Bool) → bytes_eq gone here ≡ b → b ≡ false
      by true same =
          let none : value_at keys here ≡ None =
          ap (value_at keys) (sym ((bytes_decides gone here).0 same)) ∙ absent in
          absurd (false≢true (subst IsSome none there))
      by false same = refl

  -- another key has what it had
  elsewhere : (keys : KeysOf N) (key text other : List ℕ) → bytes_eq other key ≡ false
      → value_at (with_value keys key (value.Str text)) other ≡ value_at keys other
  elsewhere keys key text other differs =
      text_there keys key text other
      ∙ ap (λ (b : Bool). if b then Some (value.Str text) else value_at keys other) differs

  -- two keys are set in either order
  swapped : (keys : KeysOf N) (a b : List ℕ) (x y : Entry N) → bytes_eq a b ≡ false
      → with_entry (with_entry keys a x) b y ≡ with_entry (with_entry keys b y) a x
  swapped keys a b x y differs =
      same_keys (with_entry (with_entry keys a x) b y) (with_entry (with_entry keys b y) a x)
      (λ key. entry_at-with_entry (with_entry keys a x) b y key
      ∙ ap (λ (o : Option (Entry N)). if bytes_eq key b then Some y else o)
      (entry_at-with_entry keys a x key)
      ∙ by key (bytes_eq key a) (bytes_eq key b) refl refl
      ∙ ap (λ (o : Option (Entry N)). if bytes_eq key a then Some x else o)
      (sym (entry_at-with_entry keys b y key))
      ∙ sym (entry_at-with_entry (with_entry keys b y) a x key))
    where
      by : (key : List ℕ) (s t : Bool) → bytes_eq key a ≡ s → bytes_eq key b ≡ t
          → (if t then Some y else (if s then Some x else entry_at keys key))
          ≡ (if s then Some x else (if t then Some y else entry_at keys key))
      by key true true one two =
          let same : a ≡ b = sym ((bytes_decides key a).0 one) ∙ (bytes_decides key b).0 two in
          absurd (false≢true (sym differs ∙ (bytes_decides a b).1 same))
      by key true false one two = refl
      by key false t one two = refl

  -- ---- pairs of keys that are there are set after a key that was not

  later_set : (pairs : List Pair) (keys : KeysOf N) (key text : List ℕ) → AreThere pairs keys
      → value_at keys key ≡ None → with_pairs pairs (with_value keys key (value.Str text))
      ≡ with_value (with_pairs pairs keys) key (value.Str text)
  later_set [] keys key text there absent = refl
  later_set (pair ∷ more) keys key text there absent =
      let differs = apart keys pair.key key there.0 absent in
      ap (with_pairs more)
      (swapped keys key pair.key (record { value = value.Str text; deadline = None })
      (record { value = value.Str pair.value; deadline = None }) differs)
      ∙ later_set more (with_pair keys pair) key text
      (all_there more keys pair.key pair.value there.1)
      (elsewhere keys pair.key pair.value key differs ∙ absent)

  later_left : (pairs : List Pair) (keys : KeysOf N) (key text : List ℕ) → AreThere pairs keys
      → value_at keys key ≡ None
      → left_by_pairs pairs (with_value keys key (value.Str text)) ≡ left_by_pairs pairs keys
  later_left [] keys key text there absent = refl
  later_left (pair ∷ more) keys key text there absent =
      let differs = apart keys pair.key key there.0 absent in
      let swap = swapped keys key pair.key (record { value = value.Str text; deadline = None })
      (record { value = value.Str pair.value; deadline = None }) differs in
      let rest = ap (left_by_pairs more) swap
      ∙ later_left more (with_pair keys pair) key text
      (all_there more keys pair.key pair.value there.1)
      (elsewhere keys pair.key pair.value key differs ∙ absent) in
      let first = elsewhere keys key text pair.key (other_way key pair.key differs) in
      (λ i. native_in (first i) ++ rest i)

  still_absent : (pairs : List Pair) (keys : KeysOf N) (key : List ℕ) → AreThere pairs keys
      → value_at keys key ≡ None → value_at (with_pairs pairs keys) key ≡ None
  still_absent [] keys key there absent = absent
  still_absent (pair ∷ more) keys key there absent =
      still_absent more (with_pair keys pair) key (all_there more keys pair.key pair.value there.1)
      (elsewhere keys pair.key pair.value key (apart keys pair.key key there.0 absent) ∙ absent)

  -- ---- how many values of modules leave

  -- a key that is set has none
  fewer_after : (keys : KeysOf N) (key text other : List ℕ)
      → length (native_in (value_at (with_value keys key (value.Str text)) other))
      ≤ length (native_in (value_at keys other))
  fewer_after keys key text other =
      subst (λ o. length (native_in o) ≤ length (native_in (value_at keys other)))
      (sym (text_there keys key text other)) (by (bytes_eq other key))
    where
      by : (b : Bool) → length
          (native_in (if b then Some (value.Str text) else value_at keys other))
          ≤ length (native_in (value_at keys other))
      by true = omega arith
      by false = omega arith

  natives_counted : (pairs : List Pair) (keys : KeysOf N) (key : List ℕ)
      → length (native_in (value_at (with_pairs pairs keys) key))
      ≤ length (native_in (value_at keys key))
  natives_counted [] keys key = omega arith
  natives_counted (pair ∷ more) keys key =
      let rest = natives_counted more (with_pair keys pair) key in
      let first = fewer_after keys pair.key pair.value key in
      omega (arith, rest, first)

  -- ---- keys that were put, and are taken out again

  pub put_more : (put : List (List ℕ)) (before mid : KeysOf N) (key text : List ℕ)
      → ArePut put before mid → value_at mid key ≡ None
      → ArePut (put ++ key ∷ []) before (with_value mid key (value.Str text))
  put_more [] before mid key text are absent = (
    ap (λ keys. value_at keys key) (sym are) ∙ absent,
    (text, ap (λ keys. with_value keys key (value.Str text)) are),
  )
  put_more (first ∷ put) before mid key text are absent =
      let next = with_value before first (value.Str are.1.0) in
      (are.0, (are.1.0, put_more put next mid key text are.1.1 absent))

-- the last key was put when the others were
pub record IsLastPut {N : Type 0} (put : List (List ℕ)) (key : List ℕ)
    (before now : KeysOf N) : Type 0 where
  pub mid : KeysOf N
  pub text : List ℕ
  pub are : ArePut put before mid
  pub absent : value_at mid key ≡ None
  pub last : now ≡ with_value mid key (value.Str text)

-- where keys lie in memory, the last of them behind the others
last_place : (places : List (Bor (List ℕ))) (last : Bor (List ℕ))
    → map (λ key. key.now) (places ++ last ∷ []) ≡ map (λ key. key.now) places ++ last.now ∷ []
last_place [] last = refl
last_place (place ∷ places) last = ap (λ rest. place.now ∷ rest) (last_place places last)

module _ {N : Type 0} where
  pub last_put : (put : List (List ℕ)) (key : List ℕ) (before now : KeysOf N)
      → ArePut (put ++ key ∷ []) before now → IsLastPut put key before now
  last_put [] key before now are =
      record { mid = before; text = are.1.0; are = refl; absent = are.0; last = are.1.1 }
  last_put (first ∷ put) key before now are =
      let h = last_put put key (with_value before first (value.Str are.1.0)) now are.1.1 in
      record {
        mid = h.mid;
        text = h.text;
        are = (are.0, (are.1.0, h.are));
        absent = h.absent;
        last = h.last;
      }

  -- it is taken out, and the others stay
  pub taken_back : (put : List (List ℕ)) (key : List ℕ) (before now : KeysOf N)
      → ArePut (put ++ key ∷ []) before now → ArePut put before (without now key)
  taken_back put key before now are =
      let h = last_put put key before now are in
      let entry : Entry N = record { value = value.Str h.text; deadline = None } in
      let back = ap (λ keys. without keys key) h.last ∙ without_entry h.mid key entry
      ∙ without_absent h.mid key h.absent in
      subst (ArePut put before) (sym back) h.are

  -- it has a string
  pub string_put : (put : List (List ℕ)) (key : List ℕ) (before now : KeysOf N)
      → ArePut (put ++ key ∷ []) before now → native_in (value_at now key) ≡ []
  string_put put key before now are =
      let h = last_put put key before now are in
      ap (λ keys. native_in (value_at keys key)) h.last
      ∙ ap native_in (text_there h.mid key h.text key
      ∙ ap (λ (b : Bool). if b then Some (value.Str h.text) else value_at h.mid key)
      ((bytes_decides key key).1 refl))

module _ {N : Type 0} where
  pub place_taken : (places all : List (Bor (List ℕ))) (place : Bor (List ℕ))
      (before now : KeysOf N)
      → all ≡ places ++ place ∷ [] → ArePut (map (λ key. key.now) all) before now
      → ArePut (map (λ key. key.now) places) before (without now place.now)
  place_taken places all place before now last are =
      taken_back (map (λ key. key.now) places) place.now before now
      (subst (λ put. ArePut put before now)
      (ap (map (λ key. key.now)) last ∙ last_place places place) are)

  pub place_string : (places all : List (Bor (List ℕ))) (place : Bor (List ℕ))
      (before now : KeysOf N)
      → all ≡ places ++ place ∷ [] → ArePut (map (λ key. key.now) all) before now
      → native_in (value_at now place.now) ≡ []
  place_string places all place before now last are =
      string_put (map (λ key. key.now) places) place.now before now
      (subst (λ put. ArePut put before now)
      (ap (map (λ key. key.now)) last ∙ last_place places place) are)

-- pairs have been looked at, and this stands
pub record AreLookedAt {N : Type 0} (pairs : List Pair) (gathered : Begun)
    (before now : KeysOf N) : Type 0 where
  pub put : ArePut gathered.put before now
  pub begun : IsBegun pairs gathered.settings before now
  pub few : length (left_by_pairs gathered.settings now) ≤ gathered.natives

-- all pairs but these, which come last, have been looked at
pub record AreLookedAtBut {N : Type 0} (rest pairs : List Pair) (gathered : Begun)
    (before now : KeysOf N) : Type 0 where
  pub done : List Pair
  pub whole : done ++ rest ≡ pairs
  pub are : AreLookedAt done gathered before now

module _ {N : Type 0} where
  pub none_looked_at : (rest pairs : List Pair) (begun : Begun) (keys : KeysOf N) → rest ≡ pairs
      → begun ≡ none_begun → AreLookedAtBut rest pairs begun keys keys
  none_looked_at rest pairs begun keys all none =
      record {
        done = [];
        whole = all;
        are =
            subst (λ (b : Begun). AreLookedAt [] b keys keys) (sym none)
            (record {
              put = refl;
              begun = record { there = tt; sets = refl; leaves = refl };
              few = omega arith;
            });
      }

  absent_looked_at : (pairs : List Pair) (pair : Pair) (begun : Begun) (before now : KeysOf N)
      → AreLookedAt pairs begun before now → value_at now pair.key ≡ None
      → AreLookedAt (pairs ++ pair ∷ []) (record begun { put = begun.put ++ pair.key ∷ [] }) before
      (with_pair now pair)
  absent_looked_at pairs pair begun before now h absent =
      let key = pair.key in
      let there = h.begun.there in
      let same = later_left begun.settings now key pair.value there absent in
      let none : value_at (with_pairs pairs before) key ≡ None =
      ap (λ keys. value_at keys key) (sym h.begun.sets)
      ∙ still_absent begun.settings now key there absent in
      record {
        put = put_more begun.put before now key pair.value h.put absent;
        begun =
            record {
              there = all_there begun.settings now key pair.value there;
              sets =
                  later_set begun.settings now key pair.value there absent
                  ∙ ap (λ keys. with_pair keys pair) h.begun.sets
                  ∙ sym (set_more pairs (pair ∷ []) before);
              leaves =
                  same ∙ h.begun.leaves ∙ sym (append-nil (left_by_pairs pairs before))
                  ∙ ap (λ o. left_by_pairs pairs before ++ (native_in o ++ [])) (sym none)
                  ∙ sym (left_more pairs (pair ∷ []) before);
            };
        few = subst (λ left. length left ≤ begun.natives) (sym same) h.few;
      }

  there_looked_at : (pairs : List Pair) (pair : Pair) (held : Value N) (begun : Begun)
      (before now : KeysOf N)
      → AreLookedAt pairs begun before now → value_at now pair.key ≡ Some held
      → AreLookedAt (pairs ++ pair ∷ []) (looked_at pair (Some held) begun) before now
  there_looked_at pairs pair held begun before now h is =
      let first = left_by_pairs begun.settings now in
      let had = native_in (value_at (with_pairs begun.settings now) pair.key) in
      let both : left_by_pairs (begun.settings ++ pair ∷ []) now ≡ first ++ (had ++ []) =
      left_more begun.settings (pair ∷ []) now in
      let counted : length had ≤ length (native_in (Some held)) =
      subst (λ o. length had ≤ length (native_in o)) is
      (natives_counted begun.settings now pair.key) in
      let whole = ap length (append-nil had) in
      let few : length (left_by_pairs (begun.settings ++ pair ∷ []) now)
      ≤ begun.natives + length (native_in (Some held)) =
      omega (arith, ap length both, length-append first (had ++ []), whole, counted, h.few) in
      record {
        put = h.put;
        begun =
            record {
              there =
                  all_by_recursion_push (λ p. IsSome (value_at now p.key)) begun.settings pair
                  h.begun.there
                  (subst IsSome (sym is) refl);
              sets =
                  set_more begun.settings (pair ∷ []) now
                  ∙ ap (λ keys. with_pair keys pair) h.begun.sets
                  ∙ sym (set_more pairs (pair ∷ []) before);
              leaves =
                  both
                  ∙ (λ i. h.begun.leaves i ++
                  (native_in (value_at (h.begun.sets i) pair.key) ++ []))
                  ∙ sym (left_more pairs (pair ∷ []) before);
            };
        few = few;
      }

  next_looked_at : (pairs : List Pair) (pair : Pair) (begun : Begun) (before now : KeysOf N)
      → AreLookedAt pairs begun before now
      → AreLookedAt (pairs ++ pair ∷ []) (looked_at pair (value_at now pair.key) begun) before
      (keys_looked_at pair (value_at now pair.key) now)
  next_looked_at pairs pair begun before now h = by (value_at now pair.key) refl
    where
      by : (found : Option (Value N)) → value_at now pair.key ≡ found
          → AreLookedAt (pairs ++ pair ∷ []) (looked_at pair found begun) before
          (keys_looked_at pair found now)
      by None is = absent_looked_at pairs pair begun before now h is
      by (Some held) is = there_looked_at pairs pair held begun before now h is

-- one step of the first pass, from what was to be looked at and what stood before it
pub record IsLookedAt {N : Type 0} (pair : Pair) (begun after : Begun)
    (keys now : KeysOf N) : Type 0 where
  pub gathers : after ≡ looked_at pair (value_at keys pair.key) begun
  pub puts : now ≡ keys_looked_at pair (value_at keys pair.key) keys

module _ {N : Type 0} where
  pub one_looked_at : (pair : Pair) (rest pairs : List Pair) (begun after : Begun)
      (before keys now : KeysOf N) → AreLookedAtBut (pair ∷ rest) pairs begun before keys
      → IsLookedAt pair begun after keys now → AreLookedAtBut rest pairs after before now
  one_looked_at pair rest pairs begun after before keys now h step =
      let done = h.done ++ pair ∷ [] in
      let next = looked_at pair (value_at keys pair.key) begun in
      record {
        done = done;
        whole = append_assoc h.done (pair ∷ []) rest ∙ h.whole;
        are =
            subst (λ (b : Begun). AreLookedAt done b before now) (sym step.gathers)
            (subst (AreLookedAt done next before) (sym step.puts)
            (next_looked_at h.done pair begun before keys h.are));
      }

  pub all_looked_at : (rest pairs : List Pair) (begun : Begun) (before now : KeysOf N) → rest ≡ []
      → AreLookedAtBut rest pairs begun before now → AreLookedAt pairs begun before now
  all_looked_at rest pairs begun before now none h =
      let whole = sym (append-nil h.done) ∙ ap (λ more. h.done ++ more) (sym none) ∙ h.whole in
      subst (λ (done : List Pair). AreLookedAt done begun before now) whole h.are

-- ---- the second pass

-- all pairs but these, which come last, are set, and the keys of these are there
pub record AreSetBut {N : Type 0} (rest pairs : List Pair)
    (before now : KeysAndLeft N) : Type 0 where
  pub keys : with_pairs rest now.keys ≡ with_pairs pairs before.keys
  pub left : now.left ++ left_by_pairs rest now.keys
      ≡ before.left ++ left_by_pairs pairs before.keys
  pub there : AreThere rest now.keys

module _ {N : Type 0} where
  pub none_set : (pairs : List Pair) (kept : KeysAndLeft N) → AreThere pairs kept.keys
      → AreSetBut pairs pairs kept kept
  none_set pairs kept there = record { keys = refl; left = refl; there = there }

  pub one_set : (pair : Pair) (rest pairs : List Pair) (before now after : KeysAndLeft N)
      → AreSetBut (pair ∷ rest) pairs before now
      → after.keys ≡ with_pair now.keys pair
      → after.left ≡ now.left ++ native_in (value_at now.keys pair.key)
      → AreSetBut rest pairs before after
  one_set pair rest pairs before now after h keys left =
      let had = native_in (value_at now.keys pair.key) in
      record {
        keys = ap (with_pairs rest) keys ∙ h.keys;
        left =
            (λ i. left i ++ left_by_pairs rest (keys i))
            ∙ append_assoc now.left had (left_by_pairs rest (with_pair now.keys pair)) ∙ h.left;
        there =
            subst (AreThere rest) (sym keys)
            (all_there rest now.keys pair.key pair.value h.there.1);
      }
