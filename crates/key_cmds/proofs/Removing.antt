-- What the removal of keys one after the other leaves. Serves the clauses of DEL.
use Rattle.std.proofs.Common.{◌≡◌, ◌+◌, ◌≤◌, ◌<◌, ◌⊎◌, inl, inr, ℕ, suc, pos, Bool, true, false, List, [], ◌∷◌, ◌++◌, length, map, filter, codes, Option, Some, None, is_some, if◌then◌else◌, refl, sym, ap, subst, ◌∙◌, arith, append_assoc, length-append, true≢false}
use Rattle.std.specs.Prelude.{◌==◌}
use Rattle.std.specs.Option.{option_map}
use Rattle.std.specs.Str.{bytes_eq}
use Rattle.std.proofs.lemmas.Bool.Decides.{nat_tests}
use Rattle.std.proofs.lemmas.List.{append-nil}
use Rattle.core_types.specs.Done.{own_words}
use Rattle.core_types.specs.Keys.{KeysOf, entry_at, value_at, without}
use Rattle.core_types.specs.declared.note.Note.{Note}
use Rattle.core_types.specs.declared.reply.Reply.TheVariants as reply
use Rattle.core_types.specs.declared.value.Value.{Value}
use Rattle.core_types.proofs.KeyLemmas.{entry_at-without}
use Rattle.key_cmds.specs.Run.{native_in, told}
use Rattle.key_cmds.specs.SeveralKeys.{Removed, deletes, goes_first, is_there, removed}
use Rattle.key_cmds.specs.inner.Several.{del_note, natives_named, note_keys, notes_left, notes_named, where_there}
use Rattle.key_cmds.proofs.OneKeyOf.{without_absent}

some_noted : (gone : List (List ℕ)) (words : List (List ℕ)) → 0 < length gone → (if length gone == 0 then [] else own_words (codes "DEL") words ∷ []) ≡ own_words (codes "DEL") words ∷ []
some_noted gone words some = let test : (length gone == 0) ≡ false = grind (arith, nat_tests) in rw test refl

mapped : (gone : List (List ℕ)) → length (map del_note gone) ≡ length gone
mapped [] = refl
mapped (key ∷ gone) = ap (λ n. suc n) (mapped gone)

names_noted : (names : List (List ℕ)) → note_keys (map del_note names) ≡ names
names_noted [] = refl
names_noted (name ∷ more) = ap (λ rest. name ∷ rest) (names_noted more)

module _ {N : Type 0} where
  first_keys : (key : List ℕ) (held : Option (Value N)) (more : Removed N) → (goes_first key held more).keys ≡ more.keys
  first_keys key None more = refl
  first_keys key (Some held) more = refl

  first_left : (key : List ℕ) (held : Option (Value N)) (more : Removed N) → (goes_first key held more).left ≡ native_in held ++ more.left
  first_left key None more = refl
  first_left key (Some held) more = refl

  first_gone : (key : List ℕ) (held : Option (Value N)) (more : Removed N) → map del_note (goes_first key held more).gone ≡ where_there (del_note key) held ++ map del_note more.gone
  first_gone key None more = refl
  first_gone key (Some held) more = refl

  pub removed_keys : (key : List ℕ) (more : List (List ℕ)) (keys : KeysOf N) → (removed (key ∷ more) keys).keys ≡ (removed more (without keys key)).keys
  removed_keys key more keys = first_keys key (value_at keys key) (removed more (without keys key))

  pub removed_left : (key : List ℕ) (more : List (List ℕ)) (keys : KeysOf N) → (removed (key ∷ more) keys).left ≡ native_in (value_at keys key) ++ (removed more (without keys key)).left
  removed_left key more keys = first_left key (value_at keys key) (removed more (without keys key))

  -- the notes that are left are those of the keys that went
  pub notes_gone : (names : List (List ℕ)) (keys : KeysOf N) → notes_left (map del_note names) keys ≡ map del_note (removed names keys).gone
  notes_gone [] keys = refl
  notes_gone (name ∷ more) keys =
      ap (λ rest. where_there (del_note name) (value_at keys name) ++ rest) (notes_gone more (without keys name))
      ∙ sym (first_gone name (value_at keys name) (removed more (without keys name)))

  -- ---- the names of keys that are there

  named_case : (name : List ℕ) (held : Option (Value N)) (notes : List Note) (names : List (List ℕ)) → notes ≡ map del_note names
      → where_there (del_note name) held ++ notes ≡ map del_note (if is_some held then name ∷ names else names)
  named_case name None notes names same = same
  named_case name (Some held) notes names same = ap (λ rest. del_note name ∷ rest) same

  pub notes_of_named : (names : List (List ℕ)) (keys : KeysOf N) → notes_named keys names ≡ map del_note (filter (is_there keys) names)
  notes_of_named [] keys = refl
  notes_of_named (name ∷ more) keys =
      named_case name (value_at keys name) (notes_named keys more) (filter (is_there keys) more) (notes_of_named more keys)

  natives_case : (name : List ℕ) (keys : KeysOf N) (held : Option (Value N)) (names : List (List ℕ)) (natives : List N) → value_at keys name ≡ held → natives_named keys names ≡ natives
      → natives_named keys (if is_some held then name ∷ names else names) ≡ native_in held ++ natives
  natives_case name keys None names natives at same = same
  natives_case name keys (Some held) names natives at same =
      ap (λ o. native_in o ++ natives_named keys names) at ∙ ap (λ rest. native_in (Some held) ++ rest) same

  pub natives_of_named : (names : List (List ℕ)) (keys : KeysOf N) → natives_named keys (filter (is_there keys) names) ≡ natives_named keys names
  natives_of_named [] keys = refl
  natives_of_named (name ∷ more) keys =
      natives_case name keys (value_at keys name) (filter (is_there keys) more) (natives_named keys more) refl (natives_of_named more keys)

  left_case : (keys : KeysOf N) (key name : List ℕ) (b : Bool) → entry_at (without keys key) name ≡ (if b then None else entry_at keys name)
      → (value_at (without keys key) name ≡ None) ⊎ (value_at (without keys key) name ≡ value_at keys name)
  left_case keys key name true at = inl (ap (option_map (λ e. e.value)) at)
  left_case keys key name false at = inr (ap (option_map (λ e. e.value)) at)

  still : (keys : KeysOf N) (key name : List ℕ) → (value_at (without keys key) name ≡ None) ⊎ (value_at (without keys key) name ≡ value_at keys name)
  still keys key name = left_case keys key name (bytes_eq name key) (entry_at-without keys key name)

  fewer_case : (now old : Option (Value N)) → (now ≡ None) ⊎ (now ≡ old) → length (native_in now) ≤ length (native_in old)
  fewer_case now old (inl none) = let e : length (native_in now) ≡ 0 = ap (λ o. length (native_in o)) none in omega arith
  fewer_case now old (inr same) = let e : length (native_in now) ≡ length (native_in old) = ap (λ o. length (native_in o)) same in omega arith

  -- with a key fewer there are no more values of modules
  pub fewer_natives : (names : List (List ℕ)) (keys : KeysOf N) (key : List ℕ) → length (natives_named (without keys key) names) ≤ length (natives_named keys names)
  fewer_natives [] keys key = omega arith
  fewer_natives (name ∷ more) keys key =
      let first = fewer_case (value_at (without keys key) name) (value_at keys name) (still keys key name) in
      let rest = fewer_natives more keys key in
      omega (
        arith,
        first,
        rest,
        length-append (native_in (value_at (without keys key) name)) (natives_named (without keys key) more),
        length-append (native_in (value_at keys name)) (natives_named keys more),
      )

  -- ---- the names of keys that are not there do not matter

  there_case : (keys : KeysOf N) (key name : List ℕ) (p : List ℕ → Bool) → (is_there keys name ≡ true → p name ≡ true)
      → (value_at (without keys key) name ≡ None) ⊎ (value_at (without keys key) name ≡ value_at keys name) → is_there (without keys key) name ≡ true → p name ≡ true
  there_case keys key name p passes (inl none) there = absurd (true≢false (sym there ∙ ap is_some none))
  there_case keys key name p passes (inr same) there = passes (sym (ap is_some same) ∙ there)

  absent_by : (keys : KeysOf N) (name : List ℕ) (p : List ℕ → Bool) → (is_there keys name ≡ true → p name ≡ true) → (held : Option (Value N)) → value_at keys name ≡ held → p name ≡ false → value_at keys name ≡ None
  absent_by keys name p passes None at fails = at
  absent_by keys name p passes (Some held) at fails = absurd (true≢false (sym (passes (ap is_some at)) ∙ fails))

  passing_case : (name : List ℕ) (more : List (List ℕ)) (keys : KeysOf N) (p : List ℕ → Bool) → (is_there keys name ≡ true → p name ≡ true)
      → removed (filter p more) (without keys name) ≡ removed more (without keys name)
      → (b : Bool) → p name ≡ b → removed (if b then name ∷ filter p more else filter p more) keys ≡ removed (name ∷ more) keys
  passing_case name more keys p passes rest true test = ap (λ after. goes_first name (value_at keys name) after) rest
  passing_case name more keys p passes rest false test =
      let none = absent_by keys name p passes (value_at keys name) refl test in
      sym (ap (λ k. removed (filter p more) k) (without_absent keys name none))
      ∙ rest
      ∙ sym (ap (λ o. goes_first name o (removed more (without keys name))) none)

  passing : (names : List (List ℕ)) (keys : KeysOf N) (p : List ℕ → Bool) → ((name : List ℕ) → is_there keys name ≡ true → p name ≡ true) → removed (filter p names) keys ≡ removed names keys
  passing [] keys p passes = refl
  passing (name ∷ more) keys p passes =
      passing_case name more keys p (passes name)
      (passing more (without keys name) p (λ other. there_case keys name other p (passes other) (still keys name other)))
      (p name) refl

  pub removed_there : (names : List (List ℕ)) (keys : KeysOf N) → removed (filter (is_there keys) names) keys ≡ removed names keys
  removed_there names keys = passing names keys (is_there keys) (λ name there. there)

-- while notes are gone through: those that are left, the keys, the notes of keys that went, and the
-- values of modules that left
pub record Way (N : Type 0) : Type 0 where
  pub rest : List Note
  pub keys : KeysOf N
  pub gone : List Note
  pub left : List N

-- from here the way leads to where it leads from there
pub record IsOnTheWay {N : Type 0} (there here : Way N) : Type 0 where
  pub keys : (removed (note_keys here.rest) here.keys).keys ≡ (removed (note_keys there.rest) there.keys).keys
  pub gone : here.gone ++ notes_left here.rest here.keys ≡ there.gone ++ notes_left there.rest there.keys
  pub left : here.left ++ (removed (note_keys here.rest) here.keys).left ≡ there.left ++ (removed (note_keys there.rest) there.keys).left

module _ {N : Type 0} where
  pub at_first : (way : Way N) → IsOnTheWay way way
  at_first way = record { keys = refl; gone = refl; left = refl }

  pub one_on : (there here next : Way N) (note : Note) → here.rest ≡ note ∷ next.rest → next.keys ≡ without here.keys note.key
      → next.gone ≡ here.gone ++ where_there note (value_at here.keys note.key) → next.left ≡ here.left ++ native_in (value_at here.keys note.key)
      → IsOnTheWay there here → IsOnTheWay there next
  one_on there here next note rest keys gone left on =
      let removal = removed (note_keys next.rest) (without here.keys note.key) in
      record {
        keys = ap (λ k. (removed (note_keys next.rest) k).keys) keys
            ∙ sym (removed_keys note.key (note_keys next.rest) here.keys)
            ∙ ap (λ notes. (removed (note_keys notes) here.keys).keys) (sym rest) ∙ on.keys;
        gone = ap (λ k. next.gone ++ notes_left next.rest k) keys
            ∙ ap (λ notes. notes ++ notes_left next.rest (without here.keys note.key)) gone
            ∙ append_assoc here.gone (where_there note (value_at here.keys note.key)) (notes_left next.rest (without here.keys note.key))
            ∙ ap (λ notes. here.gone ++ notes_left notes here.keys) (sym rest) ∙ on.gone;
        left = ap (λ k. next.left ++ (removed (note_keys next.rest) k).left) keys
            ∙ ap (λ values. values ++ removal.left) left
            ∙ append_assoc here.left (native_in (value_at here.keys note.key)) removal.left
            ∙ ap (λ values. here.left ++ values) (sym (removed_left note.key (note_keys next.rest) here.keys))
            ∙ ap (λ notes. here.left ++ (removed (note_keys notes) here.keys).left) (sym rest) ∙ on.left;
      }

  pub at_last : (there here : Way N) → here.rest ≡ [] → IsOnTheWay there here
      → (here.keys ≡ (removed (note_keys there.rest) there.keys).keys)
      × (here.gone ≡ there.gone ++ notes_left there.rest there.keys)
      × (here.left ≡ there.left ++ (removed (note_keys there.rest) there.keys).left)
  at_last there here rest on = (
    ap (λ notes. (removed (note_keys notes) here.keys).keys) (sym rest) ∙ on.keys,
    sym (append-nil here.gone) ∙ ap (λ notes. here.gone ++ notes_left notes here.keys) (sym rest) ∙ on.gone,
    sym (append-nil here.left) ∙ ap (λ notes. here.left ++ (removed (note_keys notes) here.keys).left) (sym rest) ∙ on.left,
  )

  -- ---- with the notes of the keys that are there

  keys_noted : (notes : List Note) (names : List (List ℕ)) (keys : KeysOf N) → notes ≡ notes_named keys names → note_keys notes ≡ filter (is_there keys) names
  keys_noted notes names keys same = ap note_keys (same ∙ notes_of_named names keys) ∙ names_noted (filter (is_there keys) names)

  pub noted_removed : (notes : List Note) (names : List (List ℕ)) (keys : KeysOf N) → notes ≡ notes_named keys names → removed (note_keys notes) keys ≡ removed names keys
  noted_removed notes names keys same = ap (λ ks. removed ks keys) (keys_noted notes names keys same) ∙ removed_there names keys

  pub noted_gone : (notes : List Note) (names : List (List ℕ)) (keys : KeysOf N) → notes ≡ notes_named keys names → notes_left notes keys ≡ map del_note (removed names keys).gone
  noted_gone notes names keys same =
      ap (λ ns. notes_left ns keys) (same ∙ notes_of_named names keys) ∙ notes_gone (filter (is_there keys) names) keys
      ∙ ap (λ after. map del_note after.gone) (removed_there names keys)

  pub noted_natives : (notes : List Note) (names : List (List ℕ)) (keys : KeysOf N) → notes ≡ notes_named keys names → natives_named keys (note_keys notes) ≡ natives_named keys names
  noted_natives notes names keys same = ap (natives_named keys) (keys_noted notes names keys same) ∙ natives_of_named names keys

  pub none_removed : (notes : List Note) (names : List (List ℕ)) (keys : KeysOf N) → notes ≡ notes_named keys names → notes ≡ [] → removed names keys ≡ record { keys = keys; gone = []; left = [] }
  none_removed notes names keys same none = sym (noted_removed notes names keys same) ∙ ap (λ ns. removed (note_keys ns) keys) none

  -- what DEL gives where a key goes
  pub told_removed : (after : Removed N) (words : List (List ℕ)) (notes : List Note) (count : ℕ) → notes ≡ map del_note after.gone → count ≡ length notes → 0 < count
      → record { reply = reply.Int (pos count); effects = own_words (codes "DEL") words ∷ []; notes = notes } ≡ told (deletes after words)
  told_removed after words notes count same counted some =
      let size : count ≡ length after.gone = counted ∙ ap length same ∙ mapped after.gone in
      let effects = some_noted after.gone words (omega (arith, size)) in
      ap (λ n. record { reply = reply.Int (pos n); effects = own_words (codes "DEL") words ∷ []; notes = notes }) size
      ∙ ap (λ es. record { reply = reply.Int (pos (length after.gone)); effects = es; notes = notes }) (sym effects)
      ∙ ap (λ ns. record { reply = reply.Int (pos (length after.gone)); effects = (if length after.gone == 0 then [] else own_words (codes "DEL") words ∷ []); notes = ns }) same

  -- there is room for what the other notes' keys have
  pub still_room : (note : Note) (rest notes : List Note) (keys next : KeysOf N) (len cap : ℕ) → notes ≡ note ∷ rest → next ≡ without keys note.key
      → len + length (natives_named keys (note_keys notes)) ≤ cap → len + length (native_in (value_at keys note.key)) + length (natives_named next (note_keys rest)) ≤ cap
  still_room note rest notes keys next len cap same step fits =
      let size : length (natives_named keys (note_keys notes)) ≡ length (native_in (value_at keys note.key)) + length (natives_named keys (note_keys rest)) =
      ap (λ ns. length (natives_named keys (note_keys ns))) same ∙ length-append (native_in (value_at keys note.key)) (natives_named keys (note_keys rest)) in
      let now : length (natives_named next (note_keys rest)) ≡ length (natives_named (without keys note.key) (note_keys rest)) = ap (λ k. length (natives_named k (note_keys rest))) step in
      let fewer = fewer_natives (note_keys rest) keys note.key in
      omega (arith, size, now, fewer, fits)

no_notes : (notes : List Note) → length notes ≡ 0 → notes ≡ []
no_notes [] e = refl
no_notes (note ∷ notes) e = absurd (omega (arith, e))

module _ {N : Type 0} where
  pub none_named : (notes : List Note) (names : List (List ℕ)) (keys : KeysOf N) → notes ≡ notes_named keys names → length notes ≡ 0 → removed names keys ≡ record { keys = keys; gone = []; left = [] }
  none_named notes names keys same none = none_removed notes names keys same (no_notes notes none)

  some_case : (name : List ℕ) (held : Option (Value N)) (after : Removed N) (names : List (List ℕ)) → (held ≡ None → 0 < length names → 0 < length after.gone)
      → 0 < length (if is_some held then name ∷ names else names) → 0 < length (goes_first name held after).gone
  some_case name None after names rest h = rest refl h
  some_case name (Some held) after names rest h = omega arith

  some_gone : (names : List (List ℕ)) (keys : KeysOf N) → 0 < length (filter (is_there keys) names) → 0 < length (removed names keys).gone
  some_gone [] keys h = absurd (omega (arith, h))
  some_gone (name ∷ more) keys h =
      some_case name (value_at keys name) (removed more (without keys name)) (filter (is_there keys) more)
      (λ none k. subst (λ (ks : KeysOf N). 0 < length (removed more ks).gone) (sym (without_absent keys name none)) (some_gone more keys k)) h

  -- where a key is there, one goes
  pub noted_some : (notes : List Note) (names : List (List ℕ)) (keys : KeysOf N) → notes ≡ notes_named keys names → 0 < length notes → 0 < length (map del_note (removed names keys).gone)
  noted_some notes names keys same some =
      let size = ap length (same ∙ notes_of_named names keys) ∙ mapped (filter (is_there keys) names) in
      let went = some_gone names keys (omega (arith, size, some)) in
      omega (arith, mapped (removed names keys).gone, went)
