-- The keys of a context that keeps what was put into it in a list. Serves the clauses of the calls
-- of Context for Shelf.
use Rattle.std.proofs.Common.{◌≡◌, ℕ, ◌<◌, ◌≤◌, arith, Bool, true, false, List, [], ◌∷◌, ◌++◌, length, get_or, set, map, Option, Some, None, refl, sym, ap, ◌∙◌, true≢false, suc, zero, if◌then◌else◌}
use Rattle.std.specs.Prelude.{◌&&◌, cond, find, position, nat_lt, reverse, slice_get}
use Rattle.std.specs.List.{list_all, position_or_len}
use Rattle.std.specs.Option.{option_and_then, option_map}
use Rattle.std.specs.Ordering.{nat_cmp}
use Rattle.std.specs.Cmp.Lexicographic.{bytes_decides, slice_cmp}
use Rattle.std.specs.Str.{bytes_eq}
use Rattle.std.specs.FinMap.{get-empty}
use Rattle.std.proofs.lemmas.Bool.Decides.{nat_tests}
use Rattle.std.proofs.lemmas.List.{map-set, reverse-append, set-get_or}
use Rattle.std.proofs.lemmas.List.Folds.{find_at, find-set, find_past, list_all_at}
use Rattle.std.proofs.lemmas.List.Quantifiers.{position-Some}
use Rattle.std.proofs.lemmas.Option.{cond_some, slice_get-get_or, slice_get_past}
use Rattle.core_types.proofs.KeyLemmas.{entry_at-with_entry, entry_at-without, same_keys}
use Rattle.core_types.specs.Keys.{Entry, Keys, Native, deadline_at, entry_at, value_at, with_changed, with_entry, with_value, without}
use Rattle.core_types.specs.declared.value.Value.TheVariants as value
use Rattle.core_types.specs.declared.effect.Effect.{Effect}
use Rattle.core_types.specs.declared.note.Note.{Note}
use Rattle.module_laws.specs.Told.{KeepsTypes, is_typed, with_deleted, with_keys, with_put, with_set}
use Rattle.module_laws.specs.Words.{Bytes}
use Rattle.module_tests.specs.Shelf.{Kept, has_key, is_as_put, keys_of, kept_entry, shelf_told}

module _ {X : Type 0} (t : X → Bool) where
  -- all pass as before where what passes, or fails, at a place does as before
  all_same : (xs : List X) (place : ℕ) (d y : X) → t y ≡ t (get_or xs place d) → list_all t (set xs place y) ≡ list_all t xs
  all_same [] place d y same = refl
  all_same (x ∷ xs) zero d y same = ap (λ b. b && list_all t xs) same
  all_same (x ∷ xs) (suc place) d y same = ap (λ b. t x && b) (all_same xs place d y same)

  and_false : (a b : Bool) → b ≡ false → (a && b) ≡ false
  and_false true b fails = fails
  and_false false b fails = refl

  one_fails : (xs : List X) (place : ℕ) (y : X) → place < length xs → t y ≡ false → list_all t (set xs place y) ≡ false
  one_fails [] place y within fails = absurd (omega (arith, within))
  one_fails (x ∷ xs) zero y within fails = ap (λ b. b && list_all t xs) fails
  one_fails (x ∷ xs) (suc place) y within fails = and_false (t x) _ (one_fails xs place y (omega (arith, within)) fails)

  passes_case : (xs : List X) (place : ℕ) (d : X) (b : Bool) → place < length xs → list_all t xs ≡ true → t (get_or xs place d) ≡ b → b ≡ true
  passes_case xs place d true within all is = refl
  passes_case xs place d false within all is = absurd (true≢false (sym all ∙ list_all_at t xs place d within is))

live_case : (live : Bool) (key : Bytes) (native : Native) (keys : Keys) (other : Bytes)
    → entry_at (if live then with_value keys key (value.Native native) else without keys key) other
    ≡ (if bytes_eq other key then (if live then Some (record { value = value.Native native; deadline = None }) else None) else entry_at keys other)
live_case true key native keys other = entry_at-with_entry keys key _ other
live_case false key native keys other = entry_at-without keys key other

if_found : {X Y : Type 0} (b : Bool) (f : X → Option Y) (x : X) (rest : Option X) → (if b then f x else option_and_then f rest) ≡ option_and_then f (if b then Some x else rest)
if_found true f x rest = refl
if_found false f x rest = refl

undated_case : (live : Bool) (native : Native) → option_and_then (λ (entry : Entry Native). entry.deadline) (if live then Some (record { value = value.Native native; deadline = None }) else None) ≡ None
undated_case true native = refl
undated_case false native = refl

set_case : (typed : Bool) (keys : Keys) (key : Bytes) (native : Native) → deadline_at keys key ≡ None → (if typed then with_changed keys key (value.Native native) else with_value keys key (value.Native native)) ≡ with_value keys key (value.Native native)
set_case true keys key native none = ap (λ (deadline : Option ℕ). with_entry keys key (record { value = value.Native native; deadline = deadline })) none
set_case false keys key native none = refl

-- a key has what its newest place leaves under it
pub entry_found : (slots : List Kept) (key : Bytes) → entry_at (keys_of slots) key ≡ option_and_then kept_entry (find (has_key key) slots)
entry_found [] key = get-empty (slice_cmp nat_cmp) key
entry_found (x ∷ older) key =
    live_case x.live x.key x.native (keys_of older) key
    ∙ ap (λ (o : Option (Entry Native)). if has_key key x then kept_entry x else o) (entry_found older key)
    ∙ if_found (has_key key x) kept_entry x (find (has_key key) older)

undated_found : (o : Option Kept) → option_and_then (λ (entry : Entry Native). entry.deadline) (option_and_then kept_entry o) ≡ None
undated_found None = refl
undated_found (Some x) = undated_case x.live x.native

-- no key has a deadline
pub undated : (slots : List Kept) (key : Bytes) → deadline_at (keys_of slots) key ≡ None
undated slots key = ap (option_and_then (λ (entry : Entry Native). entry.deadline)) (entry_found slots key) ∙ undated_found (find (has_key key) slots)

-- what is set is put, and what is changed too
pub set_put : (slots : List Kept) (key : Bytes) (native : Native) → with_set key native (keys_of slots) ≡ with_value (keys_of slots) key (value.Native native)
set_put slots key native = set_case (is_typed native.name (value_at (keys_of slots) key)) (keys_of slots) key native (undated slots key)

pub changed_put : (slots : List Kept) (key : Bytes) (native : Native) → with_changed (keys_of slots) key (value.Native native) ≡ with_value (keys_of slots) key (value.Native native)
changed_put slots key native = set_case true (keys_of slots) key native (undated slots key)

pub names_same : (slots : List Kept) (place : ℕ) (d y : Kept) → y.name ≡ (get_or slots place d).name → map (λ x. x.name) (set slots place y) ≡ map (λ x. x.name) slots
names_same slots place d y same =
    map-set (λ x. x.name) slots place y
    ∙ ap (set (map (λ x. x.name) slots) place) same
    ∙ sym (map-set (λ x. x.name) slots place (get_or slots place d))
    ∙ ap (map (λ x. x.name)) (set-get_or slots place d)

none_past : (place long : ℕ) → cond (nat_lt place long) (Some place) None ≡ None → long ≤ place
none_past place long none = grind (arith, nat_tests)

-- a key that no place has is not there
pub missing : (slots : List Kept) (key : Bytes) → position (has_key key) slots ≡ None → entry_at (keys_of slots) key ≡ None
missing slots key none =
    let p = position_or_len (has_key key) slots in
    entry_found slots key ∙ ap (option_and_then kept_entry) (find_at (has_key key) slots ∙ slice_get_past slots p (none_past p (length slots) none))

module _ (slots : List Kept) (key : Bytes) (place : ℕ) (newest : position (has_key key) slots ≡ Some place) (d : Kept) where
  place_first : (nat_lt (position_or_len (has_key key) slots) (length slots) ≡ true) × (position_or_len (has_key key) slots ≡ place)
  place_first = cond_some _ _ place newest

  pub within : place < length slots
  within = (position-Some (has_key key) slots place d newest).0

  pub key_here : (get_or slots place d).key ≡ key
  key_here = sym ((bytes_decides key _).0 (position-Some (has_key key) slots place d newest).1)

  found_here : find (has_key key) slots ≡ Some (get_or slots place d)
  found_here = find_at (has_key key) slots ∙ ap (slice_get slots) place_first.1 ∙ slice_get-get_or slots place d within

  -- what the place has is what the key has
  entry_here : (live : Bool) → (get_or slots place d).live ≡ live → entry_at (keys_of slots) key ≡ (if live then Some (record { value = value.Native (get_or slots place d).native; deadline = None }) else None)
  entry_here live is =
      entry_found slots key ∙ ap (option_and_then kept_entry) found_here
      ∙ ap (λ (b : Bool). if b then Some (record { value = value.Native (get_or slots place d).native; deadline = None }) else None) is

  pub hidden : (get_or slots place d).live ≡ false → entry_at (keys_of slots) key ≡ None
  hidden gone = entry_here false gone

  pub shown : (get_or slots place d).live ≡ true → entry_at (keys_of slots) key ≡ Some (record { value = value.Native (get_or slots place d).native; deadline = None })
  shown live = entry_here true live

  other_case : (y : Kept) → y.key ≡ key → (other : Bytes) (b : Bool) → bytes_eq other key ≡ b → find (has_key other) (set slots place y) ≡ (if b then Some y else find (has_key other) slots)
  other_case y same other true is_key =
      let one : other ≡ key = (bytes_decides other key).0 is_key in
      ap (λ (k : Bytes). find (has_key k) (set slots place y)) one
      ∙ find-set (has_key key) slots place y (sym place_first.1) within ((bytes_decides key y.key).1 (sym same))
  other_case y same other false differs =
      find_past (has_key other) slots place y d (ap (bytes_eq other) key_here ∙ differs) (ap (bytes_eq other) same ∙ differs)

  updated : (y : Kept) → y.key ≡ key → (other : Bytes) → entry_at (keys_of (set slots place y)) other ≡ (if bytes_eq other key then kept_entry y else entry_at (keys_of slots) other)
  updated y same other =
      entry_found (set slots place y) other ∙ ap (option_and_then kept_entry) (other_case y same other (bytes_eq other key) refl)
      ∙ sym (if_found (bytes_eq other key) kept_entry y (find (has_key other) slots))
      ∙ ap (λ (o : Option (Entry Native)). if bytes_eq other key then kept_entry y else o) (sym (entry_found slots other))

  value_here : (get_or slots place d).live ≡ true → value_at (keys_of slots) key ≡ Some (value.Native (get_or slots place d).native)
  value_here live = ap (option_map (λ entry. entry.value)) (shown live)

  as_put : (y : Kept) → y.name ≡ (get_or slots place d).name → (get_or slots place d).native.name ≡ y.native.name → is_as_put y ≡ is_as_put (get_or slots place d)
  as_put y same typed =
      ap (λ n. bytes_eq n y.name) (sym typed) ∙ ap (bytes_eq (get_or slots place d).native.name) same

  foreign_case : (y : Kept) (b : Bool) → y.name ≡ (get_or slots place d).name → bytes_eq (get_or slots place d).native.name y.native.name ≡ false → is_as_put (get_or slots place d) ≡ true → is_as_put y ≡ b → b ≡ false
  foreign_case y false same foreign was is = refl
  foreign_case y true same foreign was is =
      let now : y.native.name ≡ y.name = (bytes_decides y.native.name y.name).0 is in
      let then_ : (get_or slots place d).native.name ≡ (get_or slots place d).name = (bytes_decides _ _).0 was in
      absurd (true≢false (sym ((bytes_decides _ y.native.name).1 (then_ ∙ sym same ∙ sym now)) ∙ foreign))

  -- a value of the same type that is written at the place leaves each as it was put, and one of another
  -- does not
  pub types_kept : (y : Kept) → y.name ≡ (get_or slots place d).name → (get_or slots place d).live ≡ true
      → KeepsTypes y.native (value_at (keys_of slots) key) (list_all is_as_put slots) (list_all is_as_put (set slots place y))
  types_kept y same live = record {
    same = λ typed. all_same is_as_put slots place d y
        (as_put y same ((bytes_decides _ y.native.name).0 (sym (ap (is_typed y.native.name) (value_here live)) ∙ typed)));
    other = λ foreign all. one_fails is_as_put slots place y within
        (foreign_case y _ same (sym (ap (is_typed y.native.name) (value_here live)) ∙ foreign)
        (passes_case is_as_put slots place d _ within all refl) refl);
  }

  -- one that is marked as gone stays as it was put
  pub types_gone : (y : Kept) → y.name ≡ (get_or slots place d).name → y.native ≡ (get_or slots place d).native → list_all is_as_put (set slots place y) ≡ list_all is_as_put slots
  types_gone y same native = all_same is_as_put slots place d y (as_put y same (ap (λ n. n.name) (sym native)))

  -- a value that is changed at the place is changed under the key
  pub put_here : (y : Kept) → y.key ≡ key → y.live ≡ true → keys_of (set slots place y) ≡ with_changed (keys_of slots) key (value.Native y.native)
  put_here y same live =
      same_keys _ _ (λ other. updated y same other
      ∙ ap (λ (b : Bool). if bytes_eq other key then (if b then Some (record { value = value.Native y.native; deadline = None }) else None) else entry_at (keys_of slots) other) live
      ∙ sym (entry_at-with_entry (keys_of slots) key _ other))
      ∙ sym (changed_put slots key y.native)

  -- and one that is marked as gone is removed
  pub gone_here : (y : Kept) → y.key ≡ key → y.live ≡ false → keys_of (set slots place y) ≡ without (keys_of slots) key
  gone_here y same gone =
      same_keys _ _ (λ other. updated y same other
      ∙ ap (λ (b : Bool). if bytes_eq other key then (if b then Some (record { value = value.Native y.native; deadline = None }) else None) else entry_at (keys_of slots) other) gone
      ∙ sym (entry_at-without (keys_of slots) key other))

-- a value that was put in has the type that it was put in with
pub types_put : (slots more : List Kept) (key : Bytes) (native : Native) → more ≡ record { key = key; name = native.name; native = native; live = true } ∷ slots
    → list_all is_as_put more ≡ list_all is_as_put slots
types_put slots more key native is =
    ap (list_all is_as_put) is ∙ ap (λ b. b && list_all is_as_put slots) ((bytes_decides native.name native.name).1 refl)

absent_case : (b : Bool) (keys : Keys) (key other : Bytes) → bytes_eq other key ≡ b → entry_at keys key ≡ None → (if b then None else entry_at keys other) ≡ entry_at keys other
absent_case true keys key other same none = sym none ∙ ap (entry_at keys) (sym ((bytes_decides other key).0 same))
absent_case false keys key other differs none = refl

-- a key that is not there is removed without a change
pub absent_without : (keys : Keys) (key : Bytes) → entry_at keys key ≡ None → without keys key ≡ keys
absent_without keys key none =
    same_keys _ keys (λ other. entry_at-without keys key other ∙ absent_case (bytes_eq other key) keys key other refl none)

module _ (slots more : List Kept) (effects : List Effect) (notes : List Note) (moment : ℕ) where
  -- the keys are these, and nothing else is told anew
  pub told_with : (keys : Keys) → keys_of more ≡ keys → map (λ kept. kept.name) more ≡ map (λ kept. kept.name) slots → shelf_told more effects notes moment ≡ with_keys keys (shelf_told slots effects notes moment)
  told_with keys are same =
      ap (λ k. record (with_keys k (shelf_told slots effects notes moment)) { added = reverse (map (λ kept. kept.name) more) }) are
      ∙ ap (λ names. record (with_keys keys (shelf_told slots effects notes moment)) { added = reverse names }) same

  -- a value was put in front
  pub told_put : (key : Bytes) (native : Native) → more ≡ record { key = key; name = native.name; native = native; live = true } ∷ slots
      → shelf_told more effects notes moment ≡ with_put key native true (shelf_told slots effects notes moment)
  told_put key native is =
      ap (λ s. shelf_told s effects notes moment) is
      ∙ ap (λ names. record (with_keys (with_value (keys_of slots) key (value.Native native)) (shelf_told slots effects notes moment)) { added = names }) (reverse-append (native.name ∷ []) (map (λ kept. kept.name) slots))
      ∙ ap (λ k. record (with_keys k (shelf_told slots effects notes moment)) { added = reverse (map (λ kept. kept.name) slots) ++ native.name ∷ [] }) (sym (set_put slots key native))

  pub told_absent : (key : Bytes) → entry_at (keys_of slots) key ≡ None → shelf_told slots effects notes moment ≡ with_deleted key (shelf_told slots effects notes moment)
  told_absent key none = ap (λ k. with_keys k (shelf_told slots effects notes moment)) (sym (absent_without (keys_of slots) key none))
