-- What holds of two sets that are joined. Serves the laws of ModuleSet for Two, and the clauses of
-- its calls.
use Rattle.std.proofs.Common.{◌≡◌, ℕ, suc, zero, ◌+◌, ◌-◌, ◌<◌, ◌≤◌, List, [], ◌∷◌, ◌++◌, Bool, true, false, Option, Some, None, refl, sym, ap, subst, ◌∙◌, true≢false, arith, if◌then◌else◌, ⊎_elim, length}
use Rattle.std.specs.Prelude.{◌||◌, is_some, sum_by, Ok, not}
use Rattle.std.specs.Option.{option_map, option_or}
use Rattle.std.proofs.lemmas.Iterator.Adapters.{position_from-zero}
use Rattle.std.specs.List.{list_any, position_from}
use Rattle.std.specs.Str.{bytes_eq}
use Rattle.std.specs.Cmp.Lexicographic.{bytes_decides}
use Rattle.std.proofs.lemmas.Bool.{cases_lt, cond_below, cond_above}
use Rattle.std.proofs.Math.Nat.{zero-add, suc-add}
use Rattle.std.proofs.lemmas.List.Sums.{sum_by-append}
use Rattle.std.proofs.lemmas.Option.{none-some, same_Some}
use Rattle.core_types.specs.Keys.{Native}
use Rattle.module_laws.specs.Laws.{IsLawful}
use Rattle.module_laws.specs.Meaning.{Meaning, type_of}
use Rattle.module_laws.specs.Runs.{State}
use Rattle.module_laws.specs.Sets.{Modules, held, by_half, joined, listed, types_of, IsOwnValue, SameBut, place_in, has_name, has_row, shares_command, command_count, AreApart, AreLawful}
use Rattle.module_laws.specs.Sides.{native_of, place_of_half}
use Rattle.module_laws.specs.Types.{NativeType, has_type, are_apart}
use Rattle.module_laws.specs.declared.either.Either.{Either}
use Rattle.module_laws.specs.declared.either.Either.TheVariants as either

or_false : (a b : Bool) → (a || b) ≡ false → (a ≡ false) × (b ≡ false)
or_false true b e = absurd (true≢false e)
or_false false b e = (refl, e)

append_case : (b : Bool) (i : ℕ) (rest front back : Option ℕ) → rest ≡ option_or front back
    → (if b then Some i else rest) ≡ option_or (if b then Some i else front) back
append_case true i rest front back same = refl
append_case false i rest front back same = same

none_below : (p : ℕ) → p < 0 → ⊥
none_below p below = omega arith

module _ {X : Type 0} where
  -- below the size of the first half stands what it has, and from there on what the second has
  pub in_first : (n p : ℕ) (f g : ℕ → X) → p < n → by_half n f g p ≡ f p
  in_first n p f g below = sym (cond_below p n (f p) (g (p - n)) below)

  pub in_second : (n p : ℕ) (f g : ℕ → X) → n ≤ p → by_half n f g p ≡ g (p - n)
  in_second n p f g above = sym (cond_above p n (f p) (g (p - n)) (g (p - n)) above refl)

  pub listed_same : (n : ℕ) (f g : ℕ → X) → ((p : ℕ) → p < n → f p ≡ g p) → listed n f ≡ listed n g
  listed_same zero f g same = refl
  listed_same (suc n) f g same =
      ap (λ x. x ∷ listed n (λ p. f (suc p))) (same 0 (omega arith))
      ∙ ap (λ xs. g 0 ∷ xs)
      (listed_same n (λ p. f (suc p)) (λ p. g (suc p))
      (λ p below. same (suc p) (omega (arith, below))))

  shifted : (n : ℕ) (f g : ℕ → X) (p : ℕ)
      → by_half (suc n) f g (suc p) ≡ by_half n (λ q. f (suc q)) g p
  shifted n f g p =
      ⊎_elim
      (λ below. in_first (suc n) (suc p) f g (omega (arith, below))
      ∙ sym (in_first n p (λ q. f (suc q)) g below))
      (λ above. let same : suc p - suc n ≡ p - n =
      omega arith in in_second (suc n) (suc p) f g (omega (arith, above)) ∙ ap g same
      ∙ sym (in_second n p (λ q. f (suc q)) g above))
      (cases_lt p n)

  -- what two halves have, in order
  pub listed_joined : (n m : ℕ) (f g : ℕ → X)
      → listed (n + m) (by_half n f g) ≡ listed n f ++ listed m g
  listed_joined zero m f g =
      ap (λ k. listed k (by_half 0 f g)) (zero-add m)
      ∙ listed_same m (by_half 0 f g) g
      (λ p below. let same : p - 0 ≡ p = omega arith in in_second 0 p f g (omega arith) ∙ ap g same)
  listed_joined (suc n) m f g =
      ap (λ k. listed k (by_half (suc n) f g)) (suc-add n m)
      ∙ ap (λ x. x ∷ listed (n + m) (λ p. by_half (suc n) f g (suc p)))
      (in_first (suc n) 0 f g (omega arith))
      ∙ ap (λ xs. f 0 ∷ xs)
      (listed_same (n + m) _ (by_half n (λ p. f (suc p)) g) (λ p below. shifted n f g p)
      ∙ listed_joined n m (λ p. f (suc p)) g)

  head_none : (t : X → Bool) (n : ℕ) (f : ℕ → X) (i : ℕ) (b : Bool) → t (f 0) ≡ b
      → is_some (if b then Some i else position_from t (i + 1) (listed n (λ q. f (suc q)))) ≡ false
      → (is_some (position_from t (i + 1) (listed n (λ q. f (suc q)))) ≡ false → (p : ℕ) → p < n
      → t (f (suc p)) ≡ false) → (p : ℕ) → p < suc n → t (f p) ≡ false
  head_none t n f i true is none rest p below = absurd (true≢false none)
  head_none t n f i false is none rest zero below = is
  head_none t n f i false is none rest (suc p) below = rest none p (omega (arith, below))

  -- a test that none passes fails at each place
  pub none_at : (t : X → Bool) (n : ℕ) (f : ℕ → X) (i : ℕ)
      → is_some (position_from t i (listed n f)) ≡ false → (p : ℕ) → p < n → t (f p) ≡ false
  none_at t zero f i none p below = absurd (none_below p below)
  none_at t (suc n) f i none p below =
      head_none t n f i (t (f 0)) refl none
      (λ more q within. none_at t n (λ r. f (suc r)) (i + 1) more q within) p below

  head_any : (t : X → Bool) (n : ℕ) (f : ℕ → X) (b : Bool) → t (f 0) ≡ b
      → (b || list_any t (listed n (λ q. f (suc q)))) ≡ false
      → (list_any t (listed n (λ q. f (suc q))) ≡ false → (p : ℕ) → p < n → t (f (suc p)) ≡ false)
      → (p : ℕ) → p < suc n → t (f p) ≡ false
  head_any t n f true is none rest p below = absurd (true≢false none)
  head_any t n f false is none rest zero below = is
  head_any t n f false is none rest (suc p) below = rest none p (omega (arith, below))

  pub any_none_at : (t : X → Bool) (n : ℕ) (f : ℕ → X) → list_any t (listed n f) ≡ false → (p : ℕ)
      → p < n → t (f p) ≡ false
  any_none_at t zero f none p below = absurd (none_below p below)
  any_none_at t (suc n) f none p below =
      head_any t n f (t (f 0)) refl none
      (λ more q within. any_none_at t n (λ r. f (suc r)) more q within) p below

  -- a test that fails at each place is passed by none
  pub none_listed : (t : X → Bool) (n : ℕ) (f : ℕ → X) → ((p : ℕ) → p < n → t (f p) ≡ false)
      → list_any t (listed n f) ≡ false
  none_listed t zero f none = refl
  none_listed t (suc n) f none =
      ap (λ b. b || list_any t (listed n (λ q. f (suc q)))) (none 0 (omega arith))
      ∙ none_listed t n (λ q. f (suc q)) (λ p below. none (suc p) (omega (arith, below)))

  pub length-listed : (n : ℕ) (f : ℕ → X) → length (listed n f) ≡ n
  length-listed zero f = refl
  length-listed (suc n) f = ap suc (length-listed n (λ p. f (suc p)))

  from_case : (b : Bool) (t : X → Bool) (i n : ℕ) (rest : Option ℕ) (more : Option ℕ)
      → rest ≡ option_map (λ p. n + p) more
      → (if b then Some (n + i) else rest) ≡ option_map (λ p. n + p) (if b then Some i else more)
  from_case true t i n rest more same = refl
  from_case false t i n rest more same = same

  shift_from : (t : X → Bool) (i n : ℕ) (xs : List X)
      → position_from t (n + i) xs ≡ option_map (λ p. n + p) (position_from t i xs)
  shift_from t i n [] = refl
  shift_from t i n (x ∷ xs) =
      let next : n + i + 1 ≡ n + (i + 1) = omega arith in
      from_case (t x) t i n (position_from t (n + i + 1) xs) (position_from t (i + 1) xs)
      (ap (λ k. position_from t k xs) next ∙ shift_from t (i + 1) n xs)

  from_append : (t : X → Bool) (i : ℕ) (xs ys : List X)
      → position_from t i (xs ++ ys)
      ≡ option_or (position_from t i xs) (position_from t (i + length xs) ys)
  from_append t i [] ys = let same : i ≡ i + 0 = omega arith in ap (λ k. position_from t k ys) same
  from_append t i (x ∷ xs) ys =
      let next : i + 1 + length xs ≡ i + suc (length xs) = omega arith in
      append_case (t x) i (position_from t (i + 1) (xs ++ ys)) (position_from t (i + 1) xs)
      (position_from t (i + suc (length xs)) ys)
      (from_append t (i + 1) xs ys
      ∙ ap (λ k. option_or (position_from t (i + 1) xs) (position_from t k ys)) next)

  -- where a wider test passes nothing, a narrower one passes nothing
  pub none_narrower : (t u : X → Bool) (xs : List X) → ((x : X) → t x ≡ false → u x ≡ false)
      → list_any t xs ≡ false → list_any u xs ≡ false
  none_narrower t u [] less none = refl
  none_narrower t u (x ∷ xs) less none =
      let both = or_false (t x) (list_any t xs) none in
      ap (λ b. b || list_any u xs) (less x both.0) ∙ none_narrower t u xs less both.1

-- what a function gives of each half
map_half : {X Y : Type 0} (n : ℕ) (h : X → Y) (f g : ℕ → X) (p : ℕ)
    → h (by_half n f g p) ≡ by_half n (λ q. h (f q)) (λ q. h (g q)) p
map_half n h f g p =
    ⊎_elim (λ below. ap h (in_first n p f g below)
    ∙ sym (in_first n p (λ q. h (f q)) (λ q. h (g q)) below))
    (λ above. ap h (in_second n p f g above)
    ∙ sym (in_second n p (λ q. h (f q)) (λ q. h (g q)) above)) (cases_lt p n)

pub types_joined : (a b : Modules) (types others : List NativeType) → types ≡ types_of a
    → others ≡ types_of b → types ++ others ≡ types_of (joined a b)
types_joined a b types others are are_others =
    ap (λ ts. ts ++ others) are ∙ ap (λ ts. types_of a ++ ts) are_others
    ∙ sym (listed_same (a.size + b.size)
    (λ p. type_of (by_half a.size a.meaning_at b.meaning_at p))
    (by_half a.size (λ p. type_of (a.meaning_at p)) (λ p. type_of (b.meaning_at p)))
    (λ p below. map_half a.size type_of a.meaning_at b.meaning_at p)
    ∙ listed_joined a.size b.size (λ p. type_of (a.meaning_at p)) (λ p. type_of (b.meaning_at p)))

module _ {L R : Type 0} (a b : Modules) (f : L → ℕ) (g : R → ℕ) (left : L → Native)
    (right : R → Native) where
  own_first : (value : L) → IsOwnValue a (f value) (left value).name
      → IsOwnValue (joined a b) (f value) (left value).name
  own_first value own = record {
    there = omega (arith, own.there);
    named = own.named ∙ ap
        (λ m. m.name) (sym (in_first a.size (f value) a.meaning_at b.meaning_at own.there));
  }

  at_second : (p : ℕ) → by_half a.size a.meaning_at b.meaning_at (a.size + p) ≡ b.meaning_at p
  at_second p =
      let same : a.size + p - a.size ≡ p = omega arith in
      in_second a.size (a.size + p) a.meaning_at b.meaning_at (omega arith) ∙ ap b.meaning_at same

  own_second : (value : R) → IsOwnValue b (g value) (right value).name
      → IsOwnValue (joined a b) (a.size + g value) (right value).name
  own_second value own = record {
    there = omega (arith, own.there);
    named = own.named ∙ ap (λ m. m.name) (sym (at_second (g value)));
  }

  pub owned_by_half : ((value : L) → IsOwnValue a (f value) (left value).name)
      → ((value : R) → IsOwnValue b (g value) (right value).name) → (value : Either L R)
      → IsOwnValue (joined a b) (place_of_half a.size f g value) (native_of left right value).name
  owned_by_half first second (either.Left value) = own_first value (first value)
  owned_by_half first second (either.Right value) = own_second value (second value)

  pub half_reads_back : ((value : L) → IsOwnValue a (f value) (left value).name)
      → ((value : L) → (a.meaning_at (f value)).loads (left value).items
      (a.meaning_at (f value)).version ≡ Ok (left value).items)
      → ((value : R) → (b.meaning_at (g value)).loads (right value).items
      (b.meaning_at (g value)).version ≡ Ok (right value).items)
      → (value : Either L R)
      → ((joined a b).meaning_at (place_of_half a.size f g value)).loads
      (native_of left right value).items
      ((joined a b).meaning_at (place_of_half a.size f g value)).version
      ≡ Ok (native_of left right value).items
  half_reads_back own first second (either.Left value) =
      ap (λ m. m.loads (left value).items m.version)
      (in_first a.size (f value) a.meaning_at b.meaning_at (own value).there) ∙ first value
  half_reads_back own first second (either.Right value) =
      ap (λ m. m.loads (right value).items m.version) (at_second (g value)) ∙ second value

flip_eq : (x y : List ℕ) → bytes_eq x y ≡ false → (b : Bool) → bytes_eq y x ≡ b → b ≡ false
flip_eq x y differ true same =
    absurd (true≢false (sym ((bytes_decides x y).1 (sym ((bytes_decides y x).0 same))) ∙ differ))
flip_eq x y differ false same = refl

unnamed : (b : Modules) (name : List ℕ) → has_name b name ≡ false
    → is_some (position_from (λ m. bytes_eq m.name name) 0 (listed b.size b.meaning_at)) ≡ false
unnamed b name none =
    ap is_some (sym (position_from-zero (λ m. bytes_eq m.name name) (listed b.size b.meaning_at)))
    ∙ none

-- a module that shares neither its name nor a command with a set is apart from each module of it
pub apart_from : (meaning : Meaning) (b : Modules) → has_name b meaning.name ≡ false
    → shares_command meaning b ≡ false → (p : ℕ) → p < b.size → AreApart meaning (b.meaning_at p)
apart_from meaning b names commands p below = record {
  names = flip_eq (b.meaning_at p).name meaning.name
      (none_at (λ m. bytes_eq m.name meaning.name) b.size b.meaning_at 0
      (unnamed b meaning.name names) p below) (bytes_eq meaning.name (b.meaning_at p).name) refl;
  commands = none_narrower _ (λ row. has_row (b.meaning_at p).rows row.name) meaning.rows
      (λ row none. any_none_at
      (λ m. has_row m.rows row.name) b.size b.meaning_at none p below) commands;
}

-- two sets have the commands of both
count_joined : (a b : Modules) → command_count (joined a b) ≡ command_count a + command_count b
count_joined a b =
    ap (sum_by (λ m. length m.rows)) (listed_joined a.size b.size a.meaning_at b.meaning_at)
    ∙ sum_by-append (λ m. length m.rows) (listed a.size a.meaning_at) (listed b.size b.meaning_at)

module _ (a b : Modules) (first : AreLawful a) (second : AreLawful b)
    (names : (p : ℕ) → p < a.size → has_name b (a.meaning_at p).name ≡ false)
    (commands : (p : ℕ) → p < a.size → shares_command (a.meaning_at p) b ≡ false) where
  each_lawful : (p : ℕ) → p < a.size + b.size
      → IsLawful (by_half a.size a.meaning_at b.meaning_at p)
  each_lawful p within =
      ⊎_elim
      (λ below. subst IsLawful (sym (in_first a.size p a.meaning_at b.meaning_at below))
      (first.each p below))
      (λ above. subst IsLawful (sym (in_second a.size p a.meaning_at b.meaning_at above))
      (second.each (p - a.size) (omega (arith, within, above))))
      (cases_lt p a.size)

  apart_at : (p q : ℕ) (m n : Meaning) → by_half a.size a.meaning_at b.meaning_at p ≡ m
      → by_half a.size a.meaning_at b.meaning_at q ≡ n → AreApart m n
      → AreApart (by_half a.size a.meaning_at b.meaning_at p)
      (by_half a.size a.meaning_at b.meaning_at q)
  apart_at p q m n is_m is_n apart =
      subst (λ x. AreApart x (by_half a.size a.meaning_at b.meaning_at q)) (sym is_m)
      (subst (λ y. AreApart m y) (sym is_n) apart)

  all_apart : (p q : ℕ) → p < q → q < a.size + b.size
      → AreApart (by_half a.size a.meaning_at b.meaning_at p)
      (by_half a.size a.meaning_at b.meaning_at q)
  all_apart p q before within =
      ⊎_elim
      (λ q_below. apart_at p q (a.meaning_at p) (a.meaning_at q)
      (in_first a.size p a.meaning_at b.meaning_at (omega (arith, before, q_below)))
      (in_first a.size q a.meaning_at b.meaning_at q_below) (first.apart p q before q_below))
      (λ q_above. ⊎_elim
      (λ p_below. apart_at p q (a.meaning_at p) (b.meaning_at (q - a.size))
      (in_first a.size p a.meaning_at b.meaning_at p_below)
      (in_second a.size q a.meaning_at b.meaning_at q_above)
      (apart_from (a.meaning_at p) b (names p p_below) (commands p p_below) (q - a.size)
      (omega (arith, within, q_above))))
      (λ p_above. apart_at p q (b.meaning_at (p - a.size)) (b.meaning_at (q - a.size))
      (in_second a.size p a.meaning_at b.meaning_at p_above)
      (in_second a.size q a.meaning_at b.meaning_at q_above)
      (second.apart (p - a.size) (q - a.size) (omega (arith, before, p_above))
      (omega (arith, within, q_above))))
      (cases_lt p a.size))
      (cases_lt q a.size)

  pub two_lawful : a.size + b.size ≤ 200 → command_count a + command_count b ≤ 900
      → AreLawful (joined a b)
  two_lawful few few_commands = record {
    each = each_lawful;
    apart = all_apart;
    few = few;
    few_commands = omega (arith, few_commands, count_joined a b);
  }

-- no module of either half has freed more values than it has made
pub half_counted : (a b : Modules) (f g : ℕ → State)
    → ((p : ℕ) → p < a.size → (f p).freed ≤ (f p).made)
    → ((p : ℕ) → p < b.size → (g p).freed ≤ (g p).made) → (p : ℕ) → p < a.size + b.size
    → (by_half a.size f g p).freed ≤ (by_half a.size f g p).made
half_counted a b f g first second p within =
    ⊎_elim
    (λ below. subst (λ s. s.freed ≤ s.made) (sym (in_first a.size p f g below)) (first p below))
    (λ above. subst (λ s. s.freed ≤ s.made) (sym (in_second a.size p f g above))
    (second (p - a.size) (omega (arith, within, above))))
    (cases_lt p a.size)

-- a call on a module of one half leaves all others
pub others_first : (a b : Modules) (place : ℕ) (f f' g : ℕ → State) → SameBut a place f f'
    → SameBut (joined a b) place (by_half a.size f g) (by_half a.size f' g)
others_first a b place f f' g same q within other =
    ⊎_elim
    (λ below. in_first a.size q f' g below ∙ same q below other ∙ sym (in_first a.size q f g below))
    (λ above. in_second a.size q f' g above ∙ sym (in_second a.size q f g above))
    (cases_lt q a.size)

pub others_second : (a b : Modules) (place : ℕ) (f g g' : ℕ → State) → a.size ≤ place
    → SameBut b (place - a.size) g g'
    → SameBut (joined a b) place (by_half a.size f g) (by_half a.size f g')
others_second a b place f g g' behind same q within other =
    ⊎_elim
    (λ below. in_first a.size q f g' below ∙ sym (in_first a.size q f g below))
    (λ above. in_second a.size q f g' above
    ∙ same (q - a.size) (omega (arith, within, above))
    (λ e. other (omega (arith, e, above, behind)))
    ∙ sym (in_second a.size q f g above))
    (cases_lt q a.size)

-- the types of two sets that share no name are apart
pub types_apart : (a b : Modules) (types others : List NativeType) → types ≡ types_of a
    → others ≡ types_of b → ((p : ℕ) → p < a.size → has_name b (a.meaning_at p).name ≡ false)
    → are_apart types others ≡ true
types_apart a b types others are are_others names =
    ap (λ ts. are_apart ts others) are ∙ ap (λ ts. are_apart (types_of a) ts) are_others
    ∙ ap not (none_listed (λ t. has_type (types_of b) t.name) a.size (λ p. type_of (a.meaning_at p))
    (λ p below. none_listed (λ t. bytes_eq (a.meaning_at p).name t.name) b.size
    (λ q. type_of (b.meaning_at q))
    (λ q within. flip_eq (b.meaning_at q).name (a.meaning_at p).name
    (none_at (λ m. bytes_eq m.name (a.meaning_at p).name) b.size b.meaning_at 0
    (unnamed b (a.meaning_at p).name (names p below)) q within)
    (bytes_eq (a.meaning_at p).name (b.meaning_at q).name) refl)))

-- the place of a name in two sets
place_joined : (a b : Modules) (name : List ℕ)
    → place_in (joined a b) name
    ≡ option_or (place_in a name) (option_map (λ p. a.size + p) (place_in b name))
place_joined a b name =
    let t : Meaning → Bool = λ m. bytes_eq m.name name in
    let xs = listed a.size a.meaning_at in let ys = listed b.size b.meaning_at in
    let end : 0 + length xs ≡ a.size + 0 = omega (arith, length-listed a.size a.meaning_at) in
    position_from-zero t (listed (a.size + b.size) (by_half a.size a.meaning_at b.meaning_at))
    ∙ ap (position_from t 0) (listed_joined a.size b.size a.meaning_at b.meaning_at)
    ∙ from_append t 0 xs ys
    ∙ ap (λ o. option_or o (position_from t (0 + length xs) ys)) (sym (position_from-zero t xs))
    ∙ ap (λ k. option_or (place_in a name) (position_from t k ys)) end
    ∙ ap (option_or (place_in a name))
    (shift_from t 0 a.size ys ∙ ap (option_map (λ p. a.size + p)) (sym (position_from-zero t ys)))

found_case : (o rest : Option ℕ) (p : ℕ) → Some p ≡ option_map held o
    → Some p ≡ option_map held (option_or o rest)
found_case None rest p e = absurd (none-some p (sym e))
found_case (Some q) rest p e = e

pub first_place : (a b : Modules) (name : List ℕ) (p : ℕ)
    → Some p ≡ option_map held (place_in a name)
    → Some p ≡ option_map held (place_in (joined a b) name)
first_place a b name p found = found_case (place_in a name) _ p found
    ∙ ap (option_map held) (sym (place_joined a b name))

second_case : (o more : Option ℕ) (size p sum : ℕ) → None ≡ option_map held o
    → Some p ≡ option_map held more → sum ≡ held (held size + p)
    → Some sum ≡ option_map held (option_or o (option_map (λ q. size + q) more))
second_case (Some q) more size p sum none found is = absurd (none-some (held q) none)
second_case None None size p sum none found is = absurd (none-some p (sym found))
second_case None (Some q) size p sum none found is =
    let same : p ≡ held q = same_Some p (held q) found in
    let whole : sum ≡ held (size + q) = omega (arith, is, same) in ap Some whole

pub second_place : (a b : Modules) (name : List ℕ) (p sum : ℕ)
    → None ≡ option_map held (place_in a name) → Some p ≡ option_map held (place_in b name)
    → sum ≡ held (held a.size + p) → Some sum ≡ option_map held (place_in (joined a b) name)
second_place a b name p sum none found is =
    second_case (place_in a name) (place_in b name) a.size p sum none found is
    ∙ ap (option_map held) (sym (place_joined a b name))

no_case : (o more : Option ℕ) (size : ℕ) → None ≡ option_map held o → None ≡ option_map held more
    → None ≡ option_map held (option_or o (option_map (λ q. size + q) more))
no_case (Some q) more size none none_more = absurd (none-some (held q) none)
no_case None (Some q) size none none_more = absurd (none-some (held q) none_more)
no_case None None size none none_more = refl

pub no_place : (a b : Modules) (name : List ℕ) → None ≡ option_map held (place_in a name)
    → None ≡ option_map held (place_in b name) → None ≡ option_map held (place_in (joined a b) name)
no_place a b name none none_more =
    no_case (place_in a name) (place_in b name) a.size none none_more
    ∙ ap (option_map held) (sym (place_joined a b name))
