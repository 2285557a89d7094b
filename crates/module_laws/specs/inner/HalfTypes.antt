-- What holds of the types of two halves. Serves the law of Viewed for Either, and the clauses of
-- Left, Right and Two.
use Rattle.std.proofs.Common.{◌≡◌, ℕ, List, [], ◌∷◌, ◌++◌, Bool, true, false, refl, sym, ap, ◌∙◌, true≢false, if◌then◌else◌}
use Rattle.std.specs.Prelude.{◌||◌, not}
use Rattle.std.specs.Cmp.Lexicographic.{bytes_decides}
use Rattle.std.specs.List.{list_any}
use Rattle.std.specs.Str.{bytes_eq}
use Rattle.std.proofs.lemmas.Bool.{or_left, or_right}
use Rattle.std.proofs.lemmas.List.Folds.{list_any-append}
use Rattle.core_types.specs.Keys.{Native}
use Rattle.module_laws.specs.Sides.{native_of}
use Rattle.module_laws.specs.declared.either.Either.{Either}
use Rattle.module_laws.specs.declared.either.Either.TheVariants as either
use Rattle.module_laws.specs.Types.{NativeType, has_type, is_full, is_kept, are_apart}

pub typed_left : (types others : List NativeType) (name : List ℕ) → has_type types name ≡ true
    → has_type (types ++ others) name ≡ true
typed_left types others name typed = list_any-append _ types others ∙ or_left _ _ typed

pub typed_right : (types others : List NativeType) (name : List ℕ) → has_type others name ≡ true
    → has_type (types ++ others) name ≡ true
typed_right types others name typed = list_any-append _ types others ∙ or_right _ _ typed

-- each value of a half is of a type of the whole
pub typed_of : {L R : Type 0} (types others : List NativeType) (left : L → Native)
    (right : R → Native) → ((value : L) → has_type types (left value).name ≡ true)
    → ((value : R) → has_type others (right value).name ≡ true) → (value : Either L R)
    → has_type (types ++ others) (native_of left right value).name ≡ true
typed_of types others left right first second (either.Left value) =
    typed_left types others (left value).name (first value)
typed_of types others left right first second (either.Right value) =
    typed_right types others (right value).name (second value)

or_false : (a b : Bool) → (a || b) ≡ false → (a ≡ false) × (b ≡ false)
or_false true b e = absurd (true≢false e)
or_false false b e = (refl, e)

-- a name of neither half is none of the first, and none of the second
pub foreign_both : (types others : List NativeType) (name : List ℕ)
    → has_type (types ++ others) name ≡ false → (has_type types name ≡ false)
    × (has_type others name ≡ false)
foreign_both types others name foreign =
    or_false (has_type types name) (has_type others name)
    (sym (list_any-append (λ t. bytes_eq name t.name) types others) ∙ foreign)

foreign_case : (b rest : Bool) (t : NativeType) (others : List NativeType) (name : List ℕ)
    → bytes_eq name t.name ≡ b → has_type others t.name ≡ false → has_type others name ≡ true
    → rest ≡ false → (b || rest) ≡ false
foreign_case true rest t others name same away typed after =
    absurd (true≢false (sym typed ∙ ap (has_type others) ((bytes_decides name t.name).0 same)
    ∙ away))
foreign_case false rest t others name same away typed after = after

foreign_each : (types others : List NativeType) (name : List ℕ)
    → list_any (λ t. has_type others t.name) types ≡ false → has_type others name ≡ true
    → has_type types name ≡ false
foreign_each [] others name none typed = refl
foreign_each (t ∷ types) others name none typed =
    let both = or_false (has_type others t.name)
    (list_any (λ u. has_type others u.name) types) none in
    foreign_case (bytes_eq name t.name) (has_type types name) t others name refl both.0 typed
    (foreign_each types others name both.1 typed)

not_true : (b : Bool) → not b ≡ true → b ≡ false
not_true true e = sym e
not_true false e = refl

-- a name of the second half is none of the first
pub foreign_first : (types others : List NativeType) (name : List ℕ) → are_apart types others ≡ true
    → has_type others name ≡ true → has_type types name ≡ false
foreign_first types others name apart typed =
    foreign_each types others name (not_true _ apart) typed

second_case : (b : Bool) (types others : List NativeType) (name : List ℕ) → has_type others name ≡ b
    → are_apart types others ≡ true → has_type types name ≡ true → b ≡ false
second_case true types others name is apart typed =
    absurd (true≢false (sym typed ∙ foreign_first types others name apart is))
second_case false types others name is apart typed = refl

-- and a name of the first half is none of the second
pub foreign_second : (types others : List NativeType) (name : List ℕ)
    → are_apart types others ≡ true → has_type types name ≡ true → has_type others name ≡ false
foreign_second types others name apart typed =
    second_case (has_type others name) types others name refl apart typed

kept_case : (b : Bool) (t : NativeType) (types others : List NativeType) (native : Native)
    → (is_kept types native ≡ true → is_kept (types ++ others) native ≡ true)
    → (if b then is_full t native.items else is_kept types native) ≡ true
    → (if b then is_full t native.items else is_kept (types ++ others) native) ≡ true
kept_case true t types others native rest kept = kept
kept_case false t types others native rest kept = rest kept

-- a key may have a value of the first half where it may have it beside those of the second
pub kept_left : (types others : List NativeType) (native : Native) → is_kept types native ≡ true
    → is_kept (types ++ others) native ≡ true
kept_left [] others native kept = absurd (true≢false (sym kept))
kept_left (t ∷ types) others native kept =
    kept_case (bytes_eq native.name t.name) t types others native
    (kept_left types others native) kept

past_case : (b rest : Bool) (t : NativeType) (types others : List NativeType) (native : Native)
    → (b || has_type types native.name) ≡ false
    → (has_type types native.name ≡ false
    → is_kept (types ++ others) native ≡ is_kept others native)
    → (if b then is_full t native.items else is_kept (types ++ others) native)
    ≡ is_kept others native
past_case true rest t types others native foreign after = absurd (true≢false foreign)
past_case false rest t types others native foreign after = after foreign

kept_past : (types others : List NativeType) (native : Native) → has_type types native.name ≡ false
    → is_kept (types ++ others) native ≡ is_kept others native
kept_past [] others native foreign = refl
kept_past (t ∷ types) others native foreign =
    past_case (bytes_eq native.name t.name) true t types others native foreign
    (kept_past types others native)

-- the same of the second half, where the two are apart
pub kept_right : (types others : List NativeType) (native : Native) → are_apart types others ≡ true
    → has_type others native.name ≡ true → is_kept others native ≡ true
    → is_kept (types ++ others) native ≡ true
kept_right types others native apart typed kept =
    kept_past types others native (foreign_first types others native.name apart typed) ∙ kept
