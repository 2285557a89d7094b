-- What the halves of a set see. Serves the clauses of the calls of Left and Right.
use Rattle.std.proofs.Common.{◌≡◌, ℕ, List, ◌++◌, true, Option, Some, None, refl, sym, ap, subst, ◌∙◌}
use Rattle.std.specs.Prelude.{Result, Ok, Err, IfOk, IfErr, OnErr}
use Rattle.std.specs.Option.{option_map}
use Rattle.std.proofs.lemmas.Option.{same_Some}
use Rattle.core_types.specs.Keys.{Keys, Native, value_at}
use Rattle.core_types.specs.declared.value.Value.TheVariants as value
use Rattle.core_types.specs.declared.value.Kind.{Kind}
use Rattle.core_types.specs.declared.value.Kind.TheVariants as kind
use Rattle.module_laws.specs.declared.either.Either.{Either}
use Rattle.module_laws.specs.declared.either.Either.TheVariants as either
use Rattle.module_laws.specs.declared.context.KeyFault.{KeyFault}
use Rattle.module_laws.specs.declared.context.KeyFault.TheVariants as key_fault
use Rattle.module_laws.specs.declared.context.MutFault.{MutFault}
use Rattle.module_laws.specs.declared.context.MutFault.TheVariants as mut_fault
use Rattle.module_laws.specs.Sides.{native_of}
use Rattle.module_laws.specs.Told.{kind_of, kind_at, IsForeign, HasFault, MayFail, fault_of}
use Rattle.module_laws.specs.Types.{NativeType, has_type, are_apart}
use Rattle.module_laws.specs.inner.HalfTypes.{foreign_both, foreign_first, foreign_second}

-- a kind that is of neither half is none of the first, and none of the second
foreign_left : (types others : List NativeType) (other : Kind) → IsForeign (types ++ others) other → IsForeign types other
foreign_left types others kind.Str foreign = tt
foreign_left types others kind.List foreign = tt
foreign_left types others kind.Hash foreign = tt
foreign_left types others (kind.Native name) foreign = (foreign_both types others name foreign).0

foreign_right : (types others : List NativeType) (other : Kind) → IsForeign (types ++ others) other → IsForeign others other
foreign_right types others kind.Str foreign = tt
foreign_right types others kind.List foreign = tt
foreign_right types others kind.Hash foreign = tt
foreign_right types others (kind.Native name) foreign = (foreign_both types others name foreign).1

pub fault_left : (types others : List NativeType) (found : Option Kind) (why : KeyFault) → HasFault (types ++ others) found why → HasFault types found why
fault_left types others found key_fault.Empty has = has
fault_left types others found (key_fault.NotOurs other) has = (has.0, foreign_left types others other has.1)

pub fault_right : (types others : List NativeType) (found : Option Kind) (why : KeyFault) → HasFault (types ++ others) found why → HasFault others found why
fault_right types others found key_fault.Empty has = has
fault_right types others found (key_fault.NotOurs other) has = (has.0, foreign_right types others other has.1)

pub fails_left : (types others : List NativeType) (found : Option Kind) (why : MutFault) → MayFail (types ++ others) found why → MayFail types found why
fails_left types others found mut_fault.Empty may = may
fails_left types others found mut_fault.Memory may = tt
fails_left types others found (mut_fault.NotOurs other) may = (may.0, foreign_left types others other may.1)

pub fails_right : (types others : List NativeType) (found : Option Kind) (why : MutFault) → MayFail (types ++ others) found why → MayFail others found why
fails_right types others found mut_fault.Empty may = may
fails_right types others found mut_fault.Memory may = tt
fails_right types others found (mut_fault.NotOurs other) may = (may.0, foreign_right types others other may.1)

-- where a key has a value, its kind is that value's
pub kind_found : (keys : Keys) (key : List ℕ) (native : Native) → value_at keys key ≡ Some (value.Native native) → kind_at keys key ≡ Some (kind.Native native.name)
kind_found keys key native found = ap (option_map kind_of) found

-- what is shown where a fact holds whatever comes
pub on_err : {A E : Type 0} (result : Result A E) (P : Type 0) → P → OnErr result P
on_err (Ok x) P p = tt
on_err (Err e) P p = p

foreign_kind : (types others : List NativeType) (native : Native) (other : Kind) → are_apart types others ≡ true → has_type others native.name ≡ true → other ≡ kind.Native native.name → IsForeign types other
foreign_kind types others native other apart typed is =
    subst (IsForeign types) (sym is) (foreign_first types others native.name apart typed)

foreign_kind_second : (types others : List NativeType) (native : Native) (other : Kind) → are_apart types others ≡ true → has_type types native.name ≡ true → other ≡ kind.Native native.name → IsForeign others other
foreign_kind_second types others native other apart typed is =
    subst (IsForeign others) (sym is) (foreign_second types others native.name apart typed)

module _ {L R : Type 0} (types others : List NativeType) (left : L → Native) (right : R → Native) (first : (value : L) → has_type types (left value).name ≡ true) (second : (value : R) → has_type others (right value).name ≡ true) (apart : are_apart types others ≡ true) (keys : Keys) (key : List ℕ) (both : Either L R) (found : value_at keys key ≡ Some (value.Native (native_of left right both))) where
  kind_is : (other : Kind) → Some other ≡ kind_at keys key → other ≡ kind.Native (native_of left right both).name
  kind_is other is = same_Some _ _ (is ∙ kind_found keys key _ found)

  -- the kind of a value of the second half is none of the first
  pub right_foreign : (v : R) (other : Kind) → both ≡ either.Right v → Some other ≡ kind_at keys key → IsForeign types other
  right_foreign v other half is =
      foreign_kind types others (right v) other apart (second v) (kind_is other is ∙ ap (λ b. kind.Native (native_of left right b).name) half)

  pub left_foreign : (v : L) (other : Kind) → both ≡ either.Left v → Some other ≡ kind_at keys key → IsForeign others other
  left_foreign v other half is =
      foreign_kind_second types others (left v) other apart (first v) (kind_is other is ∙ ap (λ b. kind.Native (native_of left right b).name) half)

  fails_at : (ours : List NativeType) (seen : Option Kind) → seen ≡ kind_at keys key → ((other : Kind) → Some other ≡ kind_at keys key → IsForeign ours other) → MayFail ours seen (fault_of seen)
  fails_at ours None is foreign = refl
  fails_at ours (Some other) is foreign = (refl, foreign other is)

  fails_as : (ours : List NativeType) (why other : MutFault) (seen : Option Kind) → why ≡ other → other ≡ fault_of seen → seen ≡ kind_at keys key → ((kind : Kind) → Some kind ≡ kind_at keys key → IsForeign ours kind) → MayFail ours (kind_at keys key) why
  fails_as ours why other seen same is at foreign =
      subst (MayFail ours (kind_at keys key)) (sym (same ∙ is)) (subst (λ o. MayFail ours o (fault_of seen)) at (fails_at ours seen at foreign))

  pub left_fails : {A : Type 0} (result : Result A MutFault) (other : MutFault) (seen : Option Kind) → IfErr result (λ why. (why ≡ other) × ((v : R) × (both ≡ either.Right v))) → other ≡ fault_of seen → seen ≡ kind_at keys key → IfErr result (λ why. MayFail types (kind_at keys key) why)
  left_fails (Ok x) other seen half is at = tt
  left_fails (Err why) other seen half is at =
      fails_as types why other seen half.0 is at (λ kind same. right_foreign half.1.0 kind half.1.1 same)

  pub right_fails : {A : Type 0} (result : Result A MutFault) (other : MutFault) (seen : Option Kind) → IfErr result (λ why. (why ≡ other) × ((v : L) × (both ≡ either.Left v))) → other ≡ fault_of seen → seen ≡ kind_at keys key → IfErr result (λ why. MayFail others (kind_at keys key) why)
  right_fails (Ok x) other seen half is at = tt
  right_fails (Err why) other seen half is at =
      fails_as others why other seen half.0 is at (λ kind same. left_foreign half.1.0 kind half.1.1 same)

  pub left_shown : {A : Type 0} (now : A → L) (result : Result A MutFault) → IfOk result (λ lent. both ≡ either.Left (now lent)) → IfOk result (λ lent. value_at keys key ≡ Some (value.Native (left (now lent))))
  left_shown now (Ok lent) half = found ∙ ap (λ b. Some (value.Native (native_of left right b))) half
  left_shown now (Err why) half = tt

  pub right_shown : {A : Type 0} (now : A → R) (result : Result A MutFault) → IfOk result (λ lent. both ≡ either.Right (now lent)) → IfOk result (λ lent. value_at keys key ≡ Some (value.Native (right (now lent))))
  right_shown now (Ok lent) half = found ∙ ap (λ b. Some (value.Native (native_of left right b))) half
  right_shown now (Err why) half = tt
