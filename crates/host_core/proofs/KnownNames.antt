-- Serves the clauses of `all_names` and `command_of`: the registry of the built-in commands.
use Rattle.std.proofs.Common.{◌≡◌, refl, sym, ap, subst, ◌∙◌, ℕ, Bool, true, false, cond, if◌then◌else◌, List, [], ◌∷◌, ◌++◌, slice_get, Option, Some, None}
use Rattle.std.proofs.lemmas.Map.Text.{is_eq-slice_cmp}
use Rattle.std.proofs.lemmas.Slice.Eq.{bytes_eq-Decides}
use Rattle.std.specs.Cmp.{eq_by_cmp_equiv}
use Rattle.std.specs.Cmp.Lexicographic.{slice_cmp, nat_list_cmp_total}
use Rattle.std.proofs.lemmas.Option.{none-some}
use Rattle.std.specs.FinMap.{get-empty, get-insert}
use Rattle.std.specs.Ordering.{nat_cmp, eq_by_cmp}
use Rattle.std.specs.Str.{bytes_eq}
use Rattle.byte_text.specs.Name.{same_name, upper_name}
use Rattle.core_types.specs.CommandRow.{row_of_spec}
use Rattle.core_types.specs.declared.command_spec.CommandSpec.{CommandSpec}
use Rattle.command_registry.specs.Registry.{Command, Commands, command_named, no_commands, with_command}
use Rattle.command_registry.specs.declared.owner.Owner.{Owner}
use Rattle.command_registry.specs.declared.owner.Owner.TheVariants as owner
use Rattle.host_core.specs.Builtins.{builtin_named, builtin_row, builtins, first_named}
use Rattle.host_core.specs.declared.builtin.Builtin.{Builtin}
use Rattle.host_core.specs.inner.Names.{IsKnownAs, IsNumberOf, Knows, KnowsThese}

-- a name by its bytes in upper case, the other way round
same_upper : (a b : List ℕ) → eq_by_cmp (slice_cmp nat_cmp) (upper_name b) (upper_name a) ≡ same_name a b
same_upper a b = (eq_by_cmp_equiv nat_list_cmp_total).symm (upper_name b) (upper_name a) ∙ is_eq-slice_cmp (upper_name a) (upper_name b)

pub knows_none : KnowsThese [] no_commands
knows_none name = subst (λ o. IsKnownAs o None) (sym (get-empty (slice_cmp nat_cmp) (upper_name name))) tt

abbrev first_or : Option Builtin → Bool → Builtin → Option Builtin
first_or (Some found) same cmd = Some found
first_or None same cmd = if same then Some cmd else None

first_of_test : (b : Bool) (x : Builtin) (o : Option Builtin) (same : Bool) (cmd : Builtin) → (if b then Some x else first_or o same cmd) ≡ first_or (if b then Some x else o) same cmd
first_of_test true x o same cmd = refl
first_of_test false x o same cmd = refl

first_more : (name : List ℕ) (commands : List Builtin) (cmd : Builtin)
    → first_named name (commands ++ cmd ∷ []) ≡ first_or (first_named name commands) (same_name (builtin_row cmd).name name) cmd
first_more name [] cmd = refl
first_more name (x ∷ more) cmd =
    ap (λ o. if same_name (builtin_row x).name name then Some x else o) (first_more name more cmd)
    ∙ first_of_test (same_name (builtin_row x).name name) x (first_named name more) _ cmd

none_known : (o : Option Command) (p : Option Builtin) → o ≡ None → IsKnownAs o p → p ≡ None
none_known None None none known = refl
none_known None (Some cmd) none known = absurd known
none_known (Some c) None none known = refl
none_known (Some c) (Some cmd) none known = absurd (none-some c (sym none))

kept_known : (o : Option Command) (p : Option Builtin) (cmd : Builtin) → IsKnownAs o p → IsKnownAs o (first_or p false cmd)
kept_known None None cmd known = known
kept_known None (Some c) cmd known = known
kept_known (Some c) None cmd known = known
kept_known (Some c) (Some d) cmd known = known

module _ (spec : CommandSpec) (number : ℕ) (cmd : Builtin) (names : Commands)
    (row : row_of_spec spec ≡ builtin_row cmd) (there : slice_get builtins number ≡ Some cmd) (free : command_named names spec.name.now ≡ None) where
  of_test : (commands : List Builtin) (name : List ℕ) → IsKnownAs (command_named names name) (first_named name commands)
      → (same : Bool) → same_name spec.name.now name ≡ same
      → IsKnownAs (cond same (Some (spec, owner.Builtin number)) (command_named names name)) (first_or (first_named name commands) same cmd)
  of_test commands name known true same =
      let upper : upper_name spec.name.now ≡ upper_name name = (bytes_eq-Decides (upper_name spec.name.now) (upper_name name)).0 same in
      let none : first_named name commands ≡ None = none_known _ _ (ap (λ u. get_at u) (sym upper) ∙ free) known in
      subst (λ o. IsKnownAs (Some (spec, owner.Builtin number)) (first_or o true cmd)) (sym none) there
    where
      get_at : List ℕ → Option Command
      get_at u = Rattle.std.specs.FinMap.get names u
  of_test commands name known false apart = kept_known _ _ cmd known

  pub knows_more : (commands : List Builtin) → KnowsThese commands names → KnowsThese (commands ++ cmd ∷ []) (with_command names spec (owner.Builtin number))
  knows_more commands known name =
      let test : eq_by_cmp (slice_cmp nat_cmp) (upper_name name) (upper_name spec.name.now) ≡ same_name spec.name.now name = same_upper spec.name.now name in
      let got = get-insert nat_list_cmp_total names (upper_name spec.name.now) (spec, owner.Builtin number) (upper_name name)
      ∙ ap (λ b. cond b (Some (spec, owner.Builtin number)) (command_named names name)) test in
      let first = first_more name commands cmd ∙ ap (λ n. first_or (first_named name commands) (same_name n name) cmd) (sym (ap (λ r. r.name) row)) in
      subst (λ o. IsKnownAs o (first_named name (commands ++ cmd ∷ []))) (sym got)
      (subst (λ p. IsKnownAs (cond (same_name spec.name.now name) (Some (spec, owner.Builtin number)) (command_named names name)) p) (sym first) (of_test commands name (known name) (same_name spec.name.now name) refl))

abbrev owner_in : Option Command → Owner
owner_in None = owner.Module 0
owner_in (Some e) = e.1

-- what is found under a name
pub known_at : (names : Commands) → Knows names → (name : List ℕ) → IsKnownAs (command_named names name) (first_named name builtins)
unfolding Knows
known_at names known name = known name

pub knows_all : (names : Commands) → KnowsThese builtins names → Knows names
unfolding Knows
knows_all names known = known

pub named_is : (name : List ℕ) → builtin_named name ≡ first_named name builtins
unfolding builtin_named
named_is name = refl

pub found_is : (o : Option Command) (p : Option Builtin) → IsKnownAs o p → (c : Command) → o ≡ Some c → (number : ℕ) → c.1 ≡ owner.Builtin number → slice_get builtins number ≡ p
found_is None p known c same number is = absurd (none-some c same)
found_is (Some d) None known c same number is = absurd known
found_is (Some d) (Some cmd) known c same number is = subst (λ x. IsNumberOf x cmd) (ap (λ o. owner_in o) same ∙ is) known

pub module_is : (o : Option Command) (p : Option Builtin) → IsKnownAs o p → (c : Command) → o ≡ Some c → (place : ℕ) → c.1 ≡ owner.Module place → None ≡ p
module_is None p known c same place is = absurd (none-some c same)
module_is (Some d) None known c same place is = refl
module_is (Some d) (Some cmd) known c same place is = absurd (subst (λ x. IsNumberOf x cmd) (ap owner_in same ∙ is) known)

pub none_is : (o : Option Command) (p : Option Builtin) → IsKnownAs o p → o ≡ None → None ≡ p
none_is o p known none = sym (none_known o p none known)
