-- Whether a name is in a set of names that stand behind references. Serves clause left of
-- HashBody::remove_all.
use Rattle.std.proofs.Common.{◌≡◌, ℕ, Bool, true, false, true≢false, ◌||◌, List, [], ◌∷◌, ◌++◌, if◌then◌else◌, refl, sym, ap, ◌∙◌}
use Rattle.std.specs.Borrow.{Bor}
use Rattle.std.specs.Str.{bytes_eq}
use Rattle.std.specs.Cmp.Lexicographic.{nat_list_eq_equiv}
use Rattle.std.specs.List.{list_any}
use Rattle.core_types.specs.inner.Removals.{is_among, set_names}

-- two references lead to the same bytes
abbrev pub same_name : Bor (List ℕ) → Bor (List ℕ) → Bool
same_name a b = bytes_eq a.now b.now

-- a key that is put where it is not there yet
abbrev pub put_key : Bor (List ℕ) → List (Bor (List ℕ)) → List (Bor (List ℕ))
put_key key keys = if list_any (same_name key) keys then keys else keys ++ key ∷ []

-- a search for a name in the set
pub found_is : (name : List ℕ) (keys : List (Bor (List ℕ)))
    → list_any (λ (key : Bor (List ℕ)). bytes_eq name key.now) keys ≡ is_among (set_names keys) name
found_is name [] = refl
found_is name (key ∷ keys) =
    rw (nat_list_eq_equiv.symm name key.now)
    (ap (λ (rest : Bool). bytes_eq key.now name || rest) (found_is name keys))

or_assoc : (a b c : Bool) → (a || b || c) ≡ (a || (b || c))
or_assoc true b c = refl
or_assoc false b c = refl

or_true : (a : Bool) → (a || true) ≡ true
or_true true = refl
or_true false = refl

or_false : (a : Bool) → (a || false) ≡ a
or_false true = refl
or_false false = refl

-- a key that is there says all that one with the same name would
there_already : (key : Bor (List ℕ)) (keys : List (Bor (List ℕ))) (name : List ℕ)
    → list_any (same_name key) keys ≡ true → bytes_eq key.now name ≡ true
    → is_among (set_names keys) name ≡ true
there_already key [] name there same = absurd (true≢false (sym there))
there_already key (other ∷ keys) name there same =
    by (same_name key other) refl (λ further. there_already key keys name further same) there
  where
    by : (b : Bool) → same_name key other ≡ b
        → (list_any (same_name key) keys ≡ true → is_among (set_names keys) name ≡ true)
        → (b || list_any (same_name key) keys) ≡ true
        → (bytes_eq other.now name || is_among (set_names keys) name) ≡ true
    by true equal rest there =
        ap (λ (first : Bool). first || is_among (set_names keys) name)
        (sym (nat_list_eq_equiv.congr key.now other.now name equal) ∙ same)
    by false equal rest there =
        ap (λ (more : Bool). bytes_eq other.now name || more) (rest there)
        ∙ or_true (bytes_eq other.now name)

-- one more key, at the end
among_push : (key : Bor (List ℕ)) (keys : List (Bor (List ℕ))) (name : List ℕ)
    → is_among (set_names (keys ++ key ∷ [])) name
    ≡ (is_among (set_names keys) name || bytes_eq key.now name)
among_push key [] name = or_false (bytes_eq key.now name)
among_push key (other ∷ keys) name =
    ap (λ (rest : Bool). bytes_eq other.now name || rest) (among_push key keys name)
    ∙ sym (or_assoc (bytes_eq other.now name) (is_among (set_names keys) name)
    (bytes_eq key.now name))

-- what is among the names after that
pub among_put : (key : Bor (List ℕ)) (keys : List (Bor (List ℕ))) (name : List ℕ)
    → is_among (set_names (put_key key keys)) name
    ≡ (is_among (set_names keys) name || bytes_eq key.now name)
among_put key keys name = by (list_any (same_name key) keys) refl
  where
    known : (b : Bool) → bytes_eq key.now name ≡ b → list_any (same_name key) keys ≡ true
        → is_among (set_names keys) name ≡ (is_among (set_names keys) name || b)
    known true same there =
        there_already key keys name there same ∙ sym (or_true (is_among (set_names keys) name))
    known false same there = sym (or_false (is_among (set_names keys) name))

    by : (b : Bool) → list_any (same_name key) keys ≡ b
        → is_among (set_names (if b then keys else keys ++ key ∷ [])) name
        ≡ (is_among (set_names keys) name || bytes_eq key.now name)
    by true there = known (bytes_eq key.now name) refl there
    by false there = among_push key keys name

-- and of the names that are left there is one less
pub among_more : (key : Bor (List ℕ)) (keys : List (Bor (List ℕ))) (left : List (List ℕ))
    (name : List ℕ) → (is_among (set_names (put_key key keys)) name || is_among left name)
    ≡ (is_among (set_names keys) name || is_among (key.now ∷ left) name)
among_more key keys left name =
    ap (λ (first : Bool). first || is_among left name) (among_put key keys name)
    ∙ or_assoc (is_among (set_names keys) name) (bytes_eq key.now name) (is_among left name)
