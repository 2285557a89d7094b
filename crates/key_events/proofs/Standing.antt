-- Who stands in the lines of names. It serves the clauses of `Lines`.
use Rattle.std.proofs.Common.{◌≡◌, ℕ, ◌==◌, ◌+◌, ◌<◌, Bool, true, false, cond, not, ◌||◌, ◌&&◌, List, []}
use Rattle.std.proofs.Common.{◌∷◌, ◌++◌, Option, Some, take, length, get_or, refl, sym, ap, ◌∙◌}
use Rattle.std.specs.Global.{Vec}
use Rattle.std.specs.Ordering.{nat_cmp, eq_by_cmp}
use Rattle.std.specs.Cmp.Lexicographic.{slice_cmp}
use Rattle.std.specs.Option.{option_map_or}
use Rattle.std.specs.Map.{lookup}
use Rattle.std.specs.Str.{bytes_eq}
use Rattle.std.specs.BTreeMap.{is_at}
use Rattle.std.specs.FinSet as set
use Rattle.std.proofs.lemmas.Bool.{false≢true}
use Rattle.std.proofs.lemmas.List.{take_more}
use Rattle.std.proofs.lemmas.List.Folds.{list_any-append}
use Rattle.std.proofs.lemmas.Slice.Eq.{bytes_eq-Decides}
use Rattle.key_events.specs.Patterns.{matches}
use Rattle.key_events.specs.Rolls.{NameList, has_name}
use Rattle.key_events.specs.inner.Lines.{LineSet, LinesMap, holds, without_place, is_found}
use Rattle.key_events.specs.inner.Listing.{Leaves}
use Rattle.key_events.proofs.Places.{same, same_key, itself, held_without}

abbrev has : ℕ → Option LineSet → Bool
has n o = option_map_or (λ s. set.contains s n) o false

-- one who stands in the line of a name that matches is found
pub found_at : (text : List ℕ) (client : ℕ) (name : List ℕ) (es : List (Vec ℕ × LineSet))
    → matches name text ≡ true
    → has client (lookup (is_at (λ (k : Vec ℕ). slice_cmp nat_cmp name k.items)) es) ≡ true
    → is_found text client es ≡ true
found_at text client name [] is stands = absurd (false≢true stands)
found_at text client name (e ∷ es) is stands =
    elim (eq_by_cmp (slice_cmp nat_cmp) name e.0.items) as (λ b.
    eq_by_cmp (slice_cmp nat_cmp) name e.0.items ≡ b
    → has client (cond b (Some e.1)
    (lookup (is_at (λ (k : Vec ℕ). slice_cmp nat_cmp name k.items)) es)) ≡ true
    → is_found text client (e ∷ es) ≡ true) [
      | true ↦ λ here at. ap (λ b. b || is_found text client es)
          (ap (λ b. b && set.contains e.1 client)
          (ap (λ n. matches n text) (sym (same_key name e.0.items here)) ∙ is) ∙ at)
      | false ↦ λ _ at. later (matches e.0.items text && set.contains e.1 client)
          (found_at text client name es is at)
    ] refl stands
  where
    later : (b : Bool) → is_found text client es ≡ true → (b || is_found text client es) ≡ true
    later true there = refl
    later false there = there

-- ---- leaving the lines of many names

same_truth : (a b : Bool) → (a ≡ true → b ≡ true) → (b ≡ true → a ≡ true) → a ≡ b
same_truth true b to from = sym (to refl)
same_truth false true to from = from refl
same_truth false false to from = refl

pub tied : (a b : List ℕ) → bytes_eq a b ≡ same b a
tied a b = same_truth (bytes_eq a b) (same b a)
    (λ is. ap (same b) ((bytes_eq-Decides a b).0 is) ∙ itself b)
    (λ is. ap (bytes_eq a) (same_key b a is) ∙ (bytes_eq-Decides a a).1 refl)

pub leaves_one : (names : NameList) (i : ℕ) (item : List ℕ) (leaver : ℕ) (old now new : LinesMap)
    → i < length names → item ≡ get_or names i item → Leaves (take i names) leaver old now
    → new ≡ without_place now item leaver → Leaves (take (i + 1) names) leaver old new
leaves_one names i item leaver old now new more at leaves is = λ name client.
    let left = has_name name (take i names) in
    let one : has_name name (take (i + 1) names) ≡ (left || (same name item || false)) =
    ap (has_name name) (take_more names i item more
    ∙ ap (λ x. take i names ++ x ∷ []) (sym at))
    ∙ list_any-append (λ n. bytes_eq n name) (take i names) (item ∷ [])
    ∙ ap (λ b. left || (b || false)) (tied item name) in
    ap (λ (m : LinesMap). holds m name client) is ∙ held_without now item leaver name client
    ∙ both name client (same name item) refl left (leaves name client)
    ∙ ap (λ b. not ((client == leaver) && b) && holds old name client) (sym one)
  where
    gone : (x h H : Bool)
        → (not x && (not (x && h) && H)) ≡ (not (x && (h || (true || false))) && H)
    gone true true H = refl
    gone true false H = refl
    gone false h H = refl

    stays : (x h H : Bool)
        → (not (x && h) && H) ≡ (not (x && (h || (false || false))) && H)
    stays x true H = refl
    stays x false H = refl

    both : (name : List ℕ) (client : ℕ) (b : Bool) → same name item ≡ b → (h : Bool)
        → holds now name client ≡ (not ((client == leaver) && h) && holds old name client)
        → cond b (not (client == leaver) && holds now item client) (holds now name client)
        ≡ (not ((client == leaver) && (h || (b || false))) && holds old name client)
    both name client true here h is =
        ap (λ n. not (client == leaver) && holds now n client) (sym (same_key name item here))
        ∙ ap (λ b. not (client == leaver) && b) is
        ∙ gone (client == leaver) h (holds old name client)
    both name client false here h is =
        is ∙ stays (client == leaver) h (holds old name client)
