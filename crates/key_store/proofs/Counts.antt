-- How many keys there are after each step. Serves the invariant of `Table`.
use Rattle.std.proofs.Common.{◌≡◌, ◌≢◌, sym, ap, subst, ◌∙◌, arith, ℕ, ◌+◌, ◌-◌, ◌<◌, ◌≤◌, ◌^◌, Bool, true, false, cond, List, Option, Some, None, MutBor, is_some}
use Rattle.std.specs.Ordering.{nat_cmp}
use Rattle.std.specs.Option.{option_copied_mut, MatchOption, OnSome}
use Rattle.std.specs.Cmp.Lexicographic.{slice_cmp, nat_list_cmp_total}
use Rattle.std.specs.FinMap.{contains_key, len-empty, len-insert, len-remove}
use Rattle.core_types.specs.Keys.{Entry, KeysOf, no_keys, entry_at, key_count, with_entry, without}
use Rattle.key_store.specs.inner.Halves.{both, AreHalves}
use Rattle.key_store.proofs.Merged.{both_count}

pub none_counted : (N : Type 0) → key_count (no_keys {N = N}) ≡ 0
none_counted N = len-empty (slice_cmp nat_cmp) (Entry N)

module _ {N : Type 0} where
  pub count_put : (keys : KeysOf N) (key : List ℕ) (entry : Entry N) → key_count (with_entry keys key entry) ≤ key_count keys + 1
  count_put keys key entry = by (contains_key keys key) (key_count keys) (key_count (with_entry keys key entry)) (len-insert nat_list_cmp_total keys key entry)
    where
      by : (b : Bool) (n m : ℕ) → m ≡ cond b n (n + 1) → m ≤ n + 1
      by true n m is = omega (arith, is)
      by false n m is = omega (arith, is)

  pub count_taken : (keys : KeysOf N) (key : List ℕ) → key_count (without keys key) ≤ key_count keys
  count_taken keys key = by (contains_key keys key) (key_count keys) (key_count (without keys key)) (len-remove nat_list_cmp_total keys key)
    where
      by : (b : Bool) (n m : ℕ) → m ≡ cond b (n - 1) n → m ≤ n
      by true n m is = omega (arith, is)
      by false n m is = omega (arith, is)

  pub count_popped : {K : Type 0} (read : K → List ℕ) (keys left : KeysOf N) (taken : Option (K × Entry N)) → MatchOption taken (left ≡ keys) (λ p. left ≡ without keys (read p.0)) → key_count left ≤ key_count keys
  count_popped read keys left None rest = (let same = ap key_count rest in omega (arith, same))
  count_popped read keys left (Some p) rest = subst (λ k. key_count k ≤ key_count keys) (sym rest) (count_taken keys (read p.0))

  pub count_lent : (keys end : KeysOf N) (key : List ℕ) (lent : Option (MutBor (Entry N))) (r : MutBor (Entry N)) (w : Entry N) → lent ≡ Some r → option_copied_mut lent ≡ entry_at keys key → OnSome lent (end ≡ with_entry keys key w)
      → key_count end ≡ key_count keys
  count_lent keys end key lent r w some found ends =
      ap key_count (subst (λ o. OnSome o (end ≡ with_entry keys key w)) some ends)
      ∙ len-insert nat_list_cmp_total keys key w
      ∙ ap (λ b. cond b (key_count keys) (key_count keys + 1)) (ap is_some (sym found) ∙ ap (λ o. is_some (option_copied_mut o)) some)

  -- one more can be counted, where not all numbers are used
  pub room_left : (s l keys : KeysOf N) (n : ℕ) → AreHalves s l → both s l ≡ keys → n ≡ key_count keys → n ≢ 9223372036854775807 → key_count s + key_count l + 1 < 2 ^ 63
  room_left s l keys n halves is count apart =
      let all = count ∙ ap key_count (sym is) ∙ both_count s l halves.shorts halves.longs in
      let few = halves.few in
      by (key_count s + key_count l) n all few apart
    where
      by : (m n : ℕ) → n ≡ m → m < 2 ^ 63 → n ≢ 9223372036854775807 → m + 1 < 2 ^ 63
      by m n is few apart = omega (arith, is, few, apart)
