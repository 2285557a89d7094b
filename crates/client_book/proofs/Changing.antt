-- Serves the clauses of `Book` that say what one call leaves, and what the book says of a client:
-- the table of entries as the register that it is seen as.
use Rattle.std.proofs.Common.{◌≡◌, refl, sym, ap, subst, ◌∙◌, ℕ, ◌+◌, ◌-◌, ◌==◌, ◌<◌, ◌≤◌, min, Bool, true, false, cond, List, [], ◌∷◌, ◌++◌, map, slice_get, length, drop, Option, Some, None, is_some, IsSome, IfSome, arith, eq-eqb, length-drop}
use Rattle.std.specs.Option.{option_map, option_to_list}
use Rattle.std.specs.Ordering.{nat_cmp, eq_by_cmp}
use Rattle.std.specs.Cmp.{nat_cmp_total, eq_by_cmp_equiv}
use Rattle.std.specs.Map.{lookup}
use Rattle.std.proofs.lemmas.Map.Lookups.{exact_unsigned}
use Rattle.std.proofs.lemmas.Map.Views.{tells_apart}
use Rattle.std.proofs.lemmas.Bool.{cond-true, false≢true}
use Rattle.std.proofs.lemmas.Bool.Decides.{nat_tests}
use Rattle.std.specs.BTreeMap.{BTreeMap, get, UpdatesBy, WritesThrough}
use Rattle.std.specs.FinMap as finite
use Rattle.std.specs.FinMap.{find, FinMap, from_entries, get-entries, get-from_entries, get-insert, get-remove, get-empty, same_map, nat_cmp-IsAntisymmetric}
use Rattle.client_book.specs.declared.entry.Entry.{Entry}
use Rattle.client_book.specs.declared.book.Book.TheInside.{Inside}
use Rattle.client_book.specs.declared.client.Client.{Client}
use Rattle.client_book.specs.declared.watchers.Watchers.{Watchers}
use Rattle.client_book.specs.contracts.book.Book.{the_view, the_invariant}
use Rattle.client_book.specs.Client.{new_client, tells, passes, sees_change}
use Rattle.client_book.specs.Register.{Listed, Register, listed, each, lists, put_if_there, joins, leaves, on_record, queue_of, free_of, IsFront, changes_all, freed, frees_all}
use Rattle.client_book.specs.inner.Outbox.{Outgoing, new_outgoing, free_at, holds, lets_go}
use Rattle.client_book.specs.inner.Entry.{client_of, shown, marked, Fits, BecomesAll}

map_of_test : {X Y : Type 0} (f : X → Y) (b : Bool) (x : X) (o : Option X) (p : Option Y) → p ≡ option_map f o → cond b (Some (f x)) p ≡ option_map f (cond b (Some x) o)
map_of_test f true x o p is = refl
map_of_test f false x o p is = is

find-map : {X Y : Type 0} (f : X → Y) (q : ℕ) (es : List (ℕ × X)) → find nat_cmp q (map (λ (e : ℕ × X). (e.0, f e.1)) es) ≡ option_map f (find nat_cmp q es)
find-map f q [] = refl
find-map f q (e ∷ es) = map_of_test f (eq_by_cmp nat_cmp q e.0) e.1 (find nat_cmp q es) _ (find-map f q es)

-- what a map has at a number when each value was changed
pub get-each : {X Y : Type 0} (f : X → Y) (m : FinMap nat_cmp X) (q : ℕ) → finite.get (each f m) q ≡ option_map f (finite.get m q)
get-each f m q = get-from_entries nat_cmp_total _ q ∙ find-map f q (finite.entries m) ∙ ap (option_map f) (sym (get-entries m q))

find-lookup : {X : Type 0} (q : ℕ) (es : List (ℕ × X)) → find nat_cmp q es ≡ lookup (eq_by_cmp nat_cmp q) es
find-lookup q [] = refl
find-lookup q (e ∷ es) = ap (cond (eq_by_cmp nat_cmp q e.0) (Some e.1)) (find-lookup q es)

-- the register that a table of entries is seen as, after this number of flushes
abbrev pub register : ℕ → ℕ → BTreeMap ℕ Entry → Register
register flushes last table = record { clients = each (shown flushes) (from_entries table.entries); last = last }

module _ (flushes last : ℕ) where
  pub listed-register : (table : BTreeMap ℕ Entry) (q : ℕ) → listed (register flushes last table) q ≡ option_map (shown flushes) (get nat_cmp table q)
  listed-register table q =
      get-each (shown flushes) (from_entries table.entries) q
      ∙ ap (option_map (shown flushes)) (get-from_entries nat_cmp_total table.entries q ∙ find-lookup q table.entries)

  put_of_test : (w : Entry) (b : Bool) (o : Option Entry) → option_map (shown flushes) (cond b (Some w) o) ≡ cond b (Some (shown flushes w)) (option_map (shown flushes) o)
  put_of_test w true o = refl
  put_of_test w false o = refl

  -- an entry that was written into the table
  pub clients-put : (m n : BTreeMap ℕ Entry) (k : ℕ) (w : Entry) → UpdatesBy nat_cmp (nat_cmp k) m n (Some w)
      → each (shown flushes) (from_entries n.entries) ≡ finite.insert (each (shown flushes) (from_entries m.entries)) k (shown flushes w)
  clients-put m n k w updates = same_map nat_cmp_total nat_cmp-IsAntisymmetric _ _ (λ q.
      listed-register n q ∙ ap (option_map (shown flushes)) (updates.0 q)
      ∙ put_of_test w (eq_by_cmp nat_cmp k q) (get nat_cmp m q)
      ∙ ap (λ o. cond (eq_by_cmp nat_cmp k q) (Some (shown flushes w)) o) (sym (listed-register m q))
      ∙ ap (λ b. cond b (Some (shown flushes w)) (listed (register flushes last m) q)) ((eq_by_cmp_equiv nat_cmp_total).symm k q)
      ∙ sym (get-insert nat_cmp_total _ k (shown flushes w) q))

-- what the register has for a client
pub listed-view : (b : Inside) (q : ℕ) {old : Register} {o : Option Entry} → the_view b ≡ old → o ≡ get nat_cmp b.clients q → listed old q ≡ option_map (shown b.flushes) o
listed-view b q view_is is = ap (λ r. listed r q) (sym view_is) ∙ listed-register b.flushes b.last b.clients q ∙ ap (option_map (shown b.flushes)) (sym is)

-- one client's entry was lent and came back changed
pub changed : (b : Inside) (n : BTreeMap ℕ Entry) (k : ℕ) (f : Listed → Listed) {e : Entry} (w : Entry) → Some e ≡ get nat_cmp b.clients k → WritesThrough nat_cmp (nat_cmp k) b.clients w n → shown b.flushes w ≡ f (shown b.flushes e)
    → register b.flushes b.last n ≡ lists f k (the_view b)
changed b n k f w there written is =
    ap (λ clients. record { clients = clients; last = b.last }) (clients-put b.flushes b.last b.clients n k w (written.3 (subst IsSome there refl)) ∙ ap (finite.insert (each (shown b.flushes) (from_entries b.clients.entries)) k) is)
    ∙ ap (λ o. put_if_there o f k (the_view b)) (sym (listed-view b k refl there))

-- nothing is changed of a client that is not there
pub absent : (b : Inside) (n : BTreeMap ℕ Entry) (k : ℕ) (f : Listed → Listed) → None ≡ get nat_cmp b.clients k → n ≡ b.clients → register b.flushes b.last n ≡ lists f k (the_view b)
absent b n k f none same =
    ap (register b.flushes b.last) same
    ∙ ap (λ o. put_if_there o f k (the_view b)) (sym (listed-view b k refl none))

-- a client that is asked for is there
pub not_absent : (b : Inside) (k : ℕ) {old : Register} → the_view b ≡ old → None ≡ get nat_cmp b.clients k → IsSome (listed old k) → ⊥
not_absent b k view_is none there = false≢true (sym (ap is_some (listed-view b k view_is none)) ∙ there)

pub not_absent_queue : (b : Inside) (k : ℕ) {old : Register} → the_view b ≡ old → None ≡ get nat_cmp b.clients k → IsSome (queue_of (listed old k)) → ⊥
not_absent_queue b k view_is none begun = false≢true (sym (ap (λ o. is_some (queue_of o)) (listed-view b k view_is none)) ∙ begun)

-- to put what is there is to change nothing
put_of_tied : {X : Type 0} (m : FinMap nat_cmp X) (k q : ℕ) (v : X) → finite.get m k ≡ Some v → (t : Bool) → eq_by_cmp nat_cmp q k ≡ t → cond t (Some v) (finite.get m q) ≡ finite.get m q
put_of_tied m k q v there true same = sym (ap (finite.get m) (tells_apart exact_unsigned q k same) ∙ there)
put_of_tied m k q v there false apart = refl

insert_same : {X : Type 0} (m : FinMap nat_cmp X) (k : ℕ) (v : X) → finite.get m k ≡ Some v → finite.insert m k v ≡ m
insert_same m k v there = same_map nat_cmp_total nat_cmp-IsAntisymmetric _ _ (λ q. get-insert nat_cmp_total m k v q ∙ put_of_tied m k q v there _ refl)

-- an entry that was lent came back showing what it showed
pub kept : (b : Inside) (n : BTreeMap ℕ Entry) (k : ℕ) {e : Entry} (w : Entry) → Some e ≡ get nat_cmp b.clients k → WritesThrough nat_cmp (nat_cmp k) b.clients w n → shown b.flushes w ≡ shown b.flushes e → register b.flushes b.last n ≡ the_view b
kept b n k w there written is =
    ap (λ clients. record { clients = clients; last = b.last })
    (clients-put b.flushes b.last b.clients n k w (written.3 (subst IsSome there refl)) ∙ insert_same _ k (shown b.flushes w) (listed-view b k refl there ∙ ap Some (sym is)))

-- ---- the outbox of an entry

free_later : (now : ℕ) (box : Outgoing) → box.flushes < now → free_at now box ≡ length box.told
free_later now box before = grind (arith, nat_tests)

may_of_test : (t : Bool) (from n free : ℕ) (told : List ℕ) → n ≤ cond t free (length told) → from + n + cond t (cond t free (length told) - n) (length (drop n told)) ≡ from + cond t free (length told)
may_of_test true from n free told within = omega arith
may_of_test false from n free told within = omega (arith, length-drop n told)

may_stays : (flushes n : ℕ) (box : Outgoing) → n ≤ free_at flushes box → box.from + n + free_at flushes (lets_go n flushes box) ≡ box.from + free_at flushes box
may_stays flushes n box within = may_of_test (box.flushes == flushes) box.from n box.free box.told within

none_free : (t : Bool) → 0 + cond t 0 0 ≡ 0
none_free true = refl
none_free false = refl

-- what is held may not be taken yet
pub shown-holds : (flushes : ℕ) (e : Entry) (text : List ℕ) → shown flushes (record e { outbox = holds text flushes e.outbox }) ≡ on_record (tells text) (shown flushes e)
shown-holds flushes e text = ap (λ free. record { client = tells text (client_of e); may = e.outbox.from + free }) (cond-true (flushes == flushes) (free_at flushes e.outbox) _ (eq-eqb flushes flushes refl))

-- what is let go was among what may be taken
pub shown-lets_go : (flushes n : ℕ) (e : Entry) → n ≤ free_at flushes e.outbox → shown flushes (record e { outbox = lets_go n flushes e.outbox }) ≡ on_record (passes n) (shown flushes e)
shown-lets_go flushes n e within = ap (λ may. record { client = passes n (client_of e); may = may }) (may_stays flushes n e.outbox within)

-- what may be taken, by its length and as a front
pub free-shown : (flushes : ℕ) (e : Entry) → free_of (Some (shown flushes e)) ≡ free_at flushes e.outbox
free-shown flushes e = omega arith

pub IsFront-shown : (flushes : ℕ) (e : Entry) (free : ℕ) → free ≡ free_at flushes e.outbox → free ≤ length e.outbox.told → IsFront (shown flushes e)
IsFront-shown flushes e free is within = record { begins = omega arith; ends = omega arith }

-- ---- all entries at once

-- the register shows each client as g of what it showed
pub all_become : (now before : ℕ) (n m : BTreeMap ℕ Entry) (g : Listed → Listed) → ((q : ℕ) → option_map (shown now) (get nat_cmp n q) ≡ option_map g (option_map (shown before) (get nat_cmp m q)))
    → each (shown now) (from_entries n.entries) ≡ each g (each (shown before) (from_entries m.entries))
all_become now before n m g is = same_map nat_cmp_total nat_cmp-IsAntisymmetric _ _ (λ q.
    listed-register now 0 n q ∙ is q ∙ ap (option_map g) (sym (listed-register before 0 m q)) ∙ sym (get-each g _ q))

-- after one more flush all that was told may be taken
freed_by : (before now client : ℕ) (watchers : Watchers) (o : Option Entry) → now ≡ min (before + 1) 18446744073709551615 → IfSome o (Fits before watchers client) → option_map (shown now) o ≡ option_map freed (option_map (shown before) o)
freed_by before now client watchers None is fits = refl
freed_by before now client watchers (Some e) is fits = ap (λ free. Some (record { client = client_of e; may = e.outbox.from + free })) (free_later now e.outbox (omega (arith, fits.past, fits.early)))

pub flushed-view : (b : Inside) (now : ℕ) → now ≡ min (b.flushes + 1) 18446744073709551615 → the_invariant b → register now b.last b.clients ≡ frees_all (the_view b)
flushed-view b now is fits = ap (λ clients. record { clients = clients; last = b.last }) (all_become now b.flushes b.clients b.clients freed (λ q. freed_by b.flushes now q b.watchers (get nat_cmp b.clients q) is (fits q)))

-- the marks of those that watch a key
marked_by : (flushes : ℕ) (key : List ℕ) (o : Option Entry) → option_map (shown flushes) (option_map (marked key) o) ≡ option_map (on_record (sees_change key)) (option_map (shown flushes) o)
marked_by flushes key None = refl
marked_by flushes key (Some e) = refl

pub touched-view : (b : Inside) (n : BTreeMap ℕ Entry) (key : List ℕ) → BecomesAll (marked key) b.clients n → register b.flushes b.last n ≡ changes_all (sees_change key) (the_view b)
touched-view b n key becomes = ap (λ clients. record { clients = clients; last = b.last }) (all_become b.flushes b.flushes n b.clients (on_record (sees_change key)) (λ q. ap (option_map (shown b.flushes)) (becomes q) ∙ marked_by b.flushes key (get nat_cmp b.clients q)))

-- the records alone
client_of_shown : (flushes : ℕ) (o : Option Entry) → option_map client_of o ≡ option_map (λ (l : Listed). l.client) (option_map (shown flushes) o)
client_of_shown flushes None = refl
client_of_shown flushes (Some e) = refl

pub roll-view : (b : Inside) (records : List (ℕ × Client)) → records ≡ map (λ (e : ℕ × Entry). (e.0, client_of e.1)) b.clients.entries → from_entries {R = nat_cmp} records ≡ each (λ (l : Listed). l.client) (each (shown b.flushes) (from_entries b.clients.entries))
roll-view b records is = same_map nat_cmp_total nat_cmp-IsAntisymmetric _ _ (λ q.
    get-from_entries nat_cmp_total records q ∙ ap (find nat_cmp q) is ∙ find-map client_of q b.clients.entries ∙ ap (option_map client_of) (find-lookup q b.clients.entries)
    ∙ client_of_shown b.flushes (get nat_cmp b.clients q)
    ∙ ap (option_map (λ (l : Listed). l.client)) (sym (listed-register b.flushes 0 b.clients q)) ∙ sym (get-each (λ (l : Listed). l.client) _ q))

none_of_test : (flushes : ℕ) (t : Bool) (o : Option Entry) → option_map (shown flushes) (cond t None o) ≡ cond t None (option_map (shown flushes) o)
none_of_test flushes true o = refl
none_of_test flushes false o = refl

-- nobody, one that joins, one that leaves

pub empty-view : (flushes : ℕ) (n : BTreeMap ℕ Entry) → n.entries ≡ [] → each (shown flushes) (from_entries n.entries) ≡ finite.empty
empty-view flushes n none = same_map nat_cmp_total nat_cmp-IsAntisymmetric _ _ (λ q.
    listed-register flushes 0 n q ∙ ap (λ es. option_map (shown flushes) (lookup (eq_by_cmp nat_cmp q) es)) none ∙ sym (get-empty nat_cmp q))

pub joined-view : (b : Inside) (n : BTreeMap ℕ Entry) (k : ℕ) (e : Entry) → UpdatesBy nat_cmp (nat_cmp k) b.clients n (Some e) → client_of e ≡ new_client → e.outbox ≡ new_outgoing → register b.flushes k n ≡ joins k (the_view b)
joined-view b n k e updates new box =
    ap (λ clients. record { clients = clients; last = k }) (clients-put b.flushes b.last b.clients n k e updates)
    ∙ ap (λ (l : Listed). record { clients = finite.insert (each (shown b.flushes) (from_entries b.clients.entries)) k l; last = k })
    (λ i. record { client = new i; may = (ap (λ o. o.from + free_at b.flushes o) box ∙ none_free (0 == b.flushes)) i })

pub left-view : (b : Inside) (n : BTreeMap ℕ Entry) (k : ℕ) → UpdatesBy nat_cmp (nat_cmp k) b.clients n None → register b.flushes b.last n ≡ leaves k (the_view b)
left-view b n k updates = ap (λ clients. record { clients = clients; last = b.last }) (same_map nat_cmp_total nat_cmp-IsAntisymmetric _ _ (λ q.
    listed-register b.flushes 0 n q ∙ ap (option_map (shown b.flushes)) (updates.0 q)
    ∙ none_of_test b.flushes (eq_by_cmp nat_cmp k q) (get nat_cmp b.clients q)
    ∙ ap (λ o. cond (eq_by_cmp nat_cmp k q) None o) (sym (listed-register b.flushes 0 b.clients q))
    ∙ ap (λ t. cond t None (finite.get (each (shown b.flushes) (from_entries b.clients.entries)) q)) ((eq_by_cmp_equiv nat_cmp_total).symm k q)
    ∙ sym (get-remove nat_cmp_total _ k q)))

-- ---- what waits for a client

pub first_of_popped : {X : Type 0} (o : Option X) (xs ys : List X) → xs ≡ option_to_list o ++ ys → ys ≡ drop 1 xs → o ≡ slice_get xs 0
first_of_popped (Some x) xs ys whole rest = ap (λ zs. slice_get zs 0) (sym whole)
first_of_popped None [] ys whole rest = refl
first_of_popped None (x ∷ xs) ys whole rest = absurd (omega (arith, ap length whole, ap length rest, length-drop 1 (x ∷ xs)))
