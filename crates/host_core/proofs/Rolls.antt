-- Serves the clauses of `Core::step`: the book of clients as the machine has it.
use Rattle.std.proofs.Common.{◌≡◌, ◌<◌, refl, sym, ap, subst, ◌∙◌, ℕ, Bool, true, false, cond, not, if◌then◌else◌, List, Option, Some, None, IsSome, is_some, arith}
use Rattle.std.specs.Option.{option_map}
use Rattle.std.specs.Ordering.{nat_cmp, eq_by_cmp}
use Rattle.std.specs.Cmp.{nat_cmp_total, eq_by_cmp_equiv}
use Rattle.std.specs.FinMap as finite
use Rattle.std.specs.FinMap.{FinMap, get-empty, get-insert, get-remove, same_map, nat_cmp-IsAntisymmetric}
use Rattle.std.proofs.lemmas.Bool.{false≢true}
use Rattle.std.proofs.lemmas.Map.Lookups.{exact_unsigned}
use Rattle.std.proofs.lemmas.Map.Views.{tells_apart}
use Rattle.core_types.specs.declared.client_state.ClientState.{ClientState}
use Rattle.core_types.specs.declared.client_state.ClientState.TheVariants as states
use Rattle.client_book.proofs.Changing.{get-each}
use Rattle.client_book.specs.Client.{closes, new_client, tells}
use Rattle.client_book.specs.Register.{Listed, Register, Roll, changes, each, frees_all, joins, leaves, listed, nobody, on_record, put_if_there, roll_of, state_of}
use Rattle.client_book.specs.declared.client.Client.{Client}
use Rattle.host_core.specs.Clients.{changed, client_at, is_served, with_new, with_record, without_client}
use Rattle.host_core.specs.Core.{AreJoined, KeepsPlaces, may_of}
use Rattle.host_core.specs.inner.Giving.{closed_if, register_told}

abbrev is_same : ℕ → ℕ → Bool
is_same q c = eq_by_cmp nat_cmp q c

-- ---- maps with each value changed

map_cond : {X Y : Type 0} (g : X → Y) (b : Bool) (x : X) (o : Option X) → option_map g (cond b (Some x) o) ≡ cond b (Some (g x)) (option_map g o)
map_cond g true x o = refl
map_cond g false x o = refl

map_none : {X Y : Type 0} (g : X → Y) (b : Bool) (o : Option X) → option_map g (cond b None o) ≡ cond b None (option_map g o)
map_none g true o = refl
map_none g false o = refl

each_insert : {X Y : Type 0} (g : X → Y) (m : FinMap nat_cmp X) (k : ℕ) (v : X) → each g (finite.insert m k v) ≡ finite.insert (each g m) k (g v)
each_insert g m k v = same_map nat_cmp_total nat_cmp-IsAntisymmetric _ _ (λ q.
    get-each g (finite.insert m k v) q ∙ ap (option_map g) (get-insert nat_cmp_total m k v q)
    ∙ map_cond g (is_same q k) v (finite.get m q) ∙ ap (λ o. cond (is_same q k) (Some (g v)) o) (sym (get-each g m q))
    ∙ sym (get-insert nat_cmp_total (each g m) k (g v) q))

each_remove : {X Y : Type 0} (g : X → Y) (m : FinMap nat_cmp X) (k : ℕ) → each g (finite.remove m k) ≡ finite.remove (each g m) k
each_remove g m k = same_map nat_cmp_total nat_cmp-IsAntisymmetric _ _ (λ q.
    get-each g (finite.remove m k) q ∙ ap (option_map g) (get-remove nat_cmp_total m k q)
    ∙ map_none g (is_same q k) (finite.get m q) ∙ ap (λ o. cond (is_same q k) None o) (sym (get-each g m q))
    ∙ sym (get-remove nat_cmp_total (each g m) k q))

-- ---- the records of a register

abbrev client_in : Listed → Client
client_in entry = entry.client

pub roll_at : (r : Register) (q : ℕ) → client_at (roll_of r) q ≡ option_map client_in (listed r q)
roll_at r q = get-each client_in r.clients q

roll_put : (f : Client → Client) (c : ℕ) (r : Register) (o : Option Listed)
    → roll_of (put_if_there o (on_record f) c r) ≡ with_record f c (roll_of r) (option_map client_in o)
roll_put f c r None = refl
roll_put f c r (Some entry) =
    ap (λ clients. record { clients = clients; last = r.last }) (each_insert client_in r.clients c (on_record f entry))

pub roll_changes : (f : Client → Client) (c : ℕ) (r : Register) → roll_of (changes f c r) ≡ changed f c (roll_of r)
roll_changes f c r = roll_put f c r (listed r c) ∙ ap (with_record f c (roll_of r)) (sym (roll_at r c))

pub roll_joins : (c : ℕ) (r : Register) → roll_of (joins c r) ≡ with_new c (roll_of r)
roll_joins c r = ap (λ clients. record { clients = clients; last = c }) (each_insert client_in r.clients c (record { client = new_client; may = 0 }))

pub roll_leaves : (c : ℕ) (r : Register) → roll_of (leaves c r) ≡ without_client c (roll_of r)
roll_leaves c r = ap (λ clients. record { clients = clients; last = r.last }) (each_remove client_in r.clients c)

-- ---- one change after another of one record

insert_twice : {X : Type 0} (m : FinMap nat_cmp X) (k : ℕ) (v w : X) → finite.insert (finite.insert m k v) k w ≡ finite.insert m k w
insert_twice m k v w = same_map nat_cmp_total nat_cmp-IsAntisymmetric _ _ (λ q.
    get-insert nat_cmp_total (finite.insert m k v) k w q ∙ ap (λ o. cond (is_same q k) (Some w) o) (get-insert nat_cmp_total m k v q)
    ∙ cond_twice (is_same q k) w v (finite.get m q) ∙ sym (get-insert nat_cmp_total m k w q))
  where
    cond_twice : {Y : Type 0} (b : Bool) (x y : Y) (o : Option Y) → cond b (Some x) (cond b (Some y) o) ≡ cond b (Some x) o
    cond_twice true x y o = refl
    cond_twice false x y o = refl

get_inserted : {X : Type 0} (m : FinMap nat_cmp X) (k : ℕ) (v : X) → finite.get (finite.insert m k v) k ≡ Some v
get_inserted m k v = get-insert nat_cmp_total m k v k ∙ ap (λ b. cond b (Some v) (finite.get m k)) ((eq_by_cmp_equiv nat_cmp_total).refl k)

record_twice : (f g : Client → Client) (c : ℕ) (roll : Roll) (o : Option Client) → client_at roll c ≡ o
    → changed f c (with_record g c roll o) ≡ with_record (λ x. f (g x)) c roll o
record_twice f g c roll None there = ap (with_record f c roll) there
record_twice f g c roll (Some x) there =
    ap (with_record f c (with_record g c roll (Some x))) (get_inserted roll.clients c (g x))
    ∙ ap (λ clients. record { clients = clients; last = roll.last }) (insert_twice roll.clients c (g x) (f (g x)))

changed_twice : (f g : Client → Client) (c : ℕ) (roll : Roll) → changed f c (changed g c roll) ≡ changed (λ x. f (g x)) c roll
changed_twice f g c roll = record_twice f g c roll (client_at roll c) refl

-- a client that is told something and then closed is as one that was closed and then told it
pub roll_told : (closing : Bool) (text : List ℕ) (c : ℕ) (r : Register)
    → roll_of (register_told closing text c r) ≡ changed (tells text) c (closed_if closing c (roll_of r))
roll_told false text c r = roll_changes (tells text) c r
roll_told true text c r =
    roll_changes closes c (changes (tells text) c r) ∙ ap (changed closes c) (roll_changes (tells text) c r)
    ∙ changed_twice closes (tells text) c (roll_of r) ∙ sym (changed_twice (tells text) closes c (roll_of r))

-- ---- who is there

map_some : {X Y : Type 0} (g : X → Y) (o : Option X) → is_some (option_map g o) ≡ is_some o
map_some g None = refl
map_some g (Some x) = refl

listed_put : (f : Client → Client) (c : ℕ) (r : Register) (q : ℕ) (o : Option Listed) → listed r c ≡ o
    → (b : Bool) → is_same q c ≡ b → listed (put_if_there o (on_record f) c r) q ≡ cond b (option_map (on_record f) (listed r q)) (listed r q)
listed_put f c r q None there true same =
    let is : q ≡ c = tells_apart exact_unsigned q c same in
    let none : listed r q ≡ None = ap (listed r) is ∙ there in
    none ∙ sym (ap (option_map (on_record f)) none)
listed_put f c r q None there false apart = refl
listed_put f c r q (Some entry) there true same =
    let is : q ≡ c = tells_apart exact_unsigned q c same in
    get-insert nat_cmp_total r.clients c (on_record f entry) q
    ∙ ap (λ b. cond b (Some (on_record f entry)) (listed r q)) same
    ∙ ap (option_map (on_record f)) (sym there ∙ ap (listed r) (sym is))
listed_put f c r q (Some entry) there false apart =
    get-insert nat_cmp_total r.clients c (on_record f entry) q
    ∙ ap (λ b. cond b (Some (on_record f entry)) (listed r q)) apart

pub listed_changes : (f : Client → Client) (c : ℕ) (r : Register) (q : ℕ) → listed (changes f c r) q ≡ cond (is_same q c) (option_map (on_record f) (listed r q)) (listed r q)
listed_changes f c r q = listed_put f c r q (listed r c) refl (is_same q c) refl

may_kept : (f : Client → Client) (b : Bool) (o : Option Listed) → may_of (cond b (option_map (on_record f) o) o) ≡ may_of o
may_kept f true None = refl
may_kept f true (Some entry) = refl
may_kept f false o = refl

pub may_changes : (f : Client → Client) (c : ℕ) (r : Register) (q : ℕ) → may_of (listed (changes f c r) q) ≡ may_of (listed r q)
may_changes f c r q = ap may_of (listed_changes f c r q) ∙ may_kept f (is_same q c) (listed r q)

pub places_told : (closing : Bool) (text : List ℕ) (c : ℕ) (r : Register) → KeepsPlaces r (register_told closing text c r)
places_told false text c r q there = may_changes (tells text) c r q
places_told true text c r q there = may_changes closes c (changes (tells text) c r) q ∙ may_changes (tells text) c r q

new_may : (b : Bool) (o : Option Listed) → (b ≡ true → o ≡ None) → may_of (cond b (Some (record { client = new_client; may = 0 })) o) ≡ may_of o
new_may true o none = sym (ap may_of (none refl))
new_may false o none = refl

pub places_joins : (c : ℕ) (r : Register) → AreJoined r → r.last < c → KeepsPlaces r (joins c r)
places_joins c r joined new q there =
    ap may_of (get-insert nat_cmp_total r.clients c (record { client = new_client; may = 0 }) q)
    ∙ new_may (is_same q c) (listed r q) (λ same. joined q (subst (λ n. r.last < n) (sym (tells_apart exact_unsigned q c same)) new))

left_may : (b : Bool) (o : Option Listed) → IsSome (cond b None o) → may_of (cond b None o) ≡ may_of o
left_may true o there = absurd (false≢true there)
left_may false o there = refl

pub places_leaves : (c : ℕ) (r : Register) → KeepsPlaces r (leaves c r)
places_leaves c r q there =
    let at = get-remove nat_cmp_total r.clients c q in
    ap may_of at ∙ left_may (is_same q c) (listed r q) (subst IsSome at there)

pub places_same : (r : Register) → KeepsPlaces r r
places_same r q there = refl

some_changed : (f : Client → Client) (b : Bool) (o : Option Listed) → IsSome o → IsSome (cond b (option_map (on_record f) o) o)
some_changed f b None there = absurd (false≢true there)
some_changed f true (Some entry) there = refl
some_changed f false (Some entry) there = refl

pub there_changes : (f : Client → Client) (c : ℕ) (r : Register) (q : ℕ) → IsSome (listed r q) → IsSome (listed (changes f c r) q)
there_changes f c r q there = subst IsSome (sym (listed_changes f c r q)) (some_changed f (is_same q c) (listed r q) there)

-- ---- who joined

none_changed : (f : Client → Client) (b : Bool) (o : Option Listed) → o ≡ None → cond b (option_map (on_record f) o) o ≡ None
none_changed f true o none = ap (option_map (on_record f)) none
none_changed f false o none = none

last_put : (f : Listed → Listed) (c : ℕ) (r : Register) (o : Option Listed) → (put_if_there o f c r).last ≡ r.last
last_put f c r None = refl
last_put f c r (Some entry) = refl

pub joined_changes : (f : Client → Client) (c : ℕ) (r : Register) → AreJoined r → AreJoined (changes f c r)
joined_changes f c r joined q above =
    listed_changes f c r q ∙ none_changed f (is_same q c) (listed r q) (joined q (subst (λ n. n < q) (last_put (on_record f) c r (listed r c)) above))

pub joined_told : (closing : Bool) (text : List ℕ) (c : ℕ) (r : Register) → AreJoined r → AreJoined (register_told closing text c r)
joined_told false text c r joined = joined_changes (tells text) c r joined
joined_told true text c r joined = joined_changes closes c (changes (tells text) c r) (joined_changes (tells text) c r joined)

pub joined_frees : (r : Register) → AreJoined r → AreJoined (frees_all r)
joined_frees r joined q above = get-each _ r.clients q ∙ ap (option_map _) (joined q above)

joined_or_new : (e : Listed) (b : Bool) (o : Option Listed) → (b ≡ true → ⊥) → o ≡ None → cond b (Some e) o ≡ None
joined_or_new e true o apart none = absurd (apart refl)
joined_or_new e false o apart none = none

pub joined_joins : (c : ℕ) (r : Register) → AreJoined r → r.last < c → AreJoined (joins c r)
joined_joins c r joined new q above =
    get-insert nat_cmp_total r.clients c (record { client = new_client; may = 0 }) q
    ∙ joined_or_new _ (is_same q c) (listed r q) (λ same. absurd (omega (arith, above, tells_apart exact_unsigned q c same))) (joined q (omega (arith, above, new)))

none_left : (b : Bool) (o : Option Listed) → o ≡ None → cond b None o ≡ None
none_left true o none = refl
none_left false o none = none

pub joined_leaves : (c : ℕ) (r : Register) → AreJoined r → AreJoined (leaves c r)
joined_leaves c r joined q above = get-remove nat_cmp_total r.clients c q ∙ none_left (is_same q c) (listed r q) (joined q above)

pub joined_nobody : AreJoined nobody
joined_nobody q above = get-empty nat_cmp q

-- ---- who is served

abbrev pub is_connected : ClientState → Bool
is_connected states.Connected = true
is_connected _ = false

connected_of : (b : Bool) → is_connected (if b then states.Closing else states.Connected) ≡ not b
connected_of true = refl
connected_of false = refl

served_of : (o : Option Listed) → is_served (option_map client_in o) ≡ is_connected (state_of o)
served_of None = refl
served_of (Some entry) = sym (connected_of entry.client.closing)

pub served_at : (r : Register) (c : ℕ) → is_served (client_at (roll_of r) c) ≡ is_connected (state_of (listed r c))
served_at r c = ap is_served (roll_at r c) ∙ served_of (listed r c)

not_absent : (o : Option Listed) → state_of o ≡ states.Connected → IsSome o
not_absent None is = absurd (false≢true (ap is_connected is))
not_absent (Some entry) is = refl

pub connected_served : (r : Register) (c : ℕ) → state_of (listed r c) ≡ states.Connected → is_served (client_at (roll_of r) c) ≡ true
connected_served r c is = served_at r c ∙ ap is_connected is

pub connected_there : (r : Register) (c : ℕ) → state_of (listed r c) ≡ states.Connected → IsSome (listed r c)
connected_there r c is = not_absent (listed r c) is

of_state : (s : ClientState) → (s ≡ states.Connected → ⊥) → is_connected s ≡ false
of_state states.Absent apart = refl
of_state states.Closing apart = refl
of_state states.Connected apart = absurd (apart refl)

pub others_not_served : (r : Register) (c : ℕ) → (state_of (listed r c) ≡ states.Connected → ⊥) → is_served (client_at (roll_of r) c) ≡ false
others_not_served r c apart = served_at r c ∙ of_state (state_of (listed r c)) apart
