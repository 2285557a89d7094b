-- Serves clauses happens, stops and kept of `DurableHost::step`, and kept of `take_out`: what
-- clients took and may take.
use Rattle.std.proofs.Common.{◌≡◌, ◌≤◌, refl, sym, ap, subst, ◌∙◌, ℕ, ◌+◌, ◌-◌, Bool, true, false, cond, List, [], length, take, drop, length-append, length-drop, length-take, take-take, drop-drop, Option, Some, None, IfSome, IsSome, arith, inl, inr}
use Rattle.std.specs.Option.{option_map}
use Rattle.std.specs.Ordering.{nat_cmp, eq_by_cmp}
use Rattle.std.specs.Cmp.{nat_cmp_total}
use Rattle.std.specs.FinMap.{get-insert}
use Rattle.std.proofs.lemmas.Bool.{cases_lt}
use Rattle.std.proofs.lemmas.List.{drop-take, take-append-le}
use Rattle.std.proofs.Math.Seq.{take-nil}
use Rattle.std.proofs.lemmas.Map.Lookups.{exact_unsigned}
use Rattle.std.proofs.lemmas.Map.Views.{tells_apart}
use Rattle.std.proofs.lemmas.Option.{none-some}
use Rattle.core_types.specs.declared.event.Event.{Event}
use Rattle.client_book.specs.Client.{new_client, passes}
use Rattle.client_book.specs.Register.{IsFront, Listed, Register, changes, free_of, freed, frees_all, listed, on_record, put_if_there, roll_of, told_of}
use Rattle.client_book.specs.declared.client.Client.{Client}
use Rattle.client_book.proofs.Changing.{get-each}
use Rattle.host_core.specs.Clients.{client_at}
use Rattle.host_core.specs.Core.{Held, KeepsPlaces, may_of, state_of}
use Rattle.host_core.specs.Events.{step}
use Rattle.host_core.specs.Laws.{AllJoined, IsTold}
use Rattle.host_core.specs.State.{State}
use Rattle.host_core.proofs.Rolls.{roll_at}
use Rattle.host_core.proofs.Steps.{tells}
use Rattle.durable_host.specs.Steps.{KeepsOutboxes, KeepsPlace}
use Rattle.durable_host.specs.Taking.{IsButTaken, IsFreed, SameButTaken, stream_between, stream_start, taken_of}
use Rattle.durable_host.specs.inner.Running.{AreFronts}
use Rattle.durable_host.proofs.Appears.{appears}

abbrev client_in : Listed → Client
client_in entry = entry.client

-- ---- a step

-- what becomes of one client in a step that frees nothing
record Stays (o : Option Listed) (entry : Listed) : Type 0 where
  place : KeepsPlace o entry
  front : IsFront entry

new_stays : (entry : Listed) → entry.client ≡ new_client → entry.may ≡ 0 → Stays None entry
new_stays entry new may =
    let from : entry.client.from ≡ 0 = ap (λ (client : Client). client.from) new in
    let told : entry.client.told ≡ [] = ap (λ (client : Client). client.told) new in
    record {
      place = record { taken = from; may = may; bytes = ap (take (entry.may - entry.client.from)) told ∙ take-nil (entry.may - entry.client.from) };
      front = record { begins = omega (arith, from, may); ends = omega (arith, from, may) };
    }

told_stays : (was entry : Listed) (bytes : List ℕ) → IsFront was → IsTold was.client entry.client bytes → entry.may ≡ was.may → Stays (Some was) entry
told_stays was entry bytes front told may =
    let free : entry.may - entry.client.from ≡ was.may - was.client.from = rw (may, told.from) refl in
    record {
      place = record {
        taken = told.from;
        may = may;
        bytes = ap (λ n. take n entry.client.told) free ∙ ap (take (was.may - was.client.from)) told.told
            ∙ take-append-le (was.may - was.client.from) was.client.told bytes (omega (arith, front.begins, front.ends));
      };
      front = record {
        begins = omega (arith, told.from, may, front.begins);
        ends = omega (arith, told.from, may, front.ends, ap length told.told, length-append was.client.told bytes);
      };
    }

module _ (before after : Held) (happens : Event)
    (made : state_of after ≡ (step (state_of before) happens).state)
    (joined : AllJoined (state_of before))
    (places : KeepsPlaces before.register after.register)
    (fronts : AreFronts before.register) where
  here : (c : ℕ) (o : Option Listed) → listed before.register c ≡ o → client_at (state_of before).clients c ≡ option_map client_in o
  here c o is = roll_at before.register c ∙ ap (option_map client_in) is

  there : (c : ℕ) (o : Option Listed) → listed after.register c ≡ o → client_at (step (state_of before) happens).state.clients c ≡ option_map client_in o
  there c o is = ap (λ (state : State). client_at state.clients c) (sym made) ∙ roll_at after.register c ∙ ap (option_map client_in) is

  some_there : (o : Option Listed) (entry : Listed) → o ≡ Some entry → IsSome o
  some_there None entry is = absurd (none-some entry is)
  some_there (Some other) entry is = refl

  one_stays : (c : ℕ) (o : Option Listed) (entry : Listed) → listed before.register c ≡ o → listed after.register c ≡ Some entry → Stays o entry
  one_stays c None entry was is =
      new_stays entry (appears c (state_of before) happens (here c None was) entry.client (there c (Some entry) is))
      (ap may_of (sym is) ∙ places c (some_there (listed after.register c) entry is) ∙ ap may_of was)
  one_stays c (Some listed_was) entry was is =
      told_stays listed_was entry _ (subst (λ o. IfSome o IsFront) was (fronts c))
      (tells (state_of before) happens joined c listed_was.client entry.client (here c (Some listed_was) was) (there c (Some entry) is))
      (ap may_of (sym is) ∙ places c (some_there (listed after.register c) entry is) ∙ ap may_of was)

  place_of : (c : ℕ) (p : Option Listed) → listed after.register c ≡ p → IfSome p (KeepsPlace (listed before.register c))
  place_of c None is = tt
  place_of c (Some entry) is = (one_stays c (listed before.register c) entry refl is).place

  front_of : (c : ℕ) (p : Option Listed) → listed after.register c ≡ p → IfSome p IsFront
  front_of c None is = tt
  front_of c (Some entry) is = (one_stays c (listed before.register c) entry refl is).front

  pub step_places : KeepsOutboxes before.register after.register
  step_places c = place_of c (listed after.register c) refl

  pub step_fronts : AreFronts after.register
  step_fronts c = front_of c (listed after.register c) refl

-- nothing changes
stays_as_is : (o : Option Listed) → IfSome o (KeepsPlace o)
stays_as_is None = tt
stays_as_is (Some entry) = record { taken = refl; may = refl; bytes = refl }

pub same_places : (register : Register) → KeepsOutboxes register register
same_places register c = stays_as_is (listed register c)

-- ---- what may be taken stays in the stream of the safe events

kept_freed : (stream : Option Client) (o : Option Listed) (entry : Listed) → IfSome o (IsFreed stream) → KeepsPlace o entry → IsFreed stream entry
kept_freed None None entry freed place = record {
  begins = omega (arith, place.taken, place.may);
  recorded = λ some. omega arith;
  within = omega (arith, place.may);
  bytes = place.bytes;
}
kept_freed (Some client) None entry freed place =
    let nothing : entry.may - entry.client.from ≡ 0 = omega (arith, place.may) in
    record {
      begins = omega (arith, place.taken, place.may);
      recorded = λ some. absurd (omega (arith, place.may, some));
      within = omega (arith, place.may);
      bytes = place.bytes ∙ sym (ap (λ n. take n (drop (entry.client.from - client.from) client.told)) nothing);
    }
kept_freed stream (Some was) entry freed place = record {
  begins = omega (arith, place.taken, place.may, freed.begins);
  recorded = λ some. subst (λ n. stream_start stream ≤ n) (sym place.taken) (freed.recorded (omega (arith, place.taken, place.may, some)));
  within = omega (arith, place.may, freed.within);
  bytes = place.bytes ∙ freed.bytes ∙ ap (λ to. stream_between was.client.from to stream) (sym place.may) ∙ ap (λ from. stream_between from entry.may stream) (sym place.taken);
}

kept_one : (stream : Option Client) (o p : Option Listed) → IfSome o (IsFreed stream) → IfSome p (KeepsPlace o) → IfSome p (IsFreed stream)
kept_one stream o None freed place = tt
kept_one stream o (Some entry) freed place = kept_freed stream o entry freed place

-- what the safe events told stays what may be taken, where nothing is freed
pub keeps_freed : (streams : ℕ → Option Client) (before after : Register) → ((c : ℕ) → IfSome (listed before c) (IsFreed (streams c))) → KeepsOutboxes before after
    → (c : ℕ) → IfSome (listed after c) (IsFreed (streams c))
keeps_freed streams before after freed places c = kept_one (streams c) (listed before c) (listed after c) (freed c) (places c)

-- ---- a flush

pub listed_freed : (register : Register) (c : ℕ) → listed (frees_all register) c ≡ option_map freed (listed register c)
listed_freed register c = get-each freed register.clients c

all_front : (o : Option Listed) → IfSome o IsFront → IfSome (option_map freed o) IsFront
all_front None front = tt
all_front (Some entry) front = record { begins = omega arith; ends = omega arith }

pub freed_fronts : (register : Register) → AreFronts register → AreFronts (frees_all register)
freed_fronts register fronts c = subst (λ o. IfSome o IsFront) (sym (listed_freed register c)) (all_front (listed register c) (fronts c))

all_freed : (full : Option Client) (o : Option Listed) → IsButTaken full (option_map client_in o) → IfSome (option_map freed o) (IsFreed full)
all_freed full None took = tt
all_freed None (Some entry) took = absurd took
all_freed (Some client) (Some entry) took =
    let from : entry.client.from ≡ client.from + took.count = ap (λ (it : Client). it.from) took.rest in
    let told : entry.client.told ≡ drop took.count client.told = ap (λ (it : Client). it.told) took.rest in
    let size : length entry.client.told ≡ length client.told - took.count = ap length told ∙ length-drop took.count client.told in
    let place : took.count ≡ entry.client.from - client.from = omega (arith, from) in
    record {
      begins = omega arith;
      recorded = λ some. omega (arith, from);
      within = omega (arith, from, size, took.enough);
      bytes = ap (take (entry.client.from + length entry.client.told - entry.client.from)) (told ∙ ap (λ n. drop n client.told) place);
    }

pub flush_freed : (full : State) (held : Held) → SameButTaken full (state_of held) → (c : ℕ) → IfSome (listed (frees_all held.register) c) (IsFreed (client_at full.clients c))
flush_freed full held same c =
    subst (λ o. IfSome o (IsFreed (client_at full.clients c))) (sym (listed_freed held.register c))
    (all_freed (client_at full.clients c) (listed held.register c) (subst (IsButTaken (client_at full.clients c)) (roll_at held.register c) (same.each c)))

-- a flush changes no record
clients_freed : (o : Option Listed) → option_map client_in (option_map freed o) ≡ option_map client_in o
clients_freed None = refl
clients_freed (Some entry) = refl

pub flush_rolls : (register : Register) (c : ℕ) → client_at (roll_of (frees_all register)) c ≡ client_at (roll_of register) c
flush_rolls register c = roll_at (frees_all register) c ∙ ap (option_map client_in) (listed_freed register c) ∙ clients_freed (listed register c) ∙ sym (roll_at register c)

-- ---- taking

abbrev is_same : ℕ → ℕ → Bool
is_same = eq_by_cmp nat_cmp

put_test : (f : Listed → Listed) (q c : ℕ) (register : Register) (o : Option Listed) → listed register c ≡ o → (b : Bool) → is_same q c ≡ b
    → listed (put_if_there o f c register) q ≡ cond b (option_map f (listed register q)) (listed register q)
put_test f q c register None none true same =
    let is : listed register q ≡ None = ap (listed register) (tells_apart exact_unsigned q c same) ∙ none in
    is ∙ sym (ap (option_map f) is)
put_test f q c register None none false apart = refl
put_test f q c register (Some entry) there true same =
    get-insert nat_cmp_total register.clients c (f entry) q ∙ ap (λ b. cond b (Some (f entry)) (listed register q)) same
    ∙ sym (ap (option_map f) (ap (listed register) (tells_apart exact_unsigned q c same) ∙ there))
put_test f q c register (Some entry) there false apart =
    get-insert nat_cmp_total register.clients c (f entry) q ∙ ap (λ b. cond b (Some (f entry)) (listed register q)) apart

pub listed_changed : (f : Client → Client) (c : ℕ) (register : Register) (q : ℕ)
    → listed (changes f c register) q ≡ cond (is_same q c) (option_map (on_record f) (listed register q)) (listed register q)
listed_changed f c register q = put_test (on_record f) q c register (listed register c) refl (is_same q c) refl

-- what a client that took some more may take
taken_freed : (stream : Option Client) (entry : Listed) (count : ℕ) → count ≤ entry.may - entry.client.from → IsFreed stream entry → IsFreed stream (on_record (passes count) entry)
taken_freed stream entry count few freed = record {
  begins = omega (arith, few, freed.begins);
  recorded = λ some. further (freed.recorded (omega (arith, some)));
  within = freed.within;
  bytes = rest stream freed;
}
  where
    further : stream_start stream ≤ entry.client.from → stream_start stream ≤ entry.client.from + count
    further start = omega (arith, start)

    left : ℕ
    left = entry.may - (entry.client.from + count)

    split : entry.may - entry.client.from ≡ count + left
    split = omega (arith, few)

    further_on : (client : Client) → client.from ≤ entry.client.from → entry.client.from - client.from + count ≡ entry.client.from + count - client.from
    further_on client start = omega (arith, start)

    nothing_left : entry.may ≤ entry.client.from → left ≡ 0
    nothing_left all = omega (arith, all)

    rest : (stream : Option Client) → IsFreed stream entry → take left (drop count entry.client.told) ≡ stream_between (entry.client.from + count) entry.may stream
    rest None freed =
        let nothing : left ≡ 0 = omega (arith, freed.within) in
        ap (λ n. take n (drop count entry.client.told)) nothing
    rest (Some client) freed = elim (cases_lt entry.client.from entry.may) [
      | inl some ↦
          sym (drop-take count left entry.client.told)
          ∙ ap (λ n. drop count (take n entry.client.told)) (sym split)
          ∙ ap (drop count) freed.bytes
          ∙ ap (λ n. drop count (take n (drop (entry.client.from - client.from) client.told))) split
          ∙ drop-take count left (drop (entry.client.from - client.from) client.told)
          ∙ ap (take left) (drop-drop count (entry.client.from - client.from) client.told
          ∙ ap (λ n. drop n client.told) (further_on client (freed.recorded some)))
      | inr all ↦
          ap (λ n. take n (drop count entry.client.told)) (nothing_left all)
          ∙ sym (ap (λ n. take n (drop (entry.client.from + count - client.from) client.told)) (nothing_left all))
    ]

taken_one : (stream : Option Client) (o : Option Listed) (count : ℕ) → count ≤ free_of o → IfSome o (IsFreed stream) → (b : Bool)
    → IfSome (cond b (option_map (on_record (passes count)) o) o) (IsFreed stream)
taken_one stream None count few freed true = tt
taken_one stream None count few freed false = tt
taken_one stream (Some entry) count few freed true = taken_freed stream entry count few freed
taken_one stream (Some entry) count few freed false = freed

-- how much is taken is what may be taken, and at another client nothing changes
taken_at : (streams : ℕ → Option Client) (c count : ℕ) (register : Register) → count ≤ free_of (listed register c) → ((q : ℕ) → IfSome (listed register q) (IsFreed (streams q)))
    → (q : ℕ) (b : Bool) → is_same q c ≡ b → IfSome (cond b (option_map (on_record (passes count)) (listed register q)) (listed register q)) (IsFreed (streams q))
taken_at streams c count register few freed q true same =
    taken_one (streams q) (listed register q) count (subst (λ k. count ≤ free_of (listed register k)) (sym (tells_apart exact_unsigned q c same)) few) (freed q) true
taken_at streams c count register few freed q false apart = freed q

pub take_freed : (streams : ℕ → Option Client) (c count : ℕ) (register : Register) → count ≤ free_of (listed register c) → ((q : ℕ) → IfSome (listed register q) (IsFreed (streams q)))
    → (q : ℕ) → IfSome (listed (changes (passes count) c register) q) (IsFreed (streams q))
take_freed streams c count register few freed q =
    subst (λ o. IfSome o (IsFreed (streams q))) (sym (listed_changed (passes count) c register q)) (taken_at streams c count register few freed q (is_same q c) refl)

front_taken : (o : Option Listed) (count : ℕ) → count ≤ free_of o → IfSome o IsFront → IfSome (option_map (on_record (passes count)) o) IsFront
front_taken None count few front = tt
front_taken (Some entry) count few front = record {
  begins = omega (arith, few, front.begins);
  ends = omega (arith, few, front.begins, front.ends, length-drop count entry.client.told);
}

fronts_at : (c count : ℕ) (register : Register) → count ≤ free_of (listed register c) → AreFronts register
    → (q : ℕ) (b : Bool) → is_same q c ≡ b → IfSome (cond b (option_map (on_record (passes count)) (listed register q)) (listed register q)) IsFront
fronts_at c count register few fronts q true same =
    front_taken (listed register q) count (subst (λ k. count ≤ free_of (listed register k)) (sym (tells_apart exact_unsigned q c same)) few) (fronts q)
fronts_at c count register few fronts q false apart = fronts q

pub take_fronts : (c count : ℕ) (register : Register) → count ≤ free_of (listed register c) → AreFronts register → AreFronts (changes (passes count) c register)
take_fronts c count register few fronts q =
    subst (λ o. IfSome o IsFront) (sym (listed_changed (passes count) c register q)) (fronts_at c count register few fronts q (is_same q c) refl)

took_more : (full : Option Client) (o : Option Listed) (count : ℕ) → count ≤ free_of o → IfSome o IsFront → IsButTaken full (option_map client_in o)
    → IsButTaken full (option_map client_in (option_map (on_record (passes count)) o))
took_more full None count few front took = took
took_more None (Some entry) count few front took = took
took_more (Some client) (Some entry) count few front took =
    let told : entry.client.told ≡ drop took.count client.told = ap (λ (it : Client). it.told) took.rest in
    let size : length entry.client.told ≡ length client.told - took.count = ap length told ∙ length-drop took.count client.told in
    record {
      count = took.count + count;
      enough = omega (arith, took.enough, size, few, front.begins, front.ends);
      rest = ap (passes count) took.rest ∙ passes_twice client took.count count;
    }
  where
    passes_twice : (it : Client) (m n : ℕ) → passes n (passes m it) ≡ passes (m + n) it
    passes_twice it m n =
        let sum : it.from + m + n ≡ it.from + (m + n) = omega arith in
        ap (λ from. record it { from = from; told = drop n (drop m it.told) }) sum
        ∙ ap (λ told. record it { from = it.from + (m + n); told = told }) (drop-drop n m it.told)

more_at : (full : State) (c count : ℕ) (register : Register) → count ≤ free_of (listed register c) → AreFronts register
    → (q : ℕ) → IsButTaken (client_at full.clients q) (option_map client_in (listed register q)) → (b : Bool) → is_same q c ≡ b
    → IsButTaken (client_at full.clients q) (option_map client_in (cond b (option_map (on_record (passes count)) (listed register q)) (listed register q)))
more_at full c count register few fronts q took true same =
    took_more (client_at full.clients q) (listed register q) count (subst (λ k. count ≤ free_of (listed register k)) (sym (tells_apart exact_unsigned q c same)) few) (fronts q) took
more_at full c count register few fronts q took false apart = took

pub take_same : (full : State) (held : Held) (c count : ℕ) → count ≤ free_of (listed held.register c) → AreFronts held.register → SameButTaken full (state_of held)
    → SameButTaken full (state_of (record held { register = changes (passes count) c held.register }))
take_same full held c count few fronts same = record {
  keys = same.keys;
  moment = same.moment;
  last = same_last (listed held.register c) ∙ same.last;
  each = λ q. subst (IsButTaken (client_at full.clients q))
      (sym (roll_at (changes (passes count) c held.register) q ∙ ap (option_map client_in) (listed_changed (passes count) c held.register q)))
      (more_at full c count held.register few fronts q (subst (IsButTaken (client_at full.clients q)) (roll_at held.register q) (same.each q)) (is_same q c) refl);
}
  where
    same_last : (o : Option Listed) → (put_if_there o (on_record (passes count)) c held.register).last ≡ held.register.last
    same_last None = refl
    same_last (Some entry) = refl

-- what is taken is in the stream of the safe events
handed : (stream : Option Client) (entry : Listed) (count : ℕ) → count ≤ entry.may - entry.client.from → IsFreed stream entry
    → take count entry.client.told ≡ stream_between entry.client.from (entry.client.from + count) stream
handed stream entry count few freed =
    sym (first_of entry.client.told) ∙ ap (take count) freed.bytes ∙ of_stream stream freed
  where
    first_of : (bytes : List ℕ) → take count (take (entry.may - entry.client.from) bytes) ≡ take count bytes
    first_of bytes = take-take count (entry.may - entry.client.from) bytes few

    more : entry.client.from + count - entry.client.from ≡ count
    more = omega arith

    of_stream : (stream : Option Client) → IsFreed stream entry → take count (stream_between entry.client.from entry.may stream) ≡ stream_between entry.client.from (entry.client.from + count) stream
    of_stream None freed = take-nil count
    of_stream (Some client) freed =
        first_of (drop (entry.client.from - client.from) client.told)
        ∙ sym (ap (λ n. take n (drop (entry.client.from - client.from) client.told)) more)

pub handed_out : (stream : Option Client) (o : Option Listed) (count : ℕ) → count ≤ free_of o → IfSome o (IsFreed stream)
    → take count (told_of o) ≡ stream_between (taken_of o) (taken_of o + count) stream
handed_out None None count few freed = take-nil count
handed_out (Some client) None count few freed =
    let nothing : 0 + count - 0 ≡ 0 = omega (arith, few) in
    take-nil count ∙ sym (ap (λ n. take n (drop (0 - client.from) client.told)) nothing)
handed_out stream (Some entry) count few freed = handed stream entry count few freed

-- what may be taken is there
pub told_enough : (stream : Option Client) (o : Option Listed) (count : ℕ) → count ≤ free_of o → IfSome o (IsFreed stream) → count ≤ length (told_of o)
told_enough stream None count few freed = few
told_enough None (Some entry) count few freed = omega (arith, few, freed.within)
told_enough (Some client) (Some entry) count few freed = elim (cases_lt entry.client.from entry.may) [
  | inl some ↦
      let start = freed.recorded some in
      let here = length-take (entry.may - entry.client.from) entry.client.told in
      let there = length-take (entry.may - entry.client.from) (drop (entry.client.from - client.from) client.told) in
      omega (arith, few, freed.within, start, here, there, ap length freed.bytes, length-drop (entry.client.from - client.from) client.told)
  | inr all ↦ omega (arith, few, all)
]
