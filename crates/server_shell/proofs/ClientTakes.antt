-- Serves the clauses of `hand_out`: what client 1 takes, piece by piece.
use Rattle.std.proofs.Common.{◌≡◌, ◌≤◌, ◌<◌, refl, sym, ap, ap₂, subst, ◌∙◌, ℕ, zero, suc, ◌+◌, ◌-◌, min, List, [], ◌++◌, length, take, drop, drop-drop, Option, Some, None, IfSome, arith}
use Rattle.std.specs.Option.{option_map}
use Rattle.std.proofs.KnownBytes.{Appends-trans}
use Rattle.std.proofs.Math.Seq.{take-add, take-append-add}
use Rattle.std.specs.Io.KnownBytes.{Appends}
use Rattle.disk_model.specs.Told.{Told}
use Rattle.client_book.specs.Client.{passes}
use Rattle.client_book.specs.Register.{Listed, Register, changes, free_of, listed, on_record}
use Rattle.client_book.specs.declared.client.Client.{Client}
use Rattle.host_core.specs.Clients.{client_at}
use Rattle.host_core.specs.Core.{may_of}
use Rattle.host_core.specs.Laws.{AllJoined}
use Rattle.durable_host.specs.Host.{HandsOut, Host, KeepsHistory}
use Rattle.durable_host.specs.Kept.{state_after}
use Rattle.durable_host.specs.Taking.{IsFreed, taken_of}
use Rattle.durable_host.proofs.Streams.{listed_changed}
use Rattle.server_shell.specs.Making.{Hands, open_to, safe_bytes, taken_by}
use Rattle.server_shell.specs.Stream.{IsOneStream, StreamIs}
use Rattle.server_shell.proofs.ClientStream.{between, one_stream, prefix_stays}

-- ---- the places of client 1

taken_more : (o : Option Listed) (count : ℕ) → count ≤ free_of o → taken_of (option_map (on_record (passes count)) o) ≡ taken_of o + count
taken_more None count few = omega (arith, few)
taken_more (Some entry) count few = refl

may_same : (o : Option Listed) (count : ℕ) → may_of (option_map (on_record (passes count)) o) ≡ may_of o
may_same None count = refl
may_same (Some entry) count = refl

free_is : (o : Option Listed) → free_of o ≡ may_of o - taken_of o
free_is None = refl
free_is (Some entry) = refl

begins_by : (stream : Option Client) (o : Option Listed) → IfSome o (IsFreed stream) → taken_of o ≤ may_of o
begins_by stream None freed = omega arith
begins_by stream (Some entry) freed = freed.begins

one_changed : (count : ℕ) (register : Register) → listed (changes (passes count) 1 register) 1 ≡ option_map (on_record (passes count)) (listed register 1)
one_changed count register = listed_changed (passes count) 1 register 1

module _ {D : Type 0} (told : D → Told) where
  -- what may be taken is beyond what was
  pub open_beyond : (host : Host D) → KeepsHistory told host → taken_by host ≤ open_to host
  open_beyond host keeps = begins_by (client_at (state_after host.safe host.kept).clients 1) (listed host.held.register 1) (keeps.freed 1)

  pub none_left : (host : Host D) (size : ℕ) → KeepsHistory told host → 0 < size → 0 ≡ min size (free_of (listed host.held.register 1)) → taken_by host ≡ open_to host
  none_left host size keeps some none = omega (arith, open_beyond host keeps, some, none, free_is (listed host.held.register 1))

  nothing : (n : ℕ) (bytes : List ℕ) → [] ≡ take (n - n) (drop n bytes)
  nothing n bytes = let none : n - n ≡ 0 = omega arith in sym (ap (λ k. take k (drop n bytes)) none)

  pub hands_nothing : (host : Host D) → KeepsHistory told host → Hands told [] host host
  hands_nothing host keeps = record { same = refl; keeps = keeps; rises = omega arith; may = refl; bytes_are = nothing (taken_by host) (safe_bytes host) }

  joined : (a b n : ℕ) (bytes : List ℕ) → a ≤ b → take (b - a) (drop a bytes) ++ take n (drop b bytes) ≡ take (b + n - a) (drop a bytes)
  joined a b n bytes few =
      let place : a + (b - a) ≡ b = omega (arith, few) in
      let size : b - a + n ≡ b + n - a = omega (arith, few) in
      ap (λ rest. take (b - a) (drop a bytes) ++ take n rest) (sym (drop-drop (b - a) a bytes ∙ ap (λ k. drop k bytes) place))
      ∙ sym (take-add (b - a) n (drop a bytes)) ∙ ap (λ k. take k (drop a bytes)) size

  -- one piece more
  pub hands_more : (first host now : Host D) (bytes piece : List ℕ) (count : ℕ) → IsOneStream first.kept → KeepsHistory told host → Hands told bytes first host → KeepsHistory told now
      → count ≤ free_of (listed host.held.register 1) → length piece ≡ count → HandsOut host 1 piece
      → now ≡ record host { held = record host.held { register = changes (passes count) 1 host.held.register } } → Hands told (bytes ++ piece) first now
  hands_more first host now bytes piece count one had hands keeps few size handed left =
      let taken : taken_by now ≡ taken_by host + count =
      ap (λ (it : Host D). taken_by it) left ∙ ap taken_of (one_changed count host.held.register) ∙ taken_more (listed host.held.register 1) count few in
      let may : open_to now ≡ open_to host =
      ap (λ (it : Host D). open_to it) left ∙ ap may_of (one_changed count host.held.register) ∙ may_same (listed host.held.register 1) count in
      record {
        same = left ∙ ap (λ (it : Host D). record it { held = record host.held { register = changes (passes count) 1 host.held.register } }) hands.same
            ∙ ap (λ held. record first { held = held }) (sym (ap (λ (it : Host D). it.held) left));
        keeps = keeps;
        rises = omega (arith, hands.rises, taken);
        may = may ∙ hands.may;
        bytes_are = bytes_more taken;
      }
    where
      safe_same : safe_bytes host ≡ safe_bytes first
      safe_same = ap (λ (it : Host D). safe_bytes it) hands.same

      stream : StreamIs (client_at (state_after host.safe host.kept).clients 1) (safe_bytes host)
      stream = subst (λ (it : Host D). StreamIs (client_at (state_after it.safe it.kept).clients 1) (safe_bytes it)) (sym hands.same)
          (one_stream first.kept.opening (take (first.safe - first.kept.first) first.kept.events) (first_joined hands) one.none (prefix_stays (first.safe - first.kept.first) first.kept.events one.stays))
        where
          first_joined : Hands told bytes first host → AllJoined first.kept.opening
          first_joined hands = subst (λ (it : Host D). AllJoined it.kept.opening) hands.same had.joined

      piece_is : piece ≡ take count (drop (taken_by host) (safe_bytes first))
      piece_is =
          handed ∙ between (client_at (state_after host.safe host.kept).clients 1) (safe_bytes host) (taken_by host) (taken_by host + length piece) stream
          ∙ counted
        where
          more : taken_by host + length piece - taken_by host ≡ count
          more = omega (arith, size)

          counted : take (taken_by host + length piece - taken_by host) (drop (taken_by host) (safe_bytes host)) ≡ take count (drop (taken_by host) (safe_bytes first))
          counted = ap₂ (λ n list. take n (drop (taken_by host) list)) more safe_same

      bytes_more : taken_by now ≡ taken_by host + count → bytes ++ piece ≡ take (taken_by now - taken_by first) (drop (taken_by first) (safe_bytes first))
      bytes_more taken =
          ap₂ (λ front back. front ++ back) hands.bytes_are piece_is
          ∙ joined (taken_by first) (taken_by host) count (safe_bytes first) hands.rises
          ∙ ap (λ n. take (n - taken_by first) (drop (taken_by first) (safe_bytes first))) (sym taken)

  -- each piece leaves less
  pub smaller : (host now : Host D) (count : ℕ) → KeepsHistory told host → (count ≡ 0 → ⊥) → count ≤ free_of (listed host.held.register 1)
      → now ≡ record host { held = record host.held { register = changes (passes count) 1 host.held.register } } → open_to now - taken_by now < open_to host - taken_by host
  smaller host now count keeps some few left =
      let taken : taken_by now ≡ taken_by host + count =
      ap (λ (it : Host D). taken_by it) left ∙ ap taken_of (one_changed count host.held.register) ∙ taken_more (listed host.held.register 1) count few in
      let may : open_to now ≡ open_to host =
      ap (λ (it : Host D). open_to it) left ∙ ap may_of (one_changed count host.held.register) ∙ may_same (listed host.held.register 1) count in
      let positive : 0 < count = above count some in
      omega (arith, taken, may, few, free_is (listed host.held.register 1), positive)
    where
      above : (n : ℕ) → (n ≡ 0 → ⊥) → 0 < n
      above zero some = absurd (some refl)
      above (suc n) some = omega arith

  -- where nothing is left, all was taken
  pub drained : (first host now : Host D) (bytes : List ℕ) (count size : ℕ) → Hands told bytes first host → count ≡ 0 → 0 < size → count ≡ min size (free_of (listed host.held.register 1))
      → now ≡ record host { held = record host.held { register = changes (passes count) 1 host.held.register } } → taken_by now ≡ open_to first
  drained first host now bytes count size hands none some few left =
      let enough : count ≤ free_of (listed host.held.register 1) = omega (arith, few) in
      let taken : taken_by now ≡ taken_by host + count =
      ap (λ (it : Host D). taken_by it) left ∙ ap taken_of (one_changed count host.held.register) ∙ taken_more (listed host.held.register 1) count enough in
      omega (arith, taken, none, few, some, hands.may, open_beyond host hands.keeps, free_is (listed host.held.register 1))

-- a front of what was taken last was sent
pub part_sent : (before mid now : Option (List ℕ)) (bytes piece : List ℕ) (count : ℕ) → Appends before mid bytes → Appends mid now (take count piece) → Appends before now (take (length bytes + count) (bytes ++ piece))
part_sent before mid now bytes piece count first second =
    subst (Appends before now) (sym (take-append-add bytes piece count)) (Appends-trans before mid now bytes (take count piece) first second)
