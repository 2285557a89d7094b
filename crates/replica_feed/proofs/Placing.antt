-- What a reader that is fed line by line takes, and what is left. Serves the steps of Requests.
use Rattle.std.proofs.Common.{◌≡◌, ◌⊎◌, ℕ, ◌+◌, List, [], ◌∷◌, ◌++◌, ◌≤◌, length, take, drop, refl, sym, ap, subst, ◌∙◌, append_assoc, append-nil, arith, inl, inr, None, Some, Result, Ok, Err, OnErr}
use Rattle.std.specs.List.{concat}
use Rattle.std.proofs.lemmas.List.{length-append, length-drop, length-take-le, take-append-drop, drop-drop, drop_all}
use Rattle.std.proofs.lemmas.List.Folds.{concat-append}
use Rattle.core_types.specs.declared.bad_request.BadRequest.{BadRequest}
use Rattle.resp_codec.specs.Spelling.{Spells, SkipsAll}
use Rattle.resp_codec.specs.Stream.{Stream, Passes, Takes, SkipsOnly, Waits, Refuses, IsUnfinished}
use Rattle.resp_codec.proofs.OneReading.{fault_stays}
use Rattle.resp_codec.proofs.Passing.{Waits-join, Refuses-join}
use Rattle.replica_feed.specs.Reading.{TakesAt, BreaksFrom}
use Rattle.replica_feed.specs.declared.requests.Came.{Came}
use Rattle.replica_feed.specs.declared.requests.Came.TheVariants as came
use Rattle.replica_feed.specs.declared.requests.Requests.{Requests}
use Rattle.replica_feed.specs.inner.Placing.{HoldsOne, IsLineAhead, IsPlaced, Comes, seen}
use Rattle.replica_feed.proofs.OneAtATime.{line_holds_one, nothing_one, spelled_some}

-- a stream of which these bytes were fed beyond
abbrev pub beyond : List ℕ → Stream → Stream
beyond more s = record { passed = s.passed; rest = s.rest ++ more }

passes_beyond : (more : List ℕ) (old new : Stream) (bytes : List ℕ) → Passes old new bytes → Passes (beyond more old) (beyond more new) bytes
passes_beyond more old new bytes passes = record {
  rest = ap (λ (b : List ℕ). b ++ more) passes.rest ∙ append_assoc bytes new.rest more;
  passed = passes.passed;
}

pub skips_beyond : (more : List ℕ) (old new : Stream) → SkipsOnly old new → SkipsOnly (beyond more old) (beyond more new)
skips_beyond more old new skips = record {
  skipped = skips.skipped;
  skips = skips.skips;
  passes = passes_beyond more old new (concat skips.skipped) skips.passes;
}

-- of what holds one request nothing is left behind one that is skipped
skipped_all : (skipped : List (List ℕ)) (rest more : List ℕ) → HoldsOne rest → SkipsAll skipped → rest ≡ concat skipped ++ more → (skipped ≡ []) ⊎ (more ≡ [])
skipped_all [] rest more one skips whole = inl refl
skipped_all (piece ∷ pieces) rest more one skips whole =
    inr (no_more (concat pieces) more (one (record { bytes = piece; words = None }) (concat pieces ++ more) skips.0 (whole ∙ append_assoc piece (concat pieces) more)))
  where
    no_more : (a b : List ℕ) → a ++ b ≡ [] → b ≡ []
    no_more [] b e = e
    no_more (p ∷ a) b e = cc

kept_one : (skipped : List (List ℕ)) (rest more : List ℕ) → HoldsOne rest → SkipsAll skipped → rest ≡ concat skipped ++ more → HoldsOne more
kept_one skipped rest more one skips whole = elim (skipped_all skipped rest more one skips whole) [
  | inl none ↦ subst HoldsOne (whole ∙ ap (λ (s : List (List ℕ)). concat s ++ more) none) one
  | inr none ↦ subst HoldsOne (sym none) nothing_one
]

pub one_skips : (old new : Stream) → HoldsOne old.rest → SkipsOnly old new → HoldsOne new.rest
one_skips old new one skips = kept_one skips.skipped old.rest new.rest one skips.skips skips.passes.rest

pub one_refuses : (old new : Stream) (kind : BadRequest) (place : ℕ) → HoldsOne old.rest → Refuses old new kind place → HoldsOne new.rest
one_refuses old new kind place one refuses = kept_one refuses.skipped old.rest new.rest one refuses.skips refuses.passes.rest

-- what is taken begins where the stream stood, and is all
record TakesAll (old new : Stream) (words : List (List ℕ)) : Type 0 where
  bytes : List ℕ
  spells : Spells bytes words
  passes : Passes old new bytes
  all : new.rest ≡ []

takes_all : (old new : Stream) (words : List (List ℕ)) → HoldsOne old.rest → Takes old new words → TakesAll old new words
takes_all old new words one takes = elim (skipped_all takes.skipped old.rest (takes.bytes ++ new.rest) one takes.skips (takes.passes.rest ∙ append_assoc (concat takes.skipped) takes.bytes new.rest)) [
  | inl none ↦
      let passes : Passes old new takes.bytes = subst (λ (s : List (List ℕ)). Passes old new (concat s ++ takes.bytes)) none takes.passes in
      record {
        bytes = takes.bytes;
        spells = takes.spells;
        passes = passes;
        all = one (record { bytes = takes.bytes; words = Some words }) new.rest takes.spells passes.rest;
      }
  | inr none ↦ absurd (spelled_some takes.bytes new.rest words takes.spells none)
]

pub one_taken : (old new : Stream) (words : List (List ℕ)) → HoldsOne old.rest → Takes old new words → HoldsOne new.rest
one_taken old new words one takes = subst HoldsOne (sym (takes_all old new words one takes).all) nothing_one

pub taken_at : (more : List ℕ) (old new : Stream) (words : List (List ℕ)) (offset : ℕ) → HoldsOne old.rest → offset ≡ old.passed → Takes old new words → TakesAt (beyond more old) (beyond more new) offset words
taken_at more old new words offset one begin takes =
    let all = takes_all old new words one takes in
    record {
      skipped = [];
      bytes = all.bytes;
      skips = tt;
      spells = all.spells;
      passes = passes_beyond more old new all.bytes all.passes;
      place = omega (arith, begin);
    }

pub refused_from : (more : List ℕ) (old new : Stream) (kind : BadRequest) (place offset : ℕ) → offset ≡ new.passed → Refuses old new kind place → BreaksFrom (beyond more old) (beyond more new) offset kind
refused_from more old new kind place offset begin refuses = record {
  place = place;
  refuses = record {
    skipped = refuses.skipped;
    at = refuses.at;
    skips = refuses.skips;
    passes = passes_beyond more old new (concat refuses.skipped) refuses.passes;
    bad = fault_stays new.rest more kind refuses.at refuses.bad;
    place = refuses.place;
  };
  offset_is = begin;
}

pub waits : (old new : Stream) → SkipsOnly old new → IsUnfinished new.rest → Waits old new
waits old new skips unfinished = record {
  skipped = skips.skipped;
  skips = skips.skips;
  passes = skips.passes;
  unfinished = unfinished;
}

-- one behind the other

SkipsAll-append : (a b : List (List ℕ)) → SkipsAll a → SkipsAll b → SkipsAll (a ++ b)
SkipsAll-append [] b of_a of_b = of_b
SkipsAll-append (x ∷ a) b of_a of_b = (of_a.0, SkipsAll-append a b of_a.1 of_b)

takes_at_join : (a b c : Stream) (offset : ℕ) (words : List (List ℕ)) → SkipsOnly a b → TakesAt b c offset words → TakesAt a c offset words
takes_at_join a b c offset words first second =
    let both = concat-append first.skipped second.skipped in
    record {
      skipped = first.skipped ++ second.skipped;
      bytes = second.bytes;
      skips = SkipsAll-append first.skipped second.skipped first.skips second.skips;
      spells = second.spells;
      passes = record {
        rest = first.passes.rest
            ∙ ap (λ (r : List ℕ). concat first.skipped ++ r) second.passes.rest
            ∙ sym (append_assoc (concat first.skipped) (concat second.skipped ++ second.bytes) c.rest)
            ∙ ap (λ (r : List ℕ). r ++ c.rest) (sym (append_assoc (concat first.skipped) (concat second.skipped) second.bytes))
            ∙ ap (λ (r : List ℕ). (r ++ second.bytes) ++ c.rest) (sym both);
        passed = omega (
          arith,
          first.passes.passed,
          second.passes.passed,
          ap (λ (r : List ℕ). length (r ++ second.bytes)) both,
          length-append (concat first.skipped ++ concat second.skipped) second.bytes,
          length-append (concat first.skipped) (concat second.skipped),
          length-append (concat second.skipped) second.bytes,
        );
      };
      place = omega (
        arith,
        second.place,
        first.passes.passed,
        ap (λ (r : List ℕ). length r) both,
        length-append (concat first.skipped) (concat second.skipped),
      );
    }

pub comes_join : (a b c : Stream) (next : Came) → SkipsOnly a b → Comes b c next → Comes a c next
comes_join a b c (came.Request offset words) first second = takes_at_join a b c offset words first second
comes_join a b c came.More first second = Waits-join a b c first second
comes_join a b c (came.Bad offset kind) first second = record {
  place = second.place;
  refuses = Refuses-join a b c kind second.place first second.refuses;
  offset_is = second.offset_is;
}

-- what was handed on stays as much

fed_by : (old new : Stream) (bytes : List ℕ) → Passes old new bytes → old.passed + length old.rest ≡ new.passed + length new.rest
fed_by old new bytes passes = omega (arith, passes.passed, ap (λ (b : List ℕ). length b) passes.rest, length-append bytes new.rest)

pub fed_by_skips : (old new : Stream) → SkipsOnly old new → old.passed + length old.rest ≡ new.passed + length new.rest
fed_by_skips old new skips = fed_by old new (concat skips.skipped) skips.passes

pub fed_by_take : (old new : Stream) (words : List (List ℕ)) → Takes old new words → old.passed + length old.rest ≡ new.passed + length new.rest
fed_by_take old new words takes = fed_by old new (concat takes.skipped ++ takes.bytes) takes.passes

pub fed_by_refusal : (old new : Stream) (kind : BadRequest) (place : ℕ) → Refuses old new kind place → old.passed + length old.rest ≡ new.passed + length new.rest
fed_by_refusal old new kind place refuses = fed_by old new (concat refuses.skipped) refuses.passes

pub skips_of : (old new : Stream) → Waits old new → SkipsOnly old new
skips_of old new waits = record { skipped = waits.skipped; skips = waits.skips; passes = waits.passes }

pub placed_after : (r : Requests) (reader : Stream) → IsPlaced r → r.reader.passed + length r.reader.rest ≡ reader.passed + length reader.rest → HoldsOne reader.rest → IsPlaced (record r { reader = reader })
placed_after r reader placed fed one = record {
  handed_is = placed.handed_is ∙ fed;
  within = placed.within;
  small = placed.small;
  one = one;
}

-- a line is handed on

pub handed_on : (r : Requests) (reader : Stream) (size : ℕ) → IsPlaced r → IsUnfinished r.reader.rest → size ≤ length (drop r.place r.waiting) → IsLineAhead (take size (drop r.place r.waiting)) → reader.passed ≡ r.reader.passed → reader.rest ≡ r.reader.rest ++ take size (drop r.place r.waiting)
    → IsPlaced (record { reader = reader; handed = r.handed + size; waiting = r.waiting; place = r.place + size })
handed_on r reader size placed unfinished within line passed rest =
    let long = length-take-le size (drop r.place r.waiting) within in
    let left = length-drop r.place r.waiting in
    record {
      handed_is = omega (arith, placed.handed_is, passed, ap (λ (b : List ℕ). length b) rest, length-append r.reader.rest (take size (drop r.place r.waiting)), long);
      within = omega (arith, placed.within, within, left);
      small = omega (arith, placed.small);
      one = subst HoldsOne (sym rest) (line_holds_one r.reader.rest (take size (drop r.place r.waiting)) unfinished line);
    }

pub same_stream : (r : Requests) (reader : Stream) (size : ℕ) → reader.passed ≡ r.reader.passed → reader.rest ≡ r.reader.rest ++ take size (drop r.place r.waiting)
    → seen (record { reader = reader; handed = r.handed + size; waiting = r.waiting; place = r.place + size }) ≡ seen r
same_stream r reader size passed rest =
    let all : reader.rest ++ drop (r.place + size) r.waiting ≡ r.reader.rest ++ drop r.place r.waiting =
    ap (λ (b : List ℕ). b ++ drop (r.place + size) r.waiting) rest
    ∙ append_assoc r.reader.rest (take size (drop r.place r.waiting)) (drop (r.place + size) r.waiting)
    ∙ ap (λ (b : List ℕ). r.reader.rest ++ (take size (drop r.place r.waiting) ++ b)) (sym (drop-drop size r.place r.waiting))
    ∙ ap (λ (b : List ℕ). r.reader.rest ++ b) (take-append-drop size (drop r.place r.waiting)) in
    λ i. record { passed = passed i; rest = all i }

-- where all was handed on, and no request is whole, none is in the stream
pub waits_all : (old : Stream) (r : Requests) → SkipsOnly old (seen r) → IsUnfinished r.reader.rest → r.place ≡ length r.waiting → Waits old (seen r)
waits_all old r skips unfinished at =
    waits old (seen r) skips (subst IsUnfinished (sym (append-nil r.reader.rest) ∙ ap (λ (b : List ℕ). r.reader.rest ++ b) (sym (drop_all r.place r.waiting (omega (arith, at))))) unfinished)

pub on_err : {A B P : Type 0} (r : Result A B) → P → OnErr r P
on_err (Ok a) p = tt
on_err (Err b) p = p
