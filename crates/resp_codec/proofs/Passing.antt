-- What was passed, piece after piece.
use Rattle.std.proofs.Common.{◌≡◌, ℕ, ◌+◌, List, [], ◌∷◌, ◌++◌, length, refl, sym, ap, ◌∙◌, append_assoc, append-nil, arith, Result, Ok, Err, OnErr}
use Rattle.std.specs.List.{concat}
use Rattle.std.proofs.lemmas.List.{length-append}
use Rattle.core_types.specs.declared.bad_request.BadRequest.{BadRequest}
use Rattle.sequences.specs.declared.no_memory.NoMemory.{NoMemory}
use Rattle.resp_codec.specs.declared.reader.Got.{Got}
use Rattle.resp_codec.specs.declared.reader.Got.TheVariants as got
use Rattle.resp_codec.specs.Spelling.{Spells, Skips, SkipsAll}
use Rattle.resp_codec.specs.Stream.{Stream, fed, Passes, Takes, SkipsOnly, IsUnfinished, Waits, Refuses}

abbrev pub stream : ℕ → List ℕ → Stream
stream passed rest = record { passed = passed; rest = rest }

concat-append : (a b : List (List ℕ)) → concat (a ++ b) ≡ concat a ++ concat b
concat-append [] b = refl
concat-append (x ∷ a) b = ap (λ (rest : List ℕ). x ++ rest) (concat-append a b) ∙ sym (append_assoc x (concat a) (concat b))

SkipsAll-append : (a b : List (List ℕ)) → SkipsAll a → SkipsAll b → SkipsAll (a ++ b)
SkipsAll-append [] b of_a of_b = of_b
SkipsAll-append (x ∷ a) b of_a of_b = (of_a.0, SkipsAll-append a b of_a.1 of_b)

Passes-join : (a b c : Stream) (x y : List ℕ) → Passes a b x → Passes b c y → Passes a c (x ++ y)
Passes-join a b c x y first second = record {
  rest = first.rest ∙ ap (λ (rest : List ℕ). x ++ rest) second.rest ∙ sym (append_assoc x y c.rest);
  passed = omega (arith, first.passed, second.passed, length-append x y);
}

-- the same, where the second was skipped
Passes-skipped : (a b c : Stream) (first second : List (List ℕ)) → Passes a b (concat first) → Passes b c (concat second) → Passes a c (concat (first ++ second))
Passes-skipped a b c first second x y = rw concat-append (Passes-join a b c (concat first) (concat second) x y)

pub SkipsOnly-none : (s : Stream) → SkipsOnly s s
SkipsOnly-none s = record { skipped = []; skips = tt; passes = record { rest = refl; passed = omega arith } }

pub SkipsOnly-one : (passed next : ℕ) (input bytes rest : List ℕ) → input ≡ bytes ++ rest → next ≡ passed + length bytes → Skips bytes → SkipsOnly (stream passed input) (stream next rest)
SkipsOnly-one passed next input bytes rest parts sum skips = record {
  skipped = bytes ∷ [];
  skips = (skips, tt);
  passes = rw append-nil record { rest = parts; passed = sum };
}

pub Takes-here : (passed next : ℕ) (input bytes rest : List ℕ) (words : List (List ℕ)) → input ≡ bytes ++ rest → next ≡ passed + length bytes → Spells bytes words → Takes (stream passed input) (stream next rest) words
Takes-here passed next input bytes rest words parts sum spells = record {
  skipped = [];
  bytes = bytes;
  skips = tt;
  spells = spells;
  passes = record { rest = parts; passed = sum };
}

pub Waits-here : (s : Stream) → IsUnfinished s.rest → Waits s s
Waits-here s unfinished = record { skipped = []; skips = tt; passes = record { rest = refl; passed = omega arith }; unfinished = unfinished }

pub SkipsOnly-join : (a b c : Stream) → SkipsOnly a b → SkipsOnly b c → SkipsOnly a c
SkipsOnly-join a b c first second = record {
  skipped = first.skipped ++ second.skipped;
  skips = SkipsAll-append first.skipped second.skipped first.skips second.skips;
  passes = Passes-skipped a b c first.skipped second.skipped first.passes second.passes;
}

pub Takes-join : (a b c : Stream) (words : List (List ℕ)) → SkipsOnly a b → Takes b c words → Takes a c words
Takes-join a b c words first second = record {
  skipped = first.skipped ++ second.skipped;
  bytes = second.bytes;
  skips = SkipsAll-append first.skipped second.skipped first.skips second.skips;
  spells = second.spells;
  passes = rw (concat-append, append_assoc) (Passes-join a b c (concat first.skipped) (concat second.skipped ++ second.bytes) first.passes second.passes);
}

pub Waits-join : (a b c : Stream) → SkipsOnly a b → Waits b c → Waits a c
Waits-join a b c first second = record {
  skipped = first.skipped ++ second.skipped;
  skips = SkipsAll-append first.skipped second.skipped first.skips second.skips;
  passes = Passes-skipped a b c first.skipped second.skipped first.passes second.passes;
  unfinished = second.unfinished;
}

pub Refuses-join : (a b c : Stream) (kind : BadRequest) (offset : ℕ) → SkipsOnly a b → Refuses b c kind offset → Refuses a c kind offset
Refuses-join a b c kind offset first second = record {
  skipped = first.skipped ++ second.skipped;
  at = second.at;
  skips = SkipsAll-append first.skipped second.skipped first.skips second.skips;
  passes = Passes-skipped a b c first.skipped second.skipped first.passes second.passes;
  bad = second.bad;
  place = second.place;
}

Passes-fed : (old new : Stream) (bytes : List ℕ) → Passes old new bytes → fed new ≡ fed old
Passes-fed old new bytes passes = omega (arith, passes.passed, ap (λ (bs : List ℕ). length bs) passes.rest, length-append bytes new.rest)

-- what was fed is the same after each answer
pub fed_next : (old new : Stream) (r : Result Got NoMemory) → ((words : List (List ℕ)) → r ≡ Ok (got.Request words) → Takes old new words) → (r ≡ Ok got.More → Waits old new) →
    ((kind : BadRequest) (offset : ℕ) → r ≡ Ok (got.Bad kind offset) → Refuses old new kind offset) → OnErr r (SkipsOnly old new) → fed new ≡ fed old
fed_next old new (Ok (got.Request words)) request more bad err = let takes = request words refl in Passes-fed old new (concat takes.skipped ++ takes.bytes) takes.passes
fed_next old new (Ok got.More) request more bad err = let waits = more refl in Passes-fed old new (concat waits.skipped) waits.passes
fed_next old new (Ok (got.Bad kind offset)) request more bad err = let refuses = bad kind offset refl in Passes-fed old new (concat refuses.skipped) refuses.passes
fed_next old new (Err e) request more bad err = Passes-fed old new (concat err.skipped) err.passes
