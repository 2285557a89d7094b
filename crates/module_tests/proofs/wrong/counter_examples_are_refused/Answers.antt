-- Serves the clause of counter_examples_are_refused.
use Rattle.std.proofs.Common.{◌≡◌, ◌≤◌, ℕ, pos, true, false, [], ◌∷◌, Some, None, refl, sym, true≢false, arith}
use Rattle.std.specs.Prelude.{codes}
use Rattle.std.proofs.lemmas.Option.{none-some}
use Rattle.core_types.specs.CommandRow.{writing}
use Rattle.core_types.specs.Keys.{no_keys}
use Rattle.module_laws.specs.Laws.{AnswersAtOnce, IsCall, WritesAsAfter}
use Rattle.module_laws.specs.Told.{KeepsTypes, Seen}
use Rattle.module_laws.specs.Words.{Words}
use Rattle.module_tests.specs.Shelf.{no_builtins}
use Rattle.module_tests.specs.Wrong.{AreRefused, says_it_writes, writes_and_waits}
use Rattle.module_tests.proofs.wrong.counter_examples_are_refused.Goals as goal

five : ¬ (5 ≤ 0)
five less = omega arith

false_writer : ¬ WritesAsAfter says_it_writes
false_writer writes = none-some writes.each.0.left writes.each.0.made

abbrev get : Words
get = codes "WRONG.GET" ∷ [] ∷ []

abbrev get_call : IsCall writes_and_waits.rows get
get_call = record {
  row = writing (codes "WRONG.GET") (pos 2);
  named = refl;
  arity = refl;
  limits = record { some = omega arith; few = omega arith; each = (omega arith, (omega arith, tt)) };
}

abbrev nothing : Seen
nothing = record { builtins = no_builtins; keys = no_keys; moment = 0 }

waiting_writer : ¬ AnswersAtOnce writes_and_waits
waiting_writer at_once = at_once [] nothing get get_call refl

pub returns : goal.returns
returns c = record {
  freed_unmade = five;
  false_writer = false_writer;
  waiting_writer = waiting_writer;
  ping = λ is. true≢false (sym is);
  dotted = λ is. true≢false (sym is);
  written_over = λ keeps. true≢false (keeps.other refl refl);
}
