-- What a module does that does nothing. A meaning is written as a change of `silent`, and what a call
-- does as a change of `answers_with` or `answers_only`.
use Rattle.std.specs.Prelude.{ℕ, false, List, [], None, Err}
use Rattle.core_types.specs.CommandRow.{CommandRow}
use Rattle.core_types.specs.declared.load_fault.LoadFault.TheVariants as load_fault
use Rattle.core_types.specs.declared.reply.Reply.TheVariants as reply
use Rattle.module_laws.specs.Meaning.{Did, Meaning}
use Rattle.module_laws.specs.Runs.{State}
use Rattle.module_laws.specs.Told.{Seen}
use Rattle.module_laws.specs.Words.{Bytes, Saved}
use Rattle.module_laws.specs.declared.verdict.Verdict.TheVariants as verdict

-- an answer, and nothing else: the private state stays
abbrev pub answers_with : {A : Type 0} → Saved → A → Seen → Did A
answers_with private answer seen =
    record { answer = answer; private = private; keys = seen.keys; effects = []; notes = [] }

-- the same of a module without private state
abbrev pub answers_only : {A : Type 0} → A → Seen → Did A
answers_only answer seen = answers_with [] answer seen

-- what the state is, after this many values, where there is no private state
abbrev pub plain_state : ℕ → ℕ → State
plain_state made freed = record { private = []; made = made; freed = freed }

-- The meaning of a module of this name, this version and these commands that replies nothing, keeps
-- its private state, takes no effect and loads no value.
abbrev pub silent : Bytes → ℕ → List CommandRow → Meaning
silent name version rows = record {
  name = name;
  version = version;
  rows = rows;
  is_empty = λ items. false;
  says = λ private seen words. answers_with private (verdict.Say reply.Null) seen;
  replies = λ private seen payload. answers_with private reply.Null seen;
  times_out = λ private seen job. answers_with private reply.Null seen;
  goes = λ private seen job. answers_with private tt seen;
  tells = λ private seen op. answers_with private [] seen;
  hears = λ private note. record { private = private; chores = [] };
  after = λ old words. None;
  loads = λ items version. Err (load_fault.Version version);
  works = λ job. job;
}
