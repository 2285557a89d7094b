-- The states of the modules.
use Rattle.module_laws.specs.Runs.{State}
use Rattle.module_laws.specs.Plain.{plain_state}
use Rattle.mod_samples.specs.declared.hello_type.HelloType.{HelloType}
use Rattle.mod_samples.specs.declared.word_count.WordCount.{WordCount}

abbrev pub hello_state : HelloType → State
hello_state m = plain_state m.tally.made m.tally.freed

abbrev pub count_state : WordCount → State
count_state m = plain_state m.tally.made m.tally.freed
