-- Serves clause in_words of next_due_in_words.
use Rattle.key_store.proofs.InWords.{next_in_words}
use Rattle.key_store.proofs.store.next_due_in_words.Goals as goal

pub returns : goal.returns
returns g c = record { in_words = next_in_words c.args.now c.args.keys.now }
