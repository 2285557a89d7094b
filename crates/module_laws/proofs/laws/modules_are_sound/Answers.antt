-- Serves the clause of modules_are_sound.
use Rattle.module_laws.specs.Sound.{sound_at}
use Rattle.module_laws.proofs.laws.modules_are_sound.Goals as goal

pub returns : goal.returns
returns c = λ modules place allowed seen lawful within sound. sound_at modules place lawful within allowed seen sound
