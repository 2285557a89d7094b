-- The words of a module's command.
use Rattle.std.specs.Prelude.{◌∷◌, drop}
use Rattle.module_laws.specs.Named.{command_name}
use Rattle.module_laws.specs.Words.{Words}

-- the words of a command, its name in upper case
abbrev pub own : Words → Words
own words = command_name words ∷ drop 1 words
