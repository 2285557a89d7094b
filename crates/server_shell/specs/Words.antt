-- The command line, as the words after the program's name.
use Rattle.std.specs.Prelude.{ℕ, ◌||◌, List, [], ◌∷◌, Option, Some, None, codes, if◌then◌else◌}
use Rattle.std.specs.Str.{bytes_eq}
use Rattle.server_shell.specs.declared.words.Job.{Job}
use Rattle.server_shell.specs.declared.words.Job.TheVariants.{Pipe, Check}
use Rattle.server_shell.specs.declared.words.WordsFault.{WordsFault}
use Rattle.server_shell.specs.declared.words.WordsFault.TheVariants.{Usage}

-- a folder is wanted, and nothing after it
abbrev pub folder_fault : List (List ℕ) → Option ℕ
folder_fault [] = Some 1
folder_fault (folder ∷ []) = None
folder_fault (folder ∷ extra ∷ more) = Some 2

-- the place of the first word that no form allows, or the number of words where one is missing
abbrev pub usage_fault : List (List ℕ) → Option ℕ
usage_fault [] = Some 0
usage_fault (word ∷ more) =
    if bytes_eq word (codes "pipe") || bytes_eq word (codes "check") then folder_fault more
    else Some 0

-- what words without a fault ask for
abbrev pub job_of : List (List ℕ) → Job
job_of [] = Pipe
job_of (word ∷ more) = if bytes_eq word (codes "pipe") then Pipe else Check

-- the place that a refusal of the words names
abbrev pub place_of : WordsFault → ℕ
place_of (Usage place) = place
