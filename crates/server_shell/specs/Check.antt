-- What a look at a directory tells.
use Rattle.std.specs.Prelude.{◌≡◌, ℕ, List, ◌++◌, take, codes}
use Rattle.std.specs.Fmt.{decimal}
use Rattle.std.specs.Io.KnownBytes.{Appends}
use Rattle.core_types.specs.Keys.{Keys, key_count}
use Rattle.disk_model.specs.Runs.{SameDisk}
use Rattle.disk_model.specs.Told.{Told, files_told}
use Rattle.host_core.specs.Replay.{replay}
use Rattle.restart.specs.OpenLog.{Finds, IsUnopened}
use Rattle.restart.specs.declared.opening.OpenStop.{OpenStop}
use Rattle.restart.specs.declared.opening.Opened.{Opened}
use Rattle.server_shell.specs.Pipe.{Outside}
use Rattle.server_shell.specs.Stops.{status_of_stop}
use Rattle.server_shell.specs.declared.status.Status.{Status}
use Rattle.server_shell.specs.declared.status.Status.TheVariants as status

-- the lines: how many keys there are, and how much of the log is whole units
abbrev pub check_text : ℕ → Opened → List ℕ
check_text keys opened =
    codes "keys " ++ decimal keys ++ codes "\nkept " ++ decimal opened.kept
    ++ codes " of " ++ decimal opened.length ++ codes "\n"

-- The directory stands for these keys, and would be opened so.
pub record Looked (told : Told) : Type 0 where
  pub keys : Keys
  pub opened : Opened
  pub finds : Finds replay (files_told told) keys opened

-- The source was not read, nor the clock, and the disk is the same.
pub record ChangesNothing (old new : Told) (o : Outside) : Type 0 where
  pub disk : SameDisk old new
  pub left : o.left' ≡ o.left
  pub clock : o.clock' ≡ o.clock

-- it would not be opened, for this cause, or no memory was left; nothing was told
pub record IsRefused (end : Status) (told : Told) (o : Outside) : Type 0 where
  pub why : OpenStop
  pub is : end ≡ status_of_stop why
  pub unopened : IsUnopened replay why (files_told told)
  pub got : o.got' ≡ o.got

-- what was told, by the end
abbrev pub Tells : Status → Told → Outside → Type 0
Tells status.Done told o =
    (it : Looked told) × Appends o.got o.got' (check_text (key_count it.keys) it.opened)
Tells status.WriteFault told o =
    (it : Looked told) × ((count : ℕ)
    × Appends o.got o.got' (take count (check_text (key_count it.keys) it.opened)))
Tells other told o = IsRefused other told o

-- how a look ends
abbrev pub CheckEnds : Status → Told → Told → Outside → Type 0
CheckEnds end old new o = ChangesNothing old new o × Tells end old o
