-- What becomes of the four files where one of them is lent.
use Rattle.std.specs.Borrow.{Lends, MutBor, Fml}
use Rattle.disk_model.specs.declared.file_name.FileName.{FileName}
use Rattle.disk_model.specs.inner.RealFolder.{RealFile, RealFiles, put}
use Rattle.disk_model.specs.contracts.real.files.RealFiles.{the_row as files_row}
use Rattle.disk_model.specs.contracts.real.file.RealFile.{the_row as file_row}

-- the files end with what was left of the one that was lent under its name
abbrev pub LendsFile : FileName → MutBor RealFiles → MutBor RealFile → Fml
LendsFile name files lent = Lends files_row file_row files lent (λ left. put name left files.now)
