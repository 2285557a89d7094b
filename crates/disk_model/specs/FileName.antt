-- The names of the four files in their folder.
use Rattle.std.specs.Prelude.{ℕ, List, codes}
use Rattle.disk_model.specs.declared.file_name.FileName.{FileName}
use Rattle.disk_model.specs.declared.file_name.FileName.TheVariants.{Log, LogTemp, Dump, DumpTemp}

-- the name in the folder
abbrev pub text : FileName → List ℕ
text Log = codes "appendonly.aof"
text LogTemp = codes "temp-rewriteaof.aof"
text Dump = codes "dump.rdb"
text DumpTemp = codes "temp.rdb"
