use Rattle.std.proofs.lemmas.Result.{on_err_weaker}
use Rattle.disk_model.specs.declared.file_name.FileName.TheVariants.{Log}
use Rattle.disk_model.specs.Past.{Call}
use Rattle.disk_model.specs.Told.{disk_told}
use Rattle.disk_model.proofs.Failures.{was_made}
use Rattle.disk_model.proofs.Moments.{by_call}
use Rattle.restart.specs.Restart.{RestartsAsLeft}
use Rattle.restart.proofs.Crash.{as_it_is, cut_as_left}
use Rattle.restart.proofs.KeptLogs.{cut_or_not}
use Rattle.restart.proofs.keeping.cut_log.Goals as goal

pub returns-clause-err : goal.returns-clause-err
returns-clause-err g c =
    let old = g.D.Dir.told c.args.dir.now in
    let new = g.D.Dir.told c.cut.new.self in
    on_err_weaker c.cut.result
    (λ failed. cut_or_not c.args.bytes.now c.args.kept old new c.requires.there failed)
    c.cut.ensures.failed

pub returns-clause-crash : goal.returns-clause-crash
returns-clause-crash g c = record {
  each = λ replay keys holds.
      let old = g.D.Dir.told c.args.dir.now in
      let new = g.D.Dir.told c.cut.new.self in
      let call = Call.Cut Log c.args.kept in
      let was = was_made c.cut.result call old new c.cut.ensures.done c.cut.ensures.failed in
      by_call call old new (RestartsAsLeft replay (disk_told old)) was
      (λ image may. as_it_is replay (disk_told old) image may)
      (λ image may.
      cut_as_left replay c.args.bytes.now c.args.kept keys holds old c.requires.there image may);
}
