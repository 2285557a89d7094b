use Rattle.std.proofs.Common.{◌≡◌, IfSome, Option, List, ℕ, subst}
use Rattle.std.proofs.lemmas.Result.{err_from_is_err_and}
use Rattle.disk_model.specs.Files.{file}
use Rattle.disk_model.specs.Told.{files_told}
use Rattle.disk_model.specs.declared.file_name.FileName.TheVariants.{Log}
use Rattle.disk_model.proofs.Failures.{was_done}
use Rattle.restart.specs.declared.finding.Found.{Found}
use Rattle.restart.proofs.Calls.{asks_log, asks_both, asked, read_stopped}
use Rattle.restart.proofs.SameDisk.{read_same, same_further}
use Rattle.restart.proofs.finding.find.Goals as goal

pub returns-in_err-bytes-clause-looks : goal.returns-in_err-bytes-clause-looks
returns-in_err-bytes-clause-looks g c =
    let old = g.D.Dir.told c.args.dir.now in
    let new = g.D.Dir.told c.read_all.new.self in
    let p = err_from_is_err_and c.from_residual.result c.from_residual.ensures.1 in
    rw (p.1, p.2)
    (record {
      same = read_same _ _ _ c.in_err-bytes.ensures.failed;
      calls = read_stopped old old new Found c.in_err-bytes.field-0.0;
    })

pub returns-in_err-kept-clause-looks : goal.returns-in_err-kept-clause-looks
returns-in_err-kept-clause-looks g c =
    let old = g.D.Dir.told c.args.dir.now in
    let new = g.D.Dir.told c.read_all.new.self in
    let log = subst (λ (f : Option (List ℕ)). IfSome (files_told old) (λ files. f ≡ file Log files))
    c.in-Some.is c.in_ok-bytes.ensures.content in
    record {
      same = read_same _ _ _ (was_done _ _ _ c.in_ok-bytes.ensures.done);
      calls = asked old old new c.from_residual-in_err-kept.result
          (asks_log old old new c.in-Some.bytes log c.in_ok-bytes.ensures.done);
    }

pub returns-in-Some-clause-looks : goal.returns-in-Some-clause-looks
returns-in-Some-clause-looks g c =
    let old = g.D.Dir.told c.args.dir.now in
    let new = g.D.Dir.told c.read_all.new.self in
    let log = subst (λ (f : Option (List ℕ)). IfSome (files_told old) (λ files. f ≡ file Log files))
    c.in-Some.is c.in_ok-bytes.ensures.content in
    record {
      same = read_same _ _ _ (was_done _ _ _ c.in_ok-bytes.ensures.done);
      calls = asks_log old old new c.in-Some.bytes log c.in_ok-bytes.ensures.done;
    }

pub returns-in_err-read_all-clause-looks : goal.returns-in_err-read_all-clause-looks
returns-in_err-read_all-clause-looks g c =
    let old = g.D.Dir.told c.args.dir.now in
    let mid = g.D.Dir.told c.read_all.new.self in
    let new = g.D.Dir.told c.read_all-2.new.self in
    let p =
    err_from_is_err_and c.from_residual-in_err-read_all.result
    c.from_residual-in_err-read_all.ensures.1 in
    rw (p.1, p.2)
    (record {
      same = same_further old mid new (read_same _ _ _ (was_done _ _ _ c.in_ok-bytes.ensures.done))
          (read_same _ _ _ c.in_err-read_all.ensures.failed);
      calls = read_stopped old mid new Found c.in_err-read_all.field-0.0;
    })

pub returns-then-is_some-clause-looks : goal.returns-then-is_some-clause-looks
returns-then-is_some-clause-looks g c =
    let old = g.D.Dir.told c.args.dir.now in
    let mid = g.D.Dir.told c.read_all.new.self in
    let new = g.D.Dir.told c.read_all-2.new.self in
    let none = subst (λ (f : Option (List ℕ)). IfSome (files_told old) (λ files. f ≡ file Log files))
    c.in_default.is c.in_ok-bytes.ensures.content in
    record {
      same = same_further old mid new (read_same _ _ _ (was_done _ _ _ c.in_ok-bytes.ensures.done))
          (read_same _ _ _ (was_done _ _ _ c.in_ok-read_all.ensures.done));
      calls = asks_both old mid new none c.in_ok-bytes.ensures.done c.in_ok-read_all.ensures.done;
    }

pub returns-clause-looks : goal.returns-clause-looks
returns-clause-looks g c =
    let old = g.D.Dir.told c.args.dir.now in
    let mid = g.D.Dir.told c.read_all.new.self in
    let new = g.D.Dir.told c.read_all-2.new.self in
    let none = subst (λ (f : Option (List ℕ)). IfSome (files_told old) (λ files. f ≡ file Log files))
    c.in_default.is c.in_ok-bytes.ensures.content in
    record {
      same = same_further old mid new (read_same _ _ _ (was_done _ _ _ c.in_ok-bytes.ensures.done))
          (read_same _ _ _ (was_done _ _ _ c.in_ok-read_all.ensures.done));
      calls = asks_both old mid new none c.in_ok-bytes.ensures.done c.in_ok-read_all.ensures.done;
    }
