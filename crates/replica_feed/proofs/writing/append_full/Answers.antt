use Rattle.std.specs.Fmt.{decimal}
use Rattle.std.proofs.Common.{codes}
use Rattle.resp_codec.specs.Spelling.{bulk}
use Rattle.replica_feed.proofs.FrameTexts.{full_ok, full_err}
use Rattle.replica_feed.proofs.writing.append_full.Goals as goal

pub returns-clause-ok : goal.returns-clause-ok
returns-clause-ok c =
    full_ok c.append_word.result c.args.out.now c.push_slice.new.self c.append_number.new.out c.append_number-2.new.out c.append_word.new.out (decimal c.args.run) (decimal c.args.number) c.args.file.now
    c.in_ok-push_slice.ensures.ok c.in_ok-append_number.ensures.ok c.in_ok-append_number-2.ensures.ok c.append_word.ensures.ok

pub returns-clause-err : goal.returns-clause-err
returns-clause-err c =
    full_err c.append_word.result c.args.out.now c.push_slice.new.self c.append_number.new.out c.append_number-2.new.out c.append_word.new.out (codes "*4\r\n$4\r\nFULL\r\n") (bulk (decimal c.args.run)) (bulk (decimal c.args.number))
    c.in_ok-push_slice.ensures.ok c.in_ok-append_number.ensures.ok c.in_ok-append_number-2.ensures.ok c.append_word.ensures.err
