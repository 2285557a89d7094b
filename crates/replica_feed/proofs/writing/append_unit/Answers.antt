use Rattle.std.specs.Fmt.{decimal}
use Rattle.std.proofs.Common.{codes}
use Rattle.resp_codec.specs.Spelling.{bulk}
use Rattle.replica_feed.proofs.FrameTexts.{unit_ok, unit_err}
use Rattle.replica_feed.proofs.writing.append_unit.Goals as goal

pub returns-clause-ok : goal.returns-clause-ok
returns-clause-ok c =
    unit_ok c.append_word.result c.args.out.now c.push_slice.new.self c.append_number.new.out c.append_number-2.new.out c.append_number-3.new.out c.append_word.new.out (decimal c.args.run) (decimal c.args.from) (decimal c.args.to) c.args.text.now
    c.in_ok-push_slice.ensures.ok c.in_ok-append_number.ensures.ok c.in_ok-append_number-2.ensures.ok c.in_ok-append_number-3.ensures.ok c.append_word.ensures.ok

pub returns-clause-err : goal.returns-clause-err
returns-clause-err c =
    unit_err c.append_word.result c.args.out.now c.push_slice.new.self c.append_number.new.out c.append_number-2.new.out c.append_number-3.new.out c.append_word.new.out (codes "*5\r\n$4\r\nUNIT\r\n") (bulk (decimal c.args.run)) (bulk (decimal c.args.from)) (bulk (decimal c.args.to))
    c.in_ok-push_slice.ensures.ok c.in_ok-append_number.ensures.ok c.in_ok-append_number-2.ensures.ok c.in_ok-append_number-3.ensures.ok c.append_word.ensures.err
