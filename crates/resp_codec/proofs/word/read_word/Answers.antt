use Rattle.std.proofs.Common.{◌≡◌, length, slice_get, Some, None, sym, arith, ◌+◌, ◌∙◌}
use Rattle.resp_codec.proofs.ReaderSteps.{unfinished_length, due_length, bad_length, number_text}
use Rattle.resp_codec.proofs.word.read_word.Goals as goal

pub returns-in-None : goal.returns-in-None
returns-in-None c before begun =
    let e : slice_get c.args.bytes.now 0 ≡ None = cc (c.in-None.ensures, c.first.ensures.value) in
    unfinished_length before c.args.bytes.now begun e

pub returns-in-Open : goal.returns-in-Open
returns-in-Open c before begun =
    let e : slice_get c.args.bytes.now 0 ≡ Some 36 = cc (c.in-Some-eq36.ensures, c.in-Some-eq36.field-0-test, c.first.ensures.value) in
    c.in-Open.ensures before (due_length before c.args.bytes.now begun e)

pub returns-in-Bad : goal.returns-in-Bad
returns-in-Bad c =
    let e : slice_get c.args.bytes.now 0 ≡ Some 36 = cc (c.in-Some-eq36.ensures, c.in-Some-eq36.field-0-test, c.first.ensures.value) in
    (c.in-Bad.ensures.0, λ before begun. c.in-Bad.ensures.1 before (due_length before c.args.bytes.now begun e))

pub returns-in_default : goal.returns-in_default
returns-in_default c =
    let bytes = c.args.bytes.now in
    let e : slice_get bytes 0 ≡ Some 36 = cc (c.in-Some-eq36.ensures, c.in-Some-eq36.field-0-test, c.first.ensures.value) in
    let text = number_text 36 c.in-Line.end bytes e (λ e. omega arith) c.in-Line.ensures in (
      omega (arith, c.in-Line.ensures.within),
      λ before begun.
          bad_length before bytes c.in-Line.end (length before + 0) begun e c.in-Line.ensures (λ n small is. c.in_default.ensures.none n small (sym text ∙ is)) (omega arith),
    )
