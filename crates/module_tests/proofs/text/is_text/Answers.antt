-- Serves the clause of text::is_text.
use Rattle.std.proofs.Common.{sym, ap, ◌∙◌}
use Rattle.std.specs.Str.{bytes_eq}
use Rattle.module_tests.proofs.TextKeys.{text_found}
use Rattle.module_tests.specs.Texts.{text_kind}
use Rattle.module_tests.proofs.text.is_text.Goals as goal

pub returns : goal.returns
returns c = text_found c.args.key.now ∙ ap text_kind (ap (bytes_eq c.args.key.now) (sym c.as_slice.ensures) ∙ sym c.eq.ensures)
