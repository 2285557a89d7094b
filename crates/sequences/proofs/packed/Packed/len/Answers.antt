-- Serves clause length of Args::len and Draft::len.
use Rattle.std.proofs.Common.{◌≡◌, length, sym, ap, ◌∙◌, arith}
use Rattle.sequences.proofs.Packing.{length-words_from}
use Rattle.sequences.proofs.packed.Packed.len.Goals as goal

pub returns-clause-length : goal.returns-clause-length
returns-clause-length c =
    let inside = c.self.inside in
    let long : c.len.result ≡ length inside.ends.items = omega arith in
    long ∙ sym (length-words_from 0 inside.bytes.items inside.ends.items) ∙ ap (λ d. length d.words) c.self.view_is
