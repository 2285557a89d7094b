use Rattle.std.proofs.Common.{◌≡◌, ◌↔◌, IsTrue}
use Rattle.byte_text.specs.Name.{upper_name}
use Rattle.byte_text.proofs.Names.{upper_names, lower_names, same_test}
use Rattle.byte_text.proofs.name.same_name.Goals as goal

pub returns : goal.returns
returns c =
    let test = c.eq_ignore_ascii_case.ensures.test in
    let a = c.args.a.now in
    let b = c.args.b.now in
    let same : IsTrue c.eq_ignore_ascii_case.result ↔ (upper_name a ≡ upper_name b) = (λ e. upper_names a b (test.0 e), λ e. test.1 (lower_names a b e)) in
    record { value = same_test a b c.eq_ignore_ascii_case.result same; same = same }
