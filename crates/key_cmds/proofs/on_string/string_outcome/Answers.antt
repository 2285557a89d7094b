-- Serves clause does of string_outcome, where the key holds another kind of value.
use Rattle.std.proofs.Common.{Some}
use Rattle.string_cmds.specs.Rows as string_rows
use Rattle.key_cmds.specs.OneKey.{string_done}
use Rattle.key_cmds.specs.declared.plain.Plain.TheVariants as plain
use Rattle.key_cmds.proofs.Carrying.{other_does}
use Rattle.key_cmds.proofs.Others.{string_only, string_other}
use Rattle.key_cmds.proofs.on_string.string_outcome.Goals as goal

pub returns-in_ok-run_other_kind-in_default-clause-does : goal.returns-in_ok-run_other_kind-in_default-clause-does
returns-in_ok-run_other_kind-in_default-clause-does g c =
    let held = c.args.held.now in
    let words = c.args.words.now in
    other_does plain.Str _ c.of_string-in_default.result held (string_rows.other_row c.args.cmd words) (string_done c.args.cmd (Some held) words)
    c.of_string-in_default.ensures (string_other c.args.cmd held words c.in_default.not-Str) (string_only c.args.cmd words)
    c.in_ok-run_other_kind-in_default.ensures.does
