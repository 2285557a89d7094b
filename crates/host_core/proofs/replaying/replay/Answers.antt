-- Serves the clauses of replay.
use Rattle.std.proofs.Common.{◌≡◌, ap, length, sym, true, ◌∙◌}
use Rattle.effect_log.specs.Refusal as refusal
use Rattle.core_types.specs.CommandRow.{takes}
use Rattle.host_core.specs.Builtins.{builtin_named, builtin_row}
use Rattle.host_core.proofs.Replayed.{error_keeps, error_refused, made, others_made, refused_as}
use Rattle.host_core.proofs.replaying.replay.Goals as goal

pub returns-then-is_error-clause-refused : goal.returns-then-is_error-clause-refused
returns-then-is_error-clause-refused c =
    let cmd = c.in-Some.cmd in
    let effect = c.args.effect.now in
    let writes : (builtin_row cmd).writes ≡ true = sym (ap (λ r. r.writes) c.spec-spec.ensures.row) ∙ c.if-not-spec.false in
    let named = ap builtin_named (sym c.word.ensures.word) ∙ sym c.command_of.ensures.named ∙ c.in-Some.is in
    let taken : takes (builtin_row cmd).arity (length effect.words) ≡ true =
    ap (λ r. takes r.arity (length effect.words)) (sym c.spec-spec.ensures.row) ∙ ap (takes c.spec-spec.result.arity) (sym c.len.ensures.length)
    ∙ sym c.takes.ensures.takes ∙ c.if-not-takes.false in
    refused_as c.args.keys.now effect refusal.Refusal.EffectRefused
    (made c.args.keys.now effect cmd named writes taken c.serve_by.new.keys c.in_ok-given.given c.in_ok-given.ensures.given ∙ error_refused c.in_ok-given.given.reply c.serve_by.new.keys (sym c.is_error.ensures ∙ c.if-is_error.true))

pub returns-then-is_error-clause-same : goal.returns-then-is_error-clause-same
returns-then-is_error-clause-same c place why is =
    let cmd = c.in-Some.cmd in
    let effect = c.args.effect.now in
    let taken : takes (builtin_row cmd).arity (length effect.words) ≡ true =
    ap (λ r. takes r.arity (length effect.words)) (sym c.spec-spec.ensures.row) ∙ ap (takes c.spec-spec.result.arity) (sym c.len.ensures.length)
    ∙ sym c.takes.ensures.takes ∙ c.if-not-takes.false in
    error_keeps cmd c.args.keys.now c.serve_by.new.keys effect.words c.in_ok-given.given taken c.in_ok-given.ensures.given (sym c.is_error.ensures ∙ c.if-is_error.true)

pub returns-clause-ok : goal.returns-clause-ok
returns-clause-ok c =
    let cmd = c.in-Some.cmd in
    let effect = c.args.effect.now in
    let writes : (builtin_row cmd).writes ≡ true = sym (ap (λ r. r.writes) c.spec-spec.ensures.row) ∙ c.if-not-spec.false in
    let named = ap builtin_named (sym c.word.ensures.word) ∙ sym c.command_of.ensures.named ∙ c.in-Some.is in
    let taken : takes (builtin_row cmd).arity (length effect.words) ≡ true =
    ap (λ r. takes r.arity (length effect.words)) (sym c.spec-spec.ensures.row) ∙ ap (takes c.spec-spec.result.arity) (sym c.len.ensures.length)
    ∙ sym c.takes.ensures.takes ∙ c.if-not-takes.false in
    made c.args.keys.now effect cmd named writes taken c.serve_by.new.keys c.in_ok-given.given c.in_ok-given.ensures.given ∙ others_made c.in_ok-given.given.reply c.serve_by.new.keys (sym c.is_error.ensures ∙ c.if-is_error.false)
