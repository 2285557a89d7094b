-- Serves the clauses of expire, where the deadline has 64 bits.
use Rattle.std.proofs.Common.{◌≡◌, ◌++◌, ◌∙◌, ℤ, pos, OnOk, IfOk, sym, ap, subst, arith, FitsSigned}
use Rattle.std.specs.Prelude.{◌+ℤ◌, ◌*ℤ◌}
use Rattle.std.specs.Int.{w64}
use Rattle.std.proofs.lemmas.Int.{ints}
use Rattle.std.proofs.Math.Facts.{to_z-of_z}
use Rattle.byte_text.specs.Number.{i64_of}
use Rattle.key_cmds.specs.Run.{Run, told}
use Rattle.key_cmds.proofs.Due.{expire_is}
use Rattle.key_cmds.proofs.deadlines.expire.Goals as goal

pub returns-in-Ok-clause-keys : goal.returns-in-Ok-clause-keys
returns-in-Ok-clause-keys g c =
    let sum : c.in-Ok.deadline ≡ pos c.args.moment +ℤ c.in-Some.seconds *ℤ pos 1000 = omega (arith, ints, c.in-Ok.ensures.1) in
    let fits = subst (λ (n : ℤ). FitsSigned w64 n) (sym c.in-Ok.ensures.1 ∙ sum) c.in-Ok.ensures.0 in
    let same = expire_is c.args.moment c.args.keys.now c.args.words.now c.word-in-Ok.result.now c.in-Some.seconds c.in-Ok.deadline c.word-in-Ok.ensures.word (sym (ap (λ ws. i64_of ws) c.word.ensures.word) ∙ sym c.in-Some.ensures.value) fits sum in
    let own : FitsSigned w64 c.in-Ok.deadline = subst (λ (n : ℤ). FitsSigned w64 n) (sym c.in-Ok.ensures.1) c.in-Ok.ensures.0 in
    let made = rw (to_z-of_z own) at c.expire_at.ensures.keys in
    subst (λ (run : Run g.row.N.Denot). OnOk c.expire_at.result (c.expire_at.new.keys ≡ run.keys)) same made

pub returns-in-Ok-clause-told : goal.returns-in-Ok-clause-told
returns-in-Ok-clause-told g c =
    let sum : c.in-Ok.deadline ≡ pos c.args.moment +ℤ c.in-Some.seconds *ℤ pos 1000 = omega (arith, ints, c.in-Ok.ensures.1) in
    let fits = subst (λ (n : ℤ). FitsSigned w64 n) (sym c.in-Ok.ensures.1 ∙ sum) c.in-Ok.ensures.0 in
    let same = expire_is c.args.moment c.args.keys.now c.args.words.now c.word-in-Ok.result.now c.in-Some.seconds c.in-Ok.deadline c.word-in-Ok.ensures.word (sym (ap (λ ws. i64_of ws) c.word.ensures.word) ∙ sym c.in-Some.ensures.value) fits sum in
    let own : FitsSigned w64 c.in-Ok.deadline = subst (λ (n : ℤ). FitsSigned w64 n) (sym c.in-Ok.ensures.1) c.in-Ok.ensures.0 in
    let made = rw (to_z-of_z own) at c.expire_at.ensures.told in
    subst (λ (run : Run g.row.N.Denot). IfOk c.expire_at.result (λ ran. ran ≡ told run)) same made

pub returns-in-Ok-clause-left : goal.returns-in-Ok-clause-left
returns-in-Ok-clause-left g c =
    let sum : c.in-Ok.deadline ≡ pos c.args.moment +ℤ c.in-Some.seconds *ℤ pos 1000 = omega (arith, ints, c.in-Ok.ensures.1) in
    let fits = subst (λ (n : ℤ). FitsSigned w64 n) (sym c.in-Ok.ensures.1 ∙ sum) c.in-Ok.ensures.0 in
    let same = expire_is c.args.moment c.args.keys.now c.args.words.now c.word-in-Ok.result.now c.in-Some.seconds c.in-Ok.deadline c.word-in-Ok.ensures.word (sym (ap (λ ws. i64_of ws) c.word.ensures.word) ∙ sym c.in-Some.ensures.value) fits sum in
    let own : FitsSigned w64 c.in-Ok.deadline = subst (λ (n : ℤ). FitsSigned w64 n) (sym c.in-Ok.ensures.1) c.in-Ok.ensures.0 in
    let made = rw (to_z-of_z own) at c.expire_at.ensures.left in
    subst (λ (run : Run g.row.N.Denot). OnOk c.expire_at.result (c.expire_at.new.left.items ≡ c.args.left.now.items ++ run.left)) same made
