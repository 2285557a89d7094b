-- Serves clause applies of HelloType::apply.
use Rattle.std.proofs.Common.{refl, sym, ap, ◌∙◌, arith}
use Rattle.std.specs.Int.{w64}
use Rattle.std.proofs.lemmas.Int.{to_z-of_z}
use mir.Val.{SFits}
use Rattle.std.proofs.Common.{rules}
use Rattle.mod_samples.specs.Rising.{inserted}
use Rattle.mod_samples.proofs.HelloRuns.{applied}
use Rattle.mod_samples.proofs.hello_type.HelloTypeModule.apply.Goals as goal

pub returns-in-Ok-insert : goal.returns-in-Ok-insert
returns-in-Ok-insert c =
    let list = c.in-Some-old.list in let n = c.in-Some.n in
    let fits : SFits w64 n = search rules in
    rw c.in-Some-old.is (record {
      applies = record {
        value = applied c.args.words.now n list.numbers c.insert.new.self.numbers list.rising (sym c.to_insert.ensures ∙ c.in-Some.is)
            (c.in-Ok-insert.ensures.ok ∙ ap (λ m. inserted m list.numbers) (to_z-of_z w64 n fits));
        back = tt;
        private = refl;
        counted = record { made = omega arith; freed = omega arith; balance = omega arith };
        kept = tt;
        spent = tt;
      };
      made = omega arith;
    })
