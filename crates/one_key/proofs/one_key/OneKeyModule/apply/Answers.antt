-- Serves clause applies of OneKeyModule::apply, where there is no key among the words.
use Rattle.std.proofs.Common.{sym, arith}
use Rattle.module_laws.specs.Applying.{saved_of}
use Rattle.module_laws.specs.Plain.{plain_state}
use Rattle.one_key.specs.inner.KeyLawful.{makes_none}
use Rattle.one_key.specs.inner.Shown.{shown}
use Rattle.one_key.proofs.Applying.{handed_back}
use Rattle.one_key.proofs.one_key.OneKeyModule.apply.Goals as goal

pub returns-then-len-lt2 : goal.returns-then-len-lt2
returns-then-len-lt2 g c =
    let m = g.T.KeyType.meaning in
    record {
      applies = handed_back _ _ c.args.old (plain_state c.args.self.now.made c.args.self.now.freed)
          (sym (makes_none m g.met.T.KeyType.lawful c.args.words.now
          (saved_of (λ held. shown m (g.T.KeyType.saved held.value)) c.args.old)
          (omega (arith, c.if-len-lt2.true, c.len.ensures.length))));
    }
