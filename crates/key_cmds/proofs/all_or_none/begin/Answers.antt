-- Serves the clauses of begin.
use Rattle.std.proofs.Common.{◌≡◌, sym, ap, subst, ◌∙◌}
use Rattle.key_cmds.specs.inner.Setting.{ArePut, Begun}
use Rattle.key_cmds.proofs.all_or_none.begin.Goals as goal

pub take_out-requires : goal.take_out-requires
take_out-requires g c =
    let before = c.args.keys.now in
    record {
      put =
          record {
            before = before;
            are =
                subst (λ put. ArePut put before c.prepare.new.keys)
                (ap (λ (b : Begun). b.put) (sym c.begun.view_is))
                c.prepare.ensures.put;
          };
    }
