-- Serves the clause of take_out.
use Rattle.std.proofs.Common.{◌≡◌, [], Some, map, sym, ap, subst, ◌∙◌}
use Rattle.key_cmds.specs.Run.{native_in}
use Rattle.key_cmds.specs.inner.Setting.{ArePut}
use Rattle.key_cmds.proofs.AllOrNone.{place_string, place_taken}
use Rattle.key_cmds.proofs.all_or_none.take_out.Goals as goal

pub loop-key-preserved : goal.loop-key-preserved
loop-key-preserved g c before are =
    let keys = c.loop-key.keys in
    subst (ArePut (map (λ key. key.now) c.pop.new.self.items) before) (sym c.take.ensures.taken)
    (place_taken c.pop.new.self.items c.loop-key.put.items c.in-Some.key before keys
    c.in-Some.ensures.items (c.loop-key.invariant before are))

pub loop-key-preserved-in-Some-take : goal.loop-key-preserved-in-Some-take
loop-key-preserved-in-Some-take g c before are =
    let keys = c.loop-key.keys in
    subst (ArePut (map (λ key. key.now) c.pop.new.self.items) before) (sym c.take.ensures.taken)
    (place_taken c.pop.new.self.items c.loop-key.put.items c.in-Some.key before keys
    c.in-Some.ensures.items (c.loop-key.invariant before are))

pub discard-requires : goal.discard-requires
discard-requires g c =
    let before = c.requires.put.before in
    ap native_in c.in-Some-take.ensures.value
    ∙ place_string c.pop.new.self.items c.loop-key.put.items c.in-Some.key before c.loop-key.keys
    c.in-Some.ensures.items (c.loop-key.invariant before c.requires.put.are)
