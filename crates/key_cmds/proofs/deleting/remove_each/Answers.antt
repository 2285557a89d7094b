-- Serves the clauses of remove_each.
use Rattle.std.proofs.Common.{◌≡◌, ◌∷◌, length, ap, arith, vec_len, vec_capacity}
use Rattle.key_cmds.proofs.Removing.{one_on, still_room}
use Rattle.key_cmds.proofs.deleting.remove_each.Goals as goal

pub loop-note-preserved : goal.loop-note-preserved
loop-note-preserved g c =
    let note = c.in-Some.note in
    let rest = c.pop_front.new.self.items in
    let inv = c.loop-note.invariant in
    let step : c.loop-note.notes.items ≡ note ∷ rest = c.in-Some.ensures.items in
    let size = ap length step in
    let room = still_room note rest c.loop-note.notes.items c.loop-note.keys c.remove.new.keys (vec_len c.loop-note.left) (vec_capacity c.loop-note.left) step c.remove.ensures.keys inv.2 in (
      one_on (record { rest = c.args.notes.items; keys = c.args.keys.now; gone = c.args.gone.now.items; left = c.args.left.now.items })
          (record { rest = c.loop-note.notes.items; keys = c.loop-note.keys; gone = c.loop-note.gone.items; left = c.loop-note.left.items })
          (record { rest = rest; keys = c.remove.new.keys; gone = c.remove.new.gone.items; left = c.remove.new.left.items })
          note step c.remove.ensures.keys c.remove.ensures.gone c.remove.ensures.left inv.0,
      omega (arith, size, inv.1, c.remove.ensures.gone_room.0, c.remove.ensures.gone_room.1),
      omega (arith, room, c.remove.ensures.left_room.0, c.remove.ensures.left_room.1),
    )
