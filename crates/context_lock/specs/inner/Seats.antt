-- A pass as a seat of the lock's table that has not the turn.
use Rattle.std.specs.Prelude.{◌≡◌, ℕ, ◌<◌, List, [], ◌∷◌}
use Rattle.atomic_table.specs.Seated.{TableId}
use Rattle.context_lock.specs.declared.view.View.{View}
use Rattle.context_lock.specs.Passes.{Held}

abbrev pub held_of : TableId → View → Held
held_of lock v =
    record { lock = lock; seen = v.seen; parts = v.parts; mine = v.mine; stays = v.stays }

abbrev pub held : TableId → List View → Held
held lock [] = record { lock = lock; seen = 0; parts = 0; mine = []; stays = [] }
held lock (v ∷ vs) = held_of lock v

-- the seat has some parts, and not the turn
abbrev pub IsOut : View → Type 0
IsOut v = (0 < v.parts) × (v.turn ≡ 0)

abbrev pub IsPass : List View → Type 0
IsPass views = (v : View) × (views ≡ v ∷ []) × IsOut v
