-- The parts of a reply.
use Rattle.std.specs.Prelude.{List, [], ◌∷◌}
use Rattle.core_types.specs.declared.part.Part.{Part}
use Rattle.core_types.specs.declared.part.Part.TheVariants as part
use Rattle.core_types.specs.declared.reply.Reply.{Reply}
use Rattle.core_types.specs.declared.reply.Reply.TheVariants as reply

-- an array is its header and then the parts of its replies; every other reply is one part
abbrev pub parts_of : Reply → List Part
parts_of (reply.Simple text) = part.Simple text ∷ []
parts_of (reply.Error text) = part.Error text ∷ []
parts_of (reply.Int n) = part.Int n ∷ []
parts_of (reply.Bulk bytes) = part.Bulk bytes ∷ []
parts_of reply.Null = part.Null ∷ []
parts_of (reply.Array replies) = part.ArrayOf replies.count ∷ replies.parts
parts_of reply.NullArray = part.NullArray ∷ []
