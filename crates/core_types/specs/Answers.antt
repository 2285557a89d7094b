-- What is answered for a value that may be missing, and for several.
use Rattle.std.specs.Prelude.{ℕ, List, length, flat_map, Option, Some, None}
use Rattle.core_types.specs.Parts.{parts_of}
use Rattle.core_types.specs.Several.{Several}
use Rattle.core_types.specs.declared.reply.Reply.{Reply}
use Rattle.core_types.specs.declared.reply.Reply.TheVariants as reply

-- a byte string, or a null where there is none
abbrev pub bulk_or_null : Option (List ℕ) → Reply
bulk_or_null None = reply.Null
bulk_or_null (Some bytes) = reply.Bulk bytes

-- replies in an array
abbrev pub several : List Reply → Several
several replies = record { count = length replies; parts = flat_map parts_of replies }
