-- The bytes that RESP2 sends for a reply.
use Rattle.std.specs.Prelude.{ℕ, List, ◌++◌, codes}
use Rattle.std.specs.List.{flat_map}
use Rattle.std.specs.Fmt.{signed_decimal}
use Rattle.core_types.specs.declared.part.Part.{Part}
use Rattle.core_types.specs.declared.part.Part.TheVariants as part
use Rattle.core_types.specs.declared.reply.Reply.{Reply}
use Rattle.core_types.specs.declared.reply.Reply.TheVariants as reply
use Rattle.resp_codec.specs.Marks.{star, dollar, colon, plus, minus, marked, header}
use Rattle.resp_codec.specs.Spelling.{bulk}

abbrev pub part_text : Part → List ℕ
part_text (part.Simple text) = marked plus text
part_text (part.Error text) = marked minus text
part_text (part.Int n) = marked colon (signed_decimal n)
part_text (part.Bulk bytes) = bulk bytes
part_text part.Null = marked dollar (codes "-1")
part_text part.NullArray = marked star (codes "-1")
part_text (part.ArrayOf count) = header star count

-- an array is its header, and then the texts of its parts in order
abbrev pub text : Reply → List ℕ
text (reply.Simple line) = marked plus line
text (reply.Error line) = marked minus line
text (reply.Int n) = marked colon (signed_decimal n)
text (reply.Bulk bytes) = bulk bytes
text reply.Null = marked dollar (codes "-1")
text (reply.Array replies) = header star replies.count ++ flat_map part_text replies.parts
text reply.NullArray = marked star (codes "-1")
