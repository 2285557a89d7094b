use Rattle.std.proofs.Common.{◌≡◌, ◌++◌, take}
use Rattle.std.specs.List.{flat_map}
use Rattle.resp_codec.specs.Marks.{header}
use Rattle.resp_codec.specs.ReplyText.{part_text}
use Rattle.resp_codec.proofs.writer.append_array.Given as goal

-- the header and the parts so far were appended
abbrev pub invariant-loop-part : goal.invariant-loop-part
invariant-loop-part l =
    l.out ≡ l.fn.out ++ (header 42 l.replies.count ++ flat_map part_text (take l.part-index l.part-items))
