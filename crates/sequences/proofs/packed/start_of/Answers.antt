-- Serves clauses word and length of Packed::word and Packed::tail_len.
use Rattle.std.proofs.Common.{◌≡◌, ◌-◌, ◌<◌, suc, length, take, sym, ap, ◌∙◌, arith}
use Rattle.sequences.specs.inner.Packing.{last_end}
use Rattle.sequences.proofs.Packing.{last_end_take}
use Rattle.sequences.proofs.packed.start_of.Goals as goal

pub returns-else-place-eq0 : goal.returns-else-place-eq0
returns-else-place-eq0 c =
    let ends = c.args.ends.now in
    let before : c.args.place - 1 < length ends = omega arith in
    let one : suc (c.args.place - 1) ≡ c.args.place = omega arith in
    record {
      start = sym (last_end_take 0 ends (c.args.place - 1) before)
          ∙ ap (λ n. last_end 0 (take n ends)) one;
    }
