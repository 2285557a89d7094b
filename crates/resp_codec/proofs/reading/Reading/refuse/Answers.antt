use Rattle.std.proofs.Common.{◌+◌, [], refl, arith}
use Rattle.resp_codec.proofs.reading.Reading.refuse.Goals as goal

pub returns : goal.returns
returns c =
    record {
      skipped = [];
      at = c.args.self.now.read + c.args.place;
      skips = tt;
      passes = record { rest = refl; passed = omega arith };
      bad = c.requires.bad;
      place = omega arith;
    }
