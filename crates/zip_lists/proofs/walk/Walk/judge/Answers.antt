use Rattle.std.proofs.Common.{◌∙◌, sym}
use Rattle.std.proofs.lemmas.Bool.{false≢true}
use Rattle.zip_lists.proofs.Walks.{HasEnded, Compared, IsCounted, judge_count, judge_wrong}
use Rattle.zip_lists.proofs.Walks.{judge_after, judge_whole}
use Rattle.zip_lists.proofs.walk.Walk.judge.Goals as goal

pub returns-then-not-is_count-clause-bad : goal.returns-then-not-is_count-clause-bad
returns-then-not-is_count-clause-bad c =
    let bytes = c.args.bytes.now in
    let walk = c.args.self.now in
    let ended : HasEnded bytes walk = record {
      total = c.requires.total;
      ended =
          c.requires.ended;
    } in
    let same : Compared bytes walk c.count.result c.len.result =
    record { stated_is = c.count.ensures; count_is = c.len.ensures.length } in
    judge_count bytes walk c.count.result c.len.result c.requires.walked ended (sym c.last.ensures
    ∙ c.if-last-self.false) same (λ is. false≢true (sym c.if-not-is_count.true
    ∙ c.is_count.ensures.1 is))

pub returns-then-is_some-clause-bad : goal.returns-then-is_some-clause-bad
returns-then-is_some-clause-bad c =
    let bytes = c.args.bytes.now in
    let walk = c.args.self.now in
    let ended : HasEnded bytes walk = record {
      total = c.requires.total;
      ended =
          c.requires.ended;
    } in
    let same : Compared bytes walk c.count.result c.len.result =
    record { stated_is = c.count.ensures; count_is = c.len.ensures.length } in
    let counted : IsCounted bytes walk c.count.result c.len.result =
    record {
      last = sym c.last.ensures ∙ c.if-last-self.false;
      same = same;
      is =
          c.is_count.ensures.0 c.if-not-is_count.false;
    } in
    judge_wrong bytes walk c.count.result c.len.result c.requires.walked ended counted

pub returns-then-after-bytes-clause-bad : goal.returns-then-after-bytes-clause-bad
returns-then-after-bytes-clause-bad c =
    let bytes = c.args.bytes.now in
    let walk = c.args.self.now in
    let ended : HasEnded bytes walk = record {
      total = c.requires.total;
      ended =
          c.requires.ended;
    } in
    let same : Compared bytes walk c.count.result c.len.result =
    record { stated_is = c.count.ensures; count_is = c.len.ensures.length } in
    let counted : IsCounted bytes walk c.count.result c.len.result =
    record {
      last = sym c.last.ensures ∙ c.if-last-self.false;
      same = same;
      is =
          c.is_count.ensures.0 c.if-not-is_count.false;
    } in
    judge_after bytes walk c.count.result c.len.result c.requires.walked ended counted
    (sym c.is_some.ensures ∙ c.if-is_some.false) c.if-after-bytes.true

pub returns-clause-ziplist : goal.returns-clause-ziplist
returns-clause-ziplist c =
    let bytes = c.args.bytes.now in
    let walk = c.args.self.now in
    let ended : HasEnded bytes walk = record {
      total = c.requires.total;
      ended =
          c.requires.ended;
    } in
    let same : Compared bytes walk c.count.result c.len.result =
    record { stated_is = c.count.ensures; count_is = c.len.ensures.length } in
    let counted : IsCounted bytes walk c.count.result c.len.result =
    record {
      last = sym c.last.ensures ∙ c.if-last-self.false;
      same = same;
      is =
          c.is_count.ensures.0 c.if-not-is_count.false;
    } in
    judge_whole bytes walk c.count.result c.len.result c.requires.walked ended counted
    (sym c.is_some.ensures ∙ c.if-is_some.false) c.if-after-bytes.false
