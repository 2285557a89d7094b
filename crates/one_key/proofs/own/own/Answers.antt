-- Serves the clause of own.
use Rattle.std.proofs.Common.{map, ap, ◌∙◌}
use Rattle.std.specs.Char.{to_ascii_uppercase}
use Rattle.one_key.proofs.OwnWords.{own_is}
use Rattle.one_key.proofs.own.own.Goals as goal

pub returns : goal.returns
returns c =
    own_is c.args.words.now c.deref.result.now c.own_words.result c.requires
    (c.deref.ensures.value ∙ c.in_ok-name.ensures ∙ ap (map to_ascii_uppercase) c.word.ensures.word)
    c.own_words.ensures.words
