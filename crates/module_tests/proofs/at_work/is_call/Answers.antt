-- Serves the clause of at_work::is_call.
use Rattle.std.proofs.Common.{◌<◌, length, map, sym, ap, ◌∙◌, arith}
use Rattle.std.specs.Char.{to_ascii_uppercase}
use Rattle.std.specs.Option.{option_copied, option_map}
use Rattle.core_types.specs.CommandRow.{row_of_spec, takes}
use Rattle.module_laws.specs.Named.{row_named}
use Rattle.module_tests.proofs.Lines.{all_short, named, row_found, some_words}
use Rattle.module_tests.proofs.at_work.is_call.Goals as goal

pub returns-in-Some : goal.returns-in-Some
returns-in-Some c = λ is.
    let specs = c.args.specs.now in let words = c.args.words.now in let name = c.deref.result.now in let spec = c.in-Some.spec.now in
    let some : 0 < length words = some_words (length words) (sym c.is_empty.ensures.empty ∙ c.if-is_empty.false) in
    record {
      row = row_of_spec spec;
      named = ap (λ n. row_named n (map row_of_spec specs)) (sym (named words name some (c.deref.ensures.value ∙ c.in_ok-name.ensures ∙ ap (map to_ascii_uppercase) c.word.ensures.word)))
          ∙ row_found specs name ∙ ap (option_map row_of_spec) (sym c.find.ensures ∙ ap option_copied c.in-Some.is);
      arity = ap (takes spec.arity) (sym c.len-in-Some.ensures.length) ∙ sym c.takes.ensures.takes ∙ is;
      limits = record {
        some = some;
        few = omega (arith, c.len.ensures.length, c.if-len-gt1048576.false);
        each = all_short words (sym c.if-not-are_short.ensures);
      };
    }
