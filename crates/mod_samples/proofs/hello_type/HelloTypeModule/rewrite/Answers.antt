-- Serves clause builds of HelloType::rewrite.
use Rattle.std.proofs.Common.{◌≡◌, ◌<◌, ◌++◌, ◌∷◌, [], pos, get_or, length, map, take, sym, ap, ◌∙◌, subst, arith, rules}
use Rattle.std.specs.Fmt.{signed_decimal}
use Rattle.std.specs.Int.{w64}
use Rattle.std.proofs.lemmas.Grind.{common_steps}
use Rattle.std.proofs.lemmas.Int.{to_z-of_z}
use Rattle.std.proofs.lemmas.List.{map-append, take_more}
use mir.Val.{SFits}
use Rattle.mod_samples.specs.HelloNumbers.{saved_numbers}
use Rattle.mod_samples.specs.HelloType.{hellotype, insert_name}
use Rattle.module_laws.specs.Rewriting.{Rebuilds}
use Rattle.mod_samples.proofs.HelloRuns.{insert_effect, rebuilds}
use Rattle.mod_samples.proofs.hello_type.HelloTypeModule.rewrite.Goals as goal

pub loop-n-preserved : goal.loop-n-preserved
loop-n-preserved c =
    let items = c.as_slice-n-items.result.now in let i = c.loop-n.n-index in let n = get_or items i (pos 0) in
    let key = c.args.key.now in
    let fits : SFits w64 n = search rules in
    let under : i < length items = omega arith in
    let is : c.in_ok-on_key.field-0 ≡ insert_effect key n =
    c.in_ok-on_key.ensures.words ∙ ap (λ t. record { words = insert_name ∷ key ∷ t ∷ [] })
    (c.as_slice.ensures.bytes ∙ c.i64_text-text.ensures.text ∙ ap signed_decimal (to_z-of_z w64 n fits)) in
    c.in_ok-push.ensures.ok ∙ ap (λ es. es ++ c.in_ok-on_key.field-0 ∷ []) c.loop-n.invariant
    ∙ ap (λ e. map (insert_effect key) (take i items) ++ e ∷ []) is
    ∙ sym (ap (map (insert_effect key)) (take_more items i (pos 0) under) ∙ map-append (insert_effect key) (take i items) (n ∷ []))

pub returns : goal.returns
returns c =
    let list = c.args.value.now in let items = c.as_slice-n-items.result.now in
    let all : take c.loop-n.n-index items ≡ items = grind (arith, common_steps) in
    record {
      builds = subst (Rebuilds hellotype c.args.key.now (saved_numbers list.numbers))
          (sym (c.loop-n.invariant ∙ ap (map (insert_effect c.args.key.now)) (all ∙ c.as_slice-n-items.ensures)))
          (rebuilds c.args.key.now list.numbers c.requires.key list.rising);
    }
