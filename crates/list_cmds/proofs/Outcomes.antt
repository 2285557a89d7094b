-- Serves clause does of trim and remove.
use Rattle.std.proofs.Common.{◌≡◌, ◌-◌, if◌then◌else◌, ℕ, Bool, true, false, List, [], ◌∷◌, length, codes, Option, Some, refl, ap, arith}
use Rattle.std.specs.Prelude.{◌==◌}
use Rattle.std.proofs.lemmas.Bool.Decides.{nat_tests}
use Rattle.core_types.specs.Done.{Does, own_words, del_note}
use Rattle.core_types.specs.declared.outcome.After.TheVariants as after
use Rattle.core_types.specs.declared.outcome.Outcome.{Outcome}
use Rattle.core_types.specs.declared.reply.Reply.{Reply}
use Rattle.list_cmds.specs.Taking.{leaves, leaves_of}
use Rattle.list_cmds.specs.Words.{counted, list_note}

-- the outcome of items that are taken out, of all of them or not
abbrev pub taken_outcome : Bool → Reply → List ℕ → List ℕ → List (List ℕ) → Outcome (List (List ℕ))
taken_outcome all said name event words =
    record {
      body = if all then after.Remove else after.Keep;
      reply = said;
      effects = own_words name words ∷ [];
      notes = list_note event words ∷ (if all then del_note words ∷ [] else []);
    }

pub left_done : (all : Bool) (o : Outcome (List (List ℕ))) (left : List (List ℕ)) (said : Reply) (name event : List ℕ) (words : List (List ℕ)) (old : Option (List (List ℕ))) → o ≡ taken_outcome all said name event words → (length left == 0) ≡ all → Does o old (Some left) (leaves left said name event words)
left_done true o left said name event words old e f =
    rw (e, f) (record { body = tt; reply = refl; effects = refl; notes = refl })
left_done false o left said name event words old e f =
    rw (e, f) (record { body = refl; reply = refl; effects = refl; notes = refl })

pub removed_done : (all : Bool) (o : Outcome (List (List ℕ))) (items left words : List (List ℕ)) → o ≡ taken_outcome all (counted (length items - length left)) (codes "LREM") (codes "lrem") words → (length left == 0) ≡ all → (length items == length left) ≡ false → Does o (Some items) (Some left) (leaves_of items left words)
removed_done all o items left words e f g =
    rw g (left_done all o left (counted (length items - length left)) (codes "LREM") (codes "lrem") words (Some items) e f)

pub none_done : (o : Outcome (List (List ℕ))) (items left words : List (List ℕ)) → o ≡ record { body = after.Keep; reply = counted 0; effects = []; notes = [] } → left ≡ items → Does o (Some items) (Some left) (leaves_of items left words)
none_done o items left words e f =
    let test : (length items == length left) ≡ true = grind (arith, nat_tests, ap length f) in
    rw (e, test) (record { body = ap Some f; reply = refl; effects = refl; notes = refl })
