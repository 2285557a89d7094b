-- A command on a key that is not there. Serves clause does of run_fresh.
use Rattle.std.proofs.Common.{◌≡◌, ◌≢◌, ◌⊎◌, inl, inr, ℕ, Bool, true, false, List, [], drop, Option, Some, None, if◌then◌else◌, refl, sym, ◌∙◌, subst, arith}
use Rattle.core_types.specs.Done.{Change, Done, Does, Makes}
use Rattle.core_types.specs.Fields.{without_fields}
use Rattle.core_types.specs.declared.field.Field.{Field}
use Rattle.core_types.specs.declared.outcome.After.{After}
use Rattle.core_types.specs.declared.outcome.After.TheVariants as after
use Rattle.core_types.specs.declared.outcome.Outcome.{Outcome}
use Rattle.core_types.specs.declared.reply.Reply.{Reply}
use Rattle.hash_cmds.specs.declared.command.HashCmd.{HashCmd}
use Rattle.hash_cmds.specs.declared.command.HashCmd.TheVariants as command
use Rattle.hash_cmds.specs.Words.{unless_wrong}
use Rattle.hash_cmds.specs.Removing.{removed}
use Rattle.hash_cmds.specs.Rows.{row}

-- nothing changes and nothing is told, or the key gets a value and something is told
abbrev pub Fresh : Done (List Field) → Type 0
Fresh done =
    ((done.change ≡ Change.Stays) × (done.effects ≡ []))
    ⊎ ((body : List Field) × (done.change ≡ Change.Becomes body) × (done.effects ≢ []))

stays_absent : (body : After (List Field)) (new : List Field) → Makes body (Some []) (Some new) Change.Stays → Makes body None None Change.Stays
stays_absent after.Keep new h = refl
stays_absent (after.Put made) new h = absurd h
stays_absent after.Remove new h = absurd h

becomes_absent : (body : After (List Field)) (new made : List Field) → Makes body (Some []) (Some new) (Change.Becomes made) → new ≡ made
becomes_absent after.Keep new made h = cc
becomes_absent (after.Put other) new made h = absurd h
becomes_absent after.Remove new made h = absurd h

pub absent_does : (o put : Outcome (List Field)) (new : List Field) (done : Done (List Field)) → Fresh done → Does o (Some []) (Some new) done → (o.effects ≡ [] → put ≡ o) → (o.effects ≢ [] → put ≡ record o { body = after.Put new }) → Does put None None done
absent_does o put new done (inl (stays, none)) does same other =
    subst (λ (p : Outcome (List Field)). Does p None None done) (sym (same (does.effects ∙ none)))
    record {
      body = subst (λ (change : Change (List Field)). Makes o.body None None change) (sym stays)
          (stays_absent o.body new (subst (λ (change : Change (List Field)). Makes o.body (Some []) (Some new) change) stays does.body));
      reply = does.reply;
      effects = does.effects;
      notes = does.notes;
    }
absent_does o put new done (inr (made, becomes, some)) does same other =
    subst (λ (p : Outcome (List Field)). Does p None None done) (sym (other (λ e. some (sym does.effects ∙ e))))
    record {
      body = subst (λ (change : Change (List Field)). Makes (after.Put new) None None change) (sym becomes)
          (becomes_absent o.body new made (subst (λ (change : Change (List Field)). Makes o.body (Some []) (Some new) change) becomes does.body));
      reply = does.reply;
      effects = does.effects;
      notes = does.notes;
    }

unless_fresh : (error : Option Reply) (done : Done (List Field)) → Fresh done → Fresh (unless_wrong error done)
unless_fresh None done h = h
unless_fresh (Some said) done h = inl (refl, refl)

if_fresh : (b : Bool) (d e : Done (List Field)) → Fresh d → Fresh e → Fresh (if b then d else e)
if_fresh true d e h k = h
if_fresh false d e h k = k

none_removed : (count : ℕ) (rest : List Field) (words : List (List ℕ)) → count ≡ 0 → Fresh (removed count rest words)
none_removed count rest words e = rw e (inl (refl, refl))

pub row_fresh : (cmd : HashCmd) (words : List (List ℕ)) → Fresh (row cmd None words)
row_fresh command.HSet words = unless_fresh _ _ (inr (_, refl, λ e. cc))
row_fresh command.HMSet words = unless_fresh _ _ (inr (_, refl, λ e. cc))
row_fresh command.HSetNx words = inr (_, refl, λ e. cc)
row_fresh command.HGet words = inl (refl, refl)
row_fresh command.HMGet words = inl (refl, refl)
row_fresh command.HDel words = none_removed _ (without_fields [] (drop 2 words)) words (omega arith)
row_fresh command.HLen words = inl (refl, refl)
row_fresh command.HExists words = inl (refl, refl)
row_fresh command.HStrLen words = inl (refl, refl)
row_fresh command.HKeys words = inl (refl, refl)
row_fresh command.HVals words = inl (refl, refl)
row_fresh command.HGetAll words = inl (refl, refl)
row_fresh command.HIncrBy words = unless_fresh _ _ (if_fresh _ _ _ (inr (_, refl, λ e. cc)) (inl (refl, refl)))
