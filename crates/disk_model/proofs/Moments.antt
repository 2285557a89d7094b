-- How a run of calls goes on, what a crash in it leaves, and how a safe name comes through it.
use Rattle.std.proofs.Common.{◌≡◌, ◌⊎◌, ◌+◌, ◌-◌, ◌++◌, ℕ, zero, suc, List, [], ◌∷◌, length, take, Option, Some, None, refl, sym, ◌∙◌, ap, subst, inl, inr, arith, append_assoc, append-nil}
use Rattle.std.specs.List.{AllByRecursion}
use Rattle.std.specs.Option.{option_map, IfSome}
use Rattle.std.proofs.lemmas.Bool.{cases_lt}
use Rattle.std.proofs.lemmas.List.{append_cancel_left, take-append-le}
use Rattle.std.proofs.Math.Seq.{take-append-add, take-length, take-nil}
use Rattle.disk_model.specs.Files.{Files}
use Rattle.disk_model.specs.Disk.{Disk}
use Rattle.disk_model.specs.Images.{Leaves}
use Rattle.disk_model.specs.Past.{Call, Outcome, Made, Past, done, left_by, after, disk_now, with_calls, with_call}
use Rattle.disk_model.specs.Told.{Told, disk_told, Now, Goes, Was}
use Rattle.disk_model.specs.Runs.{MayLeave, GoesOnBy, LeftSince, LeavesOnly, LeavesOnlyThen, SameDisk}
use Rattle.disk_model.proofs.Past.{after_more, now_more, now_by_call}
use Rattle.disk_model.proofs.Added.{left_however, sync_takes, names_sync_takes}
use Rattle.disk_model.specs.declared.file_name.FileName.{FileName}

-- a value that is there, and no other
some_same : {T : Type 0} (x y : T) → Some x ≡ Some y → x ≡ y
some_same x y same = cc

none_some : {T : Type 0} (x : T) → None ≡ Some x → ⊥
none_some x same = cc

-- The disk after one call.
by_option : (call : Call) (outcome : Outcome) (old new : Option Past) → new ≡ option_map (with_call call outcome) old
    → option_map disk_now new ≡ option_map (left_by call outcome) (option_map disk_now old)
by_option call outcome None new goes = ap (option_map disk_now) goes
by_option call outcome (Some past) new goes = ap (option_map disk_now) goes ∙ ap Some (now_by_call call outcome past)

pub disk_by_call : (call : Call) (outcome : Outcome) (old new : Told) → Goes call outcome old new → disk_told new ≡ option_map (left_by call outcome) (disk_told old)
disk_by_call call outcome old new goes = by_option call outcome old.past new.past goes

-- What the disk has after a call, by what it had.
step_option : (P Q : Disk → Type 0) (call : Call) (outcome : Outcome) (old new : Option Past) → new ≡ option_map (with_call call outcome) old
    → ((past : Past) → P (disk_now past) → Q (left_by call outcome (disk_now past))) → IfSome (option_map disk_now old) P → IfSome (option_map disk_now new) Q
step_option P Q call outcome None new goes step now =
    let R : Option Past → Type 0 = λ past. IfSome (option_map disk_now past) Q in
    subst R (sym goes) tt
step_option P Q call outcome (Some past) new goes step now =
    let R : Option Past → Type 0 = λ past. IfSome (option_map disk_now past) Q in
    subst R (sym goes) (subst Q (sym (now_by_call call outcome past)) (step past now))

pub now_step : (P Q : Disk → Type 0) (call : Call) (outcome : Outcome) (old new : Told) → Goes call outcome old new
    → ((past : Past) → P (disk_now past) → Q (left_by call outcome (disk_now past))) → Now P old → Now Q new
now_step P Q call outcome old new goes step now = step_option P Q call outcome old.past new.past goes step now

-- the calls that a call adds to a past
made_by : Call → Outcome → List Made
made_by call Outcome.Done = (record { call = call; outcome = Outcome.Done }) ∷ []
made_by call Outcome.FailedDone = (record { call = call; outcome = Outcome.FailedDone }) ∷ []
made_by call Outcome.FailedUndone = (record { call = call; outcome = Outcome.FailedUndone }) ∷ []
made_by call (Outcome.FailedFront count) = (record { call = call; outcome = Outcome.FailedFront count }) ∷ []
made_by call Outcome.Unrecorded = []

no_calls : (past : Past) → with_calls [] past ≡ past
no_calls past = ap (λ (made : List Made). let all : Past = record past { made = made } in all) (append-nil past.made)

call_as_calls : (call : Call) (outcome : Outcome) (past : Past) → with_call call outcome past ≡ with_calls (made_by call outcome) past
unfolding made_by
call_as_calls call Outcome.Done past = refl
call_as_calls call Outcome.FailedDone past = refl
call_as_calls call Outcome.FailedUndone past = refl
call_as_calls call (Outcome.FailedFront count) past = refl
call_as_calls call Outcome.Unrecorded past = sym (no_calls past)

goes_by_option : (call : Call) (outcome : Outcome) (old new : Option Past) → new ≡ option_map (with_call call outcome) old → new ≡ option_map (with_calls (made_by call outcome)) old
goes_by_option call outcome None new goes = goes
goes_by_option call outcome (Some past) new goes = goes ∙ ap Some (call_as_calls call outcome past)

goes_by : (call : Call) (outcome : Outcome) (old new : Told) → Goes call outcome old new → GoesOnBy (made_by call outcome) old new
goes_by call outcome old new goes = goes_by_option call outcome old.past new.past goes

-- two runs from one past to one past made the same calls
same_calls : (old new : Told) (past : Past) (made more : List Made) → old.past ≡ Some past → GoesOnBy made old new → GoesOnBy more old new → made ≡ more
same_calls old new past made more tells one two =
    let first : new.past ≡ Some (with_calls made past) = one ∙ ap (option_map (with_calls made)) tells in
    let second : new.past ≡ Some (with_calls more past) = two ∙ ap (option_map (with_calls more)) tells in
    let same : with_calls made past ≡ with_calls more past = some_same (with_calls made past) (with_calls more past) (sym first ∙ second) in
    append_cancel_left past.made made more (ap (λ (all : Past). all.made) same)

-- what was left within one call
one_taken : (one : Made) (disk : Disk) (count : ℕ) (image : Files) → Leaves (after disk (take count (one ∷ []))) image → Leaves disk image ⊎ Leaves (left_by one.call one.outcome disk) image
one_taken one disk zero image leaves = inl leaves
one_taken one disk (suc count) image leaves =
    let P : List Made → Type 0 = λ more. Leaves (after (left_by one.call one.outcome disk) more) image in
    inr (subst P (take-nil count) leaves)

taken : (call : Call) (outcome : Outcome) (disk : Disk) (count : ℕ) (image : Files) → Leaves (after disk (take count (made_by call outcome))) image
    → Leaves disk image ⊎ Leaves (left_by call outcome disk) image
unfolding made_by
taken call Outcome.Done disk count image leaves = one_taken (record { call = call; outcome = Outcome.Done }) disk count image leaves
taken call Outcome.FailedDone disk count image leaves = one_taken (record { call = call; outcome = Outcome.FailedDone }) disk count image leaves
taken call Outcome.FailedUndone disk count image leaves = one_taken (record { call = call; outcome = Outcome.FailedUndone }) disk count image leaves
taken call (Outcome.FailedFront size) disk count image leaves = one_taken (record { call = call; outcome = Outcome.FailedFront size }) disk count image leaves
taken call Outcome.Unrecorded disk count image leaves = (let P : List Made → Type 0 = λ more. Leaves (after disk more) image in inl (subst P (take-nil count) leaves))

disk_is : (told : Told) (past : Past) → told.past ≡ Some past → disk_told told ≡ Some (disk_now past)
disk_is told past tells = ap (option_map disk_now) tells

-- One call leaves what was left before, or what it leaves where it is done.
pub left_by_call : (call : Call) (old new : Told) (image : Files) → Was call old new → LeftSince old new image
    → MayLeave (disk_told old) image ⊎ MayLeave (option_map (done call) (disk_told old)) image
left_by_call call old new image was left =
    let disk : Disk = disk_now left.past in
    let same : left.more ≡ made_by call was.outcome = same_calls old new left.past left.more (made_by call was.outcome) left.tells left.goes_on (goes_by call was.outcome old new was.goes) in
    let P : List Made → Type 0 = λ more. Leaves (after disk (take left.count more)) image in
    let before : Leaves disk image → MayLeave (disk_told old) image = λ leaves. record { disk = disk; tells = disk_is old left.past left.tells; leaves = leaves } in
    elim (taken call was.outcome disk left.count image (subst P same left.leaves)) [
      | inl first ↦ inl (before first)
      | inr last ↦ elim (left_however call was.outcome disk image last) [
        | inl first ↦ inl (before first)
        | inr all ↦ inr (record { disk = done call disk; tells = ap (option_map (done call)) (disk_is old left.past left.tells); leaves = all })
      ]
    ]

-- What a crash may leave now, one might have left since.
now_option : (more : List Made) (old new : Told) (image : Files) (before : Option Past) → old.past ≡ before → GoesOnBy more old new → MayLeave (disk_told new) image → LeftSince old new image
now_option more old new image None tells goes may =
    absurd (none_some may.disk (sym (ap (option_map disk_now) (goes ∙ ap (option_map (with_calls more)) tells)) ∙ may.tells))
now_option more old new image (Some past) tells goes may =
    let last : disk_told new ≡ Some (after (disk_now past) more) = ap (option_map disk_now) (goes ∙ ap (option_map (with_calls more)) tells) ∙ ap Some (now_more more past) in
    let same : may.disk ≡ after (disk_now past) more = some_same may.disk (after (disk_now past) more) (sym may.tells ∙ last) in
    let P : Disk → Type 0 = λ disk. Leaves disk image in
    let Q : List Made → Type 0 = λ all. Leaves (after (disk_now past) all) image in
    record { past = past; more = more; tells = tells; goes_on = goes; count = length more; leaves = subst Q (sym (take-length more)) (subst P same may.leaves) }

pub left_now : (more : List Made) (old new : Told) (image : Files) → GoesOnBy more old new → MayLeave (disk_told new) image → LeftSince old new image
left_now more old new image goes may = now_option more old new image old.past refl goes may

-- The calls of two runs are those of one.
further_option : (more other : List Made) (before : Option Past) → option_map (with_calls other) (option_map (with_calls more) before) ≡ option_map (with_calls (more ++ other)) before
further_option more other None = refl
further_option more other (Some past) = ap (λ (made : List Made). let all : Past = record past { made = made } in Some all) (append_assoc past.made more other)

pub goes_further : (more other : List Made) (a b c : Told) → GoesOnBy more a b → GoesOnBy other b c → GoesOnBy (more ++ other) a c
goes_further more other a b c first second = second ∙ ap (option_map (with_calls other)) first ∙ further_option more other a.past

-- What was left in a run was left in its first part or in its second.
pub left_in_parts : (more other : List Made) (a b c : Told) (image : Files) → GoesOnBy more a b → GoesOnBy other b c → LeftSince a c image → LeftSince a b image ⊎ LeftSince b c image
left_in_parts more other a b c image first second left =
    let disk : Disk = disk_now left.past in
    let same : left.more ≡ more ++ other = same_calls a c left.past left.more (more ++ other) left.tells left.goes_on (goes_further more other a b c first second) in
    let P : List Made → Type 0 = λ all. Leaves (after disk (take left.count all)) image in
    let leaves : Leaves (after disk (take left.count (more ++ other))) image = subst P same left.leaves in
    let Q : List Made → Type 0 = λ made. Leaves (after disk made) image in
    elim (cases_lt (length more) left.count) [
      | inl late ↦ (let k : ℕ = left.count - length more in
          let sum : left.count ≡ length more + k = omega (arith, late) in
          let R : ℕ → Type 0 = λ count. Leaves (after disk (take count (more ++ other))) image in
          let split : Leaves (after disk (more ++ take k other)) image = subst Q (take-append-add more other k) (subst R sum leaves) in
          let S : Disk → Type 0 = λ at. Leaves at image in
          let T : Disk → Type 0 = λ at. Leaves (after at (take k other)) image in
          inr (record {
            past = with_calls more left.past;
            more = other;
            tells = first ∙ ap (option_map (with_calls more)) left.tells;
            goes_on = second;
            count = k;
            leaves = subst T (sym (now_more more left.past)) (subst S (after_more disk more (take k other)) split);
          }))
      | inr early ↦ inl (record { past = left.past; more = more; tells = left.tells; goes_on = first; count = left.count; leaves = subst Q (take-append-le left.count more other early) leaves })
    ]

-- Reads leave the disk as it was.
read_as : (name : FileName) (outcome : Outcome) (disk : Disk) → left_by (Call.ReadAll name) outcome disk ≡ disk
read_as name Outcome.Done disk = refl
read_as name Outcome.FailedDone disk = refl
read_as name Outcome.FailedUndone disk = refl
read_as name (Outcome.FailedFront count) disk = refl
read_as name Outcome.Unrecorded disk = refl

read_same : (call : Call) (name : FileName) (outcome : Outcome) (disk : Disk) → call ≡ Call.ReadAll name → left_by call outcome disk ≡ disk
read_same call name outcome disk is =
    let P : Call → Type 0 = λ one. left_by one outcome disk ≡ disk in
    subst P (sym is) (read_as name outcome disk)

same_after : (disk : Disk) (more : List Made) (count : ℕ) → AllByRecursion (λ made. (name : FileName) × (made.call ≡ Call.ReadAll name)) more → after disk (take count more) ≡ disk
same_after disk more zero reads_only = refl
same_after disk [] (suc count) reads_only = refl
same_after disk (one ∷ more) (suc count) reads_only =
    ap (λ (at : Disk). after at (take count more)) (read_same one.call reads_only.0.0 one.outcome disk reads_only.0.1) ∙ same_after disk more count reads_only.1

same_option : (more : List Made) (before : Option Past) → AllByRecursion (λ made. (name : FileName) × (made.call ≡ Call.ReadAll name)) more
    → option_map disk_now (option_map (with_calls more) before) ≡ option_map disk_now before
same_option more None reads_only = refl
same_option more (Some past) reads_only =
    ap Some (now_more more past ∙ ap (after (disk_now past)) (sym (take-length more)) ∙ same_after (disk_now past) more (length more) reads_only)

pub same_disk : (old new : Told) → SameDisk old new → disk_told new ≡ disk_told old
same_disk old new same = ap (option_map disk_now) same.goes_on ∙ same_option same.more old.past same.reads

pub same_images : (old new : Told) (image : Files) → SameDisk old new → LeftSince old new image → MayLeave (disk_told old) image
same_images old new image same left =
    let disk : Disk = disk_now left.past in
    let calls : left.more ≡ same.more = same_calls old new left.past left.more same.more left.tells left.goes_on same.goes_on in
    let P : List Made → Type 0 = λ more. Leaves (after disk (take left.count more)) image in
    let Q : Disk → Type 0 = λ at. Leaves at image in
    record { disk = disk; tells = disk_is old left.past left.tells; leaves = subst Q (same_after disk same.more left.count same.reads) (subst P calls left.leaves) }

-- A run that leaves only what has P leaves only what has what follows from P.
pub weaker : (old new : Told) (P Q : Files → Type 0) → LeavesOnly old new P → ((image : Files) → P image → Q image) → LeavesOnly old new Q
weaker old new P Q run follows = record { more = run.more; goes_on = run.goes_on; each = λ image left. follows image (run.each image left) }

-- Two such runs, one after the other, are one.
pub further : (a b c : Told) (P : Files → Type 0) → LeavesOnly a b P → LeavesOnly b c P → LeavesOnly a c P
further a b c P first second = record {
  more = first.more ++ second.more;
  goes_on = goes_further first.more second.more a b c first.goes_on second.goes_on;
  each = λ image left. elim (left_in_parts first.more second.more a b c image first.goes_on second.goes_on left) [ inl early ↦ first.each image early | inr late ↦ second.each image late ];
}

-- One call is one, where what a crash leaves before it has P, and what one leaves after it where it
-- is done.
pub by_call : (call : Call) (old new : Told) (P : Files → Type 0) → Was call old new → ((image : Files) → MayLeave (disk_told old) image → P image)
    → ((image : Files) → MayLeave (option_map (done call) (disk_told old)) image → P image) → LeavesOnly old new P
by_call call old new P was before after_it = record {
  more = made_by call was.outcome;
  goes_on = goes_by call was.outcome old new was.goes;
  each = λ image left. elim (left_by_call call old new image was left) [ inl first ↦ before image first | inr last ↦ after_it image last ];
}

-- what is left of a disk that was changed so was left of it
back_option : (change : Disk → Disk) (image : Files) → ((disk : Disk) → Leaves (change disk) image → Leaves disk image) → (told : Option Disk) → MayLeave (option_map change told) image → MayLeave told image
back_option change image back None may = absurd (none_some may.disk may.tells)
back_option change image back (Some disk) may =
    let P : Disk → Type 0 = λ at. Leaves at image in
    record { disk = disk; tells = refl; leaves = back disk (subst P (sym (some_same (change disk) may.disk may.tells)) may.leaves) }

-- A sync and a read leave nothing that was not left before.
pub by_sync : (name : FileName) (old new : Told) (P : Files → Type 0) → Was (Call.Sync name) old new → ((image : Files) → MayLeave (disk_told old) image → P image) → LeavesOnly old new P
by_sync name old new P was before =
    by_call (Call.Sync name) old new P was before (λ image may. before image (back_option (done (Call.Sync name)) image (λ disk. sync_takes name disk image) (disk_told old) may))

pub by_names_sync : (old new : Told) (P : Files → Type 0) → Was Call.SyncNames old new → ((image : Files) → MayLeave (disk_told old) image → P image) → LeavesOnly old new P
by_names_sync old new P was before =
    by_call Call.SyncNames old new P was before (λ image may. before image (back_option (done Call.SyncNames) image (λ disk. names_sync_takes disk image) (disk_told old) may))

pub by_read : (name : FileName) (old new : Told) (P : Files → Type 0) → Was (Call.ReadAll name) old new → ((image : Files) → MayLeave (disk_told old) image → P image) → LeavesOnly old new P
by_read name old new P was before =
    by_call (Call.ReadAll name) old new P was before (λ image may. before image (back_option (done (Call.ReadAll name)) image (λ disk leaves. leaves) (disk_told old) may))

-- From a run to the image now.
pub now : (old new : Told) (P : Files → Type 0) → LeavesOnly old new P → (image : Files) → MayLeave (disk_told new) image → P image
now old new P run image may = run.each image (left_now run.more old new image run.goes_on may)

-- No call is a run too, and so are reads.
pub same : (old new : Told) (P : Files → Type 0) → SameDisk old new → ((image : Files) → MayLeave (disk_told old) image → P image) → LeavesOnly old new P
same old new P is before = record { more = is.more; goes_on = is.goes_on; each = λ image left. before image (same_images old new image is left) }

none_option : (before : Option Past) → option_map (with_calls []) before ≡ before
none_option None = refl
none_option (Some past) = ap Some (no_calls past)

pub no_call_same : (old new : Told) → new.past ≡ old.past → SameDisk old new
no_call_same old new is = record { more = []; goes_on = is ∙ sym (none_option old.past); reads = tt }

pub no_call : (old new : Told) (P : Files → Type 0) → new.past ≡ old.past → ((image : Files) → MayLeave (disk_told old) image → P image) → LeavesOnly old new P
no_call old new P is before = same old new P (no_call_same old new is) before

-- A run in two parts goes on in its second, and leaves what the one or the other has.
pub then_further : (a b c : Told) (P : Files → Type 0) (M : Disk → Type 0) (Q : Files → Type 0) → LeavesOnlyThen a b P M Q → LeavesOnly b c Q → LeavesOnlyThen a c P M Q
then_further a b c P M Q run more = record { middle = run.middle; before = run.before; there = run.there; since = further run.middle b c Q run.since more }

pub both : (old new : Told) (P : Files → Type 0) (M : Disk → Type 0) (Q : Files → Type 0) → LeavesOnlyThen old new P M Q → LeavesOnly old new (λ image. P image ⊎ Q image)
both old new P M Q run =
    let R : Files → Type 0 = λ image. P image ⊎ Q image in
    further old run.middle new R (weaker old run.middle P R run.before (λ image has. inl has)) (weaker run.middle new Q R run.since (λ image has. inr has))

-- From what the disk has to what each image has.
pub may_leave : (Q : Disk → Type 0) (P : Files → Type 0) (told : Option Disk) → IfSome told Q → ((disk : Disk) (image : Files) → Q disk → Leaves disk image → P image)
    → (image : Files) → MayLeave told image → P image
may_leave Q P None has follows image may = absurd (none_some may.disk may.tells)
may_leave Q P (Some disk) has follows image may =
    let R : Disk → Type 0 = λ at. Q at in
    follows may.disk image (subst R (some_same disk may.disk may.tells) has) may.leaves

pub now_map : (P Q : Disk → Type 0) (change : Disk → Disk) (told : Option Disk) → IfSome told P → ((disk : Disk) → P disk → Q (change disk)) → IfSome (option_map change told) Q
now_map P Q change None has step = tt
now_map P Q change (Some disk) has step = step disk has
