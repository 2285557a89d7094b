-- A file written in its place is the one that was made safe.
use Rattle.std.proofs.Common.{◌≡◌, ◌<◌, ◌≤◌, ℕ, Option, length, get_or, set, sym, subst, rules}
use Rattle.disk_model.specs.Disk.{made_safe, with_changed}
use Rattle.disk_model.proofs.Copies.{set_there, none_there}
use Rattle.disk_model.proofs.memory.disk.make_file_safe.Goals as goal

pub returns-in_ok-make_safe : goal.returns-in_ok-make_safe
returns-in_ok-make_safe c =
    let files = c.args.files.now.items in
    let file = c.index_mut-file.result.now in
    let P : Option ℕ → Type 0 = λ number. set files c.in-Some.number c.make_safe.new.self ≡ with_changed made_safe number files in
    let within : c.in-Some.number < length files = search rules in
    let is : file ≡ get_or files c.in-Some.number file = search rules in
    let done : c.make_safe.new.self ≡ made_safe file = c.in_ok-make_safe.ensures.safe in
    record { safe = subst P (sym c.in-Some.is) (set_there made_safe files c.in-Some.number file c.make_safe.new.self within is done) }

pub returns-else-number-len : goal.returns-else-number-len
returns-else-number-len c =
    let files = c.args.files.now.items in
    let P : Option ℕ → Type 0 = λ number. files ≡ with_changed made_safe number files in
    let past : length files ≤ c.in-Some.number = search rules in
    record { safe = subst P (sym c.in-Some.is) (sym (none_there made_safe files c.in-Some.number past)) }
