-- A file written in its place is the one that was changed.
use Rattle.std.proofs.Common.{◌≡◌, ◌<◌, ◌≤◌, ℕ, Option, length, get_or, set, sym, subst, rules}
use Rattle.disk_model.specs.Disk.{with_change, with_changed}
use Rattle.disk_model.proofs.Copies.{set_there, none_there}
use Rattle.disk_model.proofs.memory.disk.change_file.Goals as goal

pub returns-in_ok-add : goal.returns-in_ok-add
returns-in_ok-add c =
    let files = c.args.files.now.items in
    let file = c.index_mut-file.result.now in
    let P : Option ℕ → Type 0 = λ number. set files c.in-Some.number c.add.new.self ≡ with_changed (with_change c.args.change) number files in
    let within : c.in-Some.number < length files = search rules in
    let is : file ≡ get_or files c.in-Some.number file = search rules in
    let done : c.add.new.self ≡ with_change c.args.change file = c.in_ok-add.ensures.changed in
    record { changed = subst P (sym c.in-Some.is) (set_there (with_change c.args.change) files c.in-Some.number file c.add.new.self within is done) }

pub returns-else-number-len : goal.returns-else-number-len
returns-else-number-len c =
    let files = c.args.files.now.items in
    let P : Option ℕ → Type 0 = λ number. files ≡ with_changed (with_change c.args.change) number files in
    let past : length files ≤ c.in-Some.number = search rules in
    record { changed = subst P (sym c.in-Some.is) (sym (none_there (with_change c.args.change) files c.in-Some.number past)) }
