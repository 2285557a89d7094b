use Rattle.disk_model.specs.Past.{disk_now}
use Rattle.disk_model.proofs.Past.{now_sound}
use Rattle.disk_model.proofs.Added.{append_adds, cut_adds, create_adds, rename_adds}
use Rattle.disk_model.proofs.Temporary.{temporary_left}
use Rattle.disk_model.proofs.laws.images_added.Goals as goal

pub returns : goal.returns
returns c = record {
  by_append = λ name bytes past image leaves. append_adds name bytes (disk_now past) image (now_sound past) leaves;
  by_cut = λ name length past image leaves. cut_adds name length (disk_now past) image (now_sound past) leaves;
  by_create = λ name past image leaves. create_adds name (disk_now past) image (now_sound past) leaves;
  by_rename = λ from to past image leaves. rename_adds from to (disk_now past) image leaves;
  temporary = λ name call outcome past image only temporary is leaves. temporary_left name call outcome (disk_now past) image (now_sound past) only temporary is leaves;
}
