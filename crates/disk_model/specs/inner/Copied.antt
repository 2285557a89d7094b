-- What the parts of a disk in memory stand for.
use Rattle.disk_model.specs.Disk.{Change, NameChange}
use Rattle.disk_model.specs.declared.memory.disk.names.WhatChanged.TheVariants.{the_data as NamesChanged, Created, Renamed}
use Rattle.disk_model.specs.declared.memory.disk.stored.WhatChanged.TheVariants.{the_data as BytesChanged, Added, CutTo}

abbrev pub name_change_of : NamesChanged → NameChange
name_change_of (Created name number) = NameChange.Created name number
name_change_of (Renamed from to) = NameChange.Renamed from to

abbrev pub change_told : BytesChanged → Change
change_told (Added bytes) = Change.Added bytes
change_told (CutTo length) = Change.CutTo length
