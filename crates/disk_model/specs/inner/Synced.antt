-- Whether a sync is owed.
use Rattle.disk_model.specs.declared.real.synced.Synced.{Synced}
use Rattle.disk_model.specs.declared.real.synced.Synced.TheVariants.{Yes, No, Failed}

-- what is known once something was changed: a failed sync is not made good
abbrev pub after_change : Synced → Synced
after_change Yes = No
after_change No = No
after_change Failed = Failed

-- what is known of a file that is one of two
abbrev pub either_of : Synced → Synced → Synced
either_of Failed other = Failed
either_of Yes Yes = Yes
either_of Yes No = No
either_of Yes Failed = Failed
either_of No Yes = No
either_of No No = No
either_of No Failed = Failed
