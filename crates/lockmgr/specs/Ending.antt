-- The numbers of the endings of a drain.
use Rattle.std.specs.Prelude.{ℕ}
use Rattle.lockmgr.specs.declared.Ending.{Ending}
use Rattle.lockmgr.specs.declared.Ending.TheVariants.{Empty, Full, Limited}
use Rattle.lockmgr.specs.Drain.{empty, full, limited}

abbrev pub ending_number : Ending → ℕ
ending_number Empty = empty
ending_number Full = full
ending_number Limited = limited
