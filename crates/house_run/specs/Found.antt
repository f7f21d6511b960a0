-- What a job found on the shelf where it writes to files: the files before, where they are told still.
use Rattle.std.specs.Prelude.{Option, Some, None}
use Rattle.house_run.specs.Seen.{Outside, ShelfSeen}

abbrev pub told_first : {A : Type 0} → Option A → Option A → Option A
told_first before None = None
told_first before (Some after) = before

abbrev pub found : ShelfSeen → ShelfSeen
found shelf = record shelf { files = told_first shelf.files_before shelf.files }

abbrev pub as_found : Outside → Outside
as_found seen = record { shelf = found seen.shelf }
