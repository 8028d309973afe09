use mathlib.Core.Path.{◌≡◌}
use Rattle.files.specs.Written.{stream_from}
use Rattle.file_law.proofs.Lent.{written}
use Rattle.files.proofs.write_file.Given as goal

abbrev pub invariant-loop-b : goal.invariant-loop-b
invariant-loop-b l =
    l.file ≡ written l.b l.total (stream_from l.area l.sizes.inputs l.sizes.outputs l.sizes.states) l.initial.file
