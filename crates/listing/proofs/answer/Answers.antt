-- A file that was made lies in the buffer.
use Rattle.std.proofs.Common.{sym}
use Rattle.std.proofs.lemmas.List.{length-take-le}
use Rattle.compiler.proofs.Calls.{file_inside}
use Rattle.listing.proofs.answer.Goals as goal

pub slice_bounds-file-end : goal.slice_bounds-file-end
slice_bounds-file-end g c = file_inside c.compile.result c.compile.ensures c.in-Ok.is

pub slice_bounds-listing-end : goal.slice_bounds-listing-end
slice_bounds-listing-end g c = sym (length-take-le _ _ (file_inside c.compile.result c.compile.ensures c.in-Ok.is))
