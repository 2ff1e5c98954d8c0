use Rattle.shape_eval.specs.Results.{pair_reads}
use Rattle.pair_slice.specs.Slice.{slice_graph}
use Rattle.pair_slice.proofs.SliceLemmas.{Agree-slice, AllKnown-slice}
use Rattle.pair_slice.proofs.laws.slices_suffice.Goals as goal

pub returns : goal.returns
returns c shapes lower g known plan p inside =
    let keys = pair_reads shapes g p in
    c.results_depend_on_reads.ensures shapes lower g (slice_graph g keys) known (AllKnown-slice g keys known)
    plan p inside (Agree-slice g keys)
