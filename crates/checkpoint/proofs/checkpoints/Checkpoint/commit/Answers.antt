use Rattle.std.proofs.Common.{rules}
use Rattle.checkpoint.proofs.Whole.{all_some}
use Rattle.checkpoint.proofs.checkpoints.Checkpoint.commit.Goals as goal

pub keep_cores-requires-after_bounds : goal.keep_cores-requires-after_bounds
keep_cores-requires-after_bounds g c κs within =
    let values = g.T.Target.values in
    let all = all_some values.saved_core c.args.state.now.cores c.as_mut_slice.result.now c.requires.0.cores c.as_mut_slice.ensures.value c.requires.1.cores in
    search rules

pub keep_chans-requires-after_bounds : goal.keep_chans-requires-after_bounds
keep_chans-requires-after_bounds g c κs within =
    let values = g.T.Target.values in
    let all = all_some values.saved_chan c.args.state.now.chans c.as_mut_slice-2.result.now c.requires.0.chans c.as_mut_slice-2.ensures.value c.requires.1.chans in
    search rules
