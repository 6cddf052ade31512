use Rattle.std.proofs.Common.{rules, sym}
use Rattle.target_law.proofs.Lockstep.{state_path}
use Rattle.checkpoint.proofs.Whole.{all_some, put_back}
use Rattle.checkpoint.proofs.checkpoints.Checkpoint.restore.Goals as goal

pub undo_cores-requires-after_bounds : goal.undo_cores-requires-after_bounds
undo_cores-requires-after_bounds g c κs within =
    let values = g.T.Target.values in
    let all = all_some values.saved_core c.args.state.now.cores c.as_mut_slice.result.now c.requires.0.cores c.as_mut_slice.ensures.value c.requires.1.cores in
    search rules

pub undo_chans-requires-after_bounds : goal.undo_chans-requires-after_bounds
undo_chans-requires-after_bounds g c κs within =
    let values = g.T.Target.values in
    let all = all_some values.saved_chan c.args.state.now.chans c.as_mut_slice-2.result.now c.requires.0.chans c.as_mut_slice-2.ensures.value c.requires.1.chans in
    search rules

pub returns-clause-state : goal.returns-clause-state
returns-clause-state g c s clock marked =
    let values = g.T.Target.values in
    let now = c.args.state.now in
    state_path _ s (sym clock)
    (put_back values.core values.saved_core now.cores c.as_mut_slice.result.now c.undo_cores.new.cores s.cores
    c.as_mut_slice.ensures.value c.undo_cores.ensures.cores marked.cores)
    (put_back values.chan values.saved_chan now.chans c.as_mut_slice-2.result.now c.undo_chans.new.chans s.chans
    c.as_mut_slice-2.ensures.value c.undo_chans.ensures.chans marked.chans)
