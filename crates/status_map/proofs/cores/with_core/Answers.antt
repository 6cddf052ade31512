use Rattle.slack_base.specs.declared.bounds.TheConstants.{MOST_CORES}
use Rattle.status_map.proofs.Sets.{holds-with_core, with_core-below, shifted}
use Rattle.status_map.proofs.cores.with_core.Goals as goal

pub returns-clause-members : goal.returns-clause-members
returns-clause-members c = λ k. rw (shifted c.args.core c.requires.core) (holds-with_core c.args.cores c.args.core k)

pub returns-clause-within : goal.returns-clause-within
returns-clause-within c = rw (shifted c.args.core c.requires.core) (with_core-below MOST_CORES c.args.cores c.args.core c.requires.cores c.requires.core)
