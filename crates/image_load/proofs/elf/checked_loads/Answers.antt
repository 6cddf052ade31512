use Rattle.std.proofs.Common.{Ok, ap, sym, ◌∙◌, length}
use Rattle.slack_base.specs.Checks.{unless_fault}
use Rattle.image_load.specs.Elf.{program_headers, loads_of}
use Rattle.image_load.proofs.ElfFits.{has_room}
use Rattle.image_load.proofs.LoadSteps.{split_end, split_pass, split_take, split_fault}
use Rattle.image_load.proofs.elf.checked_loads.Goals as goal
use Rattle.image_load.proofs.elf.checked_loads.Goals.{then-is_load+in-None, else-is_load}

pub returns-in-Some : goal.returns-in-Some
returns-in-Some c =
    let base = c.args.config.now.base in
    let memory = c.args.config.now.memory in
    let bytes = c.args.bytes.now in
    let header = c.args.header.now in
    let all = loads_of (program_headers bytes header) in
    let i = c.loop-index.index in
    let fault = sym (rw c.as_slice.ensures.items at c.in-Some.ensures) in
    let some = split_fault base memory (length bytes) all c.loop-index.loads bytes header i c.loop-index-test.true c.program_header-found.result c.program_header-found.ensures.header c.in-Some.fault c.loop-index.invariant (sym c.if-is_load.ensures) fault in
    sym (ap (λ o. unless_fault o all) some)

pub push-requires : goal.push-requires
push-requires c =
    has_room c.args.config.now.base c.args.config.now.memory (length c.args.bytes.now) c.loop-index.loads c.program_header-found.result.load
    (sym (rw c.as_slice.ensures.items at c.in-None.ensures))

pub loop-index-preserved : goal.loop-index-preserved
loop-index-preserved c =
    let base = c.args.config.now.base in
    let memory = c.args.config.now.memory in
    let bytes = c.args.bytes.now in
    let header = c.args.header.now in
    let all = loads_of (program_headers bytes header) in
    let i = c.loop-index.index in
    let found = c.program_header-found in
    elim c.if-is_load.branch [
      | then-is_load+in-None w ↦
          let none = sym (rw w.as_slice.ensures.items at w.in-None.ensures) in
          rw (w.loads-is, w.push.ensures) (split_take base memory (length bytes) all c.loop-index.loads bytes header i c.loop-index-test.true found.result found.ensures.header c.loop-index.invariant (sym w.if-is_load.ensures) none)
      | else-is_load w ↦
          rw w.loads-is (split_pass base memory (length bytes) all c.loop-index.loads bytes header i c.loop-index-test.true found.result found.ensures.header c.loop-index.invariant (sym w.if-is_load.ensures))
    ]

pub returns : goal.returns
returns c =
    let base = c.args.config.now.base in
    let memory = c.args.config.now.memory in
    let bytes = c.args.bytes.now in
    let header = c.args.header.now in
    let all = loads_of (program_headers bytes header) in
    let end = split_end base memory (length bytes) all c.loop-index.loads bytes header c.loop-index.index c.loop-index-test.false c.loop-index.invariant in
    sym (ap (λ o. unless_fault o all) end.1 ∙ ap Ok end.0)
