use Rattle.std.proofs.Common.{sym}
use Rattle.native_vfs.specs.inside.Walking.{steps_left}
use Rattle.native_vfs.proofs.walks.WalkLemmas.{step-none}
use Rattle.native_vfs.proofs.walks.StepLemmas.{found-here, found-named, step-long, step-no_directory, step-named, step-left, gives-same}
use Rattle.native_vfs.proofs.vfs.Vfs.walk_step.Goals as goal

pub returns-in_default : goal.returns-in_default
returns-in_default c =
    let walk = c.args.walk.now in (
      step-none c.args.self.now c.args.follow walk c.in_default.ensures.taken,
      found-here c.args.self.now walk.at c.requires.live (c.requires.ends c.in_default.ensures.taken),
    )

pub returns-then-name-gt-LONGEST_NAME : goal.returns-then-name-gt-LONGEST_NAME
returns-then-name-gt-LONGEST_NAME c =
    step-long c.args.self.now c.args.follow c.args.walk.now c.in-Some.name.now c.next_component.new.self c.in-Some.ensures.taken c.if-name-gt-LONGEST_NAME.true

pub at_named-requires-clause-found : goal.at_named-requires-clause-found
at_named-requires-clause-found c =
    found-named c.args.self.now c.args.walk.now.at c.node_at.result.now c.in-Directory.directory c.in-Some.name.now c.named.result
    c.requires.live c.node_at.ensures.inode c.in-Directory.is c.node_at.ensures.sound c.named.ensures c.in-Some.ensures.bytes c.if-name-gt-LONGEST_NAME.false c.in-Some.ensures.plain

pub returns-in_default-content : goal.returns-in_default-content
returns-in_default-content c =
    step-no_directory c.args.self.now c.args.follow c.args.walk.now c.in-Some.name.now c.next_component.new.self c.node_at.result.now
    c.in-Some.ensures.taken c.if-name-gt-LONGEST_NAME.false c.node_at.ensures.inode c.in_default-content.not-Directory

pub returns-in-Directory : goal.returns-in-Directory
returns-in-Directory c =
    let system = c.args.self.now in
    let walk = c.args.walk.now in
    let rest = c.next_component.new.self in
    let named = step-named system c.args.follow walk c.in-Some.name.now rest c.node_at.result.now c.in-Directory.directory c.named.result
    c.in-Some.ensures.taken c.if-name-gt-LONGEST_NAME.false c.node_at.ensures.inode c.in-Directory.is c.node_at.ensures.sound c.named.ensures in
    gives-same system _ (steps_left walk) _ _ c.at_named.new.walk c.at_named.result
    (step-left walk c.in-Some.name.now rest c.in-Some.ensures.taken) (sym named) c.at_named.ensures
