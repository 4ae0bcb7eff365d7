use Rattle.std.proofs.Common.{ap, arith}
use Rattle.std.specs.FinMap.{len}
use Rattle.kernel_core.specs.FileContent.{FileContent}
use Rattle.file_blocks.proofs.Validity.{write-valid}
use Rattle.file_blocks.proofs.content.Content.write.Goals as goal

pub returns-in-Ok-clause-valid : goal.returns-in-Ok-clause-valid
returns-in-Ok-clause-valid c =
    write-valid _ _ _ _ _ _ c.args.bytes.now c.self.invariant.0 (λ k. let byte = c.type_inv.bytes k in omega arith) c.requires.end
    c.in-Ok.ensures.within c.size_with-self-inside.ensures c.in-Ok.ensures.ok

pub invariant_of-self : goal.invariant_of-self
invariant_of-self c =
    let before = ap (λ (m : FileContent). len m.blocks) c.self.view_is in
    (returns-in-Ok-clause-valid c, omega (arith, before, c.write_bytes.ensures.kept, c.requires.room))

pub returns-in-Err-clause-valid : goal.returns-in-Err-clause-valid
returns-in-Err-clause-valid c =
    write-valid _ _ _ _ _ _ c.args.bytes.now c.self.invariant.0 (λ k. let byte = c.type_inv.bytes k in omega arith) c.requires.end
    c.in-Err.ensures.err_within c.size_with-self-inside-in-Err.ensures c.in-Err.ensures.err

pub invariant_of-self-in-Err : goal.invariant_of-self-in-Err
invariant_of-self-in-Err c =
    let before = ap (λ (m : FileContent). len m.blocks) c.self.view_is in
    (returns-in-Err-clause-valid c, omega (arith, before, c.write_bytes.ensures.kept, c.requires.room))
