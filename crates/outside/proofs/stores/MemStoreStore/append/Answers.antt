use Rattle.std.proofs.Common.{Contains, subst, sym}
use Rattle.outside.specs.Memory.{MemFiles}
use Rattle.outside.proofs.FileLemmas.{part-made, on_err-always}
use Rattle.outside.proofs.stores.MemStoreStore.append.Goals as goal

pub returns-then-count_call-clause-part : goal.returns-then-count_call-clause-part
returns-then-count_call-clause-part c =
    let made = subst (λ (files : MemFiles). Contains files.register.created c.args.name.now) (sym c.self.view_is) c.requires in
    rw (← c.self.view_is) (part-made _ _ _ _ c.self.invariant.2 made)

pub returns-in_err-extend_file-clause-part : goal.returns-in_err-extend_file-clause-part
returns-in_err-extend_file-clause-part c = on_err-always c.from_residual.result _ (rw (← c.self.view_is) c.in_err-extend_file.ensures.part)
