use Rattle.std.proofs.Common.{List, ℕ, arith, sym, subst}
use Rattle.kernel_model.specs.Always.{IsMask}
use Rattle.native_signal.proofs.KeptLaws.{mask_blockable}
use Rattle.native_signal.proofs.SetMarks.{blockable_words}
use Rattle.native_signal.proofs.sets.blockable.Goals as goal

pub returns-clause-value : goal.returns-clause-value
returns-clause-value c = blockable_words c.args.set (omega arith) (omega arith)

pub returns-clause-mask : goal.returns-clause-mask
returns-clause-mask c =
    subst (λ (set : List ℕ). IsMask set) (sym (blockable_words c.args.set (omega arith) (omega arith)))
    (mask_blockable c.args.set (omega arith, c.words_fit.ensures))
