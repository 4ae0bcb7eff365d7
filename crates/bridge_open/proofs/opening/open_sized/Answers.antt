-- By the size the file is too large, or nothing limits the opening.
use Rattle.std.proofs.Common.{ℕ, ◌≤◌, ◌<◌, subst}
use Rattle.o32_model.specs.PathArguments.{base}
use Rattle.o32_model.specs.Transfers.{small_file_limit}
use Rattle.bridge_open.proofs.OpenRows.{too_large, unlimited_by_size}
use Rattle.bridge_open.proofs.opening.open_sized.Goals as goal

pub returns-then-size-gt-SMALL_FILE_LIMIT-clause-row : goal.returns-then-size-gt-SMALL_FILE_LIMIT-clause-row
returns-then-size-gt-SMALL_FILE_LIMIT-clause-row g c = λ guest same there led.
    c.too_large.ensures.row guest c.args.opening.directory c.args.opening.address c.args.opening.mode c.args.path.now c.args.opening.flags same there
    (too_large c.args.below.now.kernel.now.files (base c.args.opening.directory) c.args.path.now c.args.opening.flags c.files_valid.ensures.nodes c.requires.limited (subst (λ (n : ℕ). small_file_limit < n) led c.if-size-gt-SMALL_FILE_LIMIT.true))

pub returns-then-size-gt-SMALL_FILE_LIMIT-clause-kept : goal.returns-then-size-gt-SMALL_FILE_LIMIT-clause-kept
returns-then-size-gt-SMALL_FILE_LIMIT-clause-kept g c = λ guest same there led.
    c.too_large.ensures.kept guest c.args.opening.directory c.args.opening.address c.args.opening.mode c.args.path.now c.args.opening.flags same there
    (too_large c.args.below.now.kernel.now.files (base c.args.opening.directory) c.args.path.now c.args.opening.flags c.files_valid.ensures.nodes c.requires.limited (subst (λ (n : ℕ). small_file_limit < n) led c.if-size-gt-SMALL_FILE_LIMIT.true))

pub returns-else-size-gt-SMALL_FILE_LIMIT-clause-row : goal.returns-else-size-gt-SMALL_FILE_LIMIT-clause-row
returns-else-size-gt-SMALL_FILE_LIMIT-clause-row g c = λ guest same there led.
    c.open_now.ensures.row guest same there
    (unlimited_by_size c.args.below.now.kernel.now.files (base c.args.opening.directory) c.args.path.now c.args.opening.flags (subst (λ (n : ℕ). n ≤ small_file_limit) led c.if-size-gt-SMALL_FILE_LIMIT.false))

pub returns-else-size-gt-SMALL_FILE_LIMIT-clause-kept : goal.returns-else-size-gt-SMALL_FILE_LIMIT-clause-kept
returns-else-size-gt-SMALL_FILE_LIMIT-clause-kept g c = λ guest same there led.
    c.open_now.ensures.kept guest same there
    (unlimited_by_size c.args.below.now.kernel.now.files (base c.args.opening.directory) c.args.path.now c.args.opening.flags (subst (λ (n : ℕ). n ≤ small_file_limit) led c.if-size-gt-SMALL_FILE_LIMIT.false))
