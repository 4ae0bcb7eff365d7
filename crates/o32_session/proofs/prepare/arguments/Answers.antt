use Rattle.std.proofs.Common.{ap, ◌∙◌, sym}
use Rattle.std.proofs.lemmas.List.{take_rest, drop-map}
use Rattle.std.specs.String.{string_bytes}
use Rattle.o32_session.specs.Words.{texts}
use Rattle.o32_session.proofs.prepare.arguments.Goals as goal

pub returns-clause-words : goal.returns-clause-words
returns-clause-words c =
    ap texts (take_rest c.args.words.now c.args.from) ∙ sym (drop-map string_bytes c.args.from c.args.words.now)
