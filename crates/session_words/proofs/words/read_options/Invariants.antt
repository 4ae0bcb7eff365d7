use Rattle.std.proofs.Common.{◌≡◌, ◌+◌, length, drop}
use Rattle.session_words.specs.Words.{texts, no_options}
use Rattle.session_words.specs.inside.Steps.{read_from, Option_or_program}
use Rattle.session_words.specs.inside.Reader.{expected_seen, options_seen}
use Rattle.session_words.proofs.words.read_options.Given as goal

abbrev pub invariant-loop-rest : goal.invariant-loop-rest
invariant-loop-rest l = record {
  index : l.at + length l.rest ≡ length l.fn.words;
  same : read_from 1 Option_or_program no_options (texts (drop 1 l.fn.words))
      ≡ read_from l.at (expected_seen l.expected) (options_seen l.options) (texts l.rest);
}

abbrev pub decreases-loop-rest : goal.decreases-loop-rest
decreases-loop-rest l = length l.rest
