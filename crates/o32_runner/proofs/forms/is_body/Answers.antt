use Rattle.o32_runner.proofs.forms.is_body.Goals as goal

pub returns : goal.returns
returns c = λ are. (
  c.requires.some,
  c.requires.before,
  c.are_six.ensures c.if-not-are_six.false,
  c.if-effects-ge-COUNTS.false,
  c.are_effects.ensures are,
  c.may_have.ensures c.if-not-may_have.false,
)
