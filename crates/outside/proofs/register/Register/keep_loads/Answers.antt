use Rattle.std.proofs.Common.{rules}
use Rattle.std.proofs.lemmas.List.{take-map}
use Rattle.outside.proofs.register.Register.keep_loads.Goals as goal

pub returns : goal.returns
returns c = search (rules, take-map)
