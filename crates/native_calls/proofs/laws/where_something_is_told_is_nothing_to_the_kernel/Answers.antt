use Rattle.native_calls.proofs.Same.{told_same}
use Rattle.native_calls.proofs.laws.where_something_is_told_is_nothing_to_the_kernel.Goals as goal

pub returns : goal.returns
returns c = λ number place args kernel memory left tells. told_same kernel memory left number place args tells
