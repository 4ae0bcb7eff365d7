use Rattle.std.proofs.Common.{◌≡◌, ◌∙◌, ap, ◌*◌, ℕ, List, length, take, drop, arith, length-take-le}
use Rattle.std.specs.Prelude.{replicate}
use Rattle.o32_model.specs.GuestBytes.{structure}
use Rattle.bridge_select.proofs.Handed.{loaded_set}
use Rattle.bridge_select.proofs.fd_sets.set_at.Goals as goal

pub returns-in-Ok : goal.returns-in-Ok
returns-in-Ok c = λ fds enough.
    let zeros : List ℕ = replicate 32 0 in
    let nothing : List ℕ = replicate 128 0 in
    let long : length c.load_words.new.words ≡ length (take c.args.words zeros) = c.load_words.auto.words in
    loaded_set c.load_words.new.words (drop c.args.words zeros) c.load_words.new.bytes c.args.words fds (structure c.args.space.now c.args.address (4 * c.args.words))
    enough (omega (arith, long, length-take-le c.args.words zeros c.requires)) c.in-Ok.ensures.words (c.in-Ok.ensures.whole ∙ ap (structure c.args.space.now c.args.address) (length-take-le (4 * c.args.words) nothing (omega (arith, c.requires))))
