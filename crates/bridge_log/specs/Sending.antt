-- What a call sends to an output: the stream 1, or the error output, 2 (stdout(3)).
use Rattle.std.specs.Prelude.{ℕ, ◌==◌, List, if◌then◌else◌}
use Rattle.kernel_model.specs.Pipes.{Sent, nothing}

abbrev pub sent_by : ℕ → List ℕ → Sent
sent_by stream bytes = if stream == 1 then record nothing { out = bytes } else record nothing { err = bytes }
