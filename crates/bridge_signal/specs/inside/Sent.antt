-- What is kept of a siginfo, in the words of the kernel's rows. (The form is this project's own.)
use Rattle.kernel_model.specs.SignalRows as rows
use Rattle.bridge_signal.specs.declared.infos.SentInfo.{SentInfo}

abbrev pub sent_told : SentInfo → rows.SentInfo
sent_told sent = record { code = sent.code; errno = sent.errno; pid = sent.pid; uid = sent.uid; value = sent.value }
