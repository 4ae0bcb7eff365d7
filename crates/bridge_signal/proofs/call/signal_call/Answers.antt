-- Each arm makes the row of its number.
use Rattle.std.proofs.Common.{refl, ◌∙◌, ap, rules}
use Rattle.outside.specs.Streams.{contents}
use Rattle.bridge_signal_state.proofs.Passed.{still_called, still_keeps}
use Rattle.bridge_signal.proofs.Calls.{by_number, kept_by_number, restart_still}
use Rattle.bridge_signal.specs.Found.{found}
use Rattle.o32_calls.specs.Numbers.{signal_number}
use Rattle.bridge_signal.proofs.call.signal_call.Goals as goal

pub returns-in-Pause-clause-row : goal.returns-in-Pause-clause-row
returns-in-Pause-clause-row g c = λ left told.
    let guest = found c.args.args.now c.args.cpu.now c.args.space.now in
    let row = by_number 4029 c.args.seen.now c.args.k.now guest left c.pause.result c.pause.new.below.kernel.now c.args.space.now c.args.cpu.now (contents g.I.Source.left g.O.Sink.written g.E.Sink.written c.args.dev.now) (contents g.I.Source.left g.O.Sink.written g.E.Sink.written c.pause.new.dev) (c.requires ∙ ap signal_number c.in-Pause.is)
    (c.pause.ensures.row guest refl left told) in
    search rules

pub returns-in-Kill-clause-row : goal.returns-in-Kill-clause-row
returns-in-Kill-clause-row g c = λ left told.
    let guest = found c.args.args.now c.args.cpu.now c.args.space.now in
    let row = by_number 4037 c.args.seen.now c.args.k.now guest left c.kill.result c.kill.new.below.kernel.now c.args.space.now c.args.cpu.now (contents g.I.Source.left g.O.Sink.written g.E.Sink.written c.args.dev.now) (contents g.I.Source.left g.O.Sink.written g.E.Sink.written c.kill.new.dev) (c.requires ∙ ap signal_number c.in-Kill.is)
    (c.kill.ensures.row guest refl left told) in
    search rules

pub returns-in-Sigreturn-clause-row : goal.returns-in-Sigreturn-clause-row
returns-in-Sigreturn-clause-row g c = λ left told.
    let guest = found c.args.args.now c.args.cpu.now c.args.space.now in
    let row = by_number 4119 c.args.seen.now c.args.k.now guest left c.sigreturn.result c.sigreturn.new.below.kernel.now c.args.space.now c.sigreturn.new.cpu (contents g.I.Source.left g.O.Sink.written g.E.Sink.written c.args.dev.now) (contents g.I.Source.left g.O.Sink.written g.E.Sink.written c.sigreturn.new.dev) (c.requires ∙ ap signal_number c.in-Sigreturn.is)
    (c.sigreturn.ensures.row guest refl refl left told) in
    search rules

pub returns-in-RtSigreturn-clause-row : goal.returns-in-RtSigreturn-clause-row
returns-in-RtSigreturn-clause-row g c = λ left told.
    let guest = found c.args.args.now c.args.cpu.now c.args.space.now in
    let row = by_number 4193 c.args.seen.now c.args.k.now guest left c.rt_sigreturn.result c.rt_sigreturn.new.below.kernel.now c.args.space.now c.rt_sigreturn.new.cpu (contents g.I.Source.left g.O.Sink.written g.E.Sink.written c.args.dev.now) (contents g.I.Source.left g.O.Sink.written g.E.Sink.written c.rt_sigreturn.new.dev) (c.requires ∙ ap signal_number c.in-RtSigreturn.is)
    (c.rt_sigreturn.ensures.row guest refl refl left told) in
    search rules

pub returns-in-RtSigaction-clause-row : goal.returns-in-RtSigaction-clause-row
returns-in-RtSigaction-clause-row g c = λ left told.
    let guest = found c.args.args.now c.args.cpu.now c.args.space.now in
    let row = by_number 4194 c.args.seen.now c.args.k.now guest left c.rt_sigaction.result c.rt_sigaction.new.below.kernel.now c.rt_sigaction.new.space c.args.cpu.now (contents g.I.Source.left g.O.Sink.written g.E.Sink.written c.args.dev.now) (contents g.I.Source.left g.O.Sink.written g.E.Sink.written c.rt_sigaction.new.dev) (c.requires ∙ ap signal_number c.in-RtSigaction.is)
    (c.rt_sigaction.ensures.row guest refl left told) in
    search rules

pub returns-in-RtSigprocmask-clause-row : goal.returns-in-RtSigprocmask-clause-row
returns-in-RtSigprocmask-clause-row g c = λ left told.
    let guest = found c.args.args.now c.args.cpu.now c.args.space.now in
    let row = by_number 4195 c.args.seen.now c.args.k.now guest left c.rt_sigprocmask.result c.rt_sigprocmask.new.below.kernel.now c.rt_sigprocmask.new.space c.args.cpu.now (contents g.I.Source.left g.O.Sink.written g.E.Sink.written c.args.dev.now) (contents g.I.Source.left g.O.Sink.written g.E.Sink.written c.rt_sigprocmask.new.dev) (c.requires ∙ ap signal_number c.in-RtSigprocmask.is)
    (c.rt_sigprocmask.ensures.row guest refl left told) in
    search rules

pub returns-in-RtSigpending-clause-row : goal.returns-in-RtSigpending-clause-row
returns-in-RtSigpending-clause-row g c = λ left told.
    let guest = found c.args.args.now c.args.cpu.now c.args.space.now in
    let row = by_number 4196 c.args.seen.now c.args.k.now guest left c.rt_sigpending.result c.rt_sigpending.new.below.kernel.now c.rt_sigpending.new.space c.args.cpu.now (contents g.I.Source.left g.O.Sink.written g.E.Sink.written c.args.dev.now) (contents g.I.Source.left g.O.Sink.written g.E.Sink.written c.rt_sigpending.new.dev) (c.requires ∙ ap signal_number c.in-RtSigpending.is)
    (c.rt_sigpending.ensures.row guest refl left told) in
    search rules

pub returns-in-RtSigqueueinfo-clause-row : goal.returns-in-RtSigqueueinfo-clause-row
returns-in-RtSigqueueinfo-clause-row g c = λ left told.
    let guest = found c.args.args.now c.args.cpu.now c.args.space.now in
    let row = by_number 4198 c.args.seen.now c.args.k.now guest left c.rt_sigqueueinfo.result c.rt_sigqueueinfo.new.below.kernel.now c.args.space.now c.args.cpu.now (contents g.I.Source.left g.O.Sink.written g.E.Sink.written c.args.dev.now) (contents g.I.Source.left g.O.Sink.written g.E.Sink.written c.rt_sigqueueinfo.new.dev) (c.requires ∙ ap signal_number c.in-RtSigqueueinfo.is)
    (c.rt_sigqueueinfo.ensures.row guest refl refl left told) in
    search rules

pub returns-in-RtSigsuspend-clause-row : goal.returns-in-RtSigsuspend-clause-row
returns-in-RtSigsuspend-clause-row g c = λ left told.
    let guest = found c.args.args.now c.args.cpu.now c.args.space.now in
    let row = by_number 4199 c.args.seen.now c.args.k.now guest left c.rt_sigsuspend.result c.rt_sigsuspend.new.below.kernel.now c.args.space.now c.args.cpu.now (contents g.I.Source.left g.O.Sink.written g.E.Sink.written c.args.dev.now) (contents g.I.Source.left g.O.Sink.written g.E.Sink.written c.rt_sigsuspend.new.dev) (c.requires ∙ ap signal_number c.in-RtSigsuspend.is)
    (c.rt_sigsuspend.ensures.row guest refl refl left told) in
    search rules

pub returns-in-Sigaltstack-clause-row : goal.returns-in-Sigaltstack-clause-row
returns-in-Sigaltstack-clause-row g c = λ left told.
    let guest = found c.args.args.now c.args.cpu.now c.args.space.now in
    let row = by_number 4206 c.args.seen.now c.args.k.now guest left c.sigaltstack.result c.sigaltstack.new.below.kernel.now c.sigaltstack.new.space c.args.cpu.now (contents g.I.Source.left g.O.Sink.written g.E.Sink.written c.args.dev.now) (contents g.I.Source.left g.O.Sink.written g.E.Sink.written c.sigaltstack.new.dev) (c.requires ∙ ap signal_number c.in-Sigaltstack.is)
    (c.sigaltstack.ensures.row guest refl refl left told) in
    search rules

pub returns-in-Tkill-clause-row : goal.returns-in-Tkill-clause-row
returns-in-Tkill-clause-row g c = λ left told.
    let guest = found c.args.args.now c.args.cpu.now c.args.space.now in
    let row = by_number 4236 c.args.seen.now c.args.k.now guest left c.tkill.result c.tkill.new.below.kernel.now c.args.space.now c.args.cpu.now (contents g.I.Source.left g.O.Sink.written g.E.Sink.written c.args.dev.now) (contents g.I.Source.left g.O.Sink.written g.E.Sink.written c.tkill.new.dev) (c.requires ∙ ap signal_number c.in-Tkill.is)
    (c.tkill.ensures.row guest refl left told) in
    search rules

pub returns-in-Tgkill-clause-row : goal.returns-in-Tgkill-clause-row
returns-in-Tgkill-clause-row g c = λ left told.
    let guest = found c.args.args.now c.args.cpu.now c.args.space.now in
    let row = by_number 4266 c.args.seen.now c.args.k.now guest left c.tgkill.result c.tgkill.new.below.kernel.now c.args.space.now c.args.cpu.now (contents g.I.Source.left g.O.Sink.written g.E.Sink.written c.args.dev.now) (contents g.I.Source.left g.O.Sink.written g.E.Sink.written c.tgkill.new.dev) (c.requires ∙ ap signal_number c.in-Tgkill.is)
    (c.tgkill.ensures.row guest refl left told) in
    search rules

pub returns-in-RestartSyscall-clause-row : goal.returns-in-RestartSyscall-clause-row
returns-in-RestartSyscall-clause-row g c = λ left told.
    let guest = found c.args.args.now c.args.cpu.now c.args.space.now in
    let still = restart_still c.args.seen.now c.args.k.now guest left c.restart_syscall.result (c.requires ∙ ap signal_number c.in-RestartSyscall.is) c.restart_syscall.ensures in
    let row = still_called guest c.args.k.now left c.restart_syscall.result _ (contents g.I.Source.left g.O.Sink.written g.E.Sink.written c.args.dev.now) told still in
    search rules

pub returns-in-RestartSyscall-clause-kept : goal.returns-in-RestartSyscall-clause-kept
returns-in-RestartSyscall-clause-kept g c = λ left told.
    let guest = found c.args.args.now c.args.cpu.now c.args.space.now in
    let still = restart_still c.args.seen.now c.args.k.now guest left c.restart_syscall.result (c.requires ∙ ap signal_number c.in-RestartSyscall.is) c.restart_syscall.ensures in
    let row = still_keeps guest c.args.k.now left c.restart_syscall.result _ c.args.log.now still in
    search rules

pub returns-in-Pause-clause-kept : goal.returns-in-Pause-clause-kept
returns-in-Pause-clause-kept g c = λ left told.
    let guest = found c.args.args.now c.args.cpu.now c.args.space.now in
    let row = kept_by_number 4029 c.args.seen.now c.args.k.now guest left c.pause.result c.args.log.now c.pause.new.below.log.now (c.requires ∙ ap signal_number c.in-Pause.is) (c.pause.ensures.kept guest refl left told) in
    search rules

pub returns-in-Kill-clause-kept : goal.returns-in-Kill-clause-kept
returns-in-Kill-clause-kept g c = λ left told.
    let guest = found c.args.args.now c.args.cpu.now c.args.space.now in
    let row = kept_by_number 4037 c.args.seen.now c.args.k.now guest left c.kill.result c.args.log.now c.kill.new.below.log.now (c.requires ∙ ap signal_number c.in-Kill.is) (c.kill.ensures.kept guest refl left told) in
    search rules

pub returns-in-Sigreturn-clause-kept : goal.returns-in-Sigreturn-clause-kept
returns-in-Sigreturn-clause-kept g c = λ left told.
    let guest = found c.args.args.now c.args.cpu.now c.args.space.now in
    let row = kept_by_number 4119 c.args.seen.now c.args.k.now guest left c.sigreturn.result c.args.log.now c.sigreturn.new.below.log.now (c.requires ∙ ap signal_number c.in-Sigreturn.is) (c.sigreturn.ensures.kept guest refl refl left told) in
    search rules

pub returns-in-RtSigreturn-clause-kept : goal.returns-in-RtSigreturn-clause-kept
returns-in-RtSigreturn-clause-kept g c = λ left told.
    let guest = found c.args.args.now c.args.cpu.now c.args.space.now in
    let row = kept_by_number 4193 c.args.seen.now c.args.k.now guest left c.rt_sigreturn.result c.args.log.now c.rt_sigreturn.new.below.log.now (c.requires ∙ ap signal_number c.in-RtSigreturn.is) (c.rt_sigreturn.ensures.kept guest refl refl left told) in
    search rules

pub returns-in-RtSigaction-clause-kept : goal.returns-in-RtSigaction-clause-kept
returns-in-RtSigaction-clause-kept g c = λ left told.
    let guest = found c.args.args.now c.args.cpu.now c.args.space.now in
    let row = kept_by_number 4194 c.args.seen.now c.args.k.now guest left c.rt_sigaction.result c.args.log.now c.rt_sigaction.new.below.log.now (c.requires ∙ ap signal_number c.in-RtSigaction.is) (c.rt_sigaction.ensures.kept guest refl left told) in
    search rules

pub returns-in-RtSigprocmask-clause-kept : goal.returns-in-RtSigprocmask-clause-kept
returns-in-RtSigprocmask-clause-kept g c = λ left told.
    let guest = found c.args.args.now c.args.cpu.now c.args.space.now in
    let row = kept_by_number 4195 c.args.seen.now c.args.k.now guest left c.rt_sigprocmask.result c.args.log.now c.rt_sigprocmask.new.below.log.now (c.requires ∙ ap signal_number c.in-RtSigprocmask.is) (c.rt_sigprocmask.ensures.kept guest refl left told) in
    search rules

pub returns-in-RtSigpending-clause-kept : goal.returns-in-RtSigpending-clause-kept
returns-in-RtSigpending-clause-kept g c = λ left told.
    let guest = found c.args.args.now c.args.cpu.now c.args.space.now in
    let row = kept_by_number 4196 c.args.seen.now c.args.k.now guest left c.rt_sigpending.result c.args.log.now c.rt_sigpending.new.below.log.now (c.requires ∙ ap signal_number c.in-RtSigpending.is) (c.rt_sigpending.ensures.kept guest refl left told) in
    search rules

pub returns-in-RtSigqueueinfo-clause-kept : goal.returns-in-RtSigqueueinfo-clause-kept
returns-in-RtSigqueueinfo-clause-kept g c = λ left told.
    let guest = found c.args.args.now c.args.cpu.now c.args.space.now in
    let row = kept_by_number 4198 c.args.seen.now c.args.k.now guest left c.rt_sigqueueinfo.result c.args.log.now c.rt_sigqueueinfo.new.below.log.now (c.requires ∙ ap signal_number c.in-RtSigqueueinfo.is) (c.rt_sigqueueinfo.ensures.kept guest refl refl left told) in
    search rules

pub returns-in-RtSigsuspend-clause-kept : goal.returns-in-RtSigsuspend-clause-kept
returns-in-RtSigsuspend-clause-kept g c = λ left told.
    let guest = found c.args.args.now c.args.cpu.now c.args.space.now in
    let row = kept_by_number 4199 c.args.seen.now c.args.k.now guest left c.rt_sigsuspend.result c.args.log.now c.rt_sigsuspend.new.below.log.now (c.requires ∙ ap signal_number c.in-RtSigsuspend.is) (c.rt_sigsuspend.ensures.kept guest refl refl left told) in
    search rules

pub returns-in-Sigaltstack-clause-kept : goal.returns-in-Sigaltstack-clause-kept
returns-in-Sigaltstack-clause-kept g c = λ left told.
    let guest = found c.args.args.now c.args.cpu.now c.args.space.now in
    let row = kept_by_number 4206 c.args.seen.now c.args.k.now guest left c.sigaltstack.result c.args.log.now c.sigaltstack.new.below.log.now (c.requires ∙ ap signal_number c.in-Sigaltstack.is) (c.sigaltstack.ensures.kept guest refl refl left told) in
    search rules

pub returns-in-Tkill-clause-kept : goal.returns-in-Tkill-clause-kept
returns-in-Tkill-clause-kept g c = λ left told.
    let guest = found c.args.args.now c.args.cpu.now c.args.space.now in
    let row = kept_by_number 4236 c.args.seen.now c.args.k.now guest left c.tkill.result c.args.log.now c.tkill.new.below.log.now (c.requires ∙ ap signal_number c.in-Tkill.is) (c.tkill.ensures.kept guest refl left told) in
    search rules

pub returns-in-Tgkill-clause-kept : goal.returns-in-Tgkill-clause-kept
returns-in-Tgkill-clause-kept g c = λ left told.
    let guest = found c.args.args.now c.args.cpu.now c.args.space.now in
    let row = kept_by_number 4266 c.args.seen.now c.args.k.now guest left c.tgkill.result c.args.log.now c.tgkill.new.below.log.now (c.requires ∙ ap signal_number c.in-Tgkill.is) (c.tgkill.ensures.kept guest refl left told) in
    search rules
