use Rattle.std.proofs.Common.{ℕ, None, length, take, sym, ap, ◌∙◌}
use Rattle.kernel_core.specs.declared.error.Errno.TheVariants.{EBADF}
use Rattle.kernel_model.specs.Came.{Did, Done, Refused, with_some}
use Rattle.kernel_model.specs.Transfers.{Writing, transferring, write, write_object, writing}
use Rattle.kernel_model.specs.declared.descriptor.Description.{Description}
use Rattle.native_files.proofs.Asked.{transferring-none, transferring-refused}
use Rattle.native_files.proofs.WriteSteps.{untouched}
use Rattle.native_files.proofs.files.Files.write.Goals as goal

pub returns-in-None-clause-row : goal.returns-in-None-clause-row
unfolding write
returns-in-None-clause-row g c =
    let files = c.args.self.now in
    let carry : Description → ℕ → Did Writing ℕ = λ d most. write_object files None c.args.now c.args.fd d (take most c.args.bytes.now) d.object in
    let rest : Description → Did Writing ℕ = λ d. transferring (writing files) c.args.asked (length c.args.bytes.now) 0 (carry d) in
    untouched files (write files None c.args.now c.args.fd c.args.asked c.args.bytes.now) (Refused EBADF) (g.O.Sink.written c.args.out.now) (g.E.Sink.written c.args.err.now)
    (ap (λ o. with_some (writing files) EBADF o rest) (sym c.in-None.ensures.writable))

pub returns-in-Err-clause-row : goal.returns-in-Err-clause-row
unfolding write
returns-in-Err-clause-row g c =
    let files = c.args.self.now in
    let d = c.in-Some.description in
    let carry : Description → ℕ → Did Writing ℕ = λ d most. write_object files None c.args.now c.args.fd d (take most c.args.bytes.now) d.object in
    let rest : Description → Did Writing ℕ = λ d. transferring (writing files) c.args.asked (length c.args.bytes.now) 0 (carry d) in
    untouched files (write files None c.args.now c.args.fd c.args.asked c.args.bytes.now) (Refused c.in-Err.error) (g.O.Sink.written c.args.out.now) (g.E.Sink.written c.args.err.now)
    (ap (λ o. with_some (writing files) EBADF o rest) (sym c.in-Some.ensures.writable)
    ∙ transferring-refused (writing files) c.args.asked (length c.args.bytes.now) 0 (carry d) c.in-Err.error c.in-Err.ensures)

pub returns-then-most-eq0-clause-row : goal.returns-then-most-eq0-clause-row
unfolding write
returns-then-most-eq0-clause-row g c =
    let files = c.args.self.now in
    let d = c.in-Some.description in
    let carry : Description → ℕ → Did Writing ℕ = λ d most. write_object files None c.args.now c.args.fd d (take most c.args.bytes.now) d.object in
    let rest : Description → Did Writing ℕ = λ d. transferring (writing files) c.args.asked (length c.args.bytes.now) 0 (carry d) in
    untouched files (write files None c.args.now c.args.fd c.args.asked c.args.bytes.now) (Done 0) (g.O.Sink.written c.args.out.now) (g.E.Sink.written c.args.err.now)
    (ap (λ o. with_some (writing files) EBADF o rest) (sym c.in-Some.ensures.writable)
    ∙ transferring-none (writing files) c.args.asked (length c.args.bytes.now) 0 (carry d) c.in-Ok.most c.in-Ok.ensures c.if-most-eq0.true)
