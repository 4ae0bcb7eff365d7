use Rattle.std.proofs.Common.{◌<◌, length, subst}
use Rattle.std.specs.Io.KnownBytes.{Appends}
use Rattle.outside.specs.Adapted.{AppendsPart}
use Rattle.outside.proofs.HeldLemmas.{ChangesAt-write, on_ok-then, on_err-then}
use Rattle.outside.proofs.held.append_at.Goals as goal

pub returns-clause-whole : goal.returns-clause-whole
returns-clause-whole g c =
    let within : c.args.place < length c.args.files.now.items = subst (λ n. c.args.place < n) c.args.files.now.ok.0 c.requires in
    on_ok-then c.write_whole.result _ _ (ChangesAt-write c.args.files.now.items c.args.place c.index_mut-file.result.now _ _ _ (λ before after. Appends before after c.args.bytes.now) within c.file.view_is c.index_mut-file.ensures.value) c.write_whole.ensures.whole

pub returns-clause-part : goal.returns-clause-part
returns-clause-part g c =
    let within : c.args.place < length c.args.files.now.items = subst (λ n. c.args.place < n) c.args.files.now.ok.0 c.requires in
    on_err-then c.write_whole.result _ _ (ChangesAt-write c.args.files.now.items c.args.place c.index_mut-file.result.now _ _ _ (λ before after. AppendsPart before after c.args.bytes.now) within c.file.view_is c.index_mut-file.ensures.value) c.write_whole.ensures.part
