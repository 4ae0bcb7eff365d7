use Rattle.std.proofs.Common.{◌≡◌, Some, None, position, sym, ◌∙◌}
use Rattle.std.specs.Str.{bytes_eq}
use Rattle.std.specs.Io.KnownBytes.{Appends}
use Rattle.outside.specs.Adapted.{AppendsPart}
use Rattle.outside.proofs.HeldLemmas.{ChangesHeld-at, AreHeld-at, held-no_position, on_ok-then, on_err-then}
use Rattle.outside.proofs.held.append_held.Goals as goal

pub returns-in-Some-clause-whole : goal.returns-in-Some-clause-whole
returns-in-Some-clause-whole g c =
    let files = c.args.files.now.items in
    let name = c.args.name.now in
    let found : position (λ file. bytes_eq file.name name) files ≡ Some c.in-Some.place =
    rw (← c.as_slice.ensures.value) (sym c.first_place.ensures ∙ c.in-Some.is) in
    on_ok-then c.append_at.result _ _ (ChangesHeld-at files c.append_at.new.files.items name c.in-Some.place (λ before after. Appends before after c.args.bytes.now) found) c.append_at.ensures.whole

pub returns-in-Some-clause-part : goal.returns-in-Some-clause-part
returns-in-Some-clause-part g c =
    let files = c.args.files.now.items in
    let name = c.args.name.now in
    let found : position (λ file. bytes_eq file.name name) files ≡ Some c.in-Some.place =
    rw (← c.as_slice.ensures.value) (sym c.first_place.ensures ∙ c.in-Some.is) in
    on_err-then c.append_at.result _ _ (ChangesHeld-at files c.append_at.new.files.items name c.in-Some.place (λ before after. AppendsPart before after c.args.bytes.now) found) c.append_at.ensures.part

pub returns-in-Some-clause-there : goal.returns-in-Some-clause-there
returns-in-Some-clause-there g c =
    AreHeld-at c.append_at.result c.args.files.now.items c.append_at.new.files.items c.in-Some.place (λ before after. Appends before after c.args.bytes.now) (λ before after. AppendsPart before after c.args.bytes.now) c.append_at.ensures.whole c.append_at.ensures.part

pub returns-in-None-clause-whole : goal.returns-in-None-clause-whole
returns-in-None-clause-whole g c =
    let files = c.args.files.now.items in
    let name = c.args.name.now in
    let none : position (λ file. bytes_eq file.name name) files ≡ None =
    rw (← c.as_slice.ensures.value) (sym c.first_place.ensures ∙ c.in-None.is) in
    absurd (held-no_position files name none c.requires)
