-- A call of each group is a call on files.
use Rattle.std.proofs.Common.{refl, ◌∙◌, ap, rules}
use Rattle.bridge_paths.specs.Found.{found}
use Rattle.o32_calls.specs.Numbers.{file_number}
use Rattle.bridge_file.proofs.call.file_call.Goals as goal

pub name_call-requires : goal.name_call-requires
name_call-requires g c = c.requires ∙ ap file_number c.in-Name.is

pub returns-in-Name-clause-row : goal.returns-in-Name-clause-row
returns-in-Name-clause-row g c = λ left told.
    let row = c.name_call.ensures.row (found c.args.args.now c.args.cpu.now c.args.space.now) refl refl left told in
    search rules

pub returns-in-Name-clause-kept : goal.returns-in-Name-clause-kept
returns-in-Name-clause-kept g c = λ left told.
    let row = c.name_call.ensures.kept (found c.args.args.now c.args.cpu.now c.args.space.now) refl refl left told in
    search rules

pub node_call-requires : goal.node_call-requires
node_call-requires g c = c.requires ∙ ap file_number c.in-Node.is

pub returns-in-Node-clause-row : goal.returns-in-Node-clause-row
returns-in-Node-clause-row g c = λ left told.
    let row = c.node_call.ensures.row (found c.args.args.now c.args.cpu.now c.args.space.now) refl refl left told in
    search rules

pub returns-in-Node-clause-kept : goal.returns-in-Node-clause-kept
returns-in-Node-clause-kept g c = λ left told.
    let row = c.node_call.ensures.kept (found c.args.args.now c.args.cpu.now c.args.space.now) refl refl left told in
    search rules

pub text_call-requires : goal.text_call-requires
text_call-requires g c = c.requires ∙ ap file_number c.in-Text.is

pub returns-in-Text-clause-row : goal.returns-in-Text-clause-row
returns-in-Text-clause-row g c = λ left told.
    let row = c.text_call.ensures.row (found c.args.args.now c.args.cpu.now c.args.space.now) refl refl left told in
    search rules

pub returns-in-Text-clause-kept : goal.returns-in-Text-clause-kept
returns-in-Text-clause-kept g c = λ left told.
    let row = c.text_call.ensures.kept (found c.args.args.now c.args.cpu.now c.args.space.now) refl refl left told in
    search rules

pub size_call-requires : goal.size_call-requires
size_call-requires g c = c.requires ∙ ap file_number c.in-Size.is

pub returns-in-Size-clause-row : goal.returns-in-Size-clause-row
returns-in-Size-clause-row g c = λ left told.
    let row = c.size_call.ensures.row (found c.args.args.now c.args.cpu.now c.args.space.now) refl refl left told in
    search rules

pub returns-in-Size-clause-kept : goal.returns-in-Size-clause-kept
returns-in-Size-clause-kept g c = λ left told.
    let row = c.size_call.ensures.kept (found c.args.args.now c.args.cpu.now c.args.space.now) refl refl left told in
    search rules

pub place_call-requires : goal.place_call-requires
place_call-requires g c = c.requires ∙ ap file_number c.in-Place.is

pub returns-in-Place-clause-row : goal.returns-in-Place-clause-row
returns-in-Place-clause-row g c = λ left told.
    let row = c.place_call.ensures.row (found c.args.args.now c.args.cpu.now c.args.space.now) refl refl left told in
    search rules

pub returns-in-Place-clause-kept : goal.returns-in-Place-clause-kept
returns-in-Place-clause-kept g c = λ left told.
    let row = c.place_call.ensures.kept (found c.args.args.now c.args.cpu.now c.args.space.now) refl refl left told in
    search rules
