use Rattle.std.proofs.Common.{◌+◌, refl, sym, ap, ◌∙◌}
use Rattle.std.specs.Prelude.{List, ℕ, Ok}
use Rattle.native_polls.specs.Answers.{places_of}
use Rattle.native_polls.specs.declared.ends.Found.{Found}
use Rattle.native_polls.specs.inside.Waiting.{came_of, stored_if}
use Rattle.native_polls.proofs.SelectLaws.{closed_finds, sets_find, with_words}
use Rattle.native_polls.proofs.select.select_counted.Goals as goal

pub returns-then-names_any_closed : goal.returns-then-names_any_closed
returns-then-names_any_closed g c =
    closed_finds (g.F.Readiness.files c.args.files.now) c.args.clock c.args.wait c.args.counted.count c.args.sets.now (places_of c.args.counted.places) c.args.mem.now
    (sym c.names_any_closed.ensures ∙ c.if-names_any_closed.true)

pub returns-in-Told : goal.returns-in-Told
returns-in-Told g c =
    let stored : List ℕ = with_words c.args.counted.count (places_of c.args.counted.places) c.args.mem.now c.ready_set-read.result c.ready_set-write.result in
    sets_find (g.F.Readiness.files c.args.files.now) c.args.clock c.args.wait c.args.counted.count c.args.sets.now (places_of c.args.counted.places) c.args.mem.now c.store_sets.new.mem
    c.ready_set-read.result c.ready_set-write.result c.size_of.result c.size_of-2.result (c.size_of.result + c.size_of-2.result) c.found_or_wait-found.result c.requires
    (sym c.names_any_closed.ensures ∙ c.if-names_any_closed.false) c.ready_set-read.ensures c.ready_set-write.ensures c.size_of.ensures.size c.size_of-2.ensures.size refl
    c.found_or_wait-found.ensures
    (c.store_sets.ensures ∙ ap (λ (f : Found). stored_if (came_of (Ok f)) c.args.mem.now stored) (sym c.in-Told.is))

pub returns-in_default : goal.returns-in_default
returns-in_default g c =
    let stored : List ℕ = with_words c.args.counted.count (places_of c.args.counted.places) c.args.mem.now c.ready_set-read.result c.ready_set-write.result in
    sets_find (g.F.Readiness.files c.args.files.now) c.args.clock c.args.wait c.args.counted.count c.args.sets.now (places_of c.args.counted.places) c.args.mem.now c.args.mem.now
    c.ready_set-read.result c.ready_set-write.result c.size_of.result c.size_of-2.result (c.size_of.result + c.size_of-2.result) c.found_or_wait-found.result c.requires
    (sym c.names_any_closed.ensures ∙ c.if-names_any_closed.false) c.ready_set-read.ensures c.ready_set-write.ensures c.size_of.ensures.size c.size_of-2.ensures.size refl
    c.found_or_wait-found.ensures
    (ap (λ (f : Found). stored_if (came_of (Ok f)) c.args.mem.now stored) (sym c.in_default.is))
