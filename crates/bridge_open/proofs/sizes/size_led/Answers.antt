-- The status that the call put into host memory tells the size.
use Rattle.std.proofs.Common.{◌∙◌, ap, refl, ℕ, List}
use Rattle.kernel_model.specs.Paths.{walk_to_node}
use Rattle.o32_model.specs.PathArguments.{base}
use Rattle.bridge_open.proofs.SizeLooks.{came_led, memory_of, reply_of, size_found, size_look}
use Rattle.bridge_paths.proofs.Passed.{looked_stop}
use Rattle.bridge_open.specs.inside.Openings.{size_told}
use Rattle.bridge_open.proofs.sizes.size_led.Goals as goal

pub returns-clause-looks : goal.returns-clause-looks
returns-clause-looks g c = λ left told.
    let files = c.args.below.now.kernel.now.files in
    let memory = c.put_behind.new.mem in
    let came = came_led files.nodes (walk_to_node files (base c.args.directory) c.args.path.now c.args.follow) in
    let seen = c.in_ok-reply.ensures.looks (reply_of memory came) (memory_of memory came) (λ left. size_look c.args.below.now.kernel.now memory left _ c.in_ok-at.at _ c.args.directory c.args.follow c.args.path.now c.from.ensures c.ranges.directory.fits c.look_flags.ensures c.in_ok-at.ensures.path) left told in (
      c.size_told.ensures ∙ ap (λ (m : List ℕ). size_told m c.in_ok-reply.reply) seen.0.stored ∙ ap (size_told (memory_of memory came)) seen.0.answered
          ∙ size_found files (base c.args.directory) c.args.path.now c.args.follow memory c.files_valid.ensures.nodes c.in_ok-at.ensures.room,
      seen.1,
    )

pub returns-in_err-at-clause-looks : goal.returns-in_err-at-clause-looks
returns-in_err-at-clause-looks g c = λ left told. looked_stop _ c.from_residual.result _ _ _ _ _ _ _ c.from_residual.ensures.0 refl

pub returns-in_err-reply-clause-looks : goal.returns-in_err-reply-clause-looks
returns-in_err-reply-clause-looks g c = λ left told.
    let files = c.args.below.now.kernel.now.files in
    let memory = c.put_behind.new.mem in
    let came = came_led files.nodes (walk_to_node files (base c.args.directory) c.args.path.now c.args.follow) in
    looked_stop _ c.from_residual-in_err-reply.result _ _ _ _ _ _ _ c.from_residual-in_err-reply.ensures.0
    (c.in_err-reply.ensures.looks (reply_of memory came) (memory_of memory came) (λ left. size_look c.args.below.now.kernel.now memory left _ c.in_ok-at.at _ c.args.directory c.args.follow c.args.path.now c.from.ensures c.ranges.directory.fits c.look_flags.ensures c.in_ok-at.ensures.path) left told)
