-- The signal is posted, that is told, and then the process is let go.
use Rattle.std.proofs.Common.{◌∙◌, ap, Bool}
use Rattle.bridge_ends.proofs.Posts.{after_posting, waits_as}
use Rattle.kernel_model.specs.Shared.{Info}
use Rattle.kernel_model.specs.SignalRows.{post}
use Rattle.o32_turns.specs.Turn.{whole}
use Rattle.o32_turns.specs.Going.{within_of}
use Rattle.o32_turns.specs.Posting.{after_post, let_go, sent_to}
use Rattle.bridge_ends.proofs.posting.post_event.Goals as goal

pub returns-clause-posts : goal.returns-clause-posts
returns-clause-posts c = λ processor coming idle.
    let memory = c.args.space.now in
    let old = within_of c.args.going.now processor memory c.args.k.now coming idle in
    let info = c.event_info-info.result in
    c.in_ok-let_go.ensures processor memory c.post.new.self coming idle
    ∙ ap (let_go info.sig) (after_posting c.args.going.now c.tell_post.new.going processor memory c.args.k.now c.post.new.self coming idle info c.waits_for-awaited.result c.in_ok-post.post c.in_ok-post.ensures.row c.post.ensures.others c.in_ok-tell_post.ensures)
    ∙ ap (λ (kept : Bool). let_go info.sig (after_post old info.sig (post c.args.k.now.signals info kept))) (c.waits_for-awaited.ensures ∙ waits_as c.args.going.now processor memory c.args.k.now coming idle info.sig)
    ∙ ap (λ (info : Info). sent_to whole old info) c.event_info-info.ensures.info
