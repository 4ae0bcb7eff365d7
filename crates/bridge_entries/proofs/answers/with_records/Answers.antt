-- The records that fit, or no room for them.
use Rattle.std.proofs.Common.{◌≡◌, ◌<◌, ◌≤◌, List, length, Some, ap, arith, rules}
use Rattle.kernel_core.specs.declared.error.Errno.TheVariants.{EFAULT}
use Rattle.kernel_model.specs.ContentRows.{Entry, fitting}
use Rattle.o32_model.specs.declared.outcome.Outcome.TheVariants.{Value}
use Rattle.bridge_entries.proofs.AnswerLemmas.{answer_done, answer_refused, long_is, short_is}
use Rattle.bridge_entries.specs.inside.Answers.{if_room, narrow}
use Rattle.bridge_entries.proofs.answers.with_records.Goals as goal

pub returns-then-len-bounds : goal.returns-then-len-bounds
returns-then-len-bounds c = λ words entries listed is.
    let shown = c.in_ok-bytes.ensures entries listed is in
    let found : List Entry = fitting narrow c.args.bounds.asked entries in
    let long : c.args.bounds.room < length c.in_ok-bytes.field-0.bytes.items = first_of (search rules, omega (arith, c.in_ok-bytes.field-0.bytes.ok.0)) in
    answer_refused words c.args.position (if_room c.args.bounds.room found) c.without_records.result EFAULT (long_is c.args.bounds.room found c.in_ok-bytes.field-0.bytes.items shown.bytes long)
    c.without_records.ensures.outcome c.without_records.ensures.bytes c.without_records.ensures.place

pub returns : goal.returns
returns c = λ words entries listed is.
    let shown = c.in_ok-bytes.ensures entries listed is in
    let found : List Entry = fitting narrow c.args.bounds.asked entries in
    let short : length c.in_ok-bytes.field-0.bytes.items ≤ c.args.bounds.room = first_of (search rules, omega (arith, c.in_ok-bytes.field-0.bytes.ok.0)) in
    let long : c.len-2.result ≡ length c.in_ok-bytes.field-0.bytes.items = first_of (search rules, omega (arith, c.in_ok-bytes.field-0.bytes.ok.0)) in
    answer_done words c.args.position (if_room c.args.bounds.room found) (record { outcome = Value c.len-2.result; bytes = c.in_ok-bytes.field-0.bytes; place = Some c.in_ok-bytes.field-0.cookie }) found
    (short_is c.args.bounds.room found c.in_ok-bytes.field-0.bytes.items shown.bytes short) (ap Value long) shown.bytes (ap Some shown.cookie)
