-- What becomes of a node's times, once what was asked for is checked.
use Rattle.std.specs.Prelude.{ℕ, ℤ, Bool, List, Option, Some, None, Result, Ok, Err}
use Rattle.kernel_core.specs.NodeCalls.{with_times}
use Rattle.kernel_core.specs.Nodes.{update}
use Rattle.kernel_core.specs.declared.error.Errno.{Errno}
use Rattle.kernel_core.specs.declared.error.Errno.TheVariants.{EBADF, EINVAL}
use Rattle.kernel_model.specs.Came.{Did, Given, done, refused, with_given, with_some}
use Rattle.kernel_model.specs.Descriptions.{node_of, opened}
use Rattle.kernel_model.specs.NameRows.{with_nodes}
use Rattle.kernel_model.specs.NodeRows as rows
use Rattle.kernel_model.specs.Paths.{Base, Working, Descriptor, walk_to_node}
use Rattle.kernel_model.specs.State.{Files}
use Rattle.kernel_model.specs.declared.time.TimeSpec.{TimeSpec}
use Rattle.native_files.specs.declared.node_times.AskedTimes.{AskedTimes}
use Rattle.native_files.specs.declared.node_times.NewTimes.{NewTimes}
use Rattle.native_files.specs.declared.node_times.Times.{Times}

-- the time that one becomes, where it is one

abbrev pub where_right : rows.TimeChange → Result (Option ℤ) Errno
where_right rows.Leave = Ok None
where_right (rows.SetTo time) = Ok (Some time)
where_right rows.Wrong = Err EINVAL

abbrev pub changed_time : ℤ → TimeSpec → Result (Option ℤ) Errno
changed_time now time = where_right (rows.time_change now time)

-- both, where they are times

abbrev pub both : Result (Option ℤ) Errno → Result (Option ℤ) Errno → Result NewTimes Errno
both (Err error) modified = Err error
both (Ok access) (Err error) = Err error
both (Ok access) (Ok modified) = Ok (record { access = access; modified = modified })

abbrev pub changed_times : ℤ → Times → Result NewTimes Errno
changed_times now times = both (changed_time now times.access) (changed_time now times.modified)

-- with whether a last link is followed

abbrev pub with_follow : NewTimes → Option Bool → Result AskedTimes Errno
with_follow times None = Err EINVAL
with_follow times (Some follow) = Ok (record { times = times; follow = follow })

abbrev pub then_follow : Result NewTimes Errno → Option Bool → Result AskedTimes Errno
then_follow (Err error) follow = Err error
then_follow (Ok times) follow = with_follow times follow

abbrev pub new_or_now : ℤ → Option rows.Times → Result NewTimes Errno
new_or_now now None = Ok (record { access = Some now; modified = Some now })
new_or_now now (Some times) = both (changed_time now times.access) (changed_time now times.modified)

abbrev pub asked_times : ℤ → Given (Option rows.Times) → Option Bool → Result AskedTimes Errno
asked_times now (Err error) follow = Err error
asked_times now (Ok times) follow = then_follow (new_or_now now times) follow

-- what is done to a node

abbrev pub after_new_times : Files → ℤ → NewTimes → ℕ → Files
after_new_times files now times node = with_nodes files (update files.nodes node (with_times times.access times.modified now))

abbrev pub times_of_path : Files → ℤ → Base → List ℕ → AskedTimes → Did Files (Unit {0})
times_of_path files now base path asked =
    with_given files (walk_to_node files base path asked.follow) (λ node.
    done (after_new_times files now asked.times node) tt)

abbrev pub times_of_base : Files → ℤ → NewTimes → Base → Did Files (Unit {0})
times_of_base files now times Working = refused files EBADF
times_of_base files now times (Descriptor fd) =
    with_some files EBADF (opened files fd) (λ description.
    rows.on_open_node files (node_of description.object) (after_new_times files now times))
