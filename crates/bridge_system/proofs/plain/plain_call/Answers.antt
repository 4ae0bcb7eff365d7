-- Each arm makes the row of its number.
use Rattle.std.proofs.Common.{◌∙◌, ap}
use Rattle.bridge_system.proofs.PlainRows.{row_of}
use Rattle.o32_calls.specs.Numbers.{plain_number}
use Rattle.bridge_system.proofs.plain.plain_call.Goals as goal

pub returns-in-Getpid : goal.returns-in-Getpid
returns-in-Getpid c = λ memory kernel left.
    row_of 4020 c.args.args.now c.args.cpu.now c.args.cpu.now c.own_id.result memory kernel left (c.requires ∙ ap plain_number c.in-Getpid.is) (c.own_id.ensures c.args.args.now c.args.cpu.now memory kernel left)

pub returns-in-Getuid : goal.returns-in-Getuid
returns-in-Getuid c = λ memory kernel left.
    row_of 4024 c.args.args.now c.args.cpu.now c.args.cpu.now c.user_id.result memory kernel left (c.requires ∙ ap plain_number c.in-Getuid.is) (c.user_id.ensures c.args.args.now c.args.cpu.now memory kernel left)

pub returns-in-Getgid : goal.returns-in-Getgid
returns-in-Getgid c = λ memory kernel left.
    row_of 4047 c.args.args.now c.args.cpu.now c.args.cpu.now c.user_id-in-Getgid.result memory kernel left (c.requires ∙ ap plain_number c.in-Getgid.is) (c.user_id-in-Getgid.ensures c.args.args.now c.args.cpu.now memory kernel left)

pub returns-in-Geteuid : goal.returns-in-Geteuid
returns-in-Geteuid c = λ memory kernel left.
    row_of 4049 c.args.args.now c.args.cpu.now c.args.cpu.now c.user_id-in-Geteuid.result memory kernel left (c.requires ∙ ap plain_number c.in-Geteuid.is) (c.user_id-in-Geteuid.ensures c.args.args.now c.args.cpu.now memory kernel left)

pub returns-in-Getegid : goal.returns-in-Getegid
returns-in-Getegid c = λ memory kernel left.
    row_of 4050 c.args.args.now c.args.cpu.now c.args.cpu.now c.user_id-in-Getegid.result memory kernel left (c.requires ∙ ap plain_number c.in-Getegid.is) (c.user_id-in-Getegid.ensures c.args.args.now c.args.cpu.now memory kernel left)

pub returns-in-Getppid : goal.returns-in-Getppid
returns-in-Getppid c = λ memory kernel left.
    row_of 4064 c.args.args.now c.args.cpu.now c.args.cpu.now c.parent_id.result memory kernel left (c.requires ∙ ap plain_number c.in-Getppid.is) (c.parent_id.ensures c.args.args.now c.args.cpu.now memory kernel left)

pub returns-in-Cacheflush : goal.returns-in-Cacheflush
returns-in-Cacheflush c = λ memory kernel left.
    row_of 4147 c.args.args.now c.args.cpu.now c.args.cpu.now c.nothing_to_do.result memory kernel left (c.requires ∙ ap plain_number c.in-Cacheflush.is) (c.nothing_to_do.ensures c.args.args.now c.args.cpu.now memory kernel left)

pub returns-in-SchedYield : goal.returns-in-SchedYield
returns-in-SchedYield c = λ memory kernel left.
    row_of 4162 c.args.args.now c.args.cpu.now c.args.cpu.now c.nothing_to_do-in-SchedYield.result memory kernel left (c.requires ∙ ap plain_number c.in-SchedYield.is) (c.nothing_to_do-in-SchedYield.ensures c.args.args.now c.args.cpu.now memory kernel left)

pub returns-in-Gettid : goal.returns-in-Gettid
returns-in-Gettid c = λ memory kernel left.
    row_of 4222 c.args.args.now c.args.cpu.now c.args.cpu.now c.own_id-in-Gettid.result memory kernel left (c.requires ∙ ap plain_number c.in-Gettid.is) (c.own_id-in-Gettid.ensures c.args.args.now c.args.cpu.now memory kernel left)

pub returns-in-SetTidAddress : goal.returns-in-SetTidAddress
returns-in-SetTidAddress c = λ memory kernel left.
    row_of 4252 c.args.args.now c.args.cpu.now c.args.cpu.now c.own_id-in-SetTidAddress.result memory kernel left (c.requires ∙ ap plain_number c.in-SetTidAddress.is) (c.own_id-in-SetTidAddress.ensures c.args.args.now c.args.cpu.now memory kernel left)
