use Rattle.std.proofs.Common.{◌≡◌, ◌+◌, ◌*◌, ◌-◌, ◌<◌, ◌≤◌, ◌++◌, length}
use Rattle.elf_image.specs.Fields.{headers_at}
use Rattle.elf_image.proofs.table.headers_of.Given as goal

-- the headers so far, then those from here on, are all of them
abbrev pub invariant-loop : goal.invariant-loop
invariant-loop l = record {
  fits : l.counter < l.count → l.place + 32 * (l.count - l.counter) ≤ length l.bytes;
  all : l.headers.items ++ headers_at l.bytes l.place (l.count - l.counter) ≡ headers_at l.fn.bytes l.fn.start l.fn.count;
}
